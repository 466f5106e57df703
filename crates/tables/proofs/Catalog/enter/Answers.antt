use Rattle.tables.proofs.Catalogs.{catalog_more}
use Rattle.tables.proofs.Catalog.enter.Goals as goal

pub returns : goal.returns
returns c = catalog_more c.args.self.now c.args.entry c.from.result c.requires c.from.ensures
