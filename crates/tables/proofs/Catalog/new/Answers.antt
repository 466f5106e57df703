use mathlib.Core.Path.{refl}
use Rattle.tables.specs.Catalogs.{catalog_of}
use Rattle.tables.proofs.Catalog.new.Goals as goal

pub returns : goal.returns
unfolding catalog_of
returns c = refl
