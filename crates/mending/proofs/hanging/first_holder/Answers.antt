use borrow.Author.Rules.{rules}
use borrow.Author.Tests.{tests}
use Rattle.std.proofs.lemmas.Iterator.{YieldsList-from_slice}
use Rattle.std.proofs.lemmas.Iterator.Search.{position_from_yields_List}
use Rattle.mending.specs.Hanging.{held_by}
use Rattle.mending.proofs.Holders.{first_found}
use Rattle.mending.proofs.hanging.first_holder.Goals as goal

pub returns : goal.returns
returns c = let h = held_by c.args.masks.now c.args.key in
    first_found c.args.masks.now c.args.tree.now c.args.key _
    (position_from_yields_List h _ _ _ c.position.ensures.ran (YieldsList-from_slice c.args.tree.now cc) (λ x b q k. search (rules, tests)))
