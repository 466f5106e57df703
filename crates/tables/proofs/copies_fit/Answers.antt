use Prim.Native.Nat.{◌*◌}
use mathlib.Core.Path.{refl, ◌∙◌}
use native.Mathlib.Omega.{arith}
use borrow.Author.Rules.{rules}
use borrow.Author.Tests.{tests}
use Rattle.std.proofs.lemmas.Iterator.{YieldsList-from_range}
use Rattle.std.proofs.lemmas.Iterator.Search.{all_from_yields_List}
use Rattle.semantics.specs.Files.{word_at, copies_fit}
use Rattle.tables.proofs.CountedTables.{all_fit}
use Rattle.tables.proofs.copies_fit.Goals as goal

pub returns : goal.returns
unfolding copies_fit
returns c =
    let n = c.args.rows in
    all_from_yields_List (λ y. copies_fit (word_at c.args.column.now (4 * y))) _ _ _ c.all.ensures.ran (YieldsList-from_range 0 n n refl (omega arith)) (λ x b q k. search (rules, tests))
    ∙ all_fit c.args.column.now n
