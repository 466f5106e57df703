use borrow.Author.Rules.{rules}
use Rattle.std.proofs.Common.{Err}
use mathlib.Core.Path.{◌≡◌}
use native.Mathlib.Omega.{arith}
use Rattle.theory.proofs.Reading.{bytes_of}
use Rattle.words.proofs.Parts.{rest}
use Rattle.plans.proofs.Verdicts.{catalogued, file-refused, plan-inside, file_planned}
use Rattle.plans.proofs.admission.rule.Goals as goal

pub slice_bounds-admit_plan-count : goal.slice_bounds-admit_plan-count
slice_bounds-admit_plan-count c = plan-inside _ _ c.requires.0 _ c.in_ok-at.was

pub slice_bounds-admit_plan-start : goal.slice_bounds-admit_plan-start
slice_bounds-admit_plan-start c = plan-inside _ _ c.requires.0 _ c.in_ok-at.was

pub admit_plan-requires : goal.admit_plan-requires
admit_plan-requires c = (catalogued _ _ c.requires.0 (bytes_of c.args.file.now (λ i. omega (arith, c.type_inv.file i))), c.requires.1)

pub returns-in_err-at : goal.returns-in_err-at
returns-in_err-at c = let e : c.from_residual.result ≡ Err c.in_err-at.field-0.0 = search rules in
    rw e (file-refused _ _ c.requires.0 _ _ c.in_err-at.was _ c.requires.1)

pub returns : goal.returns
returns c = let file = c.args.file.now in
    file_planned file _ c.requires.0 (bytes_of file (λ i. omega (arith, c.type_inv.file i))) _ _ c.in_ok-at.was _ (rw (rest file c.in_ok-at.at) at c.admit_plan.ensures)
