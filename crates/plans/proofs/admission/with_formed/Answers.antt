use borrow.Author.Rules.{rules}
use Rattle.std.proofs.Common.{Err}
use mathlib.Core.Path.{◌≡◌}
use mathlib.Core.Path.{sym}
use lib.Seq.{length-take-le}
use native.Mathlib.Omega.{arith}
use Rattle.plans.proofs.Formed.{formed-refused, plan_in, formed-follows, formed_admission}
use Rattle.plans.proofs.admission.with_formed.Goals as goal

pub slice_bounds-bytes-end : goal.slice_bounds-bytes-end
slice_bounds-bytes-end c = let q = c.requires.0 in let m = plan_in _ q.ts q.tabled _ _ _ (c.formed_plan.ensures q.ts q.tabled q.formable) _ c.in_ok-n.was in omega (arith, m.size, m.fits)

pub slice_bounds-with_scratch-end : goal.slice_bounds-with_scratch-end
slice_bounds-with_scratch-end c = let q = c.requires.0 in let m = plan_in _ q.ts q.tabled _ _ _ (c.formed_plan.ensures q.ts q.tabled q.formable) _ c.in_ok-n.was in sym (length-take-le _ _ (omega (arith, m.size, m.fits)))

pub with_scratch-requires : goal.with_scratch-requires
with_scratch-requires c = let q = c.requires in (record { ts = q.0.ts; tabled = q.0.tabled; follows = formed-follows _ q.0.ts q.0.tabled _ _ _ (c.formed_plan.ensures q.0.ts q.0.tabled q.0.formable) _ c.in_ok-n.was }, q.1)

pub returns-in_err-n : goal.returns-in_err-n
returns-in_err-n c = let e : c.from_residual.result ≡ Err c.in_err-n.field-0.0 = search rules in
    λ ts h f. rw e (formed-refused _ ts h _ _ _ (c.formed_plan.ensures ts h f) _ _ c.in_err-n.was _ c.requires.1)

pub returns : goal.returns
returns c = λ ts h f. formed_admission _ ts h _ _ _ (c.formed_plan.ensures ts h f) _ c.in_ok-n.was _ _ (c.with_scratch.ensures ts h (formed-follows _ ts h _ _ _ (c.formed_plan.ensures ts h f) _ c.in_ok-n.was))
