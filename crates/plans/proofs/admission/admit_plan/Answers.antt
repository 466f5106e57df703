use borrow.Author.Rules.{rules}
use Rattle.std.proofs.Common.{Err}
use mathlib.Core.Path.{◌≡◌}
use Rattle.plans.proofs.Scratch.{follows, accepted, as-sent, formable, formable_for, plan-refused}
use Rattle.plans.proofs.admission.admit_plan.Goals as goal

pub with_scratch-requires : goal.with_scratch-requires
with_scratch-requires c = (accepted _ _ _ c.check_plan.ensures (cc) c.requires.0, c.requires.1)

pub with_formed-requires : goal.with_formed-requires
with_formed-requires c = (formable_for _ _ _ c.check_plan.ensures (cc) c.requires.0, c.requires.1)

pub returns-in_err-check_plan : goal.returns-in_err-check_plan
returns-in_err-check_plan c = let e : c.from_residual.result ≡ Err c.in_err-check_plan.field-0.0 = search rules in
    λ ts h. rw e (plan-refused _ _ _ c.check_plan.ensures _ _ c.in_err-check_plan.was _ c.requires.1 ts h)

pub returns-in-AsSent : goal.returns-in-AsSent
returns-in-AsSent c = λ ts h. as-sent _ _ _ c.check_plan.ensures (cc) ts h _ _ (c.with_scratch.ensures ts h (follows _ _ _ c.check_plan.ensures (cc) ts h))

pub returns-in-Formed : goal.returns-in-Formed
returns-in-Formed c = λ ts h. c.with_formed.ensures ts h (formable _ _ _ c.check_plan.ensures (cc) ts h)
