use mathlib.Core.Path.{sym, ◌∙◌}
use borrow.Author.Tests.{eqb-true, eqb-false}
use Rattle.plans.proofs.Formed.{formed-empty, sent-named, planless_for, named_for}
use Rattle.plans.proofs.forming.formed_plan.Goals as goal

pub found_plan-requires : goal.found_plan-requires
found_plan-requires c = planless_for _ _ c.requires (eqb-true _ _ (sym c.is_empty.ensures ∙ c.if-is_empty.true))

pub mended_plan-requires : goal.mended_plan-requires
mended_plan-requires c = named_for _ _ c.requires (eqb-false _ _ (sym c.is_empty.ensures ∙ c.if-is_empty.false))

pub returns-then-is_empty : goal.returns-then-is_empty
returns-then-is_empty c = λ ts h f.
    formed-empty ts _ c.found_plan.result c.found_plan.new.out f (eqb-true _ _ (sym c.is_empty.ensures ∙ c.if-is_empty.true)) (c.found_plan.ensures ts h)

pub returns-else-is_empty : goal.returns-else-is_empty
returns-else-is_empty c = λ ts h f. c.mended_plan.ensures ts h (sent-named ts _ f (eqb-false _ _ (sym c.is_empty.ensures ∙ c.if-is_empty.false)))
