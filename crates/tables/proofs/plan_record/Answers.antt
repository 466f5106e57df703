use mathlib.Core.Path.{ap, ◌∙◌}
use Rattle.std.proofs.Common.{Err}
use Rattle.tables.proofs.PlanRecords.{plan-short, plan-cut, plan_over, plan_exact}
use Rattle.tables.proofs.plan_record.Goals as goal

pub returns-then-left-lt3 : goal.returns-then-left-lt3
returns-then-left-lt3 c = ap Err c.refusal.ensures ∙ plan-short _ _ c.if-left-lt3.true

pub returns-then-left-size : goal.returns-then-left-size
returns-then-left-size c = ap Err c.refusal-then-left-size.ensures ∙ plan-cut _ _ _ c.index-size.ensures.0 c.if-left-lt3.false c.if-left-size.true

pub returns-then-size-left : goal.returns-then-size-left
returns-then-size-left c = ap Err c.refusal-then-size-left.ensures ∙ plan_over _ _ _ c.index-size.ensures.0 c.if-left-lt3.false c.if-size-left.true

pub returns : goal.returns
returns c = plan_exact _ _ _ c.index-size.ensures.0 c.requires c.if-left-size.false c.if-size-left.false
