use mathlib.Core.Path.{ap, ◌∙◌}
use Rattle.std.proofs.Common.{Err}
use Rattle.plans.proofs.Reading.{whole_more}
use Rattle.plans.proofs.spelling.check_spelling.Goals as goal

pub returns-in-Ok : goal.returns-in-Ok
returns-in-Ok c = ap Err c.not_a_plan.ensures ∙ whole_more c.read_plan.ensures c.in-Ok.is c.if-end-code.true
