use Rattle.plans.proofs.Admitting.{asks_none, asks_some}
use Rattle.plans.proofs.admission.asks_for_plan.Goals as goal

pub returns-then-code-eq0 : goal.returns-then-code-eq0
returns-then-code-eq0 c = asks_none _ _ c.if-code-eq0.true

pub returns-else-code-eq0 : goal.returns-else-code-eq0
returns-else-code-eq0 c = asks_some _ _ c.if-code-eq0.false
