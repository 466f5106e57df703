use mathlib.Core.Path.{◌∙◌}
use Rattle.plans.proofs.Judging.{judged-behaved}
use Rattle.plans.proofs.behaviour.is_well_behaved.Goals as goal

pub returns : goal.returns
returns c = λ S M p h. c.is_some.ensures ∙ judged-behaved _ S M p _ _ (c.judge.ensures p _ h)
