use Rattle.mending.proofs.Lacks.{side_held}
use Rattle.mending.proofs.parts.Survey.side_holds.Goals as goal

pub returns : goal.returns
returns c = λ p h. side_held _ _ c.args.side _ c.any_holds.ensures p h
