use Rattle.mending.proofs.Sides.{SurveyedTo}
use Rattle.mending.proofs.parts.parts_of.Given as goal

abbrev pub invariant-loop-i : goal.invariant-loop-i
invariant-loop-i l = SurveyedTo l.code l.masks l.parts l.i
