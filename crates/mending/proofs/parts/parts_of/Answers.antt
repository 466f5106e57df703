use Rattle.std.proofs.Common.{arith}
use Rattle.mending.proofs.Bytes.{spanned_planned}
use Rattle.mending.proofs.Sides.{survey_more, survey_done}
use Rattle.mending.proofs.parts.parts_of.Goals as goal

pub part_at-requires : goal.part_at-requires
part_at-requires c = (c.requires.0, spanned_planned _ _ c.requires.1 c.loop-i-test.true)

pub loop-i-preserved : goal.loop-i-preserved
loop-i-preserved c = survey_more _ _ _ c.loop-i.i c.part_at.result (omega (arith, c.requires.1.short)) c.loop-i.invariant c.part_at.ensures

pub returns : goal.returns
returns c = survey_done _ _ _ c.loop-i.i (omega arith) c.loop-i.invariant
