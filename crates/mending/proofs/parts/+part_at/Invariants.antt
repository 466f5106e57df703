use Rattle.std.proofs.Common.{length, ◌-◌}
use Rattle.mending.proofs.parts.+part_at.Given as goal

-- the bytes from the index on
abbrev pub decreases-part_at : goal.decreases-part_at
decreases-part_at l = length l.code.now - l.at
