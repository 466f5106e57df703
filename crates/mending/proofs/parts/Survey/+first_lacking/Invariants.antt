use Rattle.std.proofs.Common.{length, ◌-◌}
use Rattle.mending.proofs.parts.Survey.+first_lacking.Given as goal

-- the bytes from the index on
abbrev pub decreases-first_lacking : goal.decreases-first_lacking
decreases-first_lacking l = length l.self.now.code.now - l.at
