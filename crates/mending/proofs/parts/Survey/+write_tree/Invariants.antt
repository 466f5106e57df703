use Rattle.mending.specs.Parts.{size_at}
use Rattle.mending.proofs.parts.Survey.+write_tree.Given as goal

-- the size of the subplan
abbrev pub decreases-write_tree : goal.decreases-write_tree
decreases-write_tree l = size_at l.self.now.parts l.at
