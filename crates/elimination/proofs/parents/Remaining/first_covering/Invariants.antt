use Rattle.elimination.specs.Parents.{Uncovered}
use Rattle.elimination.proofs.parents.Remaining.first_covering.Given as goal

abbrev pub invariant-loop-c : goal.invariant-loop-c
invariant-loop-c l = Uncovered l.self.masks.now l.self.flags l.self.count l.t l.shared l.c
