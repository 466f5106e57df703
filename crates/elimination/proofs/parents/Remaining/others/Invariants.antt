use Rattle.elimination.specs.Parents.{Gathered}
use Rattle.elimination.proofs.parents.Remaining.others.Given as goal

abbrev pub invariant-loop-u : goal.invariant-loop-u
invariant-loop-u l = Gathered l.self.masks.now l.self.flags l.self.count l.t l.u l.have
