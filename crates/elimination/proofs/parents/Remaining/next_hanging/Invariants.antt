use Rattle.elimination.specs.Steps.{Unhung}
use Rattle.elimination.proofs.parents.Remaining.next_hanging.Given as goal

abbrev pub invariant-loop-t : goal.invariant-loop-t
invariant-loop-t l = Unhung l.self.masks.now l.self.flags l.self.count l.t
