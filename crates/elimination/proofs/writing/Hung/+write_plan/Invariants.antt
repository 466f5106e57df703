use Rattle.std.proofs.Common.{◌-◌, ℕ, List}
use Rattle.elimination.specs.Writing.{Planning}
use Rattle.elimination.proofs.writing.Hung.+write_plan.Given as goal

abbrev pub decreases-write_plan : goal.decreases-write_plan
decreases-write_plan l = 31 - l.at

abbrev pub invariant-loop-c : goal.invariant-loop-c
invariant-loop-c l =
    (old : List ℕ) → Planning l.self.parents.now l.self.count l.t old l.at l.initial.code l.initial.next 0 → Planning l.self.parents.now l.self.count l.t old l.at l.code l.next l.c
