use mathlib.Core.Path.{sym}
use Rattle.theory.proofs.Cases.{true-false}
use Rattle.elimination.proofs.Covering.{uncovered_all, uncovered_more, covered_here}
use Rattle.elimination.proofs.parents.Remaining.first_covering.Goals as goal
use Rattle.elimination.proofs.parents.Remaining.first_covering.Goals.{else-self-c-via-then-self-c+then-c-t+else-shared-self, else-self-c-via-then-self-c+else-c-t, else-self-c-via-else-self-c}

pub returns-then-shared-self : goal.returns-then-shared-self
returns-then-shared-self c = sym (covered_here c.loop-c.invariant c.loop-c-test.true c.if-self-c.true c.if-c-t.true c.if-shared-self.true)

pub loop-c-preserved : goal.loop-c-preserved
loop-c-preserved c =
    uncovered_more c.loop-c.invariant c.loop-c-test.true
    (λ f d e. elim c.else-self-c.branch [
      | else-self-c-via-then-self-c+then-c-t+else-shared-self w ↦ w.if-shared-self.false e
      | else-self-c-via-then-self-c+else-c-t w ↦ d w.if-c-t.false
      | else-self-c-via-else-self-c w ↦ true-false _ f w.if-self-c.false
    ])

pub returns : goal.returns
returns c = sym (uncovered_all c.loop-c.invariant c.loop-c-test.false)
