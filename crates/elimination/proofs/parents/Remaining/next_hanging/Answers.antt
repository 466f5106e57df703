use mathlib.Core.Path.{sym}
use Rattle.elimination.proofs.Covering.{unhung_gone, unhung_more, hung_here}
use Rattle.elimination.proofs.parents.Remaining.next_hanging.Goals as goal
use Rattle.elimination.proofs.parents.Remaining.next_hanging.Goals.{else-self-t-via-else-self-t, else-self-t-via-then-self-t+in-None-1}

pub returns-in-loop-t-clause-next : goal.returns-in-loop-t-clause-next
returns-in-loop-t-clause-next c = λ S M. sym (hung_here _ c.loop-t.invariant c.loop-t-test.true c.if-self-t.true _ c.parent_of.ensures c.in-Some.is S M)

pub loop-t-preserved : goal.loop-t-preserved
loop-t-preserved c =
    elim c.else-self-t.branch [
      | else-self-t-via-else-self-t w ↦ unhung_gone c.loop-t.invariant c.loop-t-test.true w.if-self-t.false
      | else-self-t-via-then-self-t+in-None-1 w ↦ unhung_more c.loop-t.invariant c.loop-t-test.true w.if-self-t.true _ w.parent_of.ensures (cc)
    ]
