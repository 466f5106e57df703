use Rattle.theory.proofs.Cases.{true-false}
use Rattle.elimination.proofs.Covering.{gathered-begun, gathered_gone, gathered_more}
use Rattle.elimination.proofs.parents.Remaining.others.Goals as goal
use Rattle.elimination.proofs.parents.Remaining.others.Goals.{then-self-u+then-u-t, else-self-u, else-self-u-via-then-self-u+else-u-t, else-self-u-via-else-self-u}

pub loop-u-init : goal.loop-u-init
loop-u-init c = gathered-begun

pub loop-u-preserved : goal.loop-u-preserved
loop-u-preserved c =
    let g = c.loop-u.invariant in
    let l = c.loop-u-test.true in
    elim c.if-self-u.branch [
      | then-self-u+then-u-t w ↦ rw w.have-is (gathered_more g l w.if-self-u.true w.if-u-t.true)
      | else-self-u w ↦ rw w.have-is
          (gathered_gone g l
          (λ f. elim w.else-self-u.branch [
            | else-self-u-via-then-self-u+else-u-t v ↦ v.if-u-t.false
            | else-self-u-via-else-self-u v ↦ absurd (true-false _ f v.if-self-u.false)
          ]))
    ]
