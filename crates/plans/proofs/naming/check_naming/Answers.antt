use native.Mathlib.Omega.{arith}
use Rattle.plans.proofs.Names.{begun, passed, named_more}
use Rattle.plans.proofs.naming.check_naming.Goals as goal
use Rattle.plans.proofs.naming.check_naming.Goals.{in-255, in-0-to-15+else-tables-t+else-named-t}

pub loop-i-init : goal.loop-i-init
loop-i-init c = begun _ _

pub loop-i-preserved : goal.loop-i-preserved
loop-i-preserved c =
    let inv = c.loop-i.invariant in
    let lt = c.loop-i-test.true in
    elim c.match-b.branch [
      | in-255 w ↦ rw (w.named-is, w.count-is) (passed _ _ _ _ _ inv lt w.in-255.is)
      | in-0-to-15+else-tables-t+else-named-t w ↦
          let e = w.from-t.ensures in
          rw (w.named-is, w.count-is, e) (named_more _ _ _ _ _ inv lt (λ q. omega arith) c.requires (rw e at w.if-tables-t.false) (rw e at w.if-named-t.false))
    ]
