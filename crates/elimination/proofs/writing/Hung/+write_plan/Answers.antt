use mathlib.Core.Path.{sym, ◌∙◌}
use native.Mathlib.Omega.{arith}
use Rattle.elimination.proofs.Written.{joins_fit, table_fits, planning-begun, planning-later, planning-skip, child_writable, planning_more, planning_all}
use Rattle.elimination.proofs.writing.Hung.+write_plan.Goals as goal
use Rattle.elimination.proofs.writing.Hung.+write_plan.Goals.{then-eq, else-eq}

pub write_joins-next-requires : goal.write_joins-next-requires
write_joins-next-requires t c = omega (arith, joins_fit c.requires)

pub bounds-code-next : goal.bounds-code-next
bounds-code-next t c = table_fits c.requires c.write_joins-next.ensures

pub overflow_add-next : goal.overflow_add-next
overflow_add-next t c = omega (arith, table_fits c.requires c.write_joins-next.ensures)

pub write_plan-next-requires : goal.write_plan-next-requires
write_plan-next-requires t c =
    let q = c.requires in
    let p = c.loop-c.invariant c.args.code.now (planning-begun q c.write_joins-next.ensures (omega arith)) in (
      omega (arith, c.decreases, planning-later q p, joins_fit q),
      child_writable q p c.loop-c-test.true (sym c.eq.ensures ∙ c.if-eq.true),
    )

pub loop-c-preserved : goal.loop-c-preserved
loop-c-preserved t c = λ old p.
    let q = c.requires in
    let g = c.loop-c.invariant old p in
    let l = c.loop-c-test.true in
    elim c.if-eq.branch [
      | then-eq w ↦ rw (w.code-is, w.next-is) (planning_more q g l (sym c.eq.ensures ∙ w.if-eq.true) w.write_plan-next.ensures)
      | else-eq w ↦ rw (w.code-is, w.next-is) (planning-skip q g l (sym c.eq.ensures ∙ w.if-eq.false))
    ]

pub returns : goal.returns
returns t c =
    let q = c.requires in
    planning_all q (c.loop-c.invariant c.args.code.now (planning-begun q c.write_joins-next.ensures (omega arith))) c.loop-c-test.false
