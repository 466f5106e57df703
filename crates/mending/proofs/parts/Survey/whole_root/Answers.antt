use Rattle.std.proofs.Common.{arith}
use Rattle.mending.proofs.Places.{tested-table, tested-large}
use Rattle.mending.proofs.WholePlans.{whole-mark, whole_taken, whole_some, whole_done, whole_buildable}
use Rattle.mending.proofs.parts.Survey.whole_root.Goals as goal
use Rattle.mending.proofs.parts.Survey.whole_root.Goals.{then-is_table, else-is_table}

pub tree_for-cost-requires : goal.tree_for-cost-requires
tree_for-cost-requires c = let v = c.args.self.now in (c.requires.0, c.loop-place.invariant.0, whole_buildable v.code.now v.masks.now v.rows.now c.requires.2 c.loop-place.place c.loop-place-test.true (tested-table _ _ c.is_table.ensures c.if-is_table.true))

pub loop-place-preserved : goal.loop-place-preserved
loop-place-preserved c =
    let v = c.args.self.now in
    let l = c.loop-place in
    elim c.if-is_table.branch [
      | then-is_table w ↦ rw (w.best-is, w.pick-is, w.better.ensures) (
        w.tree_for-cost.ensures.0,
        whole_taken v.code.now v.masks.now v.rows.now l.place l.pick w.tree_for-cost.result c.loop-place-test.true (tested-table _ _ c.is_table.ensures w.if-is_table.true) w.tree_for-cost.ensures.1 l.invariant.1,
      )
      | else-is_table w ↦ rw (w.best-is, w.pick-is) (l.invariant.0, whole-mark v.code.now v.masks.now v.rows.now l.place l.pick (tested-large _ _ c.is_table.ensures w.if-is_table.false) l.invariant.1)
    ]

pub unwrap-requires : goal.unwrap-requires
unwrap-requires c =
    let v = c.args.self.now in
    let l = c.loop-place in
    whole_some v.code.now v.masks.now v.rows.now l.place l.pick (omega arith) c.requires.2 l.invariant.1

pub returns : goal.returns
returns c =
    let v = c.args.self.now in
    let l = c.loop-place in
    (l.invariant.0, whole_done v.code.now v.masks.now v.rows.now l.place l.pick (omega arith) c.requires.2 l.invariant.1 c.unwrap.result c.unwrap.ensures)
