use Rattle.std.proofs.Common.{sym, ◌∙◌, arith}
use Rattle.mending.proofs.Places.{starts, tested-table}
use Rattle.mending.proofs.Holders.{held_small}
use Rattle.mending.proofs.Roots.{side_known, join_asked, known-bounds, side_smaller, search-begun, search_passed, search_taken, search_some, search_done, sum_small, side_buildable, kept_more, kept_known}
use Rattle.mending.proofs.Trees.{buildable_planned, join_there, taken, taken_known, own_buildable, taken-mendable, taken-costs, pick_small, table-cost}
use Rattle.mending.proofs.parts.Survey.+best_root_tree_for.Goals as goal
use Rattle.mending.proofs.parts.Survey.+best_root_tree_for.Goals.{best_root-then-holds, best_root-else-holds}

-- ---- the search for a side's root
pub best_root-side-side-requires : goal.best_root-side-side-requires
best_root-side-side-requires t c = join_asked c.args.self.now c.requires.0 c.requires.2

pub best_root-returns-in-Some : goal.best_root-returns-in-Some
best_root-returns-in-Some t c = (c.requires.1, kept_known (side_known c.args.self.now c.side-side.ensures.sided c.requires) _ _ c.requires.1 c.in-Some.is)

pub best_root-loop-place-init : goal.best_root-loop-place-init
best_root-loop-place-init t c = (c.requires.1, search-begun (side_known c.args.self.now c.side-side.ensures.sided c.requires))

pub best_root-tree_for-requires : goal.best_root-tree_for-requires
best_root-tree_for-requires t c =
    let K = side_known c.args.self.now c.side-side.ensures.sided c.requires in (
      omega (arith, side_smaller K),
      (c.requires.0, c.loop-place.invariant.0, side_buildable K c.loop-place.place c.loop-place.auto.place c.loop-place-test.true (sym c.holds.ensures ∙ c.if-holds.true)),
    )

pub best_root-rows_added-requires : goal.best_root-rows_added-requires
best_root-rows_added-requires t c = held_small _ _ _ (sym c.holds.ensures ∙ c.if-holds.true)

pub best_root-overflow_add-cost : goal.best_root-overflow_add-cost
best_root-overflow_add-cost t c = omega (arith, sum_small (side_known c.args.self.now c.side-side.ensures.sided c.requires) c.loop-place.place c.tree_for.result c.rows_added.result c.loop-place.auto.place c.tree_for.ensures.1 c.rows_added.ensures)

pub best_root-loop-place-preserved : goal.best_root-loop-place-preserved
best_root-loop-place-preserved t c =
    let l = c.loop-place in
    let K = side_known c.args.self.now c.side-side.ensures.sided c.requires in
    elim c.if-holds.branch [
      | best_root-then-holds w ↦ rw (w.best-is, w.pick-is, w.better.ensures) (
        w.tree_for.ensures.0,
        search_taken K l.place w.tree_for.result w.rows_added.result l.auto.place w.tree_for.ensures.1 w.rows_added.ensures l.pick (sym c.holds.ensures ∙ w.if-holds.true) c.loop-place-test.true l.invariant.1,
      )
      | best_root-else-holds w ↦ rw (w.best-is, w.pick-is) (l.invariant.0, search_passed K l.place l.pick l.auto.place (sym c.holds.ensures ∙ w.if-holds.false) l.invariant.1)
    ]

pub best_root-unwrap-requires : goal.best_root-unwrap-requires
best_root-unwrap-requires t c =
    let l = c.loop-place in
    let K = side_known c.args.self.now c.side-side.ensures.sided c.requires in
    search_some K l.place l.pick (omega (arith, known-bounds K)) l.invariant.1

pub best_root-returns : goal.best_root-returns
best_root-returns t c =
    let l = c.loop-place in
    let K = side_known c.args.self.now c.side-side.ensures.sided c.requires in
    let done = search_done K l.place l.pick (omega (arith, known-bounds K)) l.invariant.1 c.unwrap.result c.unwrap.ensures in
    (rw c.unwrap.ensures (kept_more K l.best c.unwrap.result l.invariant.0 done), done)

-- ---- the cost of a tree
pub tree_for-bounds-self-at : goal.tree_for-bounds-self-at
tree_for-bounds-self-at t c = starts _ _ (buildable_planned c.requires.2)

pub tree_for-returns-then-is_table : goal.tree_for-returns-then-is_table
tree_for-returns-then-is_table t c =
    let v = c.args.self.now in
    (c.requires.1, λ p e h. table-cost v.code.now v.masks.now v.rows.now _ _ (tested-table _ _ c.is_table.ensures c.if-is_table.true) p e h)

pub tree_for-hand_of-hand-requires : goal.tree_for-hand_of-hand-requires
tree_for-hand_of-hand-requires t c = join_there c.args.self.now c.is_table.ensures c.if-is_table.false c.requires.0 c.requires.2

pub tree_for-side-side-requires : goal.tree_for-side-side-requires
tree_for-side-side-requires t c = join_there c.args.self.now c.is_table.ensures c.if-is_table.false c.requires.0 c.requires.2

pub tree_for-tree_for-own-requires : goal.tree_for-tree_for-own-requires
tree_for-tree_for-own-requires t c =
    let T = taken c.args.self.now c.is_table.ensures c.if-is_table.false c.requires.0 c.requires.2 c.side-side.ensures.sided c.hand_of-hand.ensures in
    (omega (arith, side_smaller (taken_known T)), (c.requires.0, c.requires.1, own_buildable T))

pub tree_for-best_root-other-requires : goal.tree_for-best_root-other-requires
tree_for-best_root-other-requires t c =
    let T = taken c.args.self.now c.is_table.ensures c.if-is_table.false c.requires.0 c.requires.2 c.side-side.ensures.sided c.hand_of-hand.ensures in
    (omega arith, (c.requires.0, c.tree_for-own.ensures.0, T.joins, taken-mendable T))

pub tree_for-overflow_add-result : goal.tree_for-overflow_add-result
tree_for-overflow_add-result t c =
    let T = taken c.args.self.now c.is_table.ensures c.if-is_table.false c.requires.0 c.requires.2 c.side-side.ensures.sided c.hand_of-hand.ensures in
    omega (arith, pick_small T c.other.result c.other.ensures c.best_root-other.result c.best_root-other.ensures.1 c.tree_for-own.result c.tree_for-own.ensures.1)

pub tree_for-returns : goal.tree_for-returns
tree_for-returns t c =
    let T = taken c.args.self.now c.is_table.ensures c.if-is_table.false c.requires.0 c.requires.2 c.side-side.ensures.sided c.hand_of-hand.ensures in
    (c.best_root-other.ensures.0, taken-costs T c.other.result c.other.ensures c.best_root-other.result c.best_root-other.ensures.1 c.tree_for-own.result c.tree_for-own.ensures.1)
