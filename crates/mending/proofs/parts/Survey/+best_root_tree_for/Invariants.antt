-- Best-root search and tree building call each other. What falls from call to call is the size of the subplan. Tree building asks
-- best-root search of its own subplan, so it counts 1 more.
use Rattle.std.proofs.Common.{◌+◌, ◌-◌, ◌*◌}
use Rattle.mending.specs.Parts.{size_at}
use Rattle.mending.specs.Rooting.{RootsRemembered, SideSearched}
use Rattle.mending.proofs.parts.Survey.+best_root_tree_for.Given as goal

abbrev pub decreases-best_root : goal.decreases-best_root
decreases-best_root l = 2 * size_at l.self.now.parts l.at

abbrev pub decreases-tree_for : goal.decreases-tree_for
decreases-tree_for l = 2 * size_at l.self.now.parts l.at + 1

abbrev pub invariant-best_root-loop-place : goal.invariant-best_root-loop-place
invariant-best_root-loop-place l =
    let v = l.self in
    let s = l.side in
    RootsRemembered v.code.now v.masks.now v.rows.now l.best
    × SideSearched v.code.now v.masks.now v.rows.now l.at l.fn.hand s.start s.key (l.place - s.start) l.pick
