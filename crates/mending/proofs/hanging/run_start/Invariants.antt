use mathlib.Core.Path.{◌≡◌}
use Prim.Native.Nat.{ℕ, ◌≤◌, ◌<◌}
use lib.ListN.{get_or}
use Rattle.mending.proofs.hanging.run_start.Given as goal

abbrev pub invariant-loop-i : goal.invariant-loop-i
invariant-loop-i l = (l.i ≤ l.j) × ((k : ℕ) → l.i ≤ k → k < l.j → get_or l.tree k 0 ≡ 255)

abbrev pub decreases-loop-i : goal.decreases-loop-i
decreases-loop-i l = l.i
