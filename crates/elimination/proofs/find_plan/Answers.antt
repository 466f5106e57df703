use native.Mathlib.Omega.{arith}
use Rattle.elimination.proofs.Searches.{plan_writable, search-found}
use Rattle.elimination.proofs.find_plan.Goals as goal

pub write_plan-requires : goal.write_plan-requires
write_plan-requires c = let q = c.requires in plan_writable _ _ _ _ (rw c.in_ok-root.was at c.hang_all.ensures) q.1 q.2 q.0

pub returns : goal.returns
returns c = let q = c.requires in search-found _ _ _ _ (rw c.in_ok-root.was at c.hang_all.ensures) q.1 q.2 (omega arith) c.write_plan.ensures
