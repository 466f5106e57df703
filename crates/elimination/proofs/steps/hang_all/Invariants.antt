use Prim.Native.Nat.{◌-◌}
use mathlib.Core.Path.{◌≡◌}
use Rattle.elimination.specs.Steps.{HungSoFar}
use Rattle.elimination.proofs.steps.hang_all.Given as goal

abbrev pub invariant-loop : goal.invariant-loop
invariant-loop l = record {
  masks : l.rest.masks.now ≡ l.masks;
  count : l.rest.count ≡ l.count;
  so_far : HungSoFar l.masks l.count l.rest.flags l.parents (l.count - l.counter);
}
