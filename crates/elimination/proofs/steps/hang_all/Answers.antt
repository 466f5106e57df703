use mathlib.Core.Path.{◌≡◌, refl, ap, ◌∙◌}
use Prim.Native.Nat.{◌+◌, ◌-◌}
use native.Mathlib.Omega.{arith}
use Rattle.elimination.proofs.Hanging.{so_far-begun, so_far_more, so_far-stuck, so_far-rooted}
use Rattle.elimination.proofs.steps.hang_all.Goals as goal

pub loop-init : goal.loop-init
loop-init c = record { masks = refl; count = refl; so_far = rw c.requires.3 (so_far-begun c.requires.1 c.requires.2) }

pub returns-in_default : goal.returns-in_default
returns-in_default c = let i = c.loop.invariant in
    so_far-stuck i.so_far c.requires.2 c.requires.0 _ (rw (i.masks, i.count) at c.next_hanging.ensures.next) c.in_default.is (omega arith) _ (rw i.count at c.lowest-detail.ensures) _

pub loop-preserved : goal.loop-preserved
loop-preserved c = let i = c.loop.invariant in
    let r = c.remove.ensures in
    let e : c.args.count - c.loop.counter - 1 ≡ c.args.count - (c.loop.counter + 1) = omega arith in
    record {
      masks = ap (λ m. m.now) r.0 ∙ i.masks;
      count = r.2 ∙ i.count;
      so_far = rw (r.1, ← e) (so_far_more i.so_far c.requires.2 c.requires.0 _ (rw (i.masks, i.count) at c.next_hanging.ensures.next) _ _ c.in-Some.is (omega arith));
    }

pub returns : goal.returns
returns c = let i = c.loop.invariant in
    so_far-rooted i.so_far (omega arith) _ (rw i.count at c.lowest.ensures)
