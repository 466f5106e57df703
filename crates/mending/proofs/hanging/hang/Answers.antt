use Rattle.std.proofs.Common.{arith, length-drop}
use Rattle.mending.proofs.Hangs.{copies}
use Rattle.mending.proofs.hanging.hang.Goals as goal

pub returns : goal.returns
returns c =
    let a = c.args in
    copies a.masks.now a.own.now a.hung.now a.key _ _ c.place_for-start.ensures c.requires.2 _ _ _ _ _ c.copy_from_slice.ensures.after c.copy_from_slice-2.ensures.after
    c.copy_from_slice-3.ensures.after c.copy_from_slice-4.ensures.after (omega (arith, length-drop c.place_for-start.result.0 a.out.now, c.requires.3))
