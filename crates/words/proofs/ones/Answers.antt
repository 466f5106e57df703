use mathlib.Core.Path.{sym, ap, ◌∙◌}
use Prim.Native.Nat.{◌^◌}
use native.Mathlib.Nat.{mod-eq_of_lt}
use lib.Count as count
use Rattle.semantics.specs.Files.{arity}
use Rattle.words.proofs.Masks.{ones_of_rest}
use Rattle.words.proofs.ones.Goals as goal

pub returns : goal.returns
unfolding arity
returns c = sym (ap count.ones (mod-eq_of_lt {m = 2 ^ 32} c.ranges.mask.fits)) ∙ ones_of_rest _ 32
