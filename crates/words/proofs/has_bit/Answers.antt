use mathlib.Core.Path.{refl}
use Rattle.semantics.specs.Files.{has_bit, bit}
use Rattle.words.proofs.has_bit.Goals as goal

pub returns : goal.returns
unfolding has_bit bit
returns c = refl
