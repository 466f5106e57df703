use native.Mathlib.Omega.{arith}
use Rattle.semantics.specs.Files.{word_at}
use Rattle.words.proofs.word.Goals as goal

pub returns : goal.returns
unfolding word_at
returns c = omega arith
