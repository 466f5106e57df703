use native.Mathlib.Omega.{arith}
use Rattle.words.specs.WordPairs.{two_words}
use Rattle.words.proofs.pairs.from_words.Goals as goal

pub returns : goal.returns
unfolding two_words
returns c = omega arith
