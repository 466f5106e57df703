-- A number of 64 bits as two words.
use Rattle.std.specs.Prelude.{ℕ, ◌+◌, ◌*◌}
use Rattle.words.specs.declared.pairs.Pair.{Pair}

unfoldable pub two_words : ℕ → ℕ → ℕ
two_words lower upper = lower + upper * 4294967296

abbrev pub number_of : Pair → ℕ
number_of p = two_words p.lower p.upper
