use Rattle.words.proofs.WordPairs.{words_are}
use Rattle.words.proofs.pairs.PairFromU64.from.Goals as goal

pub returns : goal.returns
returns c = words_are c.lower_word.ensures c.upper_word.ensures
