use Rattle.std.proofs.Common.{rules}
use Rattle.semantics.specs.Outcome.{zeros}
use Rattle.words.proofs.clear.Goals as goal

pub returns : goal.returns
unfolding zeros
returns c = search rules
