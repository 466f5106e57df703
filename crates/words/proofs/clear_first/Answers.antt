use Rattle.std.proofs.Common.{rules}
use Rattle.words.specs.Arrays.{zeros_then}
use Rattle.words.proofs.clear_first.Goals as goal

pub returns : goal.returns
unfolding zeros_then
returns c = search rules
