use lib.Pow.{pow_pos}
use Rattle.words.proofs.Masks.{shifted, ones_of_rest}
use Rattle.words.proofs.ones_below.Goals as goal

pub nonzero_rem-result : goal.nonzero_rem-result
nonzero_rem-result c = rw (shifted c.args.bit c.requires) (pow_pos _)

pub returns : goal.returns
returns c = rw (shifted c.args.bit c.requires) (ones_of_rest _ _)
