use Rattle.std.proofs.Common.{arith}
use Rattle.mending.proofs.Sides.{middle_small}
use Rattle.mending.proofs.parts.Survey.hand_of.Goals as goal

pub bounds-self-at : goal.bounds-self-at
bounds-self-at c = omega (arith, middle_small c.args.self.now c.args.at c.requires)
