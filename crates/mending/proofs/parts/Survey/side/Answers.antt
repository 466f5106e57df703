use Rattle.std.proofs.Common.{arith}
use Rattle.mending.proofs.Sides.{middle_small, sided, side-within}
use Rattle.mending.specs.declared.parts.Hand.TheVariants as hand
use Rattle.mending.proofs.parts.Survey.side.Goals as goal

pub bounds-self-at : goal.bounds-self-at
bounds-self-at c = omega (arith, middle_small c.args.self.now c.args.at c.requires)

pub offset_bounds-self-left : goal.offset_bounds-self-left
offset_bounds-self-left c = omega (arith, middle_small c.args.self.now c.args.at c.requires)

pub bounds-self-left : goal.bounds-self-left
bounds-self-left c = omega (arith, middle_small c.args.self.now c.args.at c.requires)

pub returns-in-Left : goal.returns-in-Left
returns-in-Left c = rw c.in-Left.is (record { sided = sided c.args.self.now c.args.at c.requires hand.Left; within = side-within c.args.self.now c.args.at c.requires hand.Left })

pub returns-in-Right : goal.returns-in-Right
returns-in-Right c = rw c.in-Right.is (record { sided = sided c.args.self.now c.args.at c.requires hand.Right; within = side-within c.args.self.now c.args.at c.requires hand.Right })
