use Rattle.std.proofs.Common.{◌-◌, length}
use Rattle.plans.proofs.behaviour.+judge.Given as goal

abbrev pub decreases-judge : goal.decreases-judge
decreases-judge l = length l.code.now - l.at
