use Rattle.std.proofs.Common.{◌-◌, length}
use Rattle.plans.proofs.spelling.+read_plan.Given as goal

abbrev pub decreases-read_plan : goal.decreases-read_plan
decreases-read_plan l = length l.code.now - l.at
