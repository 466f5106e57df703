use Rattle.std.proofs.Common.{rules}
use Rattle.plans.proofs.Reading.{read_join}
use Rattle.plans.proofs.spelling.+read_plan.Goals as goal

pub returns-in_ok-middle-in-Some-eq255 : goal.returns-in_ok-middle-in-Some-eq255
returns-in_ok-middle-in-Some-eq255 t c = read_join (search rules) (search rules) c.read_plan.ensures c.in_ok-middle-in-Some-eq255.was c.read_plan-in-Some-eq255.ensures
