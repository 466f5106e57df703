use Rattle.plans.proofs.Formed.{searchable}
use Rattle.plans.proofs.forming.found_plan.Goals as goal

pub find_plan-requires : goal.find_plan-requires
find_plan-requires c = searchable _ c.requires
