use Rattle.mending.proofs.Hangs.{planned_there, hanger_some, place_found}
use Rattle.mending.proofs.hanging.place_for.Goals as goal

pub unwrap-holder-requires : goal.unwrap-holder-requires
unwrap-holder-requires c = hanger_some c.args.masks.now c.args.own.now c.args.key _ c.first_holder.ensures c.requires.1

pub part_at-requires : goal.part_at-requires
part_at-requires c = (c.requires.0, planned_there _ _ _ _ _ _ c.requires.1.spells (rw c.unwrap-holder.ensures at c.first_holder.ensures) c.run_start-start.ensures)

pub returns : goal.returns
returns c = place_found c.part_at.result.next c.requires.1 (rw c.unwrap-holder.ensures at c.first_holder.ensures) c.run_start-start.ensures (λ q f h. (c.part_at.ensures q f h).next)
