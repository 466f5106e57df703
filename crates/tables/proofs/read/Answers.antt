use mathlib.Core.Path.{ap, ◌∙◌}
use native.Mathlib.Omega.{arith}
use Rattle.std.proofs.Common.{Ok}
use Rattle.tables.proofs.ReadTo.{begun, at_plan, at-refusal, at_table}
use Rattle.tables.proofs.read.Goals as goal

pub loop-entry-init : goal.loop-entry-init
loop-entry-init c = begun _ _ c.new-catalog.ensures

pub enter-requires : goal.enter-requires
enter-requires c = (at_table _ _ _ c.loop-entry.invariant _ c.next_record.ensures _ (c.in-Ok-Table.is ∙ ap Ok c.in-Ok-Table.field-0-is)).room

pub overflow_add-at : goal.overflow_add-at
overflow_add-at c = let t = at_table _ _ _ c.loop-entry.invariant _ c.next_record.ensures _ (c.in-Ok-Table.is ∙ ap Ok c.in-Ok-Table.field-0-is) in omega arith

pub loop-entry-smaller : goal.loop-entry-smaller
loop-entry-smaller c = let t = at_table _ _ _ c.loop-entry.invariant _ c.next_record.ensures _ (c.in-Ok-Table.is ∙ ap Ok c.in-Ok-Table.field-0-is) in omega arith

pub loop-entry-preserved : goal.loop-entry-preserved
loop-entry-preserved c = (at_table _ _ _ c.loop-entry.invariant _ c.next_record.ensures _ (c.in-Ok-Table.is ∙ ap Ok c.in-Ok-Table.field-0-is)).again _ c.enter.ensures

pub returns-in-Ok-Plan : goal.returns-in-Ok-Plan
returns-in-Ok-Plan c = at_plan _ _ _ c.loop-entry.invariant _ c.next_record.ensures _ (c.in-Ok-Plan.is ∙ ap Ok c.in-Ok-Plan.field-0-is)

pub returns-in-Err : goal.returns-in-Err
returns-in-Err c = at-refusal _ _ _ c.loop-entry.invariant _ c.next_record.ensures _ c.in-Err.is
