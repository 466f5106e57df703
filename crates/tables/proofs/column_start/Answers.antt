use native.Mathlib.Omega.{arith}
use Rattle.tables.proofs.Columns.{values_before, column-inside, column-place}
use Rattle.tables.proofs.column_start.Goals as goal

pub overflow_mul-result : goal.overflow_mul-result
overflow_mul-result c = omega (arith, values_before _ _ _ _ _ _ c.requires c.ones_below.ensures)

pub overflow_mul-result-2 : goal.overflow_mul-result-2
overflow_mul-result-2 c = omega (arith, values_before _ _ _ _ _ _ c.requires c.ones_below.ensures)

pub overflow_cast-result-2 : goal.overflow_cast-result-2
overflow_cast-result-2 c = omega (arith, values_before _ _ _ _ _ _ c.requires c.ones_below.ensures)

pub overflow_add-result : goal.overflow_add-result
overflow_add-result c = omega (arith, column-inside _ _ _ _ _ _ c.requires c.ones_below.ensures)

pub returns : goal.returns
returns c = column-place _ _ _ _ _ c.ones_below.ensures
