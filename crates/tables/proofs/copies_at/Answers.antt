use native.Mathlib.Omega.{arith}
use Rattle.tables.proofs.CountedBits.{bit-set, bit_clear, start_some, start_none}
use Rattle.tables.proofs.copies_at.Goals as goal

pub overflow_mul-result : goal.overflow_mul-result
overflow_mul-result c = omega (arith, c.requires.1 (bit-set _ _ c.if-counted-t-eq1.true))

pub overflow_sub-result : goal.overflow_sub-result
overflow_sub-result c = omega (arith, c.requires.1 (bit-set _ _ c.if-counted-t-eq1.true))

pub returns-then-counted-t-eq1 : goal.returns-then-counted-t-eq1
returns-then-counted-t-eq1 c = start_some _ _ _ _ (bit-set _ _ c.if-counted-t-eq1.true)

pub returns-else-counted-t-eq1 : goal.returns-else-counted-t-eq1
returns-else-counted-t-eq1 c = start_none _ _ _ _ (bit_clear _ _ c.if-counted-t-eq1.false)
