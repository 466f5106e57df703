use Rattle.std.proofs.Common.{arith}
use Rattle.mending.proofs.Places.{starts, tested-table, tested-mark, left, right, left-ends}
use Rattle.mending.proofs.Sides.{one_table, two_plans}
use Rattle.mending.proofs.parts.+part_at.Goals as goal

pub bounds-code-at : goal.bounds-code-at
bounds-code-at t c = starts _ _ c.requires.1

pub overflow_add-result : goal.overflow_add-result
overflow_add-result t c = omega (arith, starts _ _ c.requires.1)

pub returns-then-is_table : goal.returns-then-is_table
returns-then-is_table t c = λ p e h. one_table _ _ _ c.requires.0 (λ q. omega (arith, tested-table _ _ c.is_table.ensures c.if-is_table.true)) _ c.index.ensures.0 p e h

pub part_at-left-requires : goal.part_at-left-requires
part_at-left-requires t c =
    let q = c.requires.1 in
    (omega (arith, starts _ _ q), (c.requires.0, left _ _ (tested-mark _ _ _ c.is_table.ensures c.if-is_table.false q) q))

pub part_at-right-requires : goal.part_at-right-requires
part_at-right-requires t c =
    let q = c.requires.1 in
    let k = tested-mark _ _ _ c.is_table.ensures c.if-is_table.false q in (
      omega (arith, starts _ _ q, left-ends _ _ _ k (λ p e h. (c.part_at-left.ensures p e h).next) q),
      (c.requires.0, right _ _ _ k (λ p e h. (c.part_at-left.ensures p e h).next) q),
    )

pub returns : goal.returns
returns t c = λ p e h. two_plans _ _ _ (tested-mark _ _ _ c.is_table.ensures c.if-is_table.false c.requires.1) _ _ c.part_at-left.ensures c.part_at-right.ensures p e h
