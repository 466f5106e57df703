use Rattle.std.proofs.Common.{◌≡◌, rules, None}
use native.Mathlib.Omega.{arith}
use Rattle.mending.proofs.Places.{starts, no_other, left, right, left-ends}
use Rattle.plans.proofs.Judging.{one_table, table_small, not_left, not_right, two_plans, left_index, right_index}
use Rattle.plans.proofs.behaviour.+judge.Goals as goal

pub bounds-code-at : goal.bounds-code-at
bounds-code-at t c = starts _ _ c.requires

pub judge-requires : goal.judge-requires
judge-requires t c = (omega (arith, starts _ _ c.requires), left _ _ c.in-255.is c.requires)

pub returns-in_err-left-in-255 : goal.returns-in_err-left-in-255
returns-in_err-left-in-255 t c =
    let e : c.from_residual.result ≡ None = search rules in
    rw e (not_left _ _ _ c.in-255.is (rw c.in_err-left-in-255.was at c.judge.ensures))

pub judge-requires-in-255 : goal.judge-requires-in-255
judge-requires-in-255 t c =
    let k = c.in-255.is in
    let f = rw c.in_ok-left-in-255.was at c.judge.ensures in (
      omega (arith, starts _ _ c.requires, left-ends _ _ _ k (λ p e h. (f p e h).next) c.requires),
      right _ _ _ k (λ p e h. (f p e h).next) c.requires,
    )

pub returns-in_err-right-in-255 : goal.returns-in_err-right-in-255
returns-in_err-right-in-255 t c =
    let e : c.from_residual-in_err-right-in-255.result ≡ None = search rules in
    rw e (not_right _ _ _ c.in-255.is _ (rw c.in_ok-left-in-255.was at c.judge.ensures) (rw c.in_err-right-in-255.was at c.judge-in-255.ensures))

pub join-requires : goal.join-requires
join-requires t c =
    let f = rw c.in_ok-left-in-255.was at c.judge.ensures in
    let g = rw c.in_ok-right-in-255.was at c.judge-in-255.ensures in
    (left_index _ _ _ c.in-255.is _ f c.requires, right_index _ _ _ c.in-255.is _ f c.requires _ g)

pub bounds-masks-t : goal.bounds-masks-t
bounds-masks-t t c = omega (arith, table_small _ _ (λ q. omega arith) c.requires, c.from-t.ensures)

pub overflow_add-result : goal.overflow_add-result
overflow_add-result t c = omega (arith, starts _ _ c.requires)

pub returns-in_ok-right-in-255 : goal.returns-in_ok-right-in-255
returns-in_ok-right-in-255 t c =
    rw c.join.ensures
    (two_plans _ _ _ c.in-255.is _ (rw c.in_ok-left-in-255.was at c.judge.ensures) _ (rw c.in_ok-right-in-255.was at c.judge-in-255.ensures))

pub returns-in-0-to-15 : goal.returns-in-0-to-15
returns-in-0-to-15 t c = one_table _ _ _ (λ q. omega arith) _ c.from-t.ensures

pub returns-in_default : goal.returns-in_default
returns-in_default t c = absurd (no_other _ _ (λ q. omega arith) (omega arith) c.requires)
