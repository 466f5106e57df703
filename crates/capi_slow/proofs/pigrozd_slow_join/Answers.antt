use mathlib.Core.Path.{ap, sym}
use Rattle.exhaustive.specs.Answers.{leaves}
use Rattle.capi_slow.proofs.Numbers.{carried}
use Rattle.capi_slow.proofs.pigrozd_slow_join.Goals as goal

pub returns-in-Ok : goal.returns-in-Ok
returns-in-Ok c = let a = c.join_by_choices in carried a.result _ (λ o. ap (λ x. leaves x o) (sym c.in-Ok.is)) a.ensures

pub returns-in-Err : goal.returns-in-Err
returns-in-Err c = let a = c.join_by_choices in
    rw (c.from.ensures, c.number.ensures) (carried a.result _ (λ o. ap (λ x. leaves x o) (sym c.in-Err.is)) a.ensures)
