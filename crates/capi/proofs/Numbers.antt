-- The join's promise, carried to the seven numbers.
use mathlib.Core.Path.{◌≡◌, ap, ◌∙◌}
use mathlib.Core.List.{List}
use Prim.Native.Nat.{ℕ}
use Rattle.semantics.specs.Outcome.{Outcome}
use Rattle.join.specs.Answers.{Given as Joined, Joins, answer_of as joined_answer}
use Rattle.capi.specs.declared.pigrozd_answer.{pigrozd_answer as Given}
use Rattle.capi.specs.Calls.{answer_from, Calls}

pub carried : {bytes s o s' o' : List ℕ} (a : Joined) (r : Given) → answer_from r ≡ joined_answer a → Joins bytes s o s' o' a → Calls bytes s o s' o' r
carried {s' = s'} {o' = o'} a r e j =
    record { is = ap {B = Outcome} (λ x. record { answer = x; scratch = s'; output = o' }) e ∙ j.is; bound = rw (← e) at j.bound }
