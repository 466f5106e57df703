-- The slow engine's promise, carried to the three numbers.
use mathlib.Core.Path.{◌≡◌, ◌∙◌}
use mathlib.Core.List.{List}
use Prim.Native.Nat.{ℕ}
use Rattle.exhaustive.specs.Answers.{Given as Tried, Tries, leaves}
use Rattle.capi_slow.specs.declared.pigrozd_slow_answer.{pigrozd_slow_answer as Given}
use Rattle.capi_slow.specs.Calls.{slow_from, SlowCalls}

pub carried : {bytes o o' : List ℕ} (a : Tried) (r : Given) → ((l : List ℕ) → slow_from r l ≡ leaves a l) → Tries bytes o o' a → SlowCalls bytes o o' r
carried {o' = o'} a r e t = record { is = e o' ∙ t.is }
