-- What a call of the slow engine from C promises.
use Rattle.std.specs.Prelude.{◌≡◌, List, ℕ}
use Rattle.semantics.specs.Exhaustive.{SlowOutcome, slow_outcome}
use Rattle.capi_slow.specs.declared.pigrozd_slow_answer.{pigrozd_slow_answer as Given}

-- request U5's three numbers, and the words that the output holds
abbrev pub slow_from : Given → List ℕ → SlowOutcome
slow_from a o = record { number = a.number; detail = a.detail; out = a.rows; output = o }

-- the promise, for any bytes and any output: o before the call, o' after it. The three numbers and the output are request U5's outcome
pub record SlowCalls (bytes o o' : List ℕ) (a : Given) : Type 0 where
  pub is : slow_from a o' ≡ slow_outcome bytes o
