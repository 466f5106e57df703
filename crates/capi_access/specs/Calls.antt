-- What calls for results by number, from C, promise.
use Rattle.std.specs.Prelude.{◌≡◌, List, ℕ}
use Rattle.semantics.specs.Access.{ResultOutcome, result_outcome, NumberOutcome, number_outcome}
use Rattle.capi_access.specs.declared.pigrozd_result_answer.{pigrozd_result_answer as GivenResult}
use Rattle.capi_access.specs.declared.pigrozd_number_answer.{pigrozd_number_answer as GivenNumber}

-- the numbers that are returned, and the words that the buffers hold
abbrev pub result_from : GivenResult → List ℕ → List ℕ → ResultOutcome
result_from a s row = record { number = a.number; detail = a.detail; rows = a.rows; copies = a.copies; scratch = s; row = row }

abbrev pub number_from : GivenNumber → List ℕ → NumberOutcome
number_from a s = record { number = a.number; detail = a.detail; n = a.n; scratch = s }

-- the promises, for any bytes and any buffers: s, row before the call, s', row' after it. They are request U6's outcomes, with
-- a copy beside each row by request U9
pub record ResultCalls (bytes s row : List ℕ) (n : ℕ) (s' row' : List ℕ) (a : GivenResult) : Type 0 where
  pub is : result_from a s' row' ≡ result_outcome bytes s row n

pub record NumberCalls (bytes s rows copies s' : List ℕ) (a : GivenNumber) : Type 0 where
  pub is : number_from a s' ≡ number_outcome bytes s rows copies
