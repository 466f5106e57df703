-- What a call from C promises.
use Rattle.std.specs.Prelude.{◌≡◌, List, ℕ}
use Rattle.semantics.specs.Outcome.{Answer, Outcome, outcome, figures, WithinBound}
use Rattle.capi.specs.declared.pigrozd_answer.{pigrozd_answer as Given}

-- document 01's answer of these seven numbers
abbrev pub answer_from : Given → Answer
answer_from a =
    record {
      number = a.number;
      detail = a.detail;
      out = a.rows;
      entries = a.entries;
      lookups = a.lookups;
      comparisons = a.comparisons;
      visits = a.visits;
    }

-- the promise, for any bytes and any buffers: s, o before the call, s', o' after it. The seven numbers and the buffers are
-- document 01's outcome, and an answer of 0 keeps within demand 3's bound
pub record Calls (bytes s o s' o' : List ℕ) (a : Given) : Type 0 where
  pub is : ◌≡◌ {A = Outcome} (record { answer = answer_from a; scratch = s'; output = o' }) (outcome bytes s o)
  pub bound : a.number ≡ 0 → WithinBound (figures bytes) (answer_from a)
