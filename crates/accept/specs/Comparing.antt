-- What a comparison of both engines promises.
use Rattle.std.specs.Prelude.{◌≡◌, Bool, true, false, ◌&&◌, ◌||◌, List, ℕ, eqb}
use Rattle.semantics.specs.Lists.{same}
use Rattle.capi.specs.declared.pigrozd_answer.{pigrozd_answer as Given}
use Rattle.capi_slow.specs.declared.pigrozd_slow_answer.{pigrozd_slow_answer as SlowGiven}
use Rattle.capi.specs.Calls.{Calls}
use Rattle.capi_slow.specs.Calls.{SlowCalls}
use Rattle.accept.specs.declared.comparing.Comparison.{Comparison}
use Rattle.accept.specs.declared.comparing.Comparison.TheVariants as comparison
use Rattle.accept.specs.declared.comparing.Compared.{Compared}

-- number, detail and OUT are equal
unfoldable pub same_numbers : Given → SlowGiven → Bool
same_numbers a b = eqb a.number b.number && (eqb a.detail b.detail && eqb a.rows b.rows)

-- the comparison of two answers, and of what the outputs hold after them
unfoldable pub comparison_of : Given → SlowGiven → List ℕ → List ℕ → Comparison
comparison_of a b one other =
    elim (eqb a.number 10 || eqb b.number 15) [
      | true ↦ comparison.Skipped
      | false ↦ elim (same_numbers a b && same one other) [ true ↦ comparison.Same | false ↦ comparison.Differ ]
    ]

-- both engines were called, on outputs that held o before, and compared; and they do not differ
pub record Compares (bytes s o s' one other : List ℕ) (r : Compared) : Type 0 where
  pub joined : Calls bytes s o s' one r.joined
  pub slow : SlowCalls bytes o other r.slow
  pub is : r.comparison ≡ comparison_of r.joined r.slow one other
  pub agree : r.comparison ≡ comparison.Differ → ⊥
