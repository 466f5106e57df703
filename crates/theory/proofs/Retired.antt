-- Request U8: "12 is retired and not used again". No call gives it, whatever the file and the buffers.
use mathlib.Core.Path.{◌≡◌}
use mathlib.Core.List.{List}
use mathlib.Core.Logic.{inl}
use Prim.Native.Nat.{ℕ}
use native.Mathlib.Omega.{arith}
use lib.ListN.{length}
use Rattle.semantics.specs.Outcome.{retired_number, joined_answer, outcome}
use Rattle.semantics.specs.Exhaustive.{slow_outcome}
use Rattle.semantics.specs.Access.{result_given, result_outcome, number_outcome}
use Rattle.theory.proofs.Rules.{verdict-number, through_ten}
use Rattle.theory.proofs.Answers.{outcome-cases}
use Rattle.theory.proofs.Engines.{slow-cases}
use Rattle.theory.proofs.Access.{result-cases, number-cases}

-- the join
pub join-never_retired : (bytes s o : List ℕ) → (outcome bytes s o).answer.number ≡ retired_number → ⊥
unfolding joined_answer
join-never_retired bytes s o = outcome-cases (λ r. r.answer.number ≡ retired_number → ⊥) bytes s o (λ n d a. (through_ten n a).3) (λ n e. omega (arith, e)) (λ ts p e after q. omega (arith, q))

-- the slow engine
pub slow-never_retired : (bytes o : List ℕ) → (slow_outcome bytes o).number ≡ retired_number → ⊥
slow-never_retired bytes o = slow-cases (λ r. r.number ≡ retired_number → ⊥) bytes o (λ n d b. (through_ten n (inl b)).3) (λ e. omega (arith, e)) (λ n e. omega (arith, e)) (λ n after e. omega (arith, e))

-- a result by its number
pub result-never_retired : (bytes s row : List ℕ) (n : ℕ) → (result_outcome bytes s row n).number ≡ retired_number → ⊥
unfolding result_given
result-never_retired bytes s row n =
    result-cases bytes s row n (λ r. r.number ≡ retired_number → ⊥)
    (λ m d e. (through_ten m (verdict-number bytes (length s) m d e)).3) (λ a e. omega (arith, e)) (λ d a e. omega (arith, e)) (λ d a e. omega (arith, e)) (λ N a b e. omega (arith, e))

-- the number of a result
pub number-never_retired : (bytes s rows copies : List ℕ) → (number_outcome bytes s rows copies).number ≡ retired_number → ⊥
number-never_retired bytes s rows copies =
    number-cases bytes s rows copies (λ r. r.number ≡ retired_number → ⊥)
    (λ m d e. (through_ten m (verdict-number bytes (length s) m d e)).3) (λ a e. omega (arith, e)) (λ a e. omega (arith, e)) (λ N a e. omega (arith, e))
