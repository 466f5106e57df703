-- Request U6, "the two undo each other", in C's numbers: any two calls, each with buffers of its own.
use mathlib.Core.Path.{◌≡◌}
use mathlib.Core.List.{List, ◌++◌}
use Prim.Native.Nat.{ℕ, ◌-◌}
use lib.ListN.{take, replicate}
use Rattle.theory.specs.Access.{table_count}
use Rattle.theory.proofs.Access.{there_and_back as outcome-back, back_and_there as outcome-there}
use Rattle.capi_access.specs.declared.pigrozd_result_answer.{pigrozd_result_answer as GivenResult}
use Rattle.capi_access.specs.declared.pigrozd_number_answer.{pigrozd_number_answer as GivenNumber}
use Rattle.capi_access.specs.Calls.{result_from, number_from, ResultCalls, NumberCalls}

module _ {bytes s row s' row' t rows copies t' : List ℕ} {n : ℕ} {a : GivenResult} {b : GivenNumber} (A : ResultCalls bytes s row n s' row' a) (B : NumberCalls bytes t rows copies t' b) where
  -- the row numbers and copies that the first gave lead back to its number
  pub there_and_back : a.number ≡ 0 → rows ≡ take (table_count bytes) a.rows → copies ≡ take (table_count bytes) a.copies → (b.number ≡ 10 → ⊥) → (b.number ≡ 0) × (b.n ≡ n)
  there_and_back = outcome-back bytes s row t rows copies n (result_from a s' row') (number_from b t') A.is B.is

  -- the number that the second gave leads back to its row numbers and copies
  pub back_and_there : b.number ≡ 0 → n ≡ b.n → (a.number ≡ 10 → ⊥) → (a.number ≡ 18 → ⊥)
      → (a.number ≡ 0) × (a.rows ≡ rows ++ replicate (16 - table_count bytes) 0) × (a.copies ≡ copies ++ replicate (16 - table_count bytes) 0)
  back_and_there = outcome-there bytes s row t rows copies n (result_from a s' row') (number_from b t') A.is B.is
