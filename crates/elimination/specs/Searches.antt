-- What the whole search promises.
use Rattle.std.specs.Prelude.{◌≡◌, List, ℕ, ◌≤◌, length, take, Result, Ok, Err}
use Rattle.semantics.specs.Plans.{encode}
use Rattle.semantics.specs.Shapes.{Shape}
use Rattle.semantics.specs.Elimination.{Elimination, rooted, stuck, eliminate, plan_under}
use Rattle.words.specs.Masks.{Masked}
use Rattle.refusals.specs.declared.Refusal.{Refusal}
use Rattle.refusals.specs.Refusals.{refusal_of}

-- the buffer begins with the bytes of the plan that is found, of that length, and those behind them are left open; or none is found, which
-- is refusal 14, and the buffer is as it was
abbrev pub SearchIs : Elimination → Result ℕ Refusal → List ℕ → List ℕ → Type 0
SearchIs (rooted t hs) r before out = (n : ℕ) × (r ≡ Ok n) × (n ≤ 31) × (length out ≡ 31) × (take n out ≡ encode (plan_under hs t))
SearchIs (stuck d) r before out = (r ≡ Err (refusal_of 14 d)) × (out ≡ before)

-- the end of the search among the tables 0 to n - 1, whatever tables have these masks
abbrev pub Searched : List ℕ → ℕ → List ℕ → List ℕ → Result ℕ Refusal → Type 0
Searched masks n before out r = (S : Shape) → Masked masks S → SearchIs (eliminate S n) r before out
