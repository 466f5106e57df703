-- What the plan reader promises.
use Rattle.std.specs.Prelude.{◌≡◌, List, ℕ, suc, ◌≤◌, ◌<◌, length, drop, Result, Ok, Err}
use Rattle.std.proofs.Math.Option.{Option as Maybe, some}
use Rattle.semantics.specs.Plans.{misplaced}

-- the rest of the spelling check, when that many further plans are owed behind the one read
abbrev pub continued : List ℕ → ℕ → Result ℕ ℕ → Maybe ℕ
continued s owed (Ok i) = misplaced owed i (drop i s)
continued s owed (Err i) = some i

-- the plan that begins at index at was read, with this end
pub record PlanRead (s : List ℕ) (at : ℕ) (r : Result ℕ ℕ) : Type 0 where
  pub spells : (owed : ℕ) → misplaced (suc owed) at (drop at s) ≡ continued s owed r
  pub later : (i : ℕ) → r ≡ Ok i → at < i
  pub inside : (i : ℕ) → r ≡ Ok i → i ≤ length s
