-- What the repeated step promises.
use Rattle.std.specs.Prelude.{◌≡◌, Bool, true, false, ◌&&◌, ◌||◌, List, [], ◌∷◌, ℕ, suc, ◌-◌, ◌≤◌, ◌<◌, length, get_or, eqb}
use Rattle.std.specs.Prelude.{Option, Some, None, Result, Ok, Err}
use Rattle.std.specs.Option.{option_eq}
use Rattle.std.proofs.Math.Option.{Option as Maybe, none, some}
use Rattle.semantics.specs.Lists.{filter, from}
use Rattle.semantics.specs.Shapes.{Shape}
use Rattle.semantics.specs.Elimination.{Hanging, Elimination, rooted, stuck, next_of, hang_all, eliminate}
use Rattle.words.specs.Masks.{Masked}
use Rattle.refusals.specs.declared.Refusal.{Refusal}
use Rattle.refusals.specs.Refusals.{refusal_of}
use Rattle.elimination.specs.Parents.{remaining}

-- the code's word for what hangs next: the table, and the one under which it hangs
abbrev pub next_found : Maybe Hanging → Option (ℕ × ℕ)
next_found none = None
next_found (some h) = Some (h.child, h.parent)

-- r is what hangs next, whatever tables have these masks
abbrev pub NextIn : List ℕ → List ℕ → Option (ℕ × ℕ) → Type 0
NextIn masks rs r = (S : Shape) → Masked masks S → r ≡ next_found (next_of S rs rs)

-- the remaining tables from t on
abbrev pub remaining_from : ℕ → ℕ → List Bool → List ℕ
remaining_from t n flags = filter (λ v. get_or flags v false) (from t (n - t))

-- none of the remaining tables below t can be hung
pub record Unhung (masks : List ℕ) (flags : List Bool) (n t : ℕ) : Type 0 where
  pub within : t ≤ n
  pub ahead : (S : Shape) → Masked masks S → let rs = remaining n flags in next_of S rs rs ≡ next_of S rs (remaining_from t n flags)

-- ---- the whole
-- the masks are those of the tables of some shape
abbrev pub Shaped : List ℕ → Type 0
Shaped masks = (S : Shape) × Masked masks S

-- c hangs under t (for the writer of the plan's bytes)
abbrev pub hung_under : List Hanging → ℕ → ℕ → Bool
hung_under [] t c = false
hung_under (h ∷ hs) t c = (eqb c h.child && eqb t h.parent) || hung_under hs t c

-- the parent of c is t
abbrev pub is_parent : List (Option ℕ) → ℕ → ℕ → Bool
is_parent parents t c = option_eq eqb (get_or parents c None) (Some t)

-- the parents are those of what was hung
abbrev pub ParentsAre : List (Option ℕ) → List Hanging → Type 0
ParentsAre parents hs = (t c : ℕ) → t < 16 → c < 16 → is_parent parents t c ≡ hung_under hs t c

-- the answer of the hanging, and these parents
abbrev pub HungAs : Result ℕ Refusal → List (Option ℕ) → Elimination → Type 0
HungAs r parents (rooted t hs) = (r ≡ Ok t) × ParentsAre parents hs
HungAs r parents (stuck d) = r ≡ Err (refusal_of 14 d)

-- for the tables 0 to n - 1, whatever tables have these masks
abbrev pub HungAll : List ℕ → ℕ → Result ℕ Refusal → List (Option ℕ) → Type 0
HungAll masks n r parents = (S : Shape) → Masked masks S → HungAs r parents (eliminate S n)

-- m tables are still to hang; the flags are those of the tables that remain
pub record HungSoFar (masks : List ℕ) (n : ℕ) (flags : List Bool) (parents : List (Option ℕ)) (m : ℕ) : Type 0 where
  pub hung : List Hanging
  pub sizes : (length flags ≡ 16) × (length parents ≡ 16)
  pub long : length (remaining n flags) ≡ suc m
  pub named : ParentsAre parents hung
  pub free : (t : ℕ) → t < 16 → get_or flags t false ≡ true → get_or parents t None ≡ None
  pub ahead : (S : Shape) → Masked masks S → eliminate S n ≡ hang_all S m (remaining n flags) hung
