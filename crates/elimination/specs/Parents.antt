-- What the search for a table's parent promises, over the masks and the flags of the tables that remain.
use Rattle.std.specs.Prelude.{◌≡◌, Bool, false, List, ℕ, ◌-◌, ◌≤◌, get_or, eqb, Option, Some, None}
use Rattle.std.proofs.Math.Option.{Option as Maybe, none, some}
use Rattle.std.specs.Int.Bits.{bit_and}
use Rattle.semantics.specs.Lists.{any, filter, first, from}
use Rattle.semantics.specs.Files.{has_bit}
use Rattle.semantics.specs.Shapes.{Shape}
use Rattle.semantics.specs.Elimination.{without, parent_of}
use Rattle.words.specs.Masks.{Masked}

-- the tables below n whose flag stands, rising
abbrev pub remaining : ℕ → List Bool → List ℕ
remaining n flags = filter (λ t. get_or flags t false) (from 0 n)

-- the attributes of m are those of the tables rs but t
abbrev pub OthersHave : List ℕ → List ℕ → ℕ → ℕ → Type 0
OthersHave masks rs t m = (a : ℕ) → has_bit m a ≡ any (λ u. has_bit (get_or masks u 0) a) (without t rs)

-- the first of the tables rs but t that has all attributes of the mask
abbrev pub first_covering : List ℕ → List ℕ → ℕ → ℕ → Maybe ℕ
first_covering masks rs t m = first (λ u. eqb (bit_and m (get_or masks u 0)) m) (without t rs)

-- the code's word for the table that is found
abbrev pub parent_found : Maybe ℕ → Option ℕ
parent_found none = None
parent_found (some u) = Some u

-- r is the parent of t, whatever tables have these masks
abbrev pub ParentIn : List ℕ → List ℕ → ℕ → Option ℕ → Type 0
ParentIn masks rs t r = (S : Shape) → Masked masks S → r ≡ parent_found (parent_of S rs t)

-- ---- what the searches keep
-- the attributes of the remaining tables below u, but t, are gathered
pub record Gathered (masks : List ℕ) (flags : List Bool) (n t u have : ℕ) : Type 0 where
  pub within : u ≤ n
  pub attributes : OthersHave masks (remaining u flags) t have

-- none of the remaining tables below u, but t, covers the mask m
pub record Uncovered (masks : List ℕ) (flags : List Bool) (n t m u : ℕ) : Type 0 where
  pub within : u ≤ n
  pub ahead : first_covering masks (remaining n flags) t m ≡ first_covering masks (filter (λ v. get_or flags v false) (from u (n - u))) t m
