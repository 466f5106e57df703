-- Document 01, "The plan": plans, the bytes that spell them, and the answers 7 and 8.
use Rattle.std.specs.Prelude.{true, false, ◌&&◌, not, List, [], ◌∷◌, ◌++◌, ℕ, zero, suc, length, eqb, ltb}
use Rattle.std.proofs.Math.Option.{Option, none, some}
use Rattle.semantics.specs.Lists.{any}

-- a table number, or a left plan and a right plan
pub data Plan : Type 0 where
  scan : ℕ → Plan
  join : Plan → Plan → Plan

-- the bytes of a plan
abbrev pub encode : Plan → List ℕ
encode (scan t) = t ∷ []
encode (join l r) = 0xFF ∷ (encode l ++ encode r)

-- the tables of a plan in plan order: the order in which they are named
abbrev pub tables : Plan → List ℕ
tables (scan t) = t ∷ []
tables (join l r) = tables l ++ tables r

-- "the leftmost table of a plan": the first one named in it
abbrev pub leftmost : Plan → ℕ
leftmost (scan t) = t
leftmost (join l r) = leftmost l

-- Answer 7: the index of the first byte that cannot stand there, or of the end where the plan ends early.
-- That many plans are still owed at index i; a table number pays one, an FF pays one and owes two.
abbrev pub misplaced : ℕ → ℕ → List ℕ → Option ℕ
misplaced zero i [] = none
misplaced (suc owed) i [] = some i
misplaced zero i (b ∷ bs) = some i
misplaced (suc owed) i (b ∷ bs) =
    elim (eqb b 0xFF) [
      | true ↦ misplaced (suc (suc owed)) (suc i) bs
      | false ↦
          elim (ltb b 16) [ true ↦ misplaced owed (suc i) bs | false ↦ some i ]
    ]

-- the plans that bytes spell one after the other: an FF joins the first two of those that stand after it
abbrev pub join_first : List Plan → List Plan
join_first [] = []
join_first (l ∷ []) = []
join_first (l ∷ (r ∷ ps)) = join l r ∷ ps

abbrev pub spelled : List ℕ → List Plan
spelled [] = []
spelled (b ∷ bs) = elim (eqb b 0xFF) [ true ↦ join_first (spelled bs) | false ↦ scan b ∷ spelled bs ]

abbrev pub first_plan : List Plan → Plan
first_plan [] = scan 0
first_plan (p ∷ ps) = p

-- the plan that bytes spell, where 7 is not due
unfoldable pub plan_of : List ℕ → Plan
plan_of bs = first_plan (spelled bs)

-- Answer 8: the index of the first byte naming a table that is absent (there are n) or already named (those of `named` are);
-- where there is no such byte and not all n are named, the end's index.
abbrev pub misnamed : ℕ → List ℕ → ℕ → List ℕ → Option ℕ
misnamed n named i [] = elim (eqb (length named) n) [ true ↦ none | false ↦ some i ]
misnamed n named i (b ∷ bs) =
    elim (eqb b 0xFF) [
      | true ↦ misnamed n named (suc i) bs
      | false ↦
          elim (ltb b n && not (any (eqb b) named)) [ true ↦ misnamed n (b ∷ named) (suc i) bs | false ↦ some i ]
    ]
