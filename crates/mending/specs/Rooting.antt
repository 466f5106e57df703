-- What tree building for a root and best-root search promise.
use Rattle.std.specs.Prelude.{◌≡◌, true, false, List, map, ℕ, ◌+◌, ◌<◌, ◌≤◌, length, get_or, ltb, Option, None, Some, IfSome}
use Rattle.semantics.specs.Lists.{non_empty, from}
use Rattle.semantics.specs.Plans.{Plan, join}
use Rattle.semantics.specs.Shapes.{Shape, join_attributes}
use Rattle.semantics.specs.Mending.{cheapest, holders, cost}
use Rattle.theory.specs.Selections.{Mendable}
use Rattle.mending.specs.Places.{PlanAt}
use Rattle.mending.specs.Parts.{shape_in, MaskWords, Surveyed, JoinIn, side_plan, slot_of}
use Rattle.mending.specs.Hanging.{candidates}
use Rattle.mending.specs.declared.parts.Hand.{Hand}
use Rattle.mending.specs.declared.parts.Hand.TheVariants as hand
use Rattle.mending.specs.declared.parts.Part.{Part}
use Rattle.mending.specs.declared.parts.Survey.{Survey}
use Rattle.mending.specs.declared.rooting.Candidate.{Candidate}

-- the cheaper one, where there is one so far; of equals the first
abbrev pub better_of : Option Candidate → Candidate → Candidate
better_of None next = next
better_of (Some first) next = elim (ltb next.cost first.cost) [ true ↦ next | false ↦ first ]

-- the row count that the table t adds at a join, as the root of its right or its left side
abbrev pub rows_added : List ℕ → Hand → ℕ → ℕ
rows_added rows hand.Right t = 0
rows_added rows hand.Left t = get_or rows t 0

abbrev pub added : Shape → Hand → ℕ → ℕ
added S hand.Right b = 0
added S hand.Left b = S.rows b

-- what a table costs as the root of a side, and the side's root: `right_root` or `left_root`
abbrev pub side_cost : Shape → Hand → Plan → ℕ → ℕ
side_cost S h p b = cost S p b + added S h b

unfoldable pub side_root : Shape → Hand → Plan → Plan → ℕ
side_root S h l r = cheapest (side_cost S h (side_plan h l r)) (holders S (join_attributes S l r) (side_plan h l r))

-- the pick is the byte of that root in s, with what it costs
pub record RootPicked (s : List ℕ) (S : Shape) (h : Hand) (l r : Plan) (pick : Candidate) : Type 0 where
  pub within : pick.place < length s
  pub root : get_or s pick.place 0 ≡ side_root S h l r
  pub costs : pick.cost ≡ side_cost S h (side_plan h l r) (side_root S h l r)

-- what the memory holds of a side, where it holds something, is the side's root
pub record RootsRemembered (s masks rows : List ℕ) (best : List (Option Candidate)) : Type 0 where
  pub slots : length best ≡ 64
  pub roots : (at : ℕ) (h : Hand) (l r : Plan) (m e : ℕ) → PlanAt s (at + 1) l m → PlanAt s m r e
      → IfSome (get_or best (slot_of h at) None) (RootPicked s (shape_in masks rows) h l r)

-- no table is named by two bytes
abbrev pub Distinct : List ℕ → Type 0
Distinct s = (i j : ℕ) → i < length s → j < length s → get_or s i 0 < 16 → get_or s i 0 ≡ get_or s j 0 → i ≡ j

-- what the functions rest on: answers 4, 7 and 8 leave so much, and the plan is surveyed
pub record Given (s masks rows : List ℕ) (parts : List Part) : Type 0 where
  pub short : length s ≤ 31
  pub words : MaskWords masks
  pub few : (t : ℕ) → get_or rows t 0 ≤ 4096
  pub distinct : Distinct s
  pub surveyed : Surveyed s masks parts

-- the plan at an index can be mended, and the byte at the place is one of its tables
pub record Buildable (s masks rows : List ℕ) (at place : ℕ) : Type 0 where
  pub plan : Plan
  pub end : ℕ
  pub stands : PlanAt s at plan end
  pub mendable : Mendable (shape_in masks rows) plan
  pub from : at ≤ place
  pub to : place < end
  pub table : get_or s place 0 < 16

-- the join at an index can be mended
abbrev pub MendableAt : List ℕ → List ℕ → List ℕ → ℕ → Type 0
MendableAt s masks rows at = (l r : Plan) (m e : ℕ) → PlanAt s (at + 1) l m → PlanAt s m r e → Mendable (shape_in masks rows) (join l r)

-- what tree building for a root asks, and what it promises: the memory stays right, and r is the penalty
abbrev pub TreeAsked : Survey → List (Option Candidate) → ℕ → ℕ → Type 0
TreeAsked v best at place =
    Given v.code.now v.masks.now v.rows.now v.parts × RootsRemembered v.code.now v.masks.now v.rows.now best
    × Buildable v.code.now v.masks.now v.rows.now at place

abbrev pub TreeBuilt : Survey → List (Option Candidate) → ℕ → ℕ → ℕ → Type 0
TreeBuilt v best at place r =
    RootsRemembered v.code.now v.masks.now v.rows.now best
    × ((p : Plan) (e : ℕ) → PlanAt v.code.now at p e → r ≡ cost (shape_in v.masks.now v.rows.now) p (get_or v.code.now place 0))

-- what best-root search asks, and what it promises: the memory stays right, and the pick is the side's root with its cost
abbrev pub RootAsked : Survey → List (Option Candidate) → ℕ → Type 0
RootAsked v best at =
    Given v.code.now v.masks.now v.rows.now v.parts × RootsRemembered v.code.now v.masks.now v.rows.now best
    × JoinIn v.code.now at × MendableAt v.code.now v.masks.now v.rows.now at

abbrev pub RootFound : Survey → List (Option Candidate) → ℕ → Hand → Candidate → Type 0
RootFound v best at h pick =
    RootsRemembered v.code.now v.masks.now v.rows.now best
    × ((x y : Plan) (m e : ℕ) → PlanAt v.code.now (at + 1) x m → PlanAt v.code.now m y e
    → RootPicked v.code.now (shape_in v.masks.now v.rows.now) h x y pick)

-- n bytes from an index
abbrev pub bytes_from : List ℕ → ℕ → ℕ → List ℕ
bytes_from s at n = map (λ j. get_or s j 0) (from at n)

-- the pick among some tables by what they cost: the byte of the cheapest, and what that costs
pub record PickedAt (f : ℕ → ℕ) (s xs : List ℕ) (pick : Candidate) : Type 0 where
  pub some : non_empty xs ≡ true
  pub within : pick.place < length s
  pub root : get_or s pick.place 0 ≡ cheapest f xs
  pub costs : pick.cost ≡ f (cheapest f xs)

-- the same, where there is a table
abbrev pub Picked : (ℕ → ℕ) → List ℕ → List ℕ → Option Candidate → Type 0
Picked f s xs None = non_empty xs ≡ false
Picked f s xs (Some pick) = PickedAt f s xs pick

-- the search among the first n bytes of a side of the join at an index
abbrev pub SideSearched : List ℕ → List ℕ → List ℕ → ℕ → Hand → ℕ → ℕ → ℕ → Option Candidate → Type 0
SideSearched s masks rows at h start key n pick =
    (x y : Plan) (m e : ℕ) → PlanAt s (at + 1) x m → PlanAt s m y e
    → Picked (side_cost (shape_in masks rows) h (side_plan h x y)) s (candidates masks key (bytes_from s start n)) pick
