-- What the writing of a plan promises.
use Rattle.std.specs.Prelude.{◌≡◌, Bool, false, ◌||◌, List, [], ◌∷◌, ◌++◌, ℕ, ◌+◌, ◌≤◌, ◌<◌, length, get_or, replicate, eqb, Option}
use Rattle.semantics.specs.Lists.{filter, concat_map, from}
use Rattle.theory.specs.Elements.{only_if}
use Rattle.semantics.specs.Plans.{encode}
use Rattle.semantics.specs.Elimination.{Hanging, plan_under}
use Rattle.elimination.specs.Steps.{hung_under, is_parent, ParentsAre}

-- c hangs
abbrev pub is_hung : List Hanging → ℕ → Bool
is_hung [] c = false
is_hung (h ∷ hs) c = eqb c h.child || is_hung hs c

-- each of the tables below n is hung once at most, and under one that is not yet hung
abbrev pub HungOnce : ℕ → List Hanging → Type 0
HungOnce n [] = Unit {0}
HungOnce n (h ∷ hs) =
    (h.child < n) × (is_hung hs h.child ≡ false) × (is_hung hs h.parent ≡ false) × (h.parent ≡ h.child → ⊥) × HungOnce n hs

-- how many of the tables below n hang under t
abbrev pub child_count : List (Option ℕ) → ℕ → ℕ → ℕ
child_count parents t n = length (filter (is_parent parents t) (from 0 n))

-- the bytes stand in code from index at up to next; what is before at is as it was in old
pub record Wrote (old : List ℕ) (at : ℕ) (bytes : List ℕ) (code : List ℕ) (next : ℕ) : Type 0 where
  pub end : next ≡ at + length bytes
  pub size : length code ≡ length old
  pub before : (i : ℕ) → i < at → get_or code i 0 ≡ get_or old i 0
  pub here : (i : ℕ) → i < length bytes → get_or code (at + i) 0 ≡ get_or bytes i 0

-- the parents are those of what hangs, and the plan of t fits
pub record Writable (parents : List (Option ℕ)) (n t at : ℕ) : Type 0 where
  pub few : n ≤ 16
  pub below : t < 16
  pub hung : List Hanging
  pub once : HungOnce n hung
  pub named : ParentsAre parents hung
  pub fits : at + length (encode (plan_under hung t)) ≤ 31

-- the plan of t is written
abbrev pub PlanWrote : List (Option ℕ) → ℕ → ℕ → List ℕ → ℕ → List ℕ → ℕ → Type 0
PlanWrote parents n t old at code next =
    (hs : List Hanging) → HungOnce n hs → ParentsAre parents hs → Wrote old at (encode (plan_under hs t)) code next

-- the joins, the table, and the plans of the children below c
abbrev pub plans_below : List (Option ℕ) → ℕ → ℕ → List Hanging → ℕ → List ℕ
plans_below parents n t hs c =
    replicate (child_count parents t n) 255 ++ (t ∷ concat_map (λ x. only_if (hung_under hs t x) (encode (plan_under hs x))) (from 0 c))

pub record Planning (parents : List (Option ℕ)) (n t : ℕ) (old : List ℕ) (at : ℕ) (code : List ℕ) (next c : ℕ) : Type 0 where
  pub within : c ≤ n
  pub wrote : (hs : List Hanging) → HungOnce n hs → ParentsAre parents hs → Wrote old at (plans_below parents n t hs c) code next
