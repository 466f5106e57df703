-- What hanging in bytes promises.
use Rattle.std.specs.Prelude.{◌≡◌, Bool, true, false, List, ◌∷◌, ◌++◌, ℕ, ◌+◌, ◌-◌, ◌<◌, ◌≤◌, length, get_or, take, drop, eqb, ltb}
use Rattle.std.specs.Prelude.{Option, None, Some}
use Rattle.std.specs.Int.Bits.{bit_and}
use Rattle.semantics.specs.Lists.{any, filter, head_of}
use Rattle.semantics.specs.Plans.{Plan, encode, tables}
use Rattle.theory.specs.Rules.{Small}
use Rattle.semantics.specs.JoinTrees.{hang_under}
use Rattle.mending.specs.Parts.{MaskWords}

-- a table with that mask holds all attributes of the key
unfoldable pub holds_key : ℕ → ℕ → Bool
holds_key key mask = eqb (bit_and key mask) key

-- the byte is a table that holds the key
unfoldable pub held_by : List ℕ → ℕ → ℕ → Bool
held_by masks key b = elim (ltb b 16) [ true ↦ holds_key key (get_or masks b 0) | false ↦ false ]

-- the holders among the tables that bytes name
unfoldable pub candidates : List ℕ → ℕ → List ℕ → List ℕ
candidates masks key bs = filter (λ t. holds_key key (get_or masks t 0)) (filter (λ b. ltb b 16) bs)

-- the byte at k is a table that holds the key
pub record HolderAt (masks : List ℕ) (key : ℕ) (s : List ℕ) (k : ℕ) : Type 0 where
  pub table : get_or s k 0 < 16
  pub holds : holds_key key (get_or masks (get_or s k 0) 0) ≡ true

-- j is the first such index
pub record FirstAt (masks : List ℕ) (key : ℕ) (s : List ℕ) (j : ℕ) : Type 0 where
  pub early : (k : ℕ) → k < j → HolderAt masks key s k → ⊥
  pub there : HolderAt masks key s j
  pub within : j < length s

-- the first such index, where there is one
abbrev pub FirstHolder : List ℕ → ℕ → List ℕ → Option ℕ → Type 0
FirstHolder masks key s None = (k : ℕ) → k < length s → HolderAt masks key s k → ⊥
FirstHolder masks key s (Some j) = FirstAt masks key s j

-- the FFs right before index j begin at i
pub record RunStart (s : List ℕ) (j i : ℕ) : Type 0 where
  pub low : i ≤ j
  pub run : (k : ℕ) → i ≤ k → k < j → get_or s k 0 ≡ 0xFF
  pub first : 0 < i → get_or s (i - 1) 0 ≡ 0xFF → ⊥

-- the bytes spell the plan p, and one of its tables holds the key
pub record Spells (masks : List ℕ) (key : ℕ) (s : List ℕ) (p : Plan) : Type 0 where
  pub is : s ≡ encode p
  pub small : Small p
  pub holder : any (λ t. holds_key key (get_or masks t 0)) (tables p) ≡ true

pub record Hangable (masks : List ℕ) (key : ℕ) (s : List ℕ) : Type 0 where
  pub plan : Plan
  pub spells : Spells masks key s plan

-- a plan c is hung in those bytes by an FF before i and its bytes behind e
pub record HangsAt (masks : List ℕ) (key : ℕ) (s : List ℕ) (i e : ℕ) : Type 0 where
  pub from : i ≤ e
  pub to : e ≤ length s
  pub hung : (p c : Plan) → Spells masks key s p
      → encode (hang_under (head_of (candidates masks key s)) c p)
      ≡ take i s ++ (0xFF ∷ (take (e - i) (drop i s) ++ (encode c ++ drop e s)))

-- what hanging asks: a plan with a holder, and room for both plans and an FF
abbrev pub HangAsked : List ℕ → ℕ → List ℕ → List ℕ → List ℕ → Type 0
HangAsked masks key own hung out = MaskWords masks × Hangable masks key own × (length own + length hung + 1 ≤ 31) × (length out ≡ 31)

-- the plan c hung under the first table of p that holds the key
abbrev pub HungBytes : List ℕ → ℕ → List ℕ → List ℕ → List ℕ → Type 0
HungBytes masks key own hung out =
    (p c : Plan) → Spells masks key own p → hung ≡ encode c
    → take (length own + length hung + 1) out ≡ encode (hang_under (head_of (candidates masks key own)) c p)

abbrev pub TreeHung : List ℕ → ℕ → List ℕ → List ℕ → List ℕ → Type 0
TreeHung masks key own hung out = (length out ≡ 31) × HungBytes masks key own hung out
