-- Words for the answers 7, 8, 9 and 14 and their details, without the recursions that decide them. That the two say the same is shown
-- in `proofs/Misplaced.antt`, `proofs/Misnamed.antt`, `proofs/Lacking.antt`, `proofs/Eliminating.antt` and, for a whole file,
-- `proofs/PlanAnswers.antt`. And what stands at the detail of 19 (`proofs/OutOfRange.antt`).
use Rattle.std.specs.Prelude.{◌≡◌, Bool, true, false, ◌&&◌, ◌||◌, not, List, [], ◌∷◌, ◌++◌, ◌⊎◌, length, take, drop, get_or}
use Rattle.std.specs.Prelude.{ℕ, zero, suc, ◌+◌, ◌*◌, ◌≤◌, ◌<◌, eqb, ltb}
use Rattle.theory.specs.Elements.{Each, member}
use Rattle.semantics.specs.Lists.{any, filter, up_to}
use Rattle.semantics.specs.Files.{Table, word_at, copies_fit, record_bytes, table_mark, next_mark, whole, next_table, plan_bytes, read}
use Rattle.semantics.specs.Plans.{Plan, join, encode, tables}
use Rattle.theory.specs.Rules.{Small, NamedOnce, WellBehaved}
use Rattle.semantics.specs.Shapes.{Shape, join_attributes, shape_of}
use Rattle.semantics.specs.Mending.{holds_all, mend}
use Rattle.theory.specs.Selections.{Mendable}
use Rattle.semantics.specs.Elimination.{Hanging, without, plan_under}

-- ---- 7
-- the bytes spell one plan
pub record SpellsPlan (bs : List ℕ) : Type 0 where
  pub plan : Plan
  pub small : Small plan
  pub is : encode plan ≡ bs

-- the bytes are the beginning of bytes that spell one plan
pub record BeginsPlan (bs : List ℕ) : Type 0 where
  pub plan : Plan
  pub rest : List ℕ
  pub small : Small plan
  pub is : encode plan ≡ bs ++ rest

-- "index of the first byte that cannot stand there, or n if the plan ends early": what stands before it begins a plan
pub record FirstMisplaced (bs : List ℕ) (i : ℕ) : Type 0 where
  pub within : i ≤ length bs
  pub before : (j : ℕ) → j ≤ i → BeginsPlan (take j bs)
  pub wrong : i < length bs → BeginsPlan (take (suc i) bs) → ⊥
  pub early : i ≡ length bs → SpellsPlan bs → ⊥

-- ---- 8
-- the tables that the bytes name
abbrev pub names : List ℕ → List ℕ
names bs = filter (λ b. not (eqb b 0xFF)) bs

-- no table is named twice
abbrev pub Once : Plan → Type 0
Once p = (t : ℕ) → length (filter (eqb t) (tables p)) ≤ 1

-- the byte at index i names a table absent from a file of n tables, or already named
unfoldable pub wrong_name : ℕ → List ℕ → ℕ → Bool
wrong_name n bs i = let b = get_or bs i 0 in not (eqb b 0xFF) && (not (ltb b n) || any (eqb b) (names (take i bs)))

-- "index of the first byte naming a table absent from the file or already named; n if there is no such byte": then a table is
-- not named
pub record FirstMisnamed (n : ℕ) (bs : List ℕ) (i : ℕ) : Type 0 where
  pub within : i ≤ length bs
  pub before : (j : ℕ) → j < i → wrong_name n bs j ≡ false
  pub wrong : i < length bs → wrong_name n bs i ≡ true
  pub missing : i ≡ length bs → (t : ℕ) × (t < n) × (any (eqb t) (names bs) ≡ false)

-- ---- 9
-- the plan q stands in the plan p, and its bytes in those of p begin at that index
pub data Stands : Plan → Plan → ℕ → Type 0 where
  itself : {p : Plan} → Stands p p 0
  in_left : {q l r : Plan} {i : ℕ} → Stands q l i → Stands q (join l r) (suc i)
  in_right : {q l r : Plan} {i : ℕ} → Stands q r i → Stands q (join l r) (suc (length (encode l) + i))

-- no table of the plan holds all of the attributes
abbrev pub NoHolder : Shape → List ℕ → Plan → Type 0
NoHolder S ks p = Each (λ t. holds_all S ks t ≡ false) (tables p)

-- request U2: the join of l and r "has a side where no table holds its join attributes"
abbrev pub LacksHolder : Shape → Plan → Plan → Type 0
LacksHolder S l r = NoHolder S (join_attributes S l r) l ⊎ NoHolder S (join_attributes S l r) r

-- "the first such FF"
pub record FirstLacking (S : Shape) (p : Plan) (i : ℕ) : Type 0 where
  pub left : Plan
  pub right : Plan
  pub stands : Stands (join left right) p i
  pub lacks : LacksHolder S left right
  pub before : (l r : Plan) (j : ℕ) → Stands (join l r) p j → j < i → LacksHolder S l r → ⊥

-- ---- 14
-- request U4: "a plan of length 0 with at least one table"
pub record WithoutPlan (ts : List Table) (code : List ℕ) : Type 0 where
  pub present : 0 < length ts
  pub empty : code ≡ []

-- the table e can hang under f: the "shared attributes" of e, "those some other remaining table has, all lie in" f, "one other remaining
-- table"; M says which tables remain
pub record Ear (S : Shape) (M : ℕ → Bool) (e f : ℕ) : Type 0 where
  pub inside : M e ≡ true
  pub parent : M f ≡ true
  pub apart : f ≡ e → ⊥
  pub covers : (a u : ℕ) → a < 32 → S.has e a ≡ true → M u ≡ true → (u ≡ e → ⊥) → S.has u a ≡ true → S.has f a ≡ true

-- "the lowest-numbered table" that can hang "hangs under the lowest-numbered such table"
pub record NextHung (S : Shape) (rest : List ℕ) (h : Hanging) : Type 0 where
  pub hangs : Ear S (member rest) h.child h.parent
  pub lowest_child : (t u : ℕ) → t < h.child → Ear S (member rest) t u → ⊥
  pub lowest_parent : (u : ℕ) → u < h.parent → Ear S (member rest) h.child u → ⊥

module _ (S : Shape) (n : ℕ) where
  -- "repeatedly", of the tables 0 to n - 1: what remains then, and what was hung, the latest first
  pub data Remains : List ℕ → List Hanging → Type 0 where
    start : Remains (up_to n) []
    hung : {rest : List ℕ} {hs : List Hanging} {h : Hanging}
        → Remains rest hs → NextHung S rest h → Remains (without h.child rest) (h ∷ hs)

  -- "no table can be hung; detail, the lowest remaining number"
  pub record NoneHangs (d : ℕ) : Type 0 where
    pub rest : List ℕ
    pub hung : List Hanging
    pub remains : Remains rest hung
    pub several : 2 ≤ length rest
    pub none : (t u : ℕ) → Ear S (member rest) t u → ⊥
    pub there : member rest d ≡ true
    pub lowest : (t : ℕ) → member rest t ≡ true → d ≤ t

  -- "the last one is the root": the plan of it and of what hangs under it
  pub record FoundPlan (p : Plan) : Type 0 where
    pub root : ℕ
    pub hung : List Hanging
    pub remains : Remains (root ∷ []) hung
    pub is : plan_under hung root ≡ p

-- "no well-behaved plan over these tables exists"
abbrev pub NoPlan : List Table → Type 0
NoPlan ts = (p : Plan) → NamedOnce (length ts) (tables p) → WellBehaved (shape_of ts) p → ⊥

-- the plan p is followed for these tables and bytes: the one sent, mended, or the one found
pub data Followed (ts : List Table) (code : List ℕ) (p : Plan) : Type 0 where
  mended : (s : SpellsPlan code) → NamedOnce (length ts) (tables s.plan) → Mendable (shape_of ts) s.plan
      → mend (shape_of ts) s.plan ≡ p → Followed ts code p
  found : WithoutPlan ts code → FoundPlan (shape_of ts) (length ts) p → Followed ts code p

-- ---- of a file
-- no number up to 6 is due, and the n bytes of the plan have the property
pub record ReadsPlan (bytes : List ℕ) (X : List ℕ → Type 0) : Type 0 where
  pub code : List ℕ
  pub reads : (read bytes).ending ≡ plan_bytes code
  pub has : X code

-- ---- 19
-- the mark at offset d is that of a table with copies, its columns are there, and the copy count of one of its rows is out of range
pub record OutOfRange (bytes : List ℕ) (d : ℕ) : Type 0 where
  pub first : get_or bytes d 0 ≡ 0x54
  pub second : get_or bytes (d + 1) 0 ≡ 0x43
  pub there : d + record_bytes true (word_at bytes (d + 2)) (word_at bytes (d + 6)) ≤ length bytes
  pub row : ℕ
  pub low : row < word_at bytes (d + 6)
  pub out : copies_fit (word_at (drop (d + 10) bytes) (4 * row)) ≡ false

-- between two offsets stands a whole table record
pub record WholeTable (bytes : List ℕ) (from to : ℕ) : Type 0 where
  pub counted : Bool
  pub mark : next_mark (drop from bytes) ≡ table_mark counted
  pub table : Table
  pub size : ℕ
  pub is : next_table counted from (drop from bytes) ≡ whole table size
  pub end : to ≡ from + size

-- before an offset stand n whole table records, and nothing else
unfoldable pub TablesBefore : List ℕ → ℕ → ℕ → Type 0
TablesBefore bytes zero o = o ≡ 0
TablesBefore bytes (suc n) o = (at : ℕ) × TablesBefore bytes n at × WholeTable bytes at o
