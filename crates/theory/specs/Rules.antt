-- What the rules ask of a file's tables and of its plan, and what they leave.
use Rattle.std.specs.Prelude.{◌≡◌, Bool, true, ◌&&◌, List, ◌⊎◌, ℕ, ◌+◌, ◌*◌, ◌≤◌, ◌<◌, length, drop, eqb}
use Rattle.semantics.specs.Lists.{all, filter}
use Rattle.semantics.specs.Files.{Table, arity, column_bytes, word_at, copy_bytes, copy_start, copies_at}
use Rattle.semantics.specs.Plans.{Plan, scan, join, tables, leftmost}
use Rattle.semantics.specs.Shapes.{Shape, shape_of, join_attributes}
use Rattle.theory.specs.Elements.{Each}

-- ---- a file
-- every number of the list is a byte
abbrev pub Bytes : List ℕ → Type 0
Bytes l = Each (λ b. b < 256) l

-- what the rules ask of a table in a file of n bytes
pub record Fitting (n : ℕ) (t : Table) : Type 0 where
  pub some : 1 ≤ arity t.mask
  pub few : arity t.mask ≤ 8
  pub low : t.rows ≤ 4096
  pub inside : t.start + column_bytes t.mask t.rows ≤ n
  pub behind : 10 + copy_bytes t.counted t.rows ≤ t.start  -- mark, fields and copies stand before the attribute columns

-- what the rules ask of the copies of a table's rows: 1 to 65,535, so that the words of their column are not held
pub record Counted (bytes : List ℕ) (t : Table) : Type 0 where
  pub some : (y : ℕ) → y < t.rows → 1 ≤ copies_at bytes t y
  pub exact : t.counted ≡ true → (y : ℕ) → y < t.rows → word_at (drop (copy_start t) bytes) (4 * y) ≡ copies_at bytes t y

-- ---- a plan
-- the table numbers of a plan that bytes can name
abbrev pub Small : Plan → Type 0
Small (scan t) = t < 16
Small (join l r) = Small l × Small r

-- how many joins a plan has
abbrev pub joins : Plan → ℕ
joins (scan t) = 0
joins (join l r) = joins l + joins r + 1

-- "each table of the file is named exactly once", of n tables, and no other is
pub record NamedOnce (n : ℕ) (ts : List ℕ) : Type 0 where
  pub present : Each (λ t. t < n) ts
  pub once : (t : ℕ) → t < n → length (filter (eqb t) ts) ≡ 1

module _ (S : Shape) where
  -- the leftmost table of the left plan and that of the right plan both have all join attributes
  unfoldable pub behaves : Plan → Plan → Bool
  behaves l r = all (λ a. S.has (leftmost l) a && S.has (leftmost r) a) (join_attributes S l r)

  -- "the plan is well-behaved"
  abbrev pub WellBehaved : Plan → Type 0
  WellBehaved (scan t) = Unit {0}
  WellBehaved (join l r) = (behaves l r ≡ true) × WellBehaved l × WellBehaved r

-- what the rules leave: each table of the file is named exactly once, no other is, and the plan is well-behaved
pub record WithinRules (ts : List Table) (p : Plan) : Type 0 where
  pub small : Small p
  pub named : NamedOnce (length ts) (tables p)
  pub behaved : WellBehaved (shape_of ts) p

-- ---- numbers
-- the numbers of faults of the reading: 1 to 6, and 19 "after the columns are known to be there"
abbrev pub ReadingNumber : ℕ → Type 0
ReadingNumber n = ((1 ≤ n) × (n ≤ 6)) ⊎ (n ≡ 19)

-- the numbers "before 10 in the order": those, 7 to 9, and 14 in the place of 8 and 9; and those up to 10
abbrev pub BeforeTen : ℕ → Type 0
BeforeTen n = ((1 ≤ n) × (n ≤ 9)) ⊎ ((n ≡ 14) ⊎ (n ≡ 19))

abbrev pub ThroughTen : ℕ → Type 0
ThroughTen n = BeforeTen n ⊎ (n ≡ 10)
