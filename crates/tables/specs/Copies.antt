-- The copies of a table's rows, by the offset of its column of copies; and the set of tables that have such a column.
use Rattle.std.specs.Prelude.{◌≡◌, true, false, List, [], ◌∷◌, ℕ, ◌+◌, ◌-◌, ◌*◌, ◌<◌, ◌≤◌, length, eqb}
use Rattle.semantics.specs.Files.{Table, has_bit, copy_start, copies_at}
use Rattle.theory.specs.Elements.{one_if}
use Rattle.tables.specs.Cells.{cell_at}

-- the tables that have a column of copies, as a set of bits: bit t is that of table t
abbrev pub counted_bits : List Table → ℕ
counted_bits [] = 0
counted_bits (t ∷ ts) = one_if t.counted + 2 * counted_bits ts

-- the offset of the column of copies of table t by such a set, where its attribute columns start there; 0 where it has none
unfoldable pub copies_start : ℕ → ℕ → ℕ → ℕ → ℕ
copies_start counted t start rows = elim (has_bit counted t) [ true ↦ start - 4 * rows | false ↦ 0 ]

-- the column of copies stands before the attribute columns
abbrev pub CopiesBefore : ℕ → ℕ → ℕ → ℕ → Type 0
CopiesBefore counted t start rows = has_bit counted t ≡ true → 4 * rows ≤ start

-- the offset of the column of copies, 0 where a table has none
unfoldable pub counts_of : Table → ℕ
counts_of t = elim t.counted [ true ↦ copy_start t | false ↦ 0 ]

-- the copies of a row by that offset
unfoldable pub copies_in : List ℕ → ℕ → ℕ → ℕ
copies_in file counts y = elim (eqb counts 0) [ true ↦ 1 | false ↦ cell_at file y counts ]

-- the word of a row by that offset lies inside the file
abbrev pub CopyInside : List ℕ → ℕ → ℕ → Type 0
CopyInside file counts y = 0 < counts → counts + (4 * y + 4) ≤ length file

-- the offset is the table's: each row has its copies by it, and at least one
pub record CopiesOf (file : List ℕ) (counts : ℕ) (t : Table) : Type 0 where
  pub inside : (y : ℕ) → y < t.rows → CopyInside file counts y
  pub is : (y : ℕ) → y < t.rows → copies_in file counts y ≡ copies_at file t y
  pub some : (y : ℕ) → y < t.rows → 1 ≤ copies_at file t y
