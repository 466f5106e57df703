-- The words of a column.
use Rattle.std.specs.Prelude.{List, ℕ, ◌*◌, drop}
use Rattle.semantics.specs.Files.{word_at}

-- the word of a row in the column that starts at an offset of the file
unfoldable pub cell_at : List ℕ → ℕ → ℕ → ℕ
cell_at file row at = word_at (drop at file) (4 * row)
