-- Files that differ only in attribute values.
use Rattle.std.specs.Prelude.{◌≡◌, Bool, false, ◌&&◌, List, ℕ, ◌+◌, length, get_or, ltb, leb}
use Rattle.semantics.specs.Lists.{any}
use Rattle.semantics.specs.Files.{Table, column_bytes, read}

-- the byte at an offset stands in an attribute column of one of the tables
unfoldable pub in_column : List Table → ℕ → Bool
in_column ts i = any (λ t. leb t.start i && ltb i (t.start + column_bytes t.mask t.rows)) ts

-- g has f's length, and f's bytes outside the attribute columns of the tables read in f: copies are outside
pub record SameOutsideColumns (f g : List ℕ) : Type 0 where
  pub size : length f ≡ length g
  pub bytes : (i : ℕ) → in_column (read f).tables i ≡ false → get_or f i 0 ≡ get_or g i 0
