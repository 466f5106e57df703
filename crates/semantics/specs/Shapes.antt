-- What a plan says of the tables' masks and row counts alone: join attributes, well-behaved plans, the scratch needed (answer
-- 10) and the width of the output. Nothing here can see an attribute value.
use Rattle.std.specs.Prelude.{Bool, ◌&&◌, List, ℕ, ◌+◌, ◌*◌, ◌/◌, min, max, length, get_or}
use Rattle.std.proofs.Math.Option.{Option, none, some}
use Rattle.semantics.specs.Lists.{any, filter, sum, up_to}
use Rattle.semantics.specs.Files.{Table, table_with, has_bit}
use Rattle.semantics.specs.Plans.{Plan, scan, join, tables, leftmost}

-- the tables by number, without their values: the row count, and which attributes the table has
pub record Shape : Type 0 where
  pub rows : ℕ → ℕ
  pub has : ℕ → ℕ → Bool

-- the attribute numbers, rising
unfoldable pub attributes : List ℕ
attributes = up_to 32

abbrev pub no_table : Table
no_table = table_with 0 0 0

-- tables "numbered from 0 in file order"
unfoldable pub shape_of : List Table → Shape
shape_of ts = record { rows = λ t. (get_or ts t no_table).rows; has = λ t a. has_bit (get_or ts t no_table).mask a }

-- the first of two indices where there is one
abbrev pub or_else : Option ℕ → Option ℕ → Option ℕ
or_else none o = o
or_else (some i) o = some i

-- a figure summed over the joins of a plan
abbrev pub over_joins : (Plan → Plan → ℕ) → Plan → ℕ
over_joins f (scan t) = 0
over_joins f (join l r) = f l r + (over_joins f l + over_joins f r)

module _ (S : Shape) where
  -- some table of the plan has the attribute
  unfoldable pub holds : Plan → ℕ → Bool
  holds p a = any (λ t. S.has t a) (tables p)

  -- the attribute is found both in some table on the left and in some table on the right
  unfoldable pub shared : Plan → Plan → ℕ → Bool
  shared l r a = holds l a && holds r a

  -- "the join attributes of a join", rising
  unfoldable pub join_attributes : Plan → Plan → List ℕ
  join_attributes l r = filter (shared l r) attributes

  -- a: the attributes of the widest join key, 0 without joins
  abbrev pub widest_key : Plan → ℕ
  widest_key (scan t) = 0
  widest_key (join l r) = max (length (join_attributes l r)) (max (widest_key l) (widest_key r))

  -- the row count of the left plan's leftmost table, summed over joins
  unfoldable pub left_rows : Plan → ℕ
  left_rows p = over_joins (λ l r. S.rows (leftmost l)) p

-- IN: the rows of all tables
unfoldable pub rows_in : List Table → ℕ
rows_in ts = sum (λ t. t.rows) ts

-- w: the number of attributes in all tables together
unfoldable pub width : List Table → ℕ
width ts = length (filter (λ a. any (λ t. has_bit t.mask a) ts) attributes)

-- "the words needed": that many for each row, by request U7, and one more for each row of the left plan's leftmost table at each join
abbrev pub words_per_row : ℕ
words_per_row = 10

unfoldable pub scratch_need : List Table → Plan → ℕ
scratch_need ts p = words_per_row * rows_in ts + left_rows (shape_of ts) p

-- the rows of w values that an output of that many words fits
unfoldable pub output_fits : ℕ → ℕ → ℕ
output_fits w words = min words 1048576 / w
