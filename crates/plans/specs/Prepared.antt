-- What the code may rely on once a file is admitted: its catalog, its schedule and the words that it needs.
use Rattle.std.specs.Prelude.{◌≡◌, List, ℕ, ◌+◌, ◌<◌, ◌≤◌, length, get_or}
use Rattle.theory.specs.Elements.{Each}
use Rattle.semantics.specs.Files.{Table, has_bit}
use Rattle.theory.specs.Rules.{Fitting, Counted, WithinRules, joins}
use Rattle.semantics.specs.Plans.{Plan, tables, leftmost}
use Rattle.semantics.specs.Shapes.{no_table, shape_of}
use Rattle.words.specs.Arrays.{padded}
use Rattle.storage.specs.Layout.{storage_size, storage}
use Rattle.storage.specs.Positions.{top_at, WordsAt}
use Rattle.tables.specs.declared.Catalog.{Catalog}
use Rattle.tables.specs.Catalogs.{table_at, columns_of, counts_at, CopiesAhead}
use Rattle.tables.specs.Copies.{CopiesOf}
use Rattle.scheduling.specs.declared.Schedule.{Schedule}
use Rattle.scheduling.specs.Schedules.{row_counts, turns_in, top_in}
use Rattle.scheduling.specs.ByPosition.{JoinsPlaced}

-- the arrays of the catalog have 16 places each
pub record Sized (c : Catalog) : Type 0 where
  pub masks : length c.masks ≡ 16
  pub rows : length c.rows ≡ 16
  pub starts : length c.starts ≡ 16

pub record Prepared (bytes : List ℕ) (words : ℕ) (c : Catalog) (s : Schedule) (ts : List Table) (p : Plan) : Type 0 where
  pub within : WithinRules ts p
  pub few : length ts ≤ 16
  pub fits : Each (Fitting (length bytes)) ts
  pub counted : Each (Counted bytes) ts
  -- the catalog
  pub masks : (t a : ℕ) → (shape_of ts).has t a ≡ has_bit (get_or c.masks t 0) a
  pub rows : (t : ℕ) → get_or c.rows t 0 ≡ (shape_of ts).rows t
  pub table : (t : ℕ) → table_at c t ≡ columns_of (get_or ts t no_table)
  pub copies : (t : ℕ) → CopiesOf bytes (counts_at c t) (get_or ts t no_table)
  pub ahead : (t : ℕ) → CopiesAhead c t
  -- the schedule: its joins in post-order, its tables in plan order, and each join by its position
  pub count : s.joins ≡ joins p
  pub turns : s.turns ≡ padded (turns_in p 0)
  pub top : top_in s.turns s.joins ≡ top_at p 0
  pub named : s.tables ≡ length (tables p)
  pub order : s.order ≡ padded (tables p)
  pub positions : JoinsPlaced s c.masks (row_counts c.rows) p 0 0
  -- the words of the joins, and behind them the storage of the first-named table
  pub used : s.used ≡ storage (row_counts c.rows) p
  pub first : WordsAt s.layout 0 s.used (get_or c.rows (leftmost p) 0)
  pub need : s.used + storage_size (get_or c.rows (leftmost p) 0) ≤ words
  -- what the arrays hold is low
  pub sized : Sized c
  pub rows-low : (t : ℕ) → get_or c.rows t 0 ≤ 4096
  pub order-low : (i : ℕ) → get_or s.order i 0 < 16
  pub turns-low : (j : ℕ) → get_or s.turns j 0 < 16
  pub parents-low : (i : ℕ) → get_or s.layout.parents i 0 < 16
  pub used_low : s.used ≤ 1048576
