-- Request U9: rows with copies, and the same rows written out one behind the other.
use Rattle.std.specs.Prelude.{◌≡◌, List, ℕ, ◌<◌, length, get_or}
use Rattle.semantics.specs.Lists.{up_to}
use Rattle.semantics.specs.Results.{Base}
use Rattle.theory.specs.Pairs.{row_of, pairs_of}

-- the pairs of all rows of a table, in their order
abbrev pub all_pairs : Base → ℕ → List ℕ
all_pairs D t = pairs_of D t (up_to (D.shape.rows t))

-- E has the tables of D with every row written out as often as it has copies: a row for each pair, in the order of pairs
pub record WrittenOut (D E : Base) : Type 0 where
  pub has : (t a : ℕ) → E.shape.has t a ≡ D.shape.has t a
  pub rows : (t : ℕ) → E.shape.rows t ≡ length (all_pairs D t)
  pub once : (t y : ℕ) → y < E.shape.rows t → E.copies t y ≡ 1
  pub values : (t a y : ℕ) → y < E.shape.rows t → E.val t a y ≡ D.val t a (row_of (get_or (all_pairs D t) y 0))

-- such a base: a row for each pair
unfoldable pub row_per_pair : Base → Base
row_per_pair D =
    record {
      shape = record { rows = λ t. length (all_pairs D t); has = D.shape.has };
      copies = λ t y. 1;
      val = λ t a y. D.val t a (row_of (get_or (all_pairs D t) y 0));
    }
