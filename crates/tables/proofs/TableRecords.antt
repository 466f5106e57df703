-- The table record at an offset of a file, by how many bytes are left there and by its mask, its row count and its copies.
use mathlib.Core.Path.{◌≡◌, sym, ◌∙◌}
use mathlib.Core.Bool.{Bool, true, false}
use mathlib.Core.List.{List}
use Prim.Native.Nat.{ℕ, ◌+◌, ◌*◌, ◌-◌, ◌≤◌, ◌<◌}
use native.Mathlib.Nat.{mul-le-mul}
use native.Mathlib.Omega.{arith}
use lib.ListN.{length, drop, length-drop}
use borrow.Author.Tests.{lt-ltb, le-ltb, eq-eqb, ne_eqb}
use Rattle.semantics.specs.Files.{word_at, arity, column_bytes, copy_bytes, copies_out, record_bytes, broken, whole, table_record, next_table}
use Rattle.std.proofs.Common.{Result, Ok, Err}
use Rattle.refusals.specs.declared.Refusal.{Refusal}
use Rattle.refusals.specs.Refusals.{refusal_of}
use Rattle.tables.specs.declared.Entry.{Entry}
use Rattle.tables.specs.Catalogs.{table_of}
use Rattle.theory.proofs.OutOfRange.{word-drop}
use Rattle.tables.proofs.CountedTables.{copies_there}

-- ---- over the bytes left, the mask, the row count and the copies
module _ (f : Bool) (g : ℕ → ℕ) (o left m n : ℕ) where
  short : left < 10 → table_record f g o left m n ≡ broken 1
  unfolding table_record
  short a = rw (table_record, lt-ltb left 10 a)

  none : 10 ≤ left → arity m ≡ 0 → table_record f g o left m n ≡ broken 3
  unfolding table_record
  none a b = rw (table_record, le-ltb left 10 a, eq-eqb (arity m) 0 b)

  many : 10 ≤ left → 8 < arity m → table_record f g o left m n ≡ broken 3
  unfolding table_record
  many a b = rw (table_record, le-ltb left 10 a, ne_eqb (arity m) 0 (λ e. omega arith), lt-ltb 8 (arity m) b)

  module _ (there : 10 ≤ left) (some : 1 ≤ arity m) (few : arity m ≤ 8) where
    long : 4096 < n → table_record f g o left m n ≡ broken 4
    unfolding table_record
    long b = rw (table_record, le-ltb left 10 there, ne_eqb (arity m) 0 (λ e. omega arith), le-ltb 8 (arity m) few, lt-ltb 4096 n b)

    cut : n ≤ 4096 → left < record_bytes f m n → table_record f g o left m n ≡ broken 1
    unfolding table_record
    cut b c = rw (table_record, le-ltb left 10 there, ne_eqb (arity m) 0 (λ e. omega arith), le-ltb 8 (arity m) few, le-ltb 4096 n b, lt-ltb left (record_bytes f m n) c)

    -- its columns are there
    module _ (low : n ≤ 4096) (long_enough : record_bytes f m n ≤ left) where
      out : copies_out f g n ≡ true → table_record f g o left m n ≡ broken 19
      unfolding table_record
      out b = rw (table_record, le-ltb left 10 there, ne_eqb (arity m) 0 (λ e. omega arith), le-ltb 8 (arity m) few, le-ltb 4096 n low, le-ltb left (record_bytes f m n) long_enough, b)

      fit : copies_out f g n ≡ false → table_record f g o left m n ≡ whole (record { mask = m; rows = n; start = o + 10 + copy_bytes f n; counted = f }) (record_bytes f m n)
      unfolding table_record
      fit b = rw (table_record, le-ltb left 10 there, ne_eqb (arity m) 0 (λ e. omega arith), le-ltb 8 (arity m) few, le-ltb 4096 n low, le-ltb left (record_bytes f m n) long_enough, b)

-- the number of values of a table within the limits
pub values_few : (k n : ℕ) → k ≤ 8 → n ≤ 4096 → k * n ≤ 32768
values_few k n a b = mul-le-mul {n₁ = k} {m₁ = n} {n₂ = 8} {m₂ = 4096} a b

-- its copies take at most 16,384 bytes
pub copies-low : (f : Bool) (n b : ℕ) → b ≡ copy_bytes f n → n ≤ 4096 → b ≤ 16384
unfolding copy_bytes
copies-low true n b e h = omega arith
copies-low false n b e h = omega arith

-- ---- over the file; f says whether the mark is that of a table with copies
module _ (file : List ℕ) (at : ℕ) (f : Bool) where
  abbrev Is : Result Entry Refusal → Type 0
  Is r = r ≡ table_of at (next_table f at (drop at file))

  pub table-short : length file - at < 10 → Is (Err (refusal_of 1 at))
  table-short a = rw (short f (copies_there file at) at (length (drop at file)) (word_at (drop at file) 2) (word_at (drop at file) 6) (rw length-drop a))

  -- its fields are there: a mask m with k ones, and a row count n
  pub record Fields (m n k : ℕ) : Type 0 where
    pub mask : m ≡ word_at file (at + 2)
    pub rows : n ≡ word_at file (at + 6)
    pub ones : k ≡ arity m
    pub there : 10 ≤ length file - at

  pub fields-read : {m n k : ℕ} → m ≡ word_at file (at + 2) → n ≡ word_at file (at + 6) → k ≡ arity m → 10 ≤ length file - at → Fields m n k
  fields-read mask rows ones there = record { mask = mask; rows = rows; ones = ones; there = there }

  module _ {m n k : ℕ} (F : Fields m n k) where
    fields : next_table f at (drop at file) ≡ table_record f (copies_there file at) at (length file - at) m n
    fields = rw (length-drop at file, word-drop file at 2, word-drop file at 6, F.mask, F.rows)

    pub table_none : k ≡ 0 → Is (Err (refusal_of 3 at))
    table_none a = rw (fields, none f (copies_there file at) at (length file - at) m n F.there (sym F.ones ∙ a))

    pub table_many : 8 < k → Is (Err (refusal_of 3 at))
    table_many a = rw (fields, many f (copies_there file at) at (length file - at) m n F.there (rw F.ones at a))

    -- the number of ones is within the limits
    module _ (some : k ≡ 0 → ⊥) (few : k ≤ 8) where
      low : 1 ≤ arity m
      low = omega (arith, F.ones)

      high : arity m ≤ 8
      high = omega (arith, F.ones)

      pub table-long : 4096 < n → Is (Err (refusal_of 4 at))
      table-long a = rw (fields, long f (copies_there file at) at (length file - at) m n F.there low high a)

      -- and that of the rows, whose copies take b bytes
      module _ (short_enough : n ≤ 4096) (b : ℕ) (bytes : b ≡ copy_bytes f n) where
        size : 10 + b + 4 * (k * n) ≡ record_bytes f m n
        unfolding record_bytes column_bytes
        size = rw (F.ones, bytes)

        pub table-cut : length file - at < 10 + b + 4 * (k * n) → Is (Err (refusal_of 1 at))
        table-cut a = rw (fields, cut f (copies_there file at) at (length file - at) m n F.there low high short_enough (rw size at a))

        module _ (enough : 10 + b + 4 * (k * n) ≤ length file - at) where
          pub table-out : copies_out f (copies_there file at) n ≡ true → Is (Err (refusal_of 19 at))
          table-out a = rw (fields, out f (copies_there file at) at (length file - at) m n F.there low high short_enough (rw size at enough) a)

          pub table_fit : copies_out f (copies_there file at) n ≡ false → Is (Ok (record { mask = m; rows = n; start = at + 10 + b; counted = f; size = 10 + b + 4 * (k * n) }))
          table_fit a = rw (fields, fit f (copies_there file at) at (length file - at) m n F.there low high short_enough (rw size at enough) a, size, bytes)
