-- The copies of a table: whether each row's are in range, read row after row; and what they decide of its record.
use mathlib.Core.Path.{◌≡◌, refl, ap, ◌∙◌}
use mathlib.Core.Bool.{Bool, true, false, not, ◌&&◌, ◌||◌}
use mathlib.Core.List.{List}
use Prim.Native.Nat.{ℕ, zero, suc, ◌+◌, ◌*◌, ◌-◌}
use native.Mathlib.Numerals.{add-one}
use lib.ListN.{length, take, drop}
use lib.Seq.{drop-drop}
use Rattle.std.specs.List.{list_all, range_with_len}
use Rattle.semantics.specs.Lists.{any, from, up_to}
use Rattle.semantics.specs.Files.{word_at, copies_fit, copies_out}
use Rattle.words.proofs.Parts.{rest}

-- every row passes where none fails
none_fails : (test : ℕ → Bool) (a n : ℕ) → list_all test (range_with_len a n) ≡ not (any (λ y. not (test y)) (from a n))
none_fails test a zero = refl
none_fails test a (suc n) = ap (λ b. test a && b) (ap (λ k. list_all test (range_with_len k n)) (add-one a) ∙ none_fails test (suc a) n) ∙ both (test a) (any (λ y. not (test y)) (from (suc a) n))
  where
    both : (b c : Bool) → (b && not c) ≡ not (not b || c)
    both true c = refl
    both false c = refl

-- whether the copies of the first rows are in range
pub all_fit : (column : List ℕ) (rows : ℕ) → list_all (λ y. copies_fit (word_at column (4 * y))) (range_with_len 0 rows) ≡ not (copies_out true (λ y. word_at column (4 * y)) rows)
unfolding copies_out up_to
all_fit column rows = none_fails (λ y. copies_fit (word_at column (4 * y))) 0 rows

-- ---- the record at an offset of the file; f says whether its mark is that of a table with copies
-- the copies of a row, behind the ten bytes of the record
abbrev pub copies_there : List ℕ → ℕ → ℕ → ℕ
copies_there file at y = word_at (drop 10 (drop at file)) (4 * y)

pub none_there : (file : List ℕ) (at n : ℕ) (f : Bool) → f ≡ false → copies_out f (copies_there file at) n ≡ false
unfolding copies_out
none_there file at n f e = rw (e, copies_out)

-- b tells whether they are in range
module _ (file : List ℕ) (at n : ℕ) (f b : Bool) (counted : f ≡ true) (fit : b ≡ not (copies_out true (λ y. word_at (take (length file - (at + 10)) (drop (at + 10) file)) (4 * y)) n)) where
  out_is : copies_out f (copies_there file at) n ≡ not b
  unfolding copies_out
  out_is = rw (counted, fit, rest file (at + 10), drop-drop 10 at file) (twice (copies_out true (λ y. word_at (drop (at + 10) file) (4 * y)) n))
    where
      twice : (b : Bool) → b ≡ not (not b)
      twice true = refl
      twice false = refl

  pub out_there : b ≡ false → copies_out f (copies_there file at) n ≡ true
  out_there e = out_is ∙ ap not e

  pub in_there : b ≡ true → copies_out f (copies_there file at) n ≡ false
  in_there e = out_is ∙ ap not e
