-- Request U9: the copies of the rows of a table that was read are 1 to 65,535.
use mathlib.Core.Path.{◌≡◌, refl, sym, ap, ◌∙◌}
use mathlib.Core.Bool.{Bool, true, false, not}
use mathlib.Core.List.{List, [], ◌∷◌, ◌++◌}
use Prim.Native.Nat.{ℕ, zero, suc, ◌+◌, ◌*◌, ◌≤◌, ◌<◌, min}
use native.Mathlib.Omega.{arith}
use lib.ListN.{length, drop}
use lib.Seq.{drop-drop}
use lib.Dec.{ltb}
use borrow.Author.Tests.{ltb-true}
use Rattle.theory.specs.Elements.{Each}
use Rattle.theory.specs.Rules.{Counted}
use Rattle.semantics.specs.Lists.{any, from, up_to}
use Rattle.semantics.specs.Files.{Table, word_at, copy_start, most_copies, copies_fit, copies_at, copies_out, whole, next_mark, next_table, read_from, read}
use Rattle.theory.proofs.Cases.{cases, and_left, and_right, not-false, or-false_left, or-false_right}
use Rattle.theory.proofs.Lists.{Each-append}
use Rattle.theory.proofs.Numbers.{from_at}
use Rattle.theory.proofs.Reading.{mark-cases, record-cases, WholeRecord, whole_is, whole_fields}

-- ---- whatever the bytes
-- a row has at most 65,535 copies
pub copies_few : (bytes : List ℕ) (t : Table) (y : ℕ) → copies_at bytes t y ≤ most_copies
unfolding copies_at
copies_few bytes t y = cases t.counted (λ h. rw (h, copies_at) (omega arith)) (λ h. rw (h, copies_at) (omega arith))

-- and one copy in a table without a column of them
pub copies_one : (bytes : List ℕ) (t : Table) (y : ℕ) → t.counted ≡ false → copies_at bytes t y ≡ 1
unfolding copies_at
copies_one bytes t y h = rw (h, copies_at)

-- else the word of the row, held
copies_held : (bytes : List ℕ) (t : Table) (y w : ℕ) → t.counted ≡ true → word_at (drop (copy_start t) bytes) (4 * y) ≡ w → copies_at bytes t y ≡ min w most_copies
unfolding copies_at
copies_held bytes t y w c e = rw (c, copies_at) (ap (λ v. min v most_copies) e)

-- ---- of a table that was read
any_none : {A : Type 0} (q : A → Bool) (xs : List A) → any q xs ≡ false → Each (λ x. q x ≡ false) xs
any_none q [] e = tt
any_none q (x ∷ xs) e = (or-false_left (q x) (any q xs) e, any_none q xs (or-false_right (q x) (any q xs) e))

-- no count is out of range, so none is
fit_each : (copies : ℕ → ℕ) (n y : ℕ) → copies_out true copies n ≡ false → y < n → copies_fit (copies y) ≡ true
unfolding copies_out up_to
fit_each copies n y e h = not-false (copies_fit (copies y)) (from_at (λ y. not (copies_fit (copies y)) ≡ false) 0 n y (any_none (λ y. not (copies_fit (copies y))) (from 0 n) e) (omega arith) (omega arith))

fit-range : (c : ℕ) → copies_fit c ≡ true → (1 ≤ c) × (c ≤ most_copies)
unfolding copies_fit
fit-range c e = omega (arith, ltb-true 0 c (and_left (ltb 0 c) (ltb c 65536) e), ltb-true c 65536 (and_right (ltb 0 c) (ltb c 65536) e))

-- the column of copies stands behind the ten bytes of mark and fields
copy_start_lem : (o left : ℕ) (t : Table) (size : ℕ) → WholeRecord o left t size → copy_start t ≡ o + 10
unfolding copy_start
copy_start_lem o left t size w = omega (arith, w.starts)

whole-counted : (bytes : List ℕ) (counted : Bool) (o : ℕ) (l : List ℕ) (t : Table) (size : ℕ) → l ≡ drop o bytes → next_table counted o l ≡ whole t size → Counted bytes t
whole-counted bytes counted o l t size q e =
    let w = whole_is counted o l t size e in
    let f = whole_fields counted o l t size e in
    let column : drop (copy_start t) bytes ≡ drop 10 l = ap (λ k. drop k bytes) (copy_start_lem o (length l) t size w) ∙ sym (ap (drop 10) q ∙ drop-drop 10 o bytes) in
    let range : t.counted ≡ true → (y : ℕ) → y < t.rows → (1 ≤ word_at (drop (copy_start t) bytes) (4 * y)) × (word_at (drop (copy_start t) bytes) (4 * y) ≤ most_copies)
    = λ c y h. rw column (fit-range (word_at (drop 10 l) (4 * y)) (fit_each (λ y. word_at (drop 10 l) (4 * y)) (word_at l 6) y (rw (sym f.marked ∙ c) at f.copies) (rw f.rows at h))) in
    record {
      some = λ y h. cases t.counted (λ c. omega (arith, range c y h, copies_held bytes t y _ c refl)) (λ c. omega (arith, copies_one bytes t y c));
      exact = λ c y h. omega (arith, range c y h, copies_held bytes t y _ c refl);
    }

counted_from : (bytes : List ℕ) (k o : ℕ) (l : List ℕ) (ts : List Table) → l ≡ drop o bytes → Each (Counted bytes) ts → Each (Counted bytes) (read_from k o l ts).tables
unfolding read_from
counted_from bytes zero o l ts q e = mark-cases (next_mark l) (λ m. rw (m, read_from) e) (λ c m. rw (m, read_from) e) (λ m. rw (m, read_from) e) (λ m. rw (m, read_from) e)
counted_from bytes (suc k) o l ts q e =
    mark-cases (next_mark l)
    (λ m. rw (m, read_from) e)
    (λ c m. record-cases (next_table c o l)
    (λ n r. rw (m, r, read_from) e)
    (λ t size r. rw (m, r, read_from) (counted_from bytes k (o + size) (drop size l) (ts ++ (t ∷ [])) (ap (drop size) q ∙ drop-drop size o bytes) (Each-append (Counted bytes) ts (t ∷ []) e (whole-counted bytes c o l t size q r, tt)))))
    (λ m. rw (m, read_from) e)
    (λ m. rw (m, read_from) e)

pub tables-counted : (bytes : List ℕ) → Each (Counted bytes) (read bytes).tables
unfolding read
tables-counted bytes = counted_from bytes 16 0 bytes [] refl tt
