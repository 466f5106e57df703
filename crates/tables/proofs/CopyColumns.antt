-- The copies of a table's rows are those by the offset that the catalog holds.
use mathlib.Core.Path.{◌≡◌, refl, sym, ap, ◌∙◌}
use mathlib.Core.Bool.{true, false}
use mathlib.Core.List.{List, [], ◌∷◌}
use Prim.Native.Nat.{ℕ, zero, suc, ◌+◌, ◌-◌, ◌*◌, ◌≤◌, ◌<◌}
use native.Mathlib.Omega.{arith}
use lib.ListN.{length, get_or, take, drop}
use borrow.Author.Tests.{eq-eqb, ne_eqb}
use Rattle.semantics.specs.Files.{Table, word_at, copy_bytes, copy_start, copies_at}
use Rattle.semantics.specs.Shapes.{no_table}
use Rattle.theory.specs.Elements.{Each}
use Rattle.theory.specs.Rules.{Fitting, Counted}
use Rattle.theory.proofs.Cases.{cases}
use Rattle.theory.proofs.Copies.{copies_one}
use Rattle.words.proofs.Parts.{rest}
use Rattle.tables.specs.Cells.{cell_at}
use Rattle.tables.specs.Copies.{counts_of, copies_in, CopiesOf}

-- ---- what `copies` reads
pub none_held : (file : List ℕ) (counts row : ℕ) → counts ≡ 0 → 1 ≡ copies_in file counts row
unfolding copies_in
none_held file counts row e = rw (eq-eqb counts 0 e, copies_in)

pub copies-read : (file : List ℕ) (counts row v : ℕ) → (counts ≡ 0 → ⊥) → v ≡ word_at (take (length file - counts) (drop counts file)) (4 * row) → v ≡ copies_in file counts row
unfolding copies_in cell_at
copies-read file counts row v some e = e ∙ rw (ne_eqb counts 0 some, copies_in) (ap (λ l. word_at l (4 * row)) (rest file counts))

copies_cell : (file : List ℕ) (counts row : ℕ) → (counts ≡ 0 → ⊥) → copies_in file counts row ≡ cell_at file row counts
unfolding copies_in
copies_cell file counts row some = rw (ne_eqb counts 0 some, copies_in)

-- ---- the offset of a table
counts_none : (t : Table) → t.counted ≡ false → counts_of t ≡ 0
unfolding counts_of
counts_none t e = rw (e, counts_of)

counts_is : (t : Table) (k : ℕ) → t.counted ≡ true → copy_start t ≡ k → counts_of t ≡ k
unfolding counts_of
counts_is t k e s = rw (e, counts_of) s

-- the column of copies ends where the attribute columns start
column-ends : (n : ℕ) (t : Table) → Fitting n t → t.counted ≡ true → (10 ≤ copy_start t) × (copy_start t + 4 * t.rows ≤ n)
unfolding copy_start
column-ends n t f e =
    let b : copy_bytes t.counted t.rows ≡ 4 * t.rows = bytes t.rows in
    omega (arith, b, f.behind, f.inside)
  where
    bytes : (rows : ℕ) → copy_bytes t.counted rows ≡ 4 * rows
    bytes rows = unfold copy_bytes in rw (e, copy_bytes)

exact_cell : (file : List ℕ) (t : Table) → Counted file t → t.counted ≡ true → (y : ℕ) → y < t.rows → cell_at file y (copy_start t) ≡ copies_at file t y
unfolding cell_at
exact_cell file t c e y h = c.exact e y h

pub copies_of_lem : (file : List ℕ) (t : Table) → Fitting (length file) t → Counted file t → CopiesOf file (counts_of t) t
copies_of_lem file t f c =
    cases t.counted
    (λ e. let at = counts_is t (copy_start t) e refl in
    let ends = column-ends (length file) t f e in
    record {
      inside = λ y h some. omega (arith, at, ends.1, h);
      is = λ y h. copies_cell file (counts_of t) y (λ z. omega (arith, at, ends.0, z)) ∙ ap (cell_at file y) at ∙ exact_cell file t c e y h;
      some = c.some;
    })
    (λ e. let none = counts_none t e in
    record {
      inside = λ y h some. absurd (omega (arith, none, some));
      is = λ y h. sym (none_held file (counts_of t) y none) ∙ sym (copies_one file t y e);
      some = c.some;
    })

-- of tables by number; one past the last table names no row
copies-past : (file : List ℕ) → CopiesOf file (counts_of no_table) no_table
copies-past file = record { inside = λ y h some. absurd (omega (arith, h)); is = λ y h. absurd (omega (arith, h)); some = λ y h. absurd (omega (arith, h)) }

pub copies_each : {file : List ℕ} (ts : List Table) → Each (Fitting (length file)) ts → Each (Counted file) ts → (t : ℕ) → CopiesOf file (counts_of (get_or ts t no_table)) (get_or ts t no_table)
copies_each [] f c t = copies-past _
copies_each (u ∷ ts) f c zero = copies_of_lem _ u f.0 c.0
copies_each (u ∷ ts) f c (suc t) = copies_each ts f.1 c.1 t
