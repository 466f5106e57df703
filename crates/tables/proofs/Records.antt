-- The record at an offset of a file, by its mark; and its mark, by how many bytes are left there and by the tests of two bytes.
use mathlib.Core.Path.{◌≡◌, sym, ap, ap₂, ◌∙◌}
use mathlib.Core.Bool.{Bool, true, false, ◌&&◌}
use mathlib.Core.List.{List}
use Prim.Native.Nat.{ℕ, ◌-◌, ◌≤◌, ◌<◌}
use lib.ListN.{length, take, drop, get_or}
use lib.Seq.{get_or-take}
use native.Mathlib.Omega.{arith}
use Rattle.std.specs.Array.{IsFirstChunk}
use lib.Dec.{eqb}
use borrow.Author.Tests.{lt-ltb, le-ltb, le-leb, lt-leb, eqb-true}
use Rattle.semantics.specs.Files.{Mark, cut_mark, table_mark, plan_mark, other_mark, mark_of, next_mark, next_table, plan_record}
use Rattle.std.proofs.Common.{Result, Err}
use Rattle.refusals.specs.Refusals.{refusal_of}
use Rattle.refusals.specs.declared.Refusal.{Refusal}
use Rattle.tables.specs.declared.Record.{Record}
use Rattle.tables.specs.declared.Record.TheVariants as kind
use Rattle.theory.proofs.Cases.{cases, and_left, and_right}
use Rattle.words.proofs.Parts.{rest}
use Rattle.tables.specs.Catalogs.{end_of, table_of, found, limited_table, record_of}

-- ---- a table record after n tables
pub limited_full : (n : ℕ) (f : Bool) (o : ℕ) (l : List ℕ) → 16 ≤ n → limited_table n f o l ≡ Err (refusal_of 5 o)
unfolding limited_table
limited_full n f o l a = rw (limited_table, le-leb 16 n a)

pub limited-rules : (n : ℕ) (f : Bool) (o : ℕ) (l : List ℕ) → n < 16 → limited_table n f o l ≡ table_of o (next_table f o l)
unfolding limited_table
limited-rules n f o l a = rw (limited_table, lt-leb 16 n a)

-- ---- the record of each mark
module _ (n size o : ℕ) (l : List ℕ) where
  pub of_cut : next_mark l ≡ cut_mark → record_of n size o l ≡ Err (refusal_of 1 o)
  unfolding record_of
  of_cut m = rw (record_of, m)

  pub of-table : (f : Bool) → next_mark l ≡ table_mark f → record_of n size o l ≡ found kind.Table (limited_table n f o l)
  unfolding record_of
  of-table f m = rw (record_of, m)

  pub of-plan : next_mark l ≡ plan_mark → record_of n size o l ≡ found kind.Plan (end_of size (plan_record o l))
  unfolding record_of
  of-plan m = rw (record_of, m)

  pub of_other : next_mark l ≡ other_mark → record_of n size o l ≡ Err (refusal_of 2 o)
  unfolding record_of
  of_other m = rw (record_of, m)

-- ---- the mark of two bytes
mark-cut : (left a b : ℕ) → left < 2 → mark_of left a b ≡ cut_mark
unfolding mark_of
mark-cut left a b h = rw (mark_of, lt-ltb left 2 h)

-- two bytes are not those of a mark
not_both : (a b x y : ℕ) → (a ≡ x → b ≡ y → ⊥) → (eqb a x && eqb b y) ≡ false
not_both a b x y h = cases (eqb a x && eqb b y) (λ e. absurd (h (eqb-true a x (and_left (eqb a x) (eqb b y) e)) (eqb-true b y (and_right (eqb a x) (eqb b y) e)))) (λ e. e)

module _ (left a b : ℕ) (there : 2 ≤ left) where
  mark-table : a ≡ 84 → b ≡ 66 → mark_of left a b ≡ table_mark false
  unfolding mark_of
  mark-table e f = ap₂ (mark_of left) e f ∙ rw (mark_of, le-ltb left 2 there)

  mark-plan : a ≡ 80 → b ≡ 76 → mark_of left a b ≡ plan_mark
  unfolding mark_of
  mark-plan e f = ap₂ (mark_of left) e f ∙ rw (mark_of, le-ltb left 2 there)

  mark-counted : a ≡ 84 → b ≡ 67 → mark_of left a b ≡ table_mark true
  unfolding mark_of
  mark-counted e f = ap₂ (mark_of left) e f ∙ rw (mark_of, le-ltb left 2 there)

  mark_other : (a ≡ 84 → b ≡ 66 → ⊥) → (a ≡ 80 → b ≡ 76 → ⊥) → (a ≡ 84 → b ≡ 67 → ⊥) → mark_of left a b ≡ other_mark
  unfolding mark_of
  mark_other t p c = rw (mark_of, le-ltb left 2 there, not_both a b 84 66 t, not_both a b 80 76 p, not_both a b 84 67 c)

-- ---- over the bytes left of the file, after so many tables
module _ (count : ℕ) (file : List ℕ) (at : ℕ) where
  abbrev left : List ℕ
  left = take (length file - at) (drop at file)

  abbrev pub RecordIs : Result Record Refusal → Type 0
  RecordIs r = r ≡ record_of count (length file) at (drop at file)

  pub record-cut : length left < 2 → RecordIs (Err (refusal_of 1 at))
  record-cut h = sym (of_cut count (length file) at (drop at file) (mark-cut _ _ _ (rw (rest file at) at h)))

  -- x has the first two bytes
  module _ (x : List ℕ) (chunk : IsFirstChunk left x 2) where
    of : {mark : Mark} → mark_of (length left) (get_or x 0 0) (get_or x 1 0) ≡ mark → next_mark (drop at file) ≡ mark
    of e =
        ap next_mark (sym (rest file at))
        ∙ ap₂ (mark_of (length left)) (sym (place 0 (omega arith))) (sym (place 1 (omega arith)))
        ∙ e
      where
        place : (i : ℕ) → i < 2 → get_or x i 0 ≡ get_or left i 0
        place i h = ap (λ l. get_or l i 0) chunk.same ∙ get_or-take 2 left i 0 h

    pub record-table : get_or x 0 0 ≡ 84 → get_or x 1 0 ≡ 66 → RecordIs (found kind.Table (limited_table count false at (drop at file)))
    record-table e f = sym (of-table count (length file) at (drop at file) false (of (mark-table _ _ _ chunk.enough e f)))

    pub record-plan : get_or x 0 0 ≡ 80 → get_or x 1 0 ≡ 76 → RecordIs (found kind.Plan (end_of (length file) (plan_record at (drop at file))))
    record-plan e f = sym (of-plan count (length file) at (drop at file) (of (mark-plan _ _ _ chunk.enough e f)))

    pub record-counted : get_or x 0 0 ≡ 84 → get_or x 1 0 ≡ 67 → RecordIs (found kind.Table (limited_table count true at (drop at file)))
    record-counted e f = sym (of-table count (length file) at (drop at file) true (of (mark-counted _ _ _ chunk.enough e f)))

    pub record_other : (get_or x 0 0 ≡ 84 → get_or x 1 0 ≡ 66 → ⊥) → (get_or x 0 0 ≡ 80 → get_or x 1 0 ≡ 76 → ⊥) → (get_or x 0 0 ≡ 84 → get_or x 1 0 ≡ 67 → ⊥) → RecordIs (Err (refusal_of 2 at))
    record_other t p c = sym (of_other count (length file) at (drop at file) (of (mark_other _ _ _ chunk.enough t p c)))
