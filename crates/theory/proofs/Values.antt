-- Up to 10 no attribute value counts: two files that differ only inside attribute columns get the same verdict.
use mathlib.Core.Path.{◌≡◌, refl, sym, ap, ap₂, ◌∙◌}
use mathlib.Core.Logic.{◌⊎◌, inl, inr}
use mathlib.Core.Bool.{Bool, true, false, ◌&&◌, ◌||◌, not}
use mathlib.Core.List.{List, [], ◌∷◌, ◌++◌, append_assoc}
use Prim.Native.Nat.{ℕ, zero, suc, ◌+◌, ◌-◌, ◌*◌, ◌≤◌, ◌<◌}
use native.Mathlib.Omega.{arith}
use native.Mathlib.Nat.{zero-add}
use lib.ListN.{length, drop, get_or, length-drop}
use lib.Seq.{get_or-drop, ext_get_or}
use lib.Dec.{eqb, ltb, leb}
use borrow.Author.Tests.{le-ltb, lt-leb}
use Rattle.theory.specs.Elements.{Each}
use Rattle.semantics.specs.Lists.{up_to, from}
use Rattle.semantics.specs.Files.{Table, arity, column_bytes, word_at, copy_bytes, copies_fit, next_mark, copies_out, record_bytes, table_record, next_table, Reading, read_from, read}
use Rattle.theory.specs.AlikeFiles.{in_column, SameOutsideColumns}
use Rattle.semantics.specs.Plans.{Plan}
use Rattle.semantics.specs.Shapes.{width, output_fits}
use Rattle.semantics.specs.Results.{Base, base_of, results}
use Rattle.semantics.specs.Outcome.{Outcome, read_verdict, rules_verdict, scratch_verdict, verdict, joined_answer, join_outcome, outcome}
use Rattle.theory.proofs.Cases.{cases}
use Rattle.theory.proofs.Lists.{any_append, any_each, Each-map, Each-append}
use Rattle.theory.proofs.Numbers.{from-lt}
use Rattle.theory.proofs.Reading.{mark-cases, record-cases, WholeRecord, whole_is, WholeFields, whole_fields, reads_on}
use Rattle.theory.proofs.Rules.{verdict-cases}

-- ---- offsets outside columns
-- the columns of the table end at i or before it
abbrev Ended : ℕ → Table → Type 0
Ended i t = t.start + column_bytes t.mask t.rows ≤ i

ended : (ts : List Table) (i : ℕ) → Each (Ended i) ts → in_column ts i ≡ false
unfolding in_column
ended [] i e = refl
ended (t ∷ ts) i e = rw (le-ltb i (t.start + column_bytes t.mask t.rows) e.0) (cases (leb t.start i) (λ h. rw h (ended ts i e.1)) (λ h. rw h (ended ts i e.1)))

ahead : (ts : List Table) (i : ℕ) → Each (λ t. i < t.start) ts → in_column ts i ≡ false
unfolding in_column
ahead [] i e = refl
ahead (t ∷ ts) i e = rw (lt-leb t.start i e.0) (ahead ts i e.1)

outside : (ts us : List Table) (i : ℕ) → Each (Ended i) ts → Each (λ t. i < t.start) us → in_column (ts ++ us) i ≡ false
unfolding in_column
outside ts us i e h =
    any_append (λ t. leb t.start i && ltb i (t.start + column_bytes t.mask t.rows)) ts us ∙ ap₂ (λ a b. a || b) (ended ts i e) (ahead us i h)

-- ---- a record is judged by its length and its first bytes: ten, and its copies
record SameHead (n : ℕ) (l m : List ℕ) : Type 0 where
  pub size : length l ≡ length m
  pub bytes : (i : ℕ) → i < n → get_or l i 0 ≡ get_or m i 0

same_word : {n : ℕ} {l m : List ℕ} (at : ℕ) → at + 3 < n → SameHead n l m → word_at l at ≡ word_at m at
unfolding word_at
same_word at h s = omega (arith, s.bytes at (omega arith), s.bytes (at + 1) (omega arith), s.bytes (at + 2) (omega arith), s.bytes (at + 3) (omega arith))

same-mark : (l m : List ℕ) → SameHead 10 l m → next_mark l ≡ next_mark m
same-mark l m s = rw (s.size, s.bytes 0 (omega arith), s.bytes 1 (omega arith))

-- the copies that a record gives count only where it has copies
same_out : (counted : Bool) (n : ℕ) (f g : ℕ → ℕ) → (counted ≡ true → Each (λ y. f y ≡ g y) (up_to n)) → copies_out counted f n ≡ copies_out counted g n
unfolding copies_out
same_out true n f g e = any_each (λ y. not (copies_fit (f y))) (λ y. not (copies_fit (g y))) (up_to n) (Each-map (λ y. f y ≡ g y) (λ y. not (copies_fit (f y)) ≡ not (copies_fit (g y))) (λ y q. ap (λ c. not (copies_fit c)) q) (up_to n) (e refl))
same_out false n f g e = refl

same-copies : (counted : Bool) (f g : ℕ → ℕ) (o left k n : ℕ) → copies_out counted f n ≡ copies_out counted g n → table_record counted f o left k n ≡ table_record counted g o left k n
unfolding table_record
same-copies counted f g o left k n e =
    cases (ltb left 10) (λ a. rw (a, table_record))
    (λ a. cases (eqb (arity k) 0 || ltb 8 (arity k)) (λ b. rw (a, b, table_record))
    (λ b. cases (ltb 4096 n) (λ c. rw (a, b, c, table_record))
    (λ c. cases (ltb left (record_bytes counted k n)) (λ d. rw (a, b, c, d, table_record)) (λ d. rw (a, b, c, d, e, table_record)))))

-- the copies of n rows stand behind the ten bytes
words_same : (n : ℕ) (l m : List ℕ) → SameHead (10 + 4 * n) l m → Each (λ y. word_at (drop 10 l) (4 * y) ≡ word_at (drop 10 m) (4 * y)) (up_to n)
unfolding up_to
words_same n l m h =
    let behind : SameHead (4 * n) (drop 10 l) (drop 10 m)
    = record { size = length-drop 10 l ∙ ap (λ k. k - 10) h.size ∙ sym (length-drop 10 m); bytes = λ i g. get_or-drop 10 l i 0 ∙ h.bytes (10 + i) (omega arith) ∙ sym (get_or-drop 10 m i 0) } in
    Each-map (λ y. (0 ≤ y) × (y < 0 + n)) (λ y. word_at (drop 10 l) (4 * y) ≡ word_at (drop 10 m) (4 * y)) (λ y q. same_word (4 * y) (omega (arith, q.1)) behind) (from 0 n) (from-lt 0 n)

counted-head : (counted : Bool) (n : ℕ) {l m : List ℕ} → counted ≡ true → SameHead (10 + copy_bytes counted n) l m → SameHead (10 + 4 * n) l m
unfolding copy_bytes
counted-head counted n e h = rw (e, copy_bytes) at h

-- a table taken whole
same-table : (counted : Bool) (o : ℕ) (l m : List ℕ) (t : Table) → WholeFields counted l t → SameHead 10 l m → SameHead (10 + copy_bytes t.counted t.rows) l m → next_table counted o l ≡ next_table counted o m
same-table counted o l m t w s r =
    let all : SameHead (10 + copy_bytes counted (word_at l 6)) l m = rw (w.marked, w.rows) at r in
    rw (← s.size, ← same_word {l = l} {m = m} 2 (omega arith) s, ← same_word {l = l} {m = m} 6 (omega arith) s)
    (same-copies counted (λ y. word_at (drop 10 l) (4 * y)) (λ y. word_at (drop 10 m) (4 * y)) o (length l) (word_at l 2) (word_at l 6)
    (same_out counted (word_at l 6) (λ y. word_at (drop 10 l) (4 * y)) (λ y. word_at (drop 10 m) (4 * y)) (λ e. words_same (word_at l 6) l m (counted-head counted (word_at l 6) e all))))

-- ---- the reading
-- from offset o on m has l's length, and l's bytes outside the columns of the tables of the reading r; those of ts end before o
record Alike (o : ℕ) (l m : List ℕ) (ts : List Table) (r : Reading) : Type 0 where
  pub size : length l ≡ length m
  pub bytes : (i : ℕ) → in_column r.tables (o + i) ≡ false → get_or l i 0 ≡ get_or m i 0
  pub before : Each (Ended o) ts

ended-later : (o i : ℕ) (ts : List Table) → Each (Ended o) ts → Each (Ended (o + i)) ts
ended-later o i ts e = Each-map (Ended o) (Ended (o + i)) (λ t h. omega arith) ts e

-- where no table comes any more, all bytes are the same
all_same : (o : ℕ) (l m : List ℕ) (ts : List Table) (r : Reading) → Alike o l m ts r → r.tables ≡ ts → l ≡ m
all_same o l m ts r a e = ext_get_or 0 l m a.size (λ i h. a.bytes i (ap (λ us. in_column us (o + i)) e ∙ ended ts (o + i) (ended-later o i ts a.before)))

same_head : (k o : ℕ) (l m : List ℕ) (ts : List Table) → Alike o l m ts (read_from k o l ts) → SameHead 10 l m
same_head k o l m ts a =
    let r = reads_on k o l ts in
    record {
      size = a.size;
      bytes = λ i h. a.bytes i
          (ap (λ us. in_column us (o + i)) r.tables
          ∙ outside ts r.more (o + i) (ended-later o i ts a.before) (Each-map (λ t. o + 10 ≤ t.start) (λ t. o + i < t.start) (λ t g. omega arith) r.more r.behind));
    }

-- where a table was taken whole, the bytes before its attribute columns
head-table : (k o : ℕ) (l m : List ℕ) (ts : List Table) (t : Table) (size : ℕ) → WholeRecord o (length l) t size
    → Alike o l m ts (read_from k (o + size) (drop size l) (ts ++ (t ∷ []))) → SameHead (10 + copy_bytes t.counted t.rows) l m
head-table k o l m ts t size w a =
    let r = reads_on k (o + size) (drop size l) (ts ++ (t ∷ [])) in
    record {
      size = a.size;
      bytes = λ i h. a.bytes i
          (ap (λ us. in_column us (o + i)) (r.tables ∙ append_assoc ts (t ∷ []) r.more)
          ∙ outside ts (t ∷ r.more) (o + i) (ended-later o i ts a.before) (omega (arith, w.starts), Each-map (λ t. o + size + 10 ≤ t.start) (λ t. o + i < t.start) (λ t g. omega (arith, w.takes)) r.more r.behind));
    }

-- behind a table that was taken whole
behind-table : (o : ℕ) (l m : List ℕ) (ts : List Table) (t : Table) (size : ℕ) (r : Reading) → WholeRecord o (length l) t size → Alike o l m ts r → Alike (o + size) (drop size l) (drop size m) (ts ++ (t ∷ [])) r
behind-table o l m ts t size r w a =
    record {
      size = length-drop size l ∙ ap (λ n. n - size) a.size ∙ sym (length-drop size m);
      bytes = λ i h.
          let at : o + (size + i) ≡ o + size + i = omega arith in
          get_or-drop size l i 0 ∙ a.bytes (size + i) (ap (in_column r.tables) at ∙ h) ∙ sym (get_or-drop size m i 0);
      before = Each-append (Ended (o + size)) ts (t ∷ []) (ended-later o size ts a.before) (omega (arith, w.starts, w.takes), tt);
    }

same_reading : (k o : ℕ) (l m : List ℕ) (ts : List Table) → Alike o l m ts (read_from k o l ts) → read_from k o l ts ≡ read_from k o m ts
unfolding read_from
same_reading zero o l m ts a = ap (λ x. read_from zero o x ts) (all_same o l m ts (read_from zero o l ts) a last)
  where
    last : (read_from zero o l ts).tables ≡ ts
    last = mark-cases (next_mark l) (λ h. rw (h, read_from)) (λ c h. rw (h, read_from)) (λ h. rw (h, read_from)) (λ h. rw (h, read_from))
same_reading (suc k) o l m ts a =
    let stop : (read_from (suc k) o l ts).tables ≡ ts → read_from (suc k) o l ts ≡ read_from (suc k) o m ts
    = λ e. ap (λ x. read_from (suc k) o x ts) (all_same o l m ts (read_from (suc k) o l ts) a e) in
    let head : SameHead 10 l m = same_head (suc k) o l m ts a in
    mark-cases (next_mark l)
    (λ h. stop (rw (h, read_from)))
    (λ c h. record-cases (next_table c o l) (λ n e. stop (rw (h, e, read_from)))
    (λ t size e.
    let a' : Alike o l m ts (read_from k (o + size) (drop size l) (ts ++ (t ∷ []))) = rw (h, e, read_from) at a in
    rw (h, e, sym (same-mark l m head) ∙ h, sym (same-table c o l m t (whole_fields c o l t size e) head (head-table k o l m ts t size (whole_is c o l t size e) a')) ∙ e, read_from)
    (same_reading k (o + size) (drop size l) (drop size m) (ts ++ (t ∷ [])) (behind-table o l m ts t size (read_from k (o + size) (drop size l) (ts ++ (t ∷ []))) (whole_is c o l t size e) a'))))
    (λ h. stop (rw (h, read_from)))
    (λ h. stop (rw (h, read_from)))

-- ---- the verdict and the answer
pub read-values : (f g : List ℕ) → SameOutsideColumns f g → read f ≡ read g
unfolding read
read-values f g a =
    same_reading 16 0 f g [] (record { size = a.size; bytes = λ i h. a.bytes i (ap (in_column (read_from 16 0 f []).tables) (sym (zero-add i)) ∙ h); before = tt })

-- up to 10 the verdict is the same: the number and the detail, or the tables and the plan
pub verdict-values : (f g : List ℕ) (words : ℕ) → SameOutsideColumns f g → verdict f words ≡ verdict g words
unfolding verdict rules_verdict
verdict-values f g words a = ap (λ r. scratch_verdict words (read_verdict r)) (read-values f g a)

-- an answer past 10: 0 or 11
abbrev pub PastTen : Outcome → Type 0
PastTen r = (r.answer.number ≡ 0) ⊎ (r.answer.number ≡ 11)

past_ten : (D : Base) (p : Plan) (w : ℕ) (s o : List ℕ) → PastTen (join_outcome D p w s o)
unfolding join_outcome joined_answer
past_ten D p w s o =
    cases (ltb (output_fits w (length o)) (length (results D p))) (λ h. rw (h, join_outcome) (inr refl)) (λ h. rw (h, join_outcome) (inl refl))

-- two files that differ only inside attribute columns get the same answer, or answers that are both past 10
pub answers-values : (f g s o : List ℕ) → SameOutsideColumns f g → (outcome f s o ≡ outcome g s o) ⊎ (PastTen (outcome f s o) × PastTen (outcome g s o))
unfolding outcome
answers-values f g s o a =
    verdict-cases (verdict f (length s))
    (λ n d e. inl (rw (e, sym (verdict-values f g (length s) a) ∙ e, outcome)))
    (λ ts p e. inr (rw (e, outcome) (past_ten (base_of f ts) p (width ts) s o), rw (sym (verdict-values f g (length s) a) ∙ e, outcome) (past_ten (base_of g ts) p (width ts) s o)))
