-- Answer 19: at its detail stands the mark of a table with copies, whose columns are there, and a copy count out of range; and where such
-- a record is reached, 19 is due.
use mathlib.Core.Path.{◌≡◌, refl, sym, ap, ap₂, ◌∙◌}
use mathlib.Core.Bool.{Bool, true, false, not, ◌&&◌, ◌||◌}
use mathlib.Core.List.{List, [], ◌∷◌, ◌++◌}
use Prim.Native.Nat.{ℕ, zero, suc, ◌+◌, ◌-◌, ◌*◌, ◌≤◌, ◌<◌}
use native.Mathlib.Omega.{arith}
use native.Mathlib.Nat.{add-zero, zero-add, eq-or-lt_of_le}
use mathlib.Core.Logic.{⊎_elim}
use lib.ListN.{length, drop, get_or, length-drop}
use lib.Seq.{drop-drop, get_or-drop}
use lib.Dec.{eqb, ltb}
use borrow.Author.Tests.{eqb-true, ne_eqb, ltb-false, le-ltb}
use Rattle.semantics.specs.Lists.{any, from, up_to}
use Rattle.semantics.specs.Files.{Table, word_at, arity, copies_fit, Mark, cut_mark, table_mark, plan_mark, other_mark, mark_of, next_mark, TableRecord, broken, copies_out, record_bytes, table_record, next_table, Ending, fault, plan_record, read_from, read}
use Rattle.semantics.specs.Shapes.{shape_of}
use Rattle.semantics.specs.Elimination.{eliminate, plan_under}
use Rattle.semantics.specs.Outcome.{refused, admitted, found_verdict, asks_for_plan, plan_verdict, rules_verdict, read_verdict}
use Rattle.theory.specs.Details.{OutOfRange, WholeTable, TablesBefore}
use Rattle.theory.proofs.Cases.{cases, and_left, and_right, not-true, true-false}
use Rattle.theory.proofs.Reading.{mark-cases, record-cases, ending-cases, whole_is}
use Rattle.theory.proofs.FoundPlans.{elimination-cases}
use Rattle.theory.proofs.Rules.{plan-sent, plan-found}
use Rattle.theory.proofs.SentAnswers.{sent_other}

-- ---- a row that is out
record SomeRow (q : ℕ → Bool) (i n : ℕ) : Type 0 where
  pub row : ℕ
  pub low : row < i + n
  pub passes : q row ≡ true

some-row : (q : ℕ → Bool) (i n : ℕ) → any q (from i n) ≡ true → SomeRow q i n
some-row q i zero e = absurd (true-false false e refl)
some-row q i (suc n) e =
    cases (q i) (λ h. record { row = i; low = omega arith; passes = h })
    (λ h. let r = some-row q (suc i) n (rw h at e) in record { row = r.row; low = omega (arith, r.low); passes = r.passes })

-- ---- a record that is broken by 19
abbrev BrokenBy19 : TableRecord → Bool → (ℕ → ℕ) → ℕ → ℕ → ℕ → Type 0
BrokenBy19 r counted copies left m n = r ≡ broken 19 → (record_bytes counted m n ≤ left) × (copies_out counted copies n ≡ true)

other-number : {P : Type 0} (k : ℕ) → (k ≡ 19 → ⊥) → broken k ≡ broken 19 → P
other-number k h e = let z : k ≡ 19 = cc in absurd (h z)

record-out : (counted : Bool) (copies : ℕ → ℕ) (o left m n : ℕ) → BrokenBy19 (table_record counted copies o left m n) counted copies left m n
unfolding table_record
record-out counted copies o left m n =
    cases (ltb left 10) (λ a. rw (a, table_record) (other-number 1 (λ e. omega arith)))
    (λ a. cases (eqb (arity m) 0 || ltb 8 (arity m)) (λ b. rw (a, b, table_record) (other-number 3 (λ e. omega arith)))
    (λ b. cases (ltb 4096 n) (λ c. rw (a, b, c, table_record) (other-number 4 (λ e. omega arith)))
    (λ c. cases (ltb left (record_bytes counted m n)) (λ d. rw (a, b, c, d, table_record) (other-number 1 (λ e. omega arith)))
    (λ d. cases (copies_out counted copies n) (λ e. rw (a, b, c, d, e, table_record) (λ q. (ltb-false left (record_bytes counted m n) d, refl)))
    (λ e. rw (a, b, c, d, e, table_record) (λ q. let z : ◌≡◌ {A = ℕ} 0 1 = cc in absurd (omega arith)))))))

-- without copies none is out
out-counted : (counted : Bool) (copies : ℕ → ℕ) (n : ℕ) → copies_out counted copies n ≡ true → (counted ≡ true) × SomeRow (λ y. not (copies_fit (copies y))) 0 n
unfolding copies_out up_to
out-counted true copies n e = (refl, some-row (λ y. not (copies_fit (copies y))) 0 n e)
out-counted false copies n e = absurd (true-false false e refl)

-- the mark of a table with copies
mark-bytes : (left a b : ℕ) → mark_of left a b ≡ table_mark true → (a ≡ 0x54) × (b ≡ 0x43)
unfolding mark_of
mark-bytes left a b e =
    let other : (m : Mark) → m ≡ table_mark true → (m ≡ cut_mark → ⊥) × (m ≡ plan_mark → ⊥) × (m ≡ other_mark → ⊥) × (m ≡ table_mark false → ⊥) = λ m q. (
      (λ p. let z : ◌≡◌ {A = ℕ} 0 1 = cc in omega arith),
      (λ p. let z : ◌≡◌ {A = ℕ} 0 1 = cc in omega arith),
      (λ p. let z : ◌≡◌ {A = ℕ} 0 1 = cc in omega arith),
      λ p. let z : ◌≡◌ {A = ℕ} 0 1 = cc in omega arith,
    ) in
    cases (ltb left 2) (λ c. absurd ((other (mark_of left a b) e).0 (rw (c, mark_of))))
    (λ c. cases (eqb a 0x54 && eqb b 0x42) (λ t. absurd ((other (mark_of left a b) e).3 (rw (c, t, mark_of))))
    (λ t. cases (eqb a 0x50 && eqb b 0x4C) (λ p. absurd ((other (mark_of left a b) e).1 (rw (c, t, p, mark_of))))
    (λ p. cases (eqb a 0x54 && eqb b 0x43) (λ k. (eqb-true a 0x54 (and_left (eqb a 0x54) (eqb b 0x43) k), eqb-true b 0x43 (and_right (eqb a 0x54) (eqb b 0x43) k)))
    (λ k. absurd ((other (mark_of left a b) e).2 (rw (c, t, p, k, mark_of)))))))

-- ---- at an offset of the file
pub word-drop : (s : List ℕ) (a i : ℕ) → word_at (drop a s) i ≡ word_at s (a + i)
unfolding word_at
word-drop s a i =
    let one : a + (i + 1) ≡ a + i + 1 = omega arith in
    let two : a + (i + 2) ≡ a + i + 2 = omega arith in
    let three : a + (i + 3) ≡ a + i + 3 = omega arith in
    rw (get_or-drop a s i 0, get_or-drop a s (i + 1) 0, get_or-drop a s (i + 2) 0, get_or-drop a s (i + 3) 0, one, two, three)

out_at : (bytes : List ℕ) (o : ℕ) (counted : Bool) → o ≤ length bytes → next_mark (drop o bytes) ≡ table_mark counted → next_table counted o (drop o bytes) ≡ broken 19 → OutOfRange bytes o
out_at bytes o counted within m e =
    let l = drop o bytes in
    let (there, out) = record-out counted (λ y. word_at (drop 10 l) (4 * y)) o (length l) (word_at l 2) (word_at l 6) e in
    let (is, r) = out-counted counted (λ y. word_at (drop 10 l) (4 * y)) (word_at l 6) out in
    let (a, b) = mark-bytes (length l) (get_or l 0 0) (get_or l 1 0) (m ∙ ap table_mark is) in
    record {
      first = ap (λ k. get_or bytes k 0) (sym (add-zero o)) ∙ sym (get_or-drop o bytes 0 0) ∙ a;
      second = sym (get_or-drop o bytes 1 0) ∙ b;
      there = let z : o + record_bytes true (word_at l 2) (word_at l 6) ≤ length bytes = (let y = rw is at there in omega (arith, y, length-drop o bytes, within)) in rw (word-drop bytes o 2, word-drop bytes o 6) at z;
      row = r.row;
      low = omega (arith, r.low, word-drop bytes o 6);
      out = ap (λ k. copies_fit (word_at k (4 * r.row))) (sym (drop-drop 10 o bytes)) ∙ not-true (copies_fit (word_at (drop 10 l) (4 * r.row))) r.passes;
    }

-- ---- the whole reading
other-fault : {P : Type 0} (k o d : ℕ) → (k ≡ 19 → ⊥) → fault k o ≡ fault 19 d → P
other-fault k o d h e = let z : k ≡ 19 = cc in absurd (h z)

plan-never : (o : ℕ) (l : List ℕ) (d : ℕ) → plan_record o l ≡ fault 19 d → ⊥
unfolding plan_record
plan-never o l d =
    cases (ltb (length l) 3) (λ a. rw (a, plan_record) (other-fault 1 o d (λ e. omega arith)))
    (λ a. cases (ltb (length l) (3 + get_or l 2 0)) (λ b. rw (a, b, plan_record) (other-fault 1 o d (λ e. omega arith)))
    (λ b. cases (ltb (3 + get_or l 2 0) (length l)) (λ c. rw (a, b, c, plan_record) (other-fault 6 (o + (3 + get_or l 2 0)) d (λ e. omega arith)))
    (λ c. rw (a, b, c, plan_record) (λ e. let z : ◌≡◌ {A = ℕ} 0 1 = cc in omega arith))))

abbrev Tells : List ℕ → ℕ → Ending → Type 0
Tells bytes d e = e ≡ fault 19 d → OutOfRange bytes d

out_from : (bytes : List ℕ) (k o : ℕ) (l : List ℕ) (ts : List Table) (d : ℕ) → l ≡ drop o bytes → o ≤ length bytes → Tells bytes d (read_from k o l ts).ending
unfolding read_from
out_from bytes zero o l ts d q h =
    mark-cases (next_mark l)
    (λ m. rw (m, read_from) (other-fault 1 o d (λ e. omega arith)))
    (λ c m. rw (m, read_from) (other-fault 5 o d (λ e. omega arith)))
    (λ m. rw (m, read_from) (λ e. absurd (plan-never o l d e)))
    (λ m. rw (m, read_from) (other-fault 2 o d (λ e. omega arith)))
out_from bytes (suc k) o l ts d q h =
    mark-cases (next_mark l)
    (λ m. rw (m, read_from) (other-fault 1 o d (λ e. omega arith)))
    (λ c m. record-cases (next_table c o l)
    (λ n r. rw (m, r, read_from) (λ e.
    let a : n ≡ 19 = cc in
    let b : o ≡ d = cc in
    rw b at (out_at bytes o c h (ap next_mark (sym q) ∙ m) (ap (next_table c o) (sym q) ∙ r ∙ ap broken a))))
    (λ t size r. rw (m, r, read_from) (out_from bytes k (o + size) (drop size l) (ts ++ (t ∷ [])) d (ap (drop size) q ∙ drop-drop size o bytes)
    (omega (arith, (whole_is c o l t size r).there, ap length q, length-drop o bytes)))))
    (λ m. rw (m, read_from) (λ e. absurd (plan-never o l d e)))
    (λ m. rw (m, read_from) (other-fault 2 o d (λ e. omega arith)))

read_tells : (bytes : List ℕ) (d : ℕ) → Tells bytes d (read bytes).ending
unfolding read
read_tells bytes d = out_from bytes 16 0 bytes [] d refl (omega arith)

-- 19 comes from the reading alone
found-never : (ts : List Table) (d : ℕ) → found_verdict ts ≡ refused 19 d → ⊥
unfolding found_verdict
found-never ts d v =
    elimination-cases (eliminate (shape_of ts) (length ts))
    (λ z hs e. let f : admitted ts (plan_under hs z) ≡ refused 19 d = rw (e, found_verdict) at v in let y : ◌≡◌ {A = ℕ} 0 1 = cc in omega (arith, y))
    (λ c e. let f : refused 14 c ≡ refused 19 d = rw (e, found_verdict) at v in let z : ◌≡◌ {A = ℕ} 14 19 = cc in omega (arith, z))

plan-never_19 : (ts : List Table) (code : List ℕ) (d : ℕ) → plan_verdict ts code ≡ refused 19 d → ⊥
plan-never_19 ts code d v =
    cases (asks_for_plan ts code) (λ h. found-never ts d (sym (plan-found ts code h) ∙ v)) (λ h. sent_other ts code 19 d (omega arith) (sym (plan-sent ts code h) ∙ v))

-- the detail of 19 is the offset of such a record
pub nineteen_tells : (bytes : List ℕ) (d : ℕ) → rules_verdict bytes ≡ refused 19 d → OutOfRange bytes d
unfolding rules_verdict read_verdict
nineteen_tells bytes d v =
    ending-cases (read bytes).ending
    (λ n c e.
    let f : refused n c ≡ refused 19 d = rw (e, read_verdict) at v in
    let a : n ≡ 19 = cc in
    let b : c ≡ d = cc in
    read_tells bytes d (e ∙ ap (λ k. fault k c) a ∙ ap (fault 19) b))
    (λ code e. absurd (plan-never_19 (read bytes).tables code d (rw (e, read_verdict) at v)))

-- ---- and where such a record stands, 19 is due
row_some : (q : ℕ → Bool) (i n y : ℕ) → i ≤ y → y < i + n → q y ≡ true → any q (from i n) ≡ true
row_some q i zero y a b e = absurd (omega arith)
row_some q i (suc n) y a b e =
    cases (q i) (λ h. rw h) (λ h. rw h (⊎_elim (λ z. absurd (true-false (q i) (ap q z ∙ e) h)) (λ l. row_some q (suc i) n y l (omega arith) e) (eq-or-lt_of_le a)))

-- the reading goes on behind the records
pub record ReadOn (bytes : List ℕ) (n o : ℕ) : Type 0 where
  pub before : List Table
  pub is : (k : ℕ) → read_from (n + k) 0 bytes [] ≡ read_from k o (drop o bytes) before

behind_one : (bytes : List ℕ) (k at o : ℕ) (ts : List Table) (W : WholeTable bytes at o) → read_from (suc k) at (drop at bytes) ts ≡ read_from k o (drop o bytes) (ts ++ (W.table ∷ []))
unfolding read_from
behind_one bytes k at o ts W = rw (W.mark, W.is, read_from) (rw W.end (ap (λ l. read_from k (at + W.size) l (ts ++ (W.table ∷ []))) (drop-drop W.size at bytes)))

read-on : (bytes : List ℕ) (n o : ℕ) → TablesBefore bytes n o → ReadOn bytes n o
unfolding TablesBefore
read-on bytes zero o e = record { before = []; is = λ k. rw e (ap (λ m. read_from m 0 bytes []) (zero-add k)) }
read-on bytes (suc n) o b =
    let (at, t, W) = b in
    let R = read-on bytes n at t in
    record {
      before = R.before ++ (W.table ∷ []);
      is = λ k. let e : suc n + k ≡ n + suc k = omega arith in ap (λ m. read_from m 0 bytes []) e ∙ R.is (suc k) ∙ behind_one bytes k at o R.before W;
    }

counted-mark : (left a b : ℕ) → 2 ≤ left → a ≡ 0x54 → b ≡ 0x43 → mark_of left a b ≡ table_mark true
unfolding mark_of
counted-mark left a b h p q = ap₂ (mark_of left) p q ∙ rw (le-ltb left 2 h, mark_of)

due_record : (copies : ℕ → ℕ) (o left m n y : ℕ) → 10 ≤ left → 1 ≤ arity m → arity m ≤ 8 → n ≤ 4096 → record_bytes true m n ≤ left → y < n → copies_fit (copies y) ≡ false
    → table_record true copies o left m n ≡ broken 19
unfolding table_record copies_out up_to
due_record copies o left m n y ten one eight rows there low out =
    rw (
      le-ltb left 10 ten,
      ne_eqb (arity m) 0 (λ z. omega arith),
      le-ltb 8 (arity m) eight,
      le-ltb 4096 n rows,
      le-ltb left (record_bytes true m n) there,
      row_some (λ y. not (copies_fit (copies y))) 0 n y (omega arith) (omega arith) (ap not out),
      table_record,
    )

-- after fewer than 16 tables, and with 1 to 8 attributes and at most 4,096 rows, so that none of 1 to 5 is due before it
module _ (bytes : List ℕ) (n d : ℕ) (few : n < 16) (T : TablesBefore bytes n d) (O : OutOfRange bytes d)
    (one : 1 ≤ arity (word_at bytes (d + 2))) (eight : arity (word_at bytes (d + 2)) ≤ 8) (rows : word_at bytes (d + 6) ≤ 4096) where
  abbrev rest : List ℕ
  rest = drop d bytes

  left : record_bytes true (word_at rest 2) (word_at rest 6) ≤ length rest
  left = rw (word-drop bytes d 2, word-drop bytes d 6) (omega (arith, O.there, length-drop d bytes))

  ten : 10 ≤ length rest
  unfolding record_bytes
  ten = omega (arith, left)

  due_here : next_table true d rest ≡ broken 19
  due_here =
      due_record (λ y. word_at (drop 10 rest) (4 * y)) d (length rest) (word_at rest 2) (word_at rest 6) O.row ten
      (rw (word-drop bytes d 2) one) (rw (word-drop bytes d 2) eight) (rw (word-drop bytes d 6) rows) left (rw (word-drop bytes d 6) O.low)
      (ap (λ k. copies_fit (word_at k (4 * O.row))) (drop-drop 10 d bytes) ∙ O.out)

  due-ending : (k : ℕ) (ts : List Table) → (read_from (suc k) d rest ts).ending ≡ fault 19 d
  unfolding read_from
  due-ending k ts =
      let m : next_mark rest ≡ table_mark true = counted-mark (length rest) (get_or rest 0 0) (get_or rest 1 0) (omega (arith, ten)) (get_or-drop d bytes 0 0 ∙ ap (λ k. get_or bytes k 0) (add-zero d) ∙ O.first) (get_or-drop d bytes 1 0 ∙ O.second) in
      rw (m, due_here, read_from)

  read_due : (read bytes).ending ≡ fault 19 d
  unfolding read
  read_due =
      let R = read-on bytes n d T in
      let e : 16 ≡ n + suc (15 - n) = omega arith in
      ap (λ k. (read_from k 0 bytes []).ending) e ∙ ap (λ r. r.ending) (R.is (suc (15 - n))) ∙ due-ending (15 - n) R.before

  pub nineteen_due : rules_verdict bytes ≡ refused 19 d
  unfolding rules_verdict read_verdict
  nineteen_due = rw (read_due, read_verdict)
