-- What the reading of a file gives: its faults are 1 to 6 and 19, and its tables fit the file and stand one after the other.
use mathlib.Core.Path.{◌≡◌, refl, sym, ap, ◌∙◌}
use mathlib.Core.Bool.{Bool, false, ◌||◌}
use mathlib.Core.List.{List, [], ◌∷◌, ◌++◌, append_assoc, append-nil}
use mathlib.Core.Logic.{inl, inr}
use Prim.Native.Nat.{ℕ, zero, suc, ◌+◌, ◌-◌, ◌*◌, ◌^◌, ◌≤◌, ◌<◌}
use native.Mathlib.Omega.{arith}
use lib.ListN.{length, drop, get_or, length-drop}
use lib.Seq.{drop-drop}
use lib.Dec.{eqb, ltb}
use borrow.Author.Tests.{eqb-false, ltb-false}
use Rattle.theory.specs.Elements.{Each}
use Rattle.theory.specs.Rules.{Bytes, Fitting, ReadingNumber}
use Rattle.semantics.specs.Files.{word_at, arity, column_bytes, column_start, Table, value, copy_bytes, Mark, cut_mark, table_mark, plan_mark, other_mark, next_mark, TableRecord, broken, whole, copies_out, record_bytes, table_record, next_table, Ending, fault, plan_bytes, plan_record, Reading, read_from, read}
use Rattle.theory.proofs.Cases.{cases, or-false_left, or-false_right}
use Rattle.theory.proofs.Lists.{Each-map, Each-append}

-- ---- either way the parts of the reading go
pub mark-cases : {P : Type 0} (m : Mark) → (m ≡ cut_mark → P) → ((counted : Bool) → m ≡ table_mark counted → P) → (m ≡ plan_mark → P) → (m ≡ other_mark → P) → P
mark-cases cut_mark a b c d = a refl
mark-cases (table_mark counted) a b c d = b counted refl
mark-cases plan_mark a b c d = c refl
mark-cases other_mark a b c d = d refl

pub record-cases : {P : Type 0} (r : TableRecord) → ((n : ℕ) → r ≡ broken n → P) → ((t : Table) (size : ℕ) → r ≡ whole t size → P) → P
record-cases (broken n) f g = f n refl
record-cases (whole t size) f g = g t size refl

pub ending-cases : {P : Type 0} (e : Ending) → ((n d : ℕ) → e ≡ fault n d → P) → ((code : List ℕ) → e ≡ plan_bytes code → P) → P
ending-cases (fault n d) f g = f n d refl
ending-cases (plan_bytes code) f g = g code refl

-- ---- one table record
-- a record that was taken whole, with that many bytes left from its mark on
pub record WholeRecord (o left : ℕ) (t : Table) (size : ℕ) : Type 0 where
  pub starts : t.start ≡ o + 10 + copy_bytes t.counted t.rows
  pub takes : size ≡ 10 + copy_bytes t.counted t.rows + column_bytes t.mask t.rows
  pub there : size ≤ left
  pub fits : Fitting (o + left) t

abbrev RecordIs : ℕ → ℕ → TableRecord → Type 0
RecordIs o left (broken n) = ReadingNumber n
RecordIs o left (whole t size) = WholeRecord o left t size

record_is : (counted : Bool) (copies : ℕ → ℕ) (o left m n : ℕ) → RecordIs o left (table_record counted copies o left m n)
unfolding table_record record_bytes
record_is counted copies o left m n =
    cases (ltb left 10) (λ a. rw (a, table_record) (inl (omega arith)))
    (λ a. cases (eqb (arity m) 0 || ltb 8 (arity m)) (λ b. rw (a, b, table_record) (inl (omega arith)))
    (λ b. cases (ltb 4096 n) (λ c. rw (a, b, c, table_record) (inl (omega arith)))
    (λ c. cases (ltb left (record_bytes counted m n)) (λ d. rw (a, b, c, d, table_record) (inl (omega arith)))
    (λ d. cases (copies_out counted copies n) (λ e. rw (a, b, c, d, e, table_record) (inr refl))
    (λ e.
    let none : (arity m ≡ 0 → ⊥) = eqb-false (arity m) 0 (or-false_left (eqb (arity m) 0) (ltb 8 (arity m)) b) in
    let many : arity m ≤ 8 = ltb-false 8 (arity m) (or-false_right (eqb (arity m) 0) (ltb 8 (arity m)) b) in
    let there : 10 + copy_bytes counted n + column_bytes m n ≤ left = ltb-false left (10 + copy_bytes counted n + column_bytes m n) d in
    rw (a, b, c, d, e, table_record)
    (record { starts = refl; takes = refl; there = there; fits = record { some = omega arith; few = many; low = ltb-false 4096 n c; inside = omega arith; behind = omega arith } }))))))

abbrev copies_from : List ℕ → ℕ → ℕ
copies_from l y = word_at (drop 10 l) (4 * y)

pub broken-number : (counted : Bool) (o : ℕ) (l : List ℕ) (n : ℕ) → next_table counted o l ≡ broken n → ReadingNumber n
broken-number counted o l n e = rw e at (record_is counted (copies_from l) o (length l) (word_at l 2) (word_at l 6))

pub whole_is : (counted : Bool) (o : ℕ) (l : List ℕ) (t : Table) (size : ℕ) → next_table counted o l ≡ whole t size → WholeRecord o (length l) t size
whole_is counted o l t size e = rw e at (record_is counted (copies_from l) o (length l) (word_at l 2) (word_at l 6))

-- ---- the plan record
abbrev FaultNumbered : Ending → Type 0
FaultNumbered (fault n d) = ReadingNumber n
FaultNumbered (plan_bytes code) = Unit {0}

plan-numbered : (o : ℕ) (l : List ℕ) → FaultNumbered (plan_record o l)
unfolding plan_record
plan-numbered o l =
    cases (ltb (length l) 3) (λ a. rw (a, plan_record) (inl (omega arith)))
    (λ a. cases (ltb (length l) (3 + get_or l 2 0)) (λ b. rw (a, b, plan_record) (inl (omega arith)))
    (λ b. cases (ltb (3 + get_or l 2 0) (length l)) (λ c. rw (a, b, c, plan_record) (inl (omega arith))) (λ c. rw (a, b, c, plan_record) tt)))

-- ---- the whole reading
-- the reading from offset o on, of the bytes l: what it adds to the tables ts
pub record ReadsOn (k o : ℕ) (l : List ℕ) (ts : List Table) (r : Reading) : Type 0 where
  pub more : List Table
  pub tables : r.tables ≡ ts ++ more
  pub few : length more ≤ k
  pub behind : Each (λ t. o + 10 ≤ t.start) more
  pub fit : Each (Fitting (o + length l)) more
  pub numbered : FaultNumbered r.ending

stops : (k o : ℕ) (l : List ℕ) (ts : List Table) (e : Ending) → FaultNumbered e → ReadsOn k o l ts (record { tables = ts; ending = e })
stops k o l ts e n = record { more = []; tables = sym (append-nil ts); few = omega arith; behind = tt; fit = tt; numbered = n }

-- a table more
goes_on : (k o : ℕ) (l : List ℕ) (ts : List Table) (t : Table) (size : ℕ) (r : Reading) → WholeRecord o (length l) t size → ReadsOn k (o + size) (drop size l) (ts ++ (t ∷ [])) r → ReadsOn (suc k) o l ts r
goes_on k o l ts t size r w n =
    let same : o + size + length (drop size l) ≡ o + length l = omega (arith, length-drop size l, w.there) in
    record {
      more = t ∷ n.more;
      tables = n.tables ∙ append_assoc ts (t ∷ []) n.more;
      few = omega (arith, n.few);
      behind = (omega (arith, w.starts), Each-map (λ u. o + size + 10 ≤ u.start) (λ u. o + 10 ≤ u.start) (λ u h. omega arith) n.more n.behind);
      fit = (w.fits, rw same at n.fit);
      numbered = n.numbered;
    }

pub reads_on : (k o : ℕ) (l : List ℕ) (ts : List Table) → ReadsOn k o l ts (read_from k o l ts)
unfolding read_from
reads_on zero o l ts =
    mark-cases (next_mark l)
    (λ m. rw (m, read_from) (stops zero o l ts (fault 1 o) (inl (omega arith))))
    (λ b m. rw (m, read_from) (stops zero o l ts (fault 5 o) (inl (omega arith))))
    (λ m. rw (m, read_from) (stops zero o l ts (plan_record o l) (plan-numbered o l)))
    (λ m. rw (m, read_from) (stops zero o l ts (fault 2 o) (inl (omega arith))))
reads_on (suc k) o l ts =
    mark-cases (next_mark l)
    (λ m. rw (m, read_from) (stops (suc k) o l ts (fault 1 o) (inl (omega arith))))
    (λ b m. record-cases (next_table b o l)
    (λ n e. rw (m, e, read_from) (stops (suc k) o l ts (fault n o) (broken-number b o l n e)))
    (λ t size e. rw (m, e, read_from) (goes_on k o l ts t size (read_from k (o + size) (drop size l) (ts ++ (t ∷ []))) (whole_is b o l t size e) (reads_on k (o + size) (drop size l) (ts ++ (t ∷ []))))))
    (λ m. rw (m, read_from) (stops (suc k) o l ts (plan_record o l) (plan-numbered o l)))
    (λ m. rw (m, read_from) (stops (suc k) o l ts (fault 2 o) (inl (omega arith))))

-- at most 16 tables, each within the rules and inside the file
pub tables_few : (bytes : List ℕ) → length (read bytes).tables ≤ 16
unfolding read
tables_few bytes = let r = reads_on 16 0 bytes [] in omega (arith, r.few, ap length r.tables)

pub tables_fit : (bytes : List ℕ) → Each (Fitting (length bytes)) (read bytes).tables
unfolding read
tables_fit bytes =
    let r = reads_on 16 0 bytes [] in
    let n : 0 + length bytes ≡ length bytes = omega arith in
    rw r.tables (rw n at r.fit)

-- a fault of the reading is one of 1 to 6, or 19
pub fault-number : (bytes : List ℕ) (n d : ℕ) → (read bytes).ending ≡ fault n d → ReadingNumber n
unfolding read
fault-number bytes n d e = rw e at (reads_on 16 0 bytes []).numbered

-- ---- values are words
byte_at : (l : List ℕ) (i : ℕ) → Bytes l → get_or l i 0 < 256
byte_at [] i e = omega arith
byte_at (x ∷ l) zero e = e.0
byte_at (x ∷ l) (suc i) e = byte_at l i e.1

bytes_drop : (n : ℕ) (l : List ℕ) → Bytes l → Bytes (drop n l)
bytes_drop zero l e = e
bytes_drop (suc n) [] e = tt
bytes_drop (suc n) (x ∷ l) e = bytes_drop n l e.1

pub word_small : (l : List ℕ) (at : ℕ) → Bytes l → word_at l at < 2 ^ 32
unfolding word_at
word_small l at e = omega (arith, byte_at l at e, byte_at l (at + 1) e, byte_at l (at + 2) e, byte_at l (at + 3) e)

pub value_small : (bytes : List ℕ) (t : Table) (a y : ℕ) → Bytes bytes → value bytes t a y < 2 ^ 32
unfolding value
value_small bytes t a y e = word_small (drop (column_start t a) bytes) (4 * y) (bytes_drop (column_start t a) bytes e)

pub bytes_of : (l : List ℕ) → ((i : ℕ) → get_or l i 0 < 256) → Bytes l
bytes_of [] h = tt
bytes_of (x ∷ l) h = (h 0, bytes_of l (λ i. h (suc i)))

-- ---- the fields of a table are those of its record
abbrev FieldsAre : TableRecord → Bool → (ℕ → ℕ) → ℕ → ℕ → Type 0
FieldsAre (broken k) counted copies m n = Unit {0}
FieldsAre (whole t size) counted copies m n = (t.mask ≡ m) × (t.rows ≡ n) × (t.counted ≡ counted) × (copies_out counted copies n ≡ false)

record_fields : (counted : Bool) (copies : ℕ → ℕ) (o left m n : ℕ) → FieldsAre (table_record counted copies o left m n) counted copies m n
unfolding table_record
record_fields counted copies o left m n =
    cases (ltb left 10) (λ a. rw (a, table_record) tt)
    (λ a. cases (eqb (arity m) 0 || ltb 8 (arity m)) (λ b. rw (a, b, table_record) tt)
    (λ b. cases (ltb 4096 n) (λ c. rw (a, b, c, table_record) tt)
    (λ c. cases (ltb left (record_bytes counted m n)) (λ d. rw (a, b, c, d, table_record) tt)
    (λ d. cases (copies_out counted copies n) (λ e. rw (a, b, c, d, e, table_record) tt) (λ e. rw (a, b, c, d, e, table_record) (refl, refl, refl, e))))))

-- of one taken whole
pub record WholeFields (counted : Bool) (l : List ℕ) (t : Table) : Type 0 where
  pub mask : t.mask ≡ word_at l 2
  pub rows : t.rows ≡ word_at l 6
  pub marked : t.counted ≡ counted
  pub copies : copies_out counted (λ y. word_at (drop 10 l) (4 * y)) (word_at l 6) ≡ false

pub whole_fields : (counted : Bool) (o : ℕ) (l : List ℕ) (t : Table) (size : ℕ) → next_table counted o l ≡ whole t size → WholeFields counted l t
whole_fields counted o l t size e =
    let (a, b, c, d) = rw e at (record_fields counted (copies_from l) o (length l) (word_at l 2) (word_at l 6)) in
    record { mask = a; rows = b; marked = c; copies = d }

-- ---- masks are words
abbrev HasWord : Table → Type 0
HasWord t = t.mask < 2 ^ 32

masks_from : (k o : ℕ) (l : List ℕ) (ts : List Table) → Bytes l → Each HasWord ts → Each HasWord (read_from k o l ts).tables
unfolding read_from
masks_from zero o l ts b e = mark-cases (next_mark l) (λ m. rw (m, read_from) e) (λ c m. rw (m, read_from) e) (λ m. rw (m, read_from) e) (λ m. rw (m, read_from) e)
masks_from (suc k) o l ts b e =
    mark-cases (next_mark l)
    (λ m. rw (m, read_from) e)
    (λ c m. record-cases (next_table c o l)
    (λ n q. rw (m, q, read_from) e)
    (λ t size q.
    let w : t.mask ≡ word_at l 2 = (whole_fields c o l t size q).mask in
    rw (m, q, read_from) (masks_from k (o + size) (drop size l) (ts ++ (t ∷ [])) (bytes_drop size l b) (Each-append HasWord ts (t ∷ []) e (omega (arith, word_small l 2 b), tt)))))
    (λ m. rw (m, read_from) e)
    (λ m. rw (m, read_from) e)

pub tables-masks : (bytes : List ℕ) → Bytes bytes → Each (λ t. t.mask < 2 ^ 32) (read bytes).tables
unfolding read
tables-masks bytes b = masks_from 16 0 bytes [] b tt

-- ---- the plan's bytes are the last ones of the file
abbrev Suffix : List ℕ → Ending → Type 0
Suffix l (fault n d) = Unit {0}
Suffix l (plan_bytes code) = (i : ℕ) × (i ≤ length l) × (code ≡ drop i l)

plan_suffix : (o : ℕ) (l : List ℕ) → Suffix l (plan_record o l)
unfolding plan_record
plan_suffix o l =
    cases (ltb (length l) 3) (λ a. rw (a, plan_record) tt)
    (λ a. cases (ltb (length l) (3 + get_or l 2 0)) (λ b. rw (a, b, plan_record) tt)
    (λ b. cases (ltb (3 + get_or l 2 0) (length l)) (λ c. rw (a, b, c, plan_record) tt) (λ c. rw (a, b, c, plan_record) (3, ltb-false (length l) 3 a, refl))))

longer : (n : ℕ) (l : List ℕ) → n ≤ length l → (e : Ending) → Suffix (drop n l) e → Suffix l e
longer n l h (fault a d) s = tt
longer n l h (plan_bytes code) s = (n + s.0, omega (arith, s.1, length-drop n l), s.2 ∙ drop-drop s.0 n l)

suffix_from : (k o : ℕ) (l : List ℕ) (ts : List Table) → Suffix l (read_from k o l ts).ending
unfolding read_from
suffix_from zero o l ts = mark-cases (next_mark l) (λ m. rw (m, read_from) tt) (λ c m. rw (m, read_from) tt) (λ m. rw (m, read_from) (plan_suffix o l)) (λ m. rw (m, read_from) tt)
suffix_from (suc k) o l ts =
    mark-cases (next_mark l)
    (λ m. rw (m, read_from) tt)
    (λ c m. record-cases (next_table c o l)
    (λ n q. rw (m, q, read_from) tt)
    (λ t size q.
    let w = whole_is c o l t size q in
    rw (m, q, read_from) (longer size l w.there (read_from k (o + size) (drop size l) (ts ++ (t ∷ []))).ending (suffix_from k (o + size) (drop size l) (ts ++ (t ∷ []))))))
    (λ m. rw (m, read_from) (plan_suffix o l))
    (λ m. rw (m, read_from) tt)

pub plan_last : (bytes code : List ℕ) → (read bytes).ending ≡ plan_bytes code → drop (length bytes - length code) bytes ≡ code
unfolding read
plan_last bytes code e =
    let (i, h, q) = rw e at (suffix_from 16 0 bytes []) in
    let n : length bytes - length code ≡ i = omega (arith, ap length q, length-drop i bytes) in
    ap (λ k. drop k bytes) n ∙ sym q
