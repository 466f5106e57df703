-- The plan record at an offset of a file, by how many bytes are left there and by its count of plan bytes.
use mathlib.Core.Path.{◌≡◌, sym, ap, ◌∙◌}
use mathlib.Core.List.{List}
use Prim.Native.Nat.{ℕ, ◌+◌, ◌-◌, ◌≤◌, ◌<◌}
use native.Mathlib.Omega.{arith}
use lib.ListN.{length, drop, get_or, length-drop}
use lib.Seq.{get_or-drop}
use borrow.Author.Tests.{lt-ltb, le-ltb}
use Rattle.semantics.specs.Files.{fault, plan_bytes, plan_record}
use Rattle.std.proofs.Common.{Ok, Err}
use Rattle.refusals.specs.Refusals.{refusal_of}
use Rattle.tables.specs.Catalogs.{end_of}

-- ---- over the bytes from the record's mark on
short : (o : ℕ) (l : List ℕ) → length l < 3 → plan_record o l ≡ fault 1 o
unfolding plan_record
short o l a = rw (plan_record, lt-ltb (length l) 3 a)

cut : (o : ℕ) (l : List ℕ) → 3 ≤ length l → length l < 3 + get_or l 2 0 → plan_record o l ≡ fault 1 o
unfolding plan_record
cut o l a b = rw (plan_record, le-ltb (length l) 3 a, lt-ltb (length l) (3 + get_or l 2 0) b)

over : (o : ℕ) (l : List ℕ) → 3 ≤ length l → 3 + get_or l 2 0 < length l → plan_record o l ≡ fault 6 (o + (3 + get_or l 2 0))
unfolding plan_record
over o l a b =
    let c : 3 + get_or l 2 0 ≤ length l = omega arith in
    rw (plan_record, le-ltb (length l) 3 a, le-ltb (length l) (3 + get_or l 2 0) c, lt-ltb (3 + get_or l 2 0) (length l) b)

exact : (o : ℕ) (l : List ℕ) → 3 + get_or l 2 0 ≤ length l → length l ≤ 3 + get_or l 2 0 → plan_record o l ≡ plan_bytes (drop 3 l)
unfolding plan_record
exact o l a b =
    let c : 3 ≤ length l = omega arith in
    rw (plan_record, le-ltb (length l) 3 c, le-ltb (length l) (3 + get_or l 2 0) a, le-ltb (3 + get_or l 2 0) (length l) b)

-- ---- over the file, whose byte after the mark is n
module _ (file : List ℕ) (at : ℕ) where
  pub plan-short : length file - at < 3 → Err (refusal_of 1 at) ≡ end_of (length file) (plan_record at (drop at file))
  plan-short a = rw (short at (drop at file) (rw length-drop a))

  module _ (n : ℕ) (byte : n ≡ get_or file (at + 2) 0) where
    count : get_or (drop at file) 2 0 ≡ n
    count = get_or-drop at file 2 0 ∙ sym byte

    pub plan-cut : 3 ≤ length file - at → length file - at < 3 + n → Err (refusal_of 1 at) ≡ end_of (length file) (plan_record at (drop at file))
    plan-cut a b = rw (cut at (drop at file) (rw length-drop a) (rw (length-drop, count) b))

    pub plan_over : 3 ≤ length file - at → 3 + n < length file - at → Err (refusal_of 6 (at + (3 + n))) ≡ end_of (length file) (plan_record at (drop at file))
    plan_over a b = rw (over at (drop at file) (rw length-drop a) (rw (length-drop, count) b), count)

    pub plan_exact : at + 2 ≤ length file → 3 + n ≤ length file - at → length file - at ≤ 3 + n → Ok (at + 3) ≡ end_of (length file) (plan_record at (drop at file))
    plan_exact h a b =
        let e : at + 3 ≡ length file - length (drop 3 (drop at file)) = simp length-drop (omega arith) in
        rw (exact at (drop at file) (rw (length-drop, count) a) (rw (length-drop, count) b)) (ap Ok e)
