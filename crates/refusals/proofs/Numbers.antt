-- The numbers of reasons: those up to 10 in the order have a reason each. What a refusal tells of the detail that was looked for.
use Prim.Native.Nat.{ℕ, ◌≤◌}
use mathlib.Core.Path.{◌≡◌, refl, sym, ap, ◌∙◌}
use native.Mathlib.Omega.{arith}
use lib.Dec.{eqb}
use borrow.Author.Tests.{eqb-true, eqb-false}
use Rattle.theory.specs.Rules.{ReadingNumber, ThroughTen}
use mathlib.Core.Logic.{inl, inr}
use Rattle.theory.proofs.Cases.{cases}
use Rattle.std.specs.Prelude.{Ok, Err}
use Rattle.std.proofs.Math.Option.{Option as Maybe, none, some}
use Rattle.refusals.specs.declared.Refusal.{Refusal}
use Rattle.refusals.specs.declared.Reason.{Reason}
use Rattle.refusals.specs.declared.Reason.TheVariants as reason
use Rattle.refusals.specs.Refusals.{number_of, reason_of, refusal_of, refused_at}

to-nine : (n : ℕ) → 1 ≤ n → n ≤ 9 → number_of (reason_of n) ≡ n
to-nine n a b =
    cases (eqb n 2) (λ e. rw (eqb-true n 2 e) refl) (λ e2.
    cases (eqb n 3) (λ e. rw (eqb-true n 3 e) refl) (λ e3.
    cases (eqb n 4) (λ e. rw (eqb-true n 4 e) refl) (λ e4.
    cases (eqb n 5) (λ e. rw (eqb-true n 5 e) refl) (λ e5.
    cases (eqb n 6) (λ e. rw (eqb-true n 6 e) refl) (λ e6.
    cases (eqb n 7) (λ e. rw (eqb-true n 7 e) refl) (λ e7.
    cases (eqb n 8) (λ e. rw (eqb-true n 8 e) refl) (λ e8.
    cases (eqb n 9) (λ e. rw (eqb-true n 9 e) refl) (λ e9.
    let z : n ≡ 1 = omega (arith, a, b, eqb-false n 2 e2, eqb-false n 3 e3, eqb-false n 4 e4, eqb-false n 5 e5, eqb-false n 6 e6, eqb-false n 7 e7, eqb-false n 8 e8, eqb-false n 9 e9) in rw z refl))))))))

pub number-reason : (n : ℕ) → ThroughTen n → number_of (reason_of n) ≡ n
number-reason n (inr e) = rw e refl
number-reason n (inl (inl h)) = to-nine n h.0 h.1
number-reason n (inl (inr (inl e))) = rw e refl
number-reason n (inl (inr (inr e))) = rw e refl

-- the numbers of faults of the reading
pub number-fault : (n : ℕ) → ReadingNumber n → number_of (reason_of n) ≡ n
number-fault n (inl h) = let b : n ≤ 9 = omega (arith, h.1) in to-nine n h.0 b
number-fault n (inr e) = rw e refl

-- ---- a detail that was looked for
pub refused_none : (n : ℕ) (o : Maybe ℕ) → Ok tt ≡ refused_at n o → o ≡ none
refused_none n none e = refl
refused_none n (some i) e = cc

pub refused_some : (n : ℕ) (o : Maybe ℕ) (r : Refusal) → Err r ≡ refused_at n o → (o ≡ some r.detail) × (r ≡ refusal_of n r.detail)
refused_some n none r e = cc
refused_some n (some i) r e =
    let q : r ≡ refusal_of n i = cc in
    let d : r.detail ≡ i = ap (λ x. x.detail) q in
    (ap some (sym d), q ∙ ap (refusal_of n) (sym d))

-- ---- a reason is told by its number
pub reason-number : (r : Reason) → reason_of (number_of r) ≡ r
reason-number reason.CutOff = refl
reason-number reason.NoRecord = refl
reason-number reason.AttributeCount = refl
reason-number reason.TooManyRows = refl
reason-number reason.TooManyTables = refl
reason-number reason.BehindPlan = refl
reason-number reason.NotAPlan = refl
reason-number reason.NotNamedOnce = refl
reason-number reason.NoHolder = refl
reason-number reason.ScratchShort = refl
reason-number reason.OutputShort = refl
reason-number reason.InputLong = refl
reason-number reason.NoPlanFound = refl
reason-number reason.TooManyChoices = refl
reason-number reason.NoSuchResult = refl
reason-number reason.NotAResult = refl
reason-number reason.RowShort = refl
reason-number reason.CopiesRange = refl

pub number-some : (r : Reason) → 1 ≤ number_of r
number-some reason.CutOff = omega arith
number-some reason.NoRecord = omega arith
number-some reason.AttributeCount = omega arith
number-some reason.TooManyRows = omega arith
number-some reason.TooManyTables = omega arith
number-some reason.BehindPlan = omega arith
number-some reason.NotAPlan = omega arith
number-some reason.NotNamedOnce = omega arith
number-some reason.NoHolder = omega arith
number-some reason.ScratchShort = omega arith
number-some reason.OutputShort = omega arith
number-some reason.InputLong = omega arith
number-some reason.NoPlanFound = omega arith
number-some reason.TooManyChoices = omega arith
number-some reason.NoSuchResult = omega arith
number-some reason.NotAResult = omega arith
number-some reason.RowShort = omega arith
number-some reason.CopiesRange = omega arith

pub same-refusal : (r e : Refusal) → number_of r.reason ≡ number_of e.reason → r.detail ≡ e.detail → r ≡ e
same-refusal r e n d =
    let q : r.reason ≡ e.reason = sym (reason-number r.reason) ∙ ap reason_of n ∙ reason-number e.reason in
    λ i. record { reason = q i; detail = d i }
