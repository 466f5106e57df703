-- Answer 7 is due exactly if the bytes spell no plan, and its detail is the first index where they go wrong.
use mathlib.Core.Path.{◌≡◌, refl, sym, ap, ◌∙◌}
use mathlib.Core.Logic.{◌↔◌}
use mathlib.Core.List.{List, [], ◌∷◌, ◌++◌, append-nil}
use mathlib.Core.Option.{none, some}
use Prim.Native.Nat.{ℕ, zero, suc, ◌+◌, ◌≤◌, ◌<◌}
use native.Mathlib.Omega.{arith}
use lib.ListN.{length, take, drop, replicate, take-append-drop}
use lib.Dec.{eqb, ltb}
use borrow.Author.Tests.{ltb-true, ltb-false}
use Rattle.semantics.specs.Plans.{Plan, encode, misplaced, plan_of}
use Rattle.theory.specs.Rules.{Small}
use Rattle.theory.specs.Details.{SpellsPlan, FirstMisplaced}
use Rattle.theory.proofs.Cases.{cases, option_cases}
use Rattle.theory.proofs.Spelling.{misplaced-encode, spelled_out}

misplaced-range : (o i : ℕ) (bs : List ℕ) (k : ℕ) → misplaced o i bs ≡ some k → (i ≤ k) × (k ≤ i + length bs)
misplaced-range zero i [] k e = let z : ◌≡◌ {A = ℕ} 0 1 = cc in absurd (omega arith)
misplaced-range (suc o) i [] k e = let z : i ≡ k = cc in omega arith
misplaced-range zero i (b ∷ bs) k e = let z : i ≡ k = cc in omega arith
misplaced-range (suc o) i (b ∷ bs) k e =
    cases (eqb b 255) (λ h. omega (arith, misplaced-range (suc (suc o)) (suc i) bs k (rw (h, misplaced) at e)))
    (λ h. cases (ltb b 16) (λ g. omega (arith, misplaced-range o (suc i) bs k (rw (h, g, misplaced) at e)))
    (λ g. let z : i ≡ k = cc (rw (h, g, misplaced) at e) in omega arith))

-- whatever stands behind the first index that goes wrong, it stays that
misplaced_kept : (o i j : ℕ) (bs rest : List ℕ) (k : ℕ) → misplaced o i bs ≡ some k → k < i + j → k < i + length bs → misplaced o i (take j bs ++ rest) ≡ some k
misplaced_kept o i zero bs rest k e h g = absurd (omega (arith, misplaced-range o i bs k e))
misplaced_kept o i (suc j) [] rest k e h g = absurd (omega (arith, misplaced-range o i [] k e))
misplaced_kept zero i (suc j) (b ∷ bs) rest k e h g = e
misplaced_kept (suc o) i (suc j) (b ∷ bs) rest k e h g =
    cases (eqb b 255) (λ x. rw (x, misplaced) (misplaced_kept (suc (suc o)) (suc i) j bs rest k (rw (x, misplaced) at e) (omega arith) (omega arith)))
    (λ x. cases (ltb b 16) (λ y. rw (x, y, misplaced) (misplaced_kept o (suc i) j bs rest k (rw (x, y, misplaced) at e) (omega arith) (omega arith)))
    (λ y. rw (x, y, misplaced) (rw (x, y, misplaced) at e)))

-- table 0 for each plan that is owed
paid : (o i : ℕ) → misplaced o i (replicate o 0) ≡ none
paid zero i = refl
paid (suc o) i = paid o (suc i)

-- what stands before the first index that goes wrong can be completed
completed : (o i j : ℕ) (bs : List ℕ) (k : ℕ) → misplaced o i bs ≡ some k → i + j ≤ k → (z : ℕ) × (misplaced o i (take j bs ++ replicate z 0) ≡ none)
completed o i zero bs k e h = (o, paid o i)
completed o i (suc j) [] k e h = absurd (omega (arith, misplaced-range o i [] k e))
completed zero i (suc j) (b ∷ bs) k e h = let z : i ≡ k = cc in absurd (omega arith)
completed (suc o) i (suc j) (b ∷ bs) k e h =
    cases (eqb b 255)
    (λ x. let (z, q) = completed (suc (suc o)) (suc i) j bs k (rw (x, misplaced) at e) (omega arith) in (z, rw (x, misplaced) q))
    (λ x. cases (ltb b 16)
    (λ y. let (z, q) = completed o (suc i) j bs k (rw (x, y, misplaced) at e) (omega arith) in (z, rw (x, y, misplaced) q))
    (λ y. let z : i ≡ k = cc (rw (x, y, misplaced) at e) in absurd (omega arith)))

encode-spelled : (p : Plan) → Small p → misplaced 1 0 (encode p) ≡ none
encode-spelled p h = ap (misplaced 1 0) (sym (append-nil (encode p))) ∙ misplaced-encode p h 0 0 []

-- 7 is not due exactly if the bytes spell one plan
pub spelled_exactly : (bs : List ℕ) → (misplaced 1 0 bs ≡ none) ↔ SpellsPlan bs
spelled_exactly bs = (
  λ e. let (s, c) = spelled_out bs e in record { plan = plan_of bs; small = s; is = c },
  λ s. rw (← s.is) (encode-spelled s.plan s.small),
)

misplaced_first : (bs : List ℕ) (i : ℕ) → misplaced 1 0 bs ≡ some i → FirstMisplaced bs i
misplaced_first bs i e =
    record {
      within = omega (arith, misplaced-range 1 0 bs i e);
      before = λ j h.
          let (z, q) = completed 1 0 j bs i e (omega arith) in
          let (s, c) = spelled_out (take j bs ++ replicate z 0) q in
          record { plan = plan_of (take j bs ++ replicate z 0); rest = replicate z 0; small = s; is = c };
      wrong = λ h b.
          let q : misplaced 1 0 (encode b.plan) ≡ some i = rw b.is (misplaced_kept 1 0 (suc i) bs b.rest i e (omega arith) (omega arith)) in
          let z : ◌≡◌ {A = ℕ} 0 1 = cc (encode-spelled b.plan b.small) in
          omega arith;
      early = λ h s. let q : misplaced 1 0 bs ≡ none = (spelled_exactly bs).1 s in let z : ◌≡◌ {A = ℕ} 0 1 = cc in omega arith;
    }

misplaced-once : (bs : List ℕ) (i k : ℕ) → FirstMisplaced bs i → FirstMisplaced bs k → i ≡ k
misplaced-once bs i k f g =
    let a : (i < k → ⊥) = λ h. f.wrong (omega (arith, g.within)) (g.before (suc i) (omega arith)) in
    let b : (k < i → ⊥) = λ h. g.wrong (omega (arith, f.within)) (f.before (suc k) (omega arith)) in
    omega arith

-- 7's detail is the index of the first byte that cannot stand there, or n where the plan ends early
pub first-misplaced : (bs : List ℕ) (i : ℕ) → (misplaced 1 0 bs ≡ some i) ↔ FirstMisplaced bs i
first-misplaced bs i = (
  misplaced_first bs i,
  λ f. option_cases (misplaced 1 0 bs)
      (λ e. let s = (spelled_exactly bs).0 e in absurd (
      cases (ltb i (length bs))
      (λ h. f.wrong (ltb-true i (length bs) h) (record { plan = s.plan; rest = drop (suc i) bs; small = s.small; is = s.is ∙ sym (take-append-drop (suc i) bs) }))
      (λ h. f.early (omega (arith, f.within, ltb-false i (length bs) h)) s)))
      (λ k e. e ∙ ap some (misplaced-once bs k i (misplaced_first bs k e) f)),
)
