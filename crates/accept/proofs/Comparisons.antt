-- The comparison of two answers, step by step; and why both engines never differ.
use mathlib.Core.Path.{◌≡◌, refl, sym, ap, ap₂, ◌∙◌}
use mathlib.Core.Bool.{Bool, true, false, ◌&&◌, ◌||◌}
use mathlib.Core.List.{List, [], ◌∷◌}
use Prim.Native.Nat.{ℕ}
use native.Mathlib.Omega.{arith}
use lib.Dec.{eqb}
use lib.Pointwise.{pointwise}
use Rattle.std.proofs.Math.Bool.{and_assoc}
use borrow.Author.Tests.{eq-eqb, ne_eqb, eqb-true, eqb-false}
use Rattle.semantics.specs.Lists.{same}
use Rattle.theory.proofs.Cases.{cases}
use Rattle.theory.proofs.Lists.{same_refl}
use Rattle.capi.specs.declared.pigrozd_answer.{pigrozd_answer as Given}
use Rattle.capi_slow.specs.declared.pigrozd_slow_answer.{pigrozd_slow_answer as SlowGiven}
use Rattle.capi.specs.Calls.{Calls}
use Rattle.capi_slow.specs.Calls.{SlowCalls}
use Rattle.accept.specs.declared.comparing.Comparison.{Comparison}
use Rattle.accept.specs.declared.comparing.Comparison.TheVariants as comparison
use Rattle.accept.specs.Comparing.{same_numbers, comparison_of, Compares}
use Rattle.accept.proofs.Engines.{same-numbers}

-- ---- what `==` says of two slices is what the definitions say of the lists
pub pointwise-same : (xs ys : List ℕ) → pointwise eqb xs ys ≡ same xs ys
pointwise-same [] [] = refl
pointwise-same [] (y ∷ ys) = refl
pointwise-same (x ∷ xs) [] = refl
pointwise-same (x ∷ xs) (y ∷ ys) = ap (λ p. eqb x y && p) (pointwise-same xs ys)

-- ---- the three words differ
skipped_no_differ : comparison.Skipped ≡ comparison.Differ → ⊥
skipped_no_differ e = let z : ◌≡◌ {A = ℕ} 0 1 = cc in omega arith

same_no_differ : comparison.Same ≡ comparison.Differ → ⊥
same_no_differ e = let z : ◌≡◌ {A = ℕ} 0 1 = cc in omega arith

module _ (a : Given) (b : SlowGiven) where
  -- ---- number, detail and rows: what `==` says of the two triples
  pub triples_equal : {p : Bool} → p ≡ (eqb a.number b.number && eqb a.detail b.detail && eqb a.rows b.rows) → p ≡ same_numbers a b
  unfolding same_numbers
  triples_equal e = e ∙ and_assoc (eqb a.number b.number) (eqb a.detail b.detail) (eqb a.rows b.rows)

  -- ---- the comparison
  module _ (one other : List ℕ) where
    -- what it is, with the tests for 10 and 15
    abbrev with_tests : Bool → Bool → Comparison
    with_tests p q =
        elim (p || q) [
          | true ↦ comparison.Skipped
          | false ↦ elim (same_numbers a b && same one other) [ true ↦ comparison.Same | false ↦ comparison.Differ ]
        ]

    skipped : (p : Bool) → with_tests p true ≡ comparison.Skipped
    skipped true = refl
    skipped false = refl

    pub join_says_10 : a.number ≡ 10 → comparison.Skipped ≡ comparison_of a b one other
    unfolding comparison_of
    join_says_10 e = sym (ap (λ p. with_tests p (eqb b.number 15)) (eq-eqb a.number 10 e))

    pub slow_says_15 : b.number ≡ 15 → comparison.Skipped ≡ comparison_of a b one other
    unfolding comparison_of
    slow_says_15 e = sym (ap (with_tests (eqb a.number 10)) (eq-eqb b.number 15 e) ∙ skipped (eqb a.number 10))

    -- what it is where both tests have failed, by the two comparisons
    abbrev verdict : Bool → Bool → Comparison
    verdict p q = elim (p && q) [ true ↦ comparison.Same | false ↦ comparison.Differ ]

    neither : (a.number ≡ 10 → ⊥) → (b.number ≡ 15 → ⊥) → comparison_of a b one other ≡ verdict (same_numbers a b) (same one other)
    unfolding comparison_of
    neither not10 not15 = ap₂ with_tests (ne_eqb a.number 10 not10) (ne_eqb b.number 15 not15)

    -- the same, by what `==` says of the numbers and of the words
    module _ (not10 : a.number ≡ 10 → ⊥) (not15 : b.number ≡ 15 → ⊥) where
      by_verdict : {p q : Bool} → p ≡ same_numbers a b → q ≡ pointwise eqb one other → verdict p q ≡ comparison_of a b one other
      by_verdict e f = ap₂ verdict e (f ∙ pointwise-same one other) ∙ sym (neither not10 not15)

      pub all_same : true ≡ same_numbers a b → true ≡ pointwise eqb one other → comparison.Same ≡ comparison_of a b one other
      all_same e f = by_verdict e f

      pub words_differ : true ≡ same_numbers a b → false ≡ pointwise eqb one other → comparison.Differ ≡ comparison_of a b one other
      words_differ e f = by_verdict e f

      pub numbers_differ : false ≡ same_numbers a b → comparison.Differ ≡ comparison_of a b one other
      numbers_differ e = by_verdict e refl

  -- ---- request U5's theorem: neither 10 nor 15 leaves both the same
  module _ {bytes s o s' one other : List ℕ} (J : Calls bytes s o s' one a) (T : SlowCalls bytes o other b) where
    equal-numbers : (b.number ≡ a.number) × (b.detail ≡ a.detail) × (b.rows ≡ a.rows) × (other ≡ one) → same_numbers a b ≡ true
    unfolding same_numbers
    equal-numbers q = rw (eq-eqb a.number b.number (sym q.0), eq-eqb a.detail b.detail (sym q.1), eq-eqb a.rows b.rows (sym q.2))

    both_same : (a.number ≡ 10 → ⊥) → (b.number ≡ 15 → ⊥) → comparison_of a b one other ≡ comparison.Same
    both_same not10 not15 =
        let q = same-numbers J T not10 not15 in
        neither one other not10 not15 ∙ ap₂ (verdict one other) (equal-numbers q) (ap (same one) q.3 ∙ same_refl one)

    never_differ : comparison_of a b one other ≡ comparison.Differ → ⊥
    never_differ d =
        cases (eqb a.number 10)
        (λ h. skipped_no_differ (join_says_10 one other (eqb-true a.number 10 h) ∙ d))
        (λ h. cases (eqb b.number 15)
        (λ k. skipped_no_differ (slow_says_15 one other (eqb-true b.number 15 k) ∙ d))
        (λ k. same_no_differ (sym (both_same (eqb-false a.number 10 h) (eqb-false b.number 15 k)) ∙ d)))

    pub compared : {c : Comparison} → c ≡ comparison_of a b one other → Compares bytes s o s' one other (record { joined = a; slow = b; comparison = c })
    compared e = record { joined = J; slow = T; is = e; agree = λ d. never_differ (sym e ∙ d) }
