-- The answers 7, 8 and 9 for a plan that is sent, each with its detail, in document 01's words; and when such a plan is within the rules.
use mathlib.Core.Path.{◌≡◌, sym, ap, ◌∙◌}
use mathlib.Core.Logic.{◌↔◌}
use mathlib.Core.List.{List, []}
use mathlib.Core.Option.{none, some}
use Prim.Native.Nat.{ℕ, ◌≤◌}
use native.Mathlib.Omega.{arith}
use lib.ListN.{length}
use Rattle.semantics.specs.Files.{Table}
use Rattle.semantics.specs.Plans.{Plan, tables, misplaced, plan_of, misnamed}
use Rattle.semantics.specs.Shapes.{shape_of}
use Rattle.semantics.specs.Mending.{mend, unmendable}
use Rattle.theory.specs.Selections.{Mendable}
use Rattle.theory.specs.Details.{SpellsPlan, FirstMisplaced, FirstMisnamed, FirstLacking}
use Rattle.theory.specs.Rules.{NamedOnce}
use Rattle.semantics.specs.Outcome.{Verdict, refused, admitted, sent_verdict}
use Rattle.theory.proofs.Cases.{option_cases}
use Rattle.theory.proofs.Spelling.{plan_of-encode}
use Rattle.theory.proofs.Misplaced.{spelled_exactly, first-misplaced}
use Rattle.theory.proofs.Misnamed.{plan-named_exactly, first-misnamed}
use Rattle.theory.proofs.Lacking.{mendable_exactly, first_lacking}

-- two refusals at once
clash : {P : Type 0} {v : Verdict} {n d m c : ℕ} → v ≡ refused n d → v ≡ refused m c → (n ≡ m → ⊥) → P
clash e f h = absurd (h (cc))

module _ (ts : List Table) (code : List ℕ) where
  seven : {i : ℕ} → misplaced 1 0 code ≡ some i → sent_verdict ts code ≡ refused 7 i
  unfolding sent_verdict
  seven h = rw (h, sent_verdict)

  eight : {i : ℕ} → misplaced 1 0 code ≡ none → misnamed (length ts) [] 0 code ≡ some i → sent_verdict ts code ≡ refused 8 i
  unfolding sent_verdict
  eight h g = rw (h, g, sent_verdict)

  nine : {i : ℕ} → misplaced 1 0 code ≡ none → misnamed (length ts) [] 0 code ≡ none → unmendable (shape_of ts) (plan_of code) 0 ≡ some i → sent_verdict ts code ≡ refused 9 i
  unfolding sent_verdict
  nine h g f = rw (h, g, f, sent_verdict)

  within : misplaced 1 0 code ≡ none → misnamed (length ts) [] 0 code ≡ none → unmendable (shape_of ts) (plan_of code) 0 ≡ none → sent_verdict ts code ≡ admitted ts (mend (shape_of ts) (plan_of code))
  unfolding sent_verdict
  within h g f = rw (h, g, f, sent_verdict)

  judged : {P : Type 0}
      → ((i : ℕ) → misplaced 1 0 code ≡ some i → P)
      → ((i : ℕ) → misplaced 1 0 code ≡ none → misnamed (length ts) [] 0 code ≡ some i → P)
      → ((i : ℕ) → misplaced 1 0 code ≡ none → misnamed (length ts) [] 0 code ≡ none → unmendable (shape_of ts) (plan_of code) 0 ≡ some i → P)
      → (misplaced 1 0 code ≡ none → misnamed (length ts) [] 0 code ≡ none → unmendable (shape_of ts) (plan_of code) 0 ≡ none → P)
      → P
  judged a b c d =
      option_cases (misplaced 1 0 code)
      (λ h. option_cases (misnamed (length ts) [] 0 code) (λ g. option_cases (unmendable (shape_of ts) (plan_of code) 0) (λ f. d h g f) (λ i f. c i h g f)) (λ i g. b i h g))
      a

  -- no other number is given
  pub sent_other : (n d : ℕ) → 10 ≤ n → sent_verdict ts code ≡ refused n d → ⊥
  sent_other n d l e =
      judged (λ i h. clash (seven h) e (λ z. omega arith)) (λ i h g. clash (eight h g) e (λ z. omega arith)) (λ i h g f. clash (nine h g f) e (λ z. omega arith))
      (λ h g f. let z : ◌≡◌ {A = ℕ} 0 1 = cc (within h g f, e) in omega arith)

  spelled-plan : (s : SpellsPlan code) → plan_of code ≡ s.plan
  spelled-plan s = ap plan_of (sym s.is) ∙ plan_of-encode s.plan s.small

  -- 7: the bytes go wrong at index i, or end early there
  pub sent_seven : (i : ℕ) → (sent_verdict ts code ≡ refused 7 i) ↔ FirstMisplaced code i
  sent_seven i = (
    λ e. judged (λ k h. let z : k ≡ i = cc (seven h, e) in (first-misplaced code i).0 (h ∙ ap some z))
        (λ k h g. clash (eight h g) e (λ z. omega arith)) (λ k h g f. clash (nine h g f) e (λ z. omega arith)) (λ h g f. let z : ◌≡◌ {A = ℕ} 0 1 = cc (within h g f, e) in absurd (omega arith)),
    λ f. seven ((first-misplaced code i).1 f),
  )

  -- 8: they spell a plan, and the first wrong name is at i, or none is wrong and a table is missing
  pub sent_eight : (i : ℕ) → (sent_verdict ts code ≡ refused 8 i) ↔ (SpellsPlan code × FirstMisnamed (length ts) code i)
  sent_eight i = (
    λ e. judged (λ k h. clash (seven h) e (λ z. omega arith))
        (λ k h g. let z : k ≡ i = cc (eight h g, e) in ((spelled_exactly code).0 h, (first-misnamed (length ts) code i).0 (g ∙ ap some z)))
        (λ k h g f. clash (nine h g f) e (λ z. omega arith)) (λ h g f. let z : ◌≡◌ {A = ℕ} 0 1 = cc (within h g f, e) in absurd (omega arith)),
    λ f. eight ((spelled_exactly code).1 f.0) ((first-misnamed (length ts) code i).1 f.1),
  )

  -- 9: they spell a plan that names each table once, and the first FF whose join has a side without a holder is at i
  pub sent_nine : (i : ℕ) → (sent_verdict ts code ≡ refused 9 i) ↔ ((s : SpellsPlan code) × NamedOnce (length ts) (tables s.plan) × FirstLacking (shape_of ts) s.plan i)
  sent_nine i = (
    λ e. judged (λ k h. clash (seven h) e (λ z. omega arith)) (λ k h g. clash (eight h g) e (λ z. omega arith))
        (λ k h g f.
        let z : k ≡ i = cc (nine h g f, e) in
        let s = (spelled_exactly code).0 h in
        (s, rw (← spelled-plan s) ((plan-named_exactly (length ts) code h).0 g), rw (← spelled-plan s) ((first_lacking (shape_of ts) (plan_of code) i).0 (f ∙ ap some z))))
        (λ h g f. let z : ◌≡◌ {A = ℕ} 0 1 = cc (within h g f, e) in absurd (omega arith)),
    λ q.
        let (s, o, f) = q in
        let h = (spelled_exactly code).1 s in
        nine h ((plan-named_exactly (length ts) code h).1 (rw (spelled-plan s) o)) ((first_lacking (shape_of ts) (plan_of code) i).1 (rw (spelled-plan s) f)),
  )

  -- within the rules: they spell a plan that names each table once and can be mended, and the mended one is followed
  pub sent-within : (p : Plan) → (sent_verdict ts code ≡ admitted ts p) ↔ ((s : SpellsPlan code) × NamedOnce (length ts) (tables s.plan) × Mendable (shape_of ts) s.plan × (mend (shape_of ts) s.plan ≡ p))
  sent-within p = (
    λ e. judged (λ k h. other (seven h) e) (λ k h g. other (eight h g) e) (λ k h g f. other (nine h g f) e)
        (λ h g f.
        let z : mend (shape_of ts) (plan_of code) ≡ p = cc (within h g f, e) in
        let s = (spelled_exactly code).0 h in
        (s, rw (← spelled-plan s) ((plan-named_exactly (length ts) code h).0 g), rw (← spelled-plan s) ((mendable_exactly (shape_of ts) (plan_of code)).0 f), rw (← spelled-plan s) z)),
    λ q.
        let (s, o, m, z) = q in
        let h = (spelled_exactly code).1 s in
        within h ((plan-named_exactly (length ts) code h).1 (rw (spelled-plan s) o)) ((mendable_exactly (shape_of ts) (plan_of code)).1 (rw (spelled-plan s) m))
        ∙ ap (λ x. admitted ts (mend (shape_of ts) x)) (spelled-plan s) ∙ ap (admitted ts) z,
  )
    where
      other : {P : Type 0} {v : Verdict} {n d : ℕ} → v ≡ refused n d → v ≡ admitted ts p → P
      other e f = let z : ◌≡◌ {A = ℕ} 0 1 = cc in absurd (omega arith)
