-- Answers 7 and 8, one after the other, for the tables of a catalog, and whether the plan is followed as it was sent.
use Prim.Native.Nat.{ℕ, ◌<◌, ◌≤◌, ◌^◌}
use mathlib.Core.Path.{◌≡◌, refl, sym, ap, ◌∙◌}
use mathlib.Core.Bool.{Bool, true, false}
use mathlib.Core.List.{List, [], ◌∷◌, map}
use mathlib.Core.Option.{none}
use native.Mathlib.Omega.{arith}
use lib.ListN.{length, get_or}
use lib.Dec.{ltb}
use Rattle.theory.specs.Elements.{Each}
use Rattle.semantics.specs.Files.{Table, has_bit}
use Rattle.semantics.specs.Plans.{Plan, misplaced, plan_of, misnamed}
use Rattle.semantics.specs.Shapes.{Shape, no_table, shape_of}
use Rattle.semantics.specs.Outcome.{refused, sent_verdict, asks_for_plan, plan_verdict}
use Rattle.theory.proofs.Cases.{cases, option_cases}
use Rattle.theory.proofs.Rules.{plan-sent}
use borrow.Author.Tests.{eq-eqb, ne_eqb, lt-ltb}
use Rattle.words.specs.Arrays.{padded}
use Rattle.words.specs.Masks.{Masked}
use Rattle.tables.specs.declared.Catalog.{Catalog}
use Rattle.tables.specs.Catalogs.{catalog_of}
use Rattle.std.specs.Prelude.{Result, Ok, Err}
use Rattle.refusals.specs.declared.Refusal.{Refusal}
use Rattle.refusals.specs.Refusals.{refused_at, reason_of, number_of, refusal_of}
use Rattle.mending.specs.Places.{PlanAt, Planned}
use Rattle.refusals.proofs.Numbers.{refused_none, refused_some}
use Rattle.tables.proofs.Catalogs.{mask_at, rows_at}
use Rattle.theory.proofs.Lists.{each_at}
use Rattle.plans.specs.declared.admission.Followed.TheVariants as followed
use Rattle.plans.specs.Judging.{well_behaved}
use Rattle.plans.specs.Admissions.{Tabled, Catalogued, asks_for, sent_check, check_of, Named, Formable, asked, sent}
use Rattle.mending.proofs.Places.{spelled-stands}

-- ---- the arrays of a catalog
module _ (ts : List Table) where
  -- the masks are those of the tables' shape
  pub masked : Each (λ t. t.mask < 2 ^ 32) ts → Masked (padded (map (λ t. t.mask) ts)) (shape_of ts)
  unfolding shape_of
  masked h =
      record {
        bits = λ t a lt. sym (ap (λ m. has_bit m a) (mask_at ts t));
        words = λ t lt. omega (arith, mask_at ts t, each_at (λ t. t.mask < 2 ^ 32) ts no_table h (omega arith) t);
      }

  pub rows_few : Each (λ t. t.rows ≤ 4096) ts → (t : ℕ) → t < 16 → get_or (padded (map (λ t. t.rows) ts)) t 0 ≤ 4096
  rows_few h t lt = omega (arith, rows_at ts t, each_at (λ t. t.rows ≤ 4096) ts no_table h (omega arith) t)

-- ---- by what the checks found
pub count_is : (c : Catalog) (ts : List Table) → Tabled c ts → c.count ≡ length ts
unfolding catalog_of
count_is c ts h = ap (λ x. x.count) h.is

pub masks_are : (c : Catalog) (ts : List Table) → Tabled c ts → c.masks ≡ padded (map (λ t. t.mask) ts)
unfolding catalog_of
masks_are c ts h = ap (λ x. x.masks) h.is

pub rows_are : (c : Catalog) (ts : List Table) → Tabled c ts → c.rows ≡ padded (map (λ t. t.rows) ts)
unfolding catalog_of
rows_are c ts h = ap (λ x. x.rows) h.is

pub count_few : (c : Catalog) → Catalogued c → c.count ≤ 16
count_few c q = omega (arith, count_is c q.ts q.tabled, q.tabled.few)

-- ---- whether a plan is asked for
asks_for_lem : (ts : List Table) (code : List ℕ) → asks_for (length ts) code ≡ asks_for_plan ts code
unfolding asks_for asks_for_plan
asks_for_lem [] [] = refl
asks_for_lem [] (b ∷ code) = rw (ne_eqb (length (b ∷ code)) 0 (λ e. omega arith))
asks_for_lem (t ∷ ts) [] = rw (lt-ltb 0 (length (t ∷ ts)) (omega arith))
asks_for_lem (t ∷ ts) (b ∷ code) = rw (ne_eqb (length (b ∷ code)) 0 (λ e. omega arith))

pub asks_none : (n : ℕ) (code : List ℕ) → length code ≡ 0 → ltb 0 n ≡ asks_for n code
unfolding asks_for
asks_none n code e = rw (eq-eqb (length code) 0 e)

pub asks_some : (n : ℕ) (code : List ℕ) → (length code ≡ 0 → ⊥) → false ≡ asks_for n code
unfolding asks_for
asks_some n code d = rw (ne_eqb (length code) 0 d)

sent_check_lem : (ts : List Table) (code : List ℕ) → asks_for_plan ts code ≡ false → check_of ts code ≡ sent_check ts code
unfolding check_of
sent_check_lem ts code e = rw (e, check_of)

-- bytes that spell a plan ask for none
pub spelled-sent : (ts : List Table) (code : List ℕ) → misplaced 1 0 code ≡ none → asks_for_plan ts code ≡ false
unfolding asks_for_plan
spelled-sent ts [] e = let z : ◌≡◌ {A = ℕ} 0 1 = cc in absurd (omega arith)
spelled-sent [] (b ∷ code) e = refl
spelled-sent (t ∷ ts) (b ∷ code) e = refl

module _ (c : Catalog) (code : List ℕ) (q : Bool) (asks : q ≡ asks_for c.count code) where
  asks_is : (ts : List Table) → Tabled c ts → q ≡ asks_for_plan ts code
  asks_is ts h = asks ∙ ap (λ n. asks_for n code) (count_is c ts h) ∙ asks_for_lem ts code

  pub is-asked : q ≡ true → (ts : List Table) → Tabled c ts → Ok followed.Formed ≡ check_of ts code
  unfolding check_of
  is-asked e ts h = sym (rw (sym (asks_is ts h) ∙ e, check_of) refl)

  pub is-sent : q ≡ false → (ts : List Table) → Tabled c ts → asks_for_plan ts code ≡ false
  is-sent e ts h = sym (asks_is ts h) ∙ e

-- ---- answers 7 and 8
module _ (c : Catalog) (code : List ℕ) (sent : (ts : List Table) → Tabled c ts → asks_for_plan ts code ≡ false)
    (f : Result (Unit {0}) Refusal) (seven : f ≡ refused_at 7 (misplaced 1 0 code)) where
  pub answer_7 : (r : Refusal) → f ≡ Err r → (ts : List Table) → Tabled c ts → Err r ≡ check_of ts code
  unfolding sent_check
  answer_7 r e ts h =
      let (o, q) = refused_some 7 (misplaced 1 0 code) r (sym e ∙ seven) in
      ap (λ x. Err x) q ∙ sym (sent_check_lem ts code (sent ts h) ∙ rw (o, sent_check) refl)

  module _ (spells : f ≡ Ok tt) where
    none_7 : misplaced 1 0 code ≡ none
    none_7 = refused_none 7 (misplaced 1 0 code) (sym spells ∙ seven)

    pub spelled-plan : Planned code 0
    spelled-plan = record { plan = plan_of code; end = length code; stands = spelled-stands code none_7 }

    module _ (g : Result (Unit {0}) Refusal) (eight : g ≡ refused_at 8 (misnamed c.count [] 0 code)) where
      eight_of : (ts : List Table) → Tabled c ts → g ≡ refused_at 8 (misnamed (length ts) [] 0 code)
      eight_of ts h = eight ∙ ap (λ n. refused_at 8 (misnamed n [] 0 code)) (count_is c ts h)

      pub answer_8 : (r : Refusal) → g ≡ Err r → (ts : List Table) → Tabled c ts → Err r ≡ check_of ts code
      unfolding sent_check
      answer_8 r e ts h =
          let (o, q) = refused_some 8 (misnamed (length ts) [] 0 code) r (sym e ∙ eight_of ts h) in
          ap (λ x. Err x) q ∙ sym (sent_check_lem ts code (sent ts h) ∙ rw (none_7, o, sent_check) refl)

      module _ (names : g ≡ Ok tt) (b : Bool) (judged : (S : Shape) → Masked c.masks S → (p : Plan) → PlanAt code 0 p (length code) → b ≡ well_behaved S p) where
        none_8 : (ts : List Table) → Tabled c ts → misnamed (length ts) [] 0 code ≡ none
        none_8 ts h = refused_none 8 (misnamed (length ts) [] 0 code) (sym names ∙ eight_of ts h)

        tested : (ts : List Table) → Tabled c ts → b ≡ well_behaved (shape_of ts) (plan_of code)
        tested ts h = judged (shape_of ts) (rw (masks_are c ts h) (masked ts h.masks)) (plan_of code) (spelled-stands code none_7)

        pub is-behaved : b ≡ true → (ts : List Table) → Tabled c ts → Ok followed.AsSent ≡ check_of ts code
        unfolding sent_check
        is-behaved e ts h = sym (sent_check_lem ts code (sent ts h) ∙ rw (none_7, none_8 ts h, sym (tested ts h) ∙ e, sent_check) refl)

        pub is_not-behaved : b ≡ false → (ts : List Table) → Tabled c ts → Ok followed.Formed ≡ check_of ts code
        unfolding sent_check
        is_not-behaved e ts h = sym (sent_check_lem ts code (sent ts h) ∙ rw (none_7, none_8 ts h, sym (tested ts h) ∙ e, sent_check) refl)

-- ---- what a check tells
pub record Passed (ts : List Table) (code : List ℕ) (b : Bool) : Type 0 where
  pub named : Named code ts
  pub tested : well_behaved (shape_of ts) (plan_of code) ≡ b

sent-cases : {P : Type 0} (ts : List Table) (code : List ℕ)
    → ((n i : ℕ) → number_of (reason_of n) ≡ n → sent_check ts code ≡ Err (refusal_of n i) → sent_verdict ts code ≡ refused n i → P)
    → (sent_check ts code ≡ Ok followed.AsSent → Passed ts code true → P)
    → (sent_check ts code ≡ Ok followed.Formed → Passed ts code false → P)
    → P
unfolding sent_check sent_verdict
sent-cases ts code a b d =
    option_cases (misplaced 1 0 code)
    (λ x. option_cases (misnamed (length ts) [] 0 code)
    (λ y. cases (well_behaved (shape_of ts) (plan_of code))
    (λ z. b (rw (x, y, z, sent_check) refl) (record { named = record { spelled = x; named = y }; tested = z }))
    (λ z. d (rw (x, y, z, sent_check) refl) (record { named = record { spelled = x; named = y }; tested = z })))
    (λ i y. a 8 i refl (rw (x, y, sent_check) refl) (rw (x, y, sent_verdict) refl)))
    (λ i x. a 7 i refl (rw (x, sent_check) refl) (rw (x, sent_verdict) refl))

check-cases : {P : Type 0} (ts : List Table) (code : List ℕ)
    → ((n i : ℕ) → number_of (reason_of n) ≡ n → check_of ts code ≡ Err (refusal_of n i) → plan_verdict ts code ≡ refused n i → P)
    → (check_of ts code ≡ Ok followed.AsSent → Passed ts code true → P)
    → (check_of ts code ≡ Ok followed.Formed → Formable code ts → P)
    → P
unfolding check_of
check-cases ts code a b d =
    cases (asks_for_plan ts code) (λ e. d (rw (e, check_of) refl) (asked e))
    (λ e. sent-cases ts code
    (λ n i k x v. a n i k (sent_check_lem ts code e ∙ x) (plan-sent ts code e ∙ v))
    (λ x p. b (sent_check_lem ts code e ∙ x) p)
    (λ x p. d (sent_check_lem ts code e ∙ x) (sent p.named)))

pub check-refused : (ts : List Table) (code : List ℕ) (r : Refusal) → Err r ≡ check_of ts code → plan_verdict ts code ≡ refused (number_of r.reason) r.detail
check-refused ts code r e =
    check-cases ts code
    (λ m i k q v. let y : Err r ≡ Err (refusal_of m i) = e ∙ q in
    let z : r ≡ refusal_of m i = cc in
    v ∙ rw z (ap (λ n. refused n i) (sym k)))
    (λ q p. let y : Err r ≡ Ok followed.AsSent = e ∙ q in let z : ◌≡◌ {A = ℕ} 0 1 = cc in absurd (omega arith))
    (λ q p. let y : Err r ≡ Ok followed.Formed = e ∙ q in let z : ◌≡◌ {A = ℕ} 0 1 = cc in absurd (omega arith))

pub check-as-sent : (ts : List Table) (code : List ℕ) → Ok followed.AsSent ≡ check_of ts code → Passed ts code true
check-as-sent ts code e =
    check-cases ts code
    (λ m i k q v. let y : Ok followed.AsSent ≡ Err (refusal_of m i) = e ∙ q in let z : ◌≡◌ {A = ℕ} 0 1 = cc in absurd (omega arith))
    (λ q p. p)
    (λ q p. let y : Ok followed.AsSent ≡ Ok followed.Formed = e ∙ q in let z : ◌≡◌ {A = ℕ} 0 1 = cc in absurd (omega arith))

pub check_formed : (ts : List Table) (code : List ℕ) → Ok followed.Formed ≡ check_of ts code → Formable code ts
check_formed ts code e =
    check-cases ts code
    (λ m i k q v. let y : Ok followed.Formed ≡ Err (refusal_of m i) = e ∙ q in let z : ◌≡◌ {A = ℕ} 0 1 = cc in absurd (omega arith))
    (λ q p. let y : Ok followed.Formed ≡ Ok followed.AsSent = e ∙ q in let z : ◌≡◌ {A = ℕ} 0 1 = cc in absurd (omega arith))
    (λ q p. p)
