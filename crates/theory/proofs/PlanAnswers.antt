-- The answers 7, 8, 9 and 14 of a file, each with its detail, in the papers' words; and which plan a file within the rules has the join
-- follow.
use mathlib.Core.Path.{◌≡◌, sym, ap, ◌∙◌, subst}
use mathlib.Core.List.{List, [], ◌∷◌}
use mathlib.Core.Logic.{inl, inr, ◌↔◌}
use Prim.Native.Nat.{ℕ, ◌+◌, ◌≤◌, ◌<◌}
use native.Mathlib.Omega.{arith}
use lib.ListN.{length}
use lib.Dec.{eqb}
use Rattle.theory.specs.Elements.{one_if}
use Rattle.semantics.specs.Files.{Table, fault, plan_bytes, read}
use Rattle.semantics.specs.Plans.{Plan, tables, leftmost}
use Rattle.semantics.specs.Shapes.{shape_of}
use Rattle.semantics.specs.Mending.{mend}
use Rattle.theory.specs.Selections.{Mendable}
use Rattle.theory.specs.Trees.{UnderEach, HungRising}
use Rattle.semantics.specs.Elimination.{Hanging, rooted, stuck, eliminate, plan_under}
use Rattle.theory.specs.Details.{SpellsPlan, FirstMisplaced, FirstMisnamed, FirstLacking, WithoutPlan, NoneHangs, FoundPlan, NoPlan, Followed, mended, found, ReadsPlan}
use Rattle.theory.specs.Rules.{NamedOnce, ReadingNumber}
use Rattle.semantics.specs.Outcome.{Verdict, refused, admitted, sent_verdict, found_verdict, asks_for_plan, plan_verdict, read_verdict, rules_verdict}
use Rattle.theory.proofs.Cases.{cases, true-false}
use Rattle.theory.proofs.Lists.{length-filter-sum}
use Rattle.theory.proofs.Mending.{mend-sum, mend_each, mend-well_behaved}
use Rattle.theory.proofs.Reading.{ending-cases, fault-number}
use Rattle.theory.proofs.FoundPlans.{elimination-cases, sums-named, rooted-plan, stuck_none}
use Rattle.theory.proofs.Eliminating.{stuck_exactly, rooted_exactly}
use Rattle.theory.proofs.Forests.{plan_under-leftmost}
use Rattle.theory.proofs.LastRoots.{root_last}
use Rattle.theory.proofs.Children.{remains_rise}
use Rattle.theory.proofs.Spelling.{encode_some}
use Rattle.theory.proofs.Rules.{asks-plan, plan-asked, plan-sent, plan-found}
use Rattle.theory.proofs.SentAnswers.{sent_seven, sent_eight, sent_nine, sent-within, sent_other}

-- bytes that spell a plan do not ask for one
spells-plan : (ts : List Table) (code : List ℕ) → SpellsPlan code → WithoutPlan ts code → ⊥
spells-plan ts code s w = encode_some s.plan (s.is ∙ w.empty)

module _ (ts : List Table) (code : List ℕ) where
  asked : WithoutPlan ts code → plan_verdict ts code ≡ found_verdict ts
  asked w = plan-found ts code (plan-asked ts code w)

  plan-cases : {P : Type 0} → (WithoutPlan ts code → plan_verdict ts code ≡ found_verdict ts → P) → ((WithoutPlan ts code → ⊥) → plan_verdict ts code ≡ sent_verdict ts code → P) → P
  plan-cases f g =
      cases (asks_for_plan ts code) (λ h. f (asks-plan ts code h) (plan-found ts code h))
      (λ h. g (λ w. true-false (asks_for_plan ts code) (plan-asked ts code w) h) (plan-sent ts code h))

  -- ---- what is found: 14 or a plan
  found-plan : {z : ℕ} {hs : List Hanging} → eliminate (shape_of ts) (length ts) ≡ rooted z hs → found_verdict ts ≡ admitted ts (plan_under hs z)
  unfolding found_verdict
  found-plan e = rw (e, found_verdict)

  found_none : {d : ℕ} → eliminate (shape_of ts) (length ts) ≡ stuck d → found_verdict ts ≡ refused 14 d
  unfolding found_verdict
  found_none e = rw (e, found_verdict)

  found_other : (n d : ℕ) → n ≤ 13 → found_verdict ts ≡ refused n d → ⊥
  found_other n d l e =
      elimination-cases (eliminate (shape_of ts) (length ts)) (λ z hs q. let o : ◌≡◌ {A = ℕ} 0 1 = cc (found-plan q, e) in omega arith)
      (λ c q. let o : 14 ≡ n = cc (found_none q, e) in omega arith)

  -- ---- 7, 8 and 9
  sent_exactly : (n d : ℕ) (X : Type 0) → n ≤ 13 → ((sent_verdict ts code ≡ refused n d) ↔ X) → (plan_verdict ts code ≡ refused n d) ↔ ((WithoutPlan ts code → ⊥) × X)
  sent_exactly n d X l x = (
    λ e. plan-cases (λ w q. absurd (found_other n d l (sym q ∙ e))) (λ w q. (w, x.0 (sym q ∙ e))),
    λ y. plan-cases (λ w q. absurd (y.0 w)) (λ w q. q ∙ x.1 y.1),
  )

  -- 7: no plan is asked for, and the bytes go wrong at index i, or end early there
  pub seven_exactly : (i : ℕ) → (plan_verdict ts code ≡ refused 7 i) ↔ ((WithoutPlan ts code → ⊥) × FirstMisplaced code i)
  seven_exactly i = sent_exactly 7 i (FirstMisplaced code i) (omega arith) (sent_seven ts code i)

  -- 8: they spell a plan, and the first wrong name is at i, or none is wrong and a table is missing
  pub eight_exactly : (i : ℕ) → (plan_verdict ts code ≡ refused 8 i) ↔ (SpellsPlan code × FirstMisnamed (length ts) code i)
  eight_exactly i =
      let x = sent_exactly 8 i (SpellsPlan code × FirstMisnamed (length ts) code i) (omega arith) (sent_eight ts code i) in
      (λ e. (x.0 e).1, λ f. x.1 (spells-plan ts code f.0, f))

  -- 9: they spell a plan that names each table once, and the first FF whose join has a side without a holder is at i
  pub nine_exactly : (i : ℕ) → (plan_verdict ts code ≡ refused 9 i) ↔ ((s : SpellsPlan code) × NamedOnce (length ts) (tables s.plan) × FirstLacking (shape_of ts) s.plan i)
  nine_exactly i =
      let x = sent_exactly 9 i ((s : SpellsPlan code) × NamedOnce (length ts) (tables s.plan) × FirstLacking (shape_of ts) s.plan i) (omega arith) (sent_nine ts code i) in
      (λ e. (x.0 e).1, λ f. x.1 (spells-plan ts code f.0, f))

  -- ---- 14
  -- a plan is asked for, and after some steps no table can be hung; d is the lowest number that remains then
  pub fourteen_exactly : (d : ℕ) → (plan_verdict ts code ≡ refused 14 d) ↔ (WithoutPlan ts code × NoneHangs (shape_of ts) (length ts) d)
  fourteen_exactly d = (
    λ e. plan-cases
        (λ w q. (
          w,
          elimination-cases (eliminate (shape_of ts) (length ts)) (λ z hs r. let o : ◌≡◌ {A = ℕ} 0 1 = cc (found-plan r, q, e) in absurd (omega arith))
              (λ c r. let o : c ≡ d = cc (found_none r, q, e) in (stuck_exactly (shape_of ts) (length ts) d w.present).0 (r ∙ ap stuck o)),
        ))
        (λ w q. absurd (sent_other ts code 14 d (omega arith) (sym q ∙ e))),
    λ x. asked x.0 ∙ found_none ((stuck_exactly (shape_of ts) (length ts) d x.0.present).1 x.1),
  )

  -- a plan is asked for, and "no well-behaved plan over these tables exists"
  pub no-plan_exactly : ((d : ℕ) × (plan_verdict ts code ≡ refused 14 d)) ↔ (WithoutPlan ts code × NoPlan ts)
  no-plan_exactly = (
    λ x.
        let (d, e) = x in
        let (w, h) = (fourteen_exactly d).0 e in
        (w, stuck_none (length ts) (shape_of ts) d w.present ((stuck_exactly (shape_of ts) (length ts) d w.present).1 h)),
    λ x.
        let (w, f) = x in
        elimination-cases (eliminate (shape_of ts) (length ts))
        (λ z hs r.
        let (s, b) = rooted-plan (length ts) (shape_of ts) z hs w.present r in
        absurd (f (plan_under hs z) (sums-named (length ts) (tables (plan_under hs z)) s) b))
        (λ d r. (d, asked w ∙ found_none r)),
  )

  -- ---- within the rules
  -- the plan that is followed is the one sent, mended, or the one found
  pub within_exactly : (p : Plan) → (plan_verdict ts code ≡ admitted ts p) ↔ Followed ts code p
  within_exactly p = (
    λ e. plan-cases
        (λ w q. elimination-cases (eliminate (shape_of ts) (length ts))
        (λ z hs r.
        let o : plan_under hs z ≡ p = cc (found-plan r, q, e) in
        found w (record { root = z; hung = hs; remains = (rooted_exactly (shape_of ts) (length ts) z hs w.present).0 r; is = o }))
        (λ d r. let o : ◌≡◌ {A = ℕ} 0 1 = cc (found_none r, q, e) in absurd (omega arith)))
        (λ w q. let (s, o, m, z) = (sent-within ts code p).0 (sym q ∙ e) in mended s o m z),
    back,
  )
    where
      back : Followed ts code p → plan_verdict ts code ≡ admitted ts p
      back (mended s o m z) = plan-cases (λ w q. absurd (spells-plan ts code s w)) (λ w q. q ∙ (sent-within ts code p).1 (s, o, m, z))
      back (found w x) =
          asked w ∙ found-plan ((rooted_exactly (shape_of ts) (length ts) x.root x.hung w.present).1 x.remains) ∙ ap (admitted ts) x.is

-- ---- what follows for users
-- the plan that is found names the last table first
pub found_last : (ts : List Table) (code : List ℕ) (p : Plan) → Followed ts code p → WithoutPlan ts code → leftmost p + 1 ≡ length ts
found_last ts code p (mended s o m z) w = absurd (spells-plan ts code s w)
found_last ts code p (found v x) w =
    let e = (rooted_exactly (shape_of ts) (length ts) x.root x.hung w.present).1 x.remains in
    omega (arith, root_last (shape_of ts) (length ts) x.root x.hung w.present e, ap leftmost x.is, plan_under-leftmost x.hung x.root)

-- under every table of it the "children stand in rising number", and are what was hung there
pub found-rising : (ts : List Table) (code : List ℕ) (p : Plan) → Followed ts code p → WithoutPlan ts code → (x : FoundPlan (shape_of ts) (length ts) p) × UnderEach (HungRising x.hung) p
found-rising ts code p (mended s o m z) w = absurd (spells-plan ts code s w)
found-rising ts code p (found v x) w = (x, subst (UnderEach (HungRising x.hung)) x.is (remains_rise (shape_of ts) (length ts) (x.root ∷ []) x.hung x.remains x.root))

-- where no plan is found, none that is sent can be mended: each that names the tables once is a 9
pub no-plan-unmendable : (ts : List Table) → NoPlan ts → (q : Plan) → NamedOnce (length ts) (tables q) → Mendable (shape_of ts) q → ⊥
no-plan-unmendable ts f q o m =
    let S = shape_of ts in
    let named : NamedOnce (length ts) (tables (mend S q))
    = record {
      present = mend_each S (λ t. t < length ts) q o.present;
      once = λ t h.
          length-filter-sum (eqb t) (tables (mend S q)) ∙ mend-sum S (λ x. one_if (eqb t x)) q ∙ sym (length-filter-sum (eqb t) (tables q)) ∙ o.once t h;
    } in
    f (mend S q) named (mend-well_behaved S q m)

-- ---- of a file: past 6 and 19, the bytes of its plan decide
-- a number of the reading from 7 on is 19
reading-late : (n : ℕ) → ReadingNumber n → 7 ≤ n → 19 ≤ n
reading-late n (inl h) l = omega (arith, h.1)
reading-late n (inr h) l = omega arith

module _ (bytes : List ℕ) where
  abbrev ts : List Table
  ts = (read bytes).tables

  rules-plan : {code : List ℕ} → (read bytes).ending ≡ plan_bytes code → rules_verdict bytes ≡ plan_verdict ts code
  unfolding rules_verdict read_verdict
  rules-plan e = rw (e, read_verdict)

  rules-fault : {n d : ℕ} → (read bytes).ending ≡ fault n d → rules_verdict bytes ≡ refused n d
  unfolding rules_verdict read_verdict
  rules-fault e = rw (e, read_verdict)

  past-six : (v : Verdict) (X : List ℕ → Type 0) → ((n d : ℕ) → v ≡ refused n d → (7 ≤ n) × (n ≤ 18)) → ((code : List ℕ) → (plan_verdict ts code ≡ v) ↔ X code) → (rules_verdict bytes ≡ v) ↔ ReadsPlan bytes X
  past-six v X h x = (
    λ e. ending-cases (read bytes).ending (λ n d f. let q = h n d (sym e ∙ rules-fault f) in absurd (omega (arith, reading-late n (fault-number bytes n d f) q.0, q.1)))
        (λ code f. record { code = code; reads = f; has = (x code).0 (sym (rules-plan f) ∙ e) }),
    λ r. rules-plan r.reads ∙ (x r.code).1 r.has,
  )

  pub file_seven : (i : ℕ) → (rules_verdict bytes ≡ refused 7 i) ↔ ReadsPlan bytes (λ code. (WithoutPlan ts code → ⊥) × FirstMisplaced code i)
  file_seven i =
      past-six (refused 7 i) (λ code. (WithoutPlan ts code → ⊥) × FirstMisplaced code i) (λ n d e. let z : 7 ≡ n = cc in omega arith) (λ code. seven_exactly ts code i)

  pub file_eight : (i : ℕ) → (rules_verdict bytes ≡ refused 8 i) ↔ ReadsPlan bytes (λ code. SpellsPlan code × FirstMisnamed (length ts) code i)
  file_eight i = past-six (refused 8 i) (λ code. SpellsPlan code × FirstMisnamed (length ts) code i) (λ n d e. let z : 8 ≡ n = cc in omega arith) (λ code. eight_exactly ts code i)

  pub file_nine : (i : ℕ) → (rules_verdict bytes ≡ refused 9 i) ↔ ReadsPlan bytes (λ code. (s : SpellsPlan code) × NamedOnce (length ts) (tables s.plan) × FirstLacking (shape_of ts) s.plan i)
  file_nine i =
      past-six (refused 9 i) (λ code. (s : SpellsPlan code) × NamedOnce (length ts) (tables s.plan) × FirstLacking (shape_of ts) s.plan i) (λ n d e. let z : 9 ≡ n = cc in omega arith)
      (λ code. nine_exactly ts code i)

  pub file_fourteen : (d : ℕ) → (rules_verdict bytes ≡ refused 14 d) ↔ ReadsPlan bytes (λ code. WithoutPlan ts code × NoneHangs (shape_of ts) (length ts) d)
  file_fourteen d =
      past-six (refused 14 d) (λ code. WithoutPlan ts code × NoneHangs (shape_of ts) (length ts) d) (λ n c e. let z : 14 ≡ n = cc in omega arith) (λ code. fourteen_exactly ts code d)

  pub file_no-plan : ((d : ℕ) × (rules_verdict bytes ≡ refused 14 d)) ↔ ReadsPlan bytes (λ code. WithoutPlan ts code × NoPlan ts)
  file_no-plan = (
    λ x.
        let r = (file_fourteen x.0).0 x.1 in
        record { code = r.code; reads = r.reads; has = (no-plan_exactly ts r.code).0 (x.0, (fourteen_exactly ts r.code x.0).1 r.has) },
    λ r. let (d, e) = (no-plan_exactly ts r.code).1 r.has in (d, rules-plan r.reads ∙ e),
  )

  pub file-within : (p : Plan) → (rules_verdict bytes ≡ admitted ts p) ↔ ReadsPlan bytes (λ code. Followed ts code p)
  file-within p = past-six (admitted ts p) (λ code. Followed ts code p) (λ n d e. let z : ◌≡◌ {A = ℕ} 0 1 = cc in absurd (omega arith)) (λ code. within_exactly ts code p)
