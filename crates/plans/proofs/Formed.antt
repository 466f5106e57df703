-- A plan that is formed: found for tables without one, or mended; the join follows it.
use mathlib.Core.Path.{◌≡◌, refl, sym, ap, ◌∙◌, subst}
use mathlib.Core.List.{List, [], ◌∷◌}
use Prim.Native.Nat.{ℕ, ◌<◌, ◌≤◌}
use native.Mathlib.Omega.{arith}
use lib.ListN.{length, take}
use Rattle.semantics.specs.Files.{Table}
use Rattle.semantics.specs.Plans.{plan_of}
use Rattle.semantics.specs.Shapes.{shape_of}
use Rattle.semantics.specs.Elimination.{eliminate, plan_under}
use Rattle.semantics.specs.Outcome.{refused, admitted, found_verdict, plan_verdict, scratch_verdict}
use Rattle.theory.specs.Rules.{WithinRules}
use Rattle.theory.proofs.Spelling.{plan_of-encode}
use Rattle.theory.proofs.Misplaced.{spelled_exactly}
use Rattle.theory.proofs.FoundPlans.{elimination-cases}
use Rattle.theory.proofs.Rules.{asks-plan, plan-asked, plan-found, plan-within}
use Rattle.words.specs.Masks.{Masked}
use Rattle.elimination.specs.Steps.{Shaped}
use Rattle.elimination.specs.Searches.{SearchIs, Searched}
use Rattle.std.specs.Prelude.{Result, Ok, Err}
use Rattle.refusals.specs.declared.Refusal.{Refusal}
use Rattle.refusals.specs.Refusals.{number_of}
use Rattle.tables.specs.declared.Catalog.{Catalog}
use Rattle.scheduling.specs.declared.Schedule.{Schedule}
use Rattle.scheduling.specs.Schedules.{no_schedule}
use Rattle.plans.specs.Admissions.{not-admitted, Tabled, Named, NamedFor, Formable, asked, sent, Follows, Decided, decided_by, decided_following, decided_plan}
use Rattle.plans.specs.Forming.{FormableFor, PlanlessFor, PlanIn, FormedAs}
use Rattle.plans.proofs.Admitting.{masked, masks_are, count_is}
use Rattle.plans.proofs.Scratch.{refused_admission}

-- ---- what is found
module _ (c : Catalog) (ts : List Table) (h : Tabled c ts) where
  pub table-masks : Masked c.masks (shape_of ts)
  table-masks = rw (masks_are c ts h) (masked ts h.masks)

  -- answer 14, or the plan that is found
  pub found_formed : 0 < length ts → (before out : List ℕ) (r : Result ℕ Refusal) → Searched c.masks c.count before out r → FormedAs ts [] r out
  unfolding found_verdict
  found_formed l before out r is =
      let found : SearchIs (eliminate (shape_of ts) (length ts)) r before out = rw (count_is c ts h) at (is (shape_of ts) table-masks) in
      let none-sent : plan_verdict ts [] ≡ found_verdict ts = plan-found ts [] (plan-asked ts [] (record { present = l; empty = refl })) in
      elimination-cases (eliminate (shape_of ts) (length ts))
      (λ z hs i.
      let (m, a, fits, size, bytes) = subst (λ y. SearchIs y r before out) i found in
      let v : found_verdict ts ≡ admitted ts (plan_under hs z) = rw (i, found_verdict) in
      rw a (record { plan = plan_under hs z; admits = none-sent ∙ v; fits = fits; size = size; bytes = bytes }))
      (λ d i.
      let x = subst (λ y. SearchIs y r before out) i found in
      let v : found_verdict ts ≡ refused 14 d = rw (i, found_verdict) in
      rw x.0 (none-sent ∙ v))

-- what the search rests on
pub searchable : (c : Catalog) → PlanlessFor c → Shaped c.masks × (0 < c.count) × (c.count ≤ 16)
searchable c q =
    let e = count_is c q.ts q.tabled in
    ((shape_of q.ts, table-masks c q.ts q.tabled), omega (arith, q.present), omega (arith, q.tabled.few))

-- ---- which of the two is formed
asked-empty : (ts : List Table) (code : List ℕ) → Formable code ts → length code ≡ 0 → (code ≡ []) × (0 < length ts)
asked-empty ts [] (asked e) l = (refl, (asks-plan ts [] e).present)
asked-empty ts [] (sent n) l = let e = n.spelled in let z : ◌≡◌ {A = ℕ} 0 1 = cc in absurd (omega arith)
asked-empty ts (b ∷ code) f l = absurd (omega arith)

pub formed-empty : (ts : List Table) (code : List ℕ) (r : Result ℕ Refusal) (out : List ℕ) → Formable code ts → length code ≡ 0 → (0 < length ts → FormedAs ts [] r out) → FormedAs ts code r out
formed-empty ts code r out f l is = let (e, p) = asked-empty ts code f l in subst (λ x. FormedAs ts x r out) (sym e) (is p)

pub sent-named : (ts : List Table) (code : List ℕ) → Formable code ts → (length code ≡ 0 → ⊥) → Named code ts
sent-named ts code (sent n) l = n
sent-named ts code (asked e) l = absurd (l (ap length (asks-plan ts code e).empty))

pub planless_for : (c : Catalog) (code : List ℕ) → FormableFor code c → length code ≡ 0 → PlanlessFor c
planless_for c code q l = record { ts = q.ts; tabled = q.tabled; present = (asked-empty q.ts code q.formable l).1 }

pub named_for : (c : Catalog) (code : List ℕ) → FormableFor code c → (length code ≡ 0 → ⊥) → NamedFor code c
named_for c code q l = record { ts = q.ts; tabled = q.tabled; named = sent-named q.ts code q.formable l }

-- ---- what is formed is followed
module _ (c : Catalog) (ts : List Table) (h : Tabled c ts) (code out : List ℕ) (r : Result ℕ Refusal) (is : FormedAs ts code r out) where
  pub formed-refused : (e : Refusal) (words : ℕ) → r ≡ Err e → (free : Schedule) → free ≡ no_schedule
      → record { verdict = not-admitted (number_of e.reason) e.detail; catalog = c; schedule = free } ≡ decided_plan ts code words
  formed-refused e words q free f = refused_admission c ts code (number_of e.reason) e.detail words h (rw q at is) free f

  module _ (n : ℕ) (e : r ≡ Ok n) where
    pub plan_in : PlanIn ts code n out
    plan_in = rw e at is

    within : WithinRules ts plan_in.plan
    within = (plan-within ts ts code plan_in.plan h.few plan_in.admits).1

    plan_is : plan_of (take n out) ≡ plan_in.plan
    plan_is = ap plan_of plan_in.bytes ∙ plan_of-encode plan_in.plan within.small

    pub formed-follows : Follows (take n out) ts
    formed-follows =
        record {
          spelled = (spelled_exactly (take n out)).1 (record { plan = plan_in.plan; small = within.small; is = sym plan_in.bytes });
          within = rw plan_is within;
        }

    pub formed_admission : (words : ℕ) (a : Decided) → a ≡ decided_following ts (plan_of (take n out)) words → a ≡ decided_plan ts code words
    unfolding decided_following decided_plan
    formed_admission words a q =
        q ∙ ap (λ p. decided_by ts (scratch_verdict words (admitted ts p))) plan_is ∙ ap (λ v. decided_by ts (scratch_verdict words v)) (sym plan_in.admits)
