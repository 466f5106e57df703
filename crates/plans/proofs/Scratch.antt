-- Answer 10, and the schedule that an admitted plan gets.
use Prim.Native.Nat.{ℕ, ◌+◌, ◌<◌, ◌≤◌}
use mathlib.Core.Path.{◌≡◌, sym, ap, ap₂, ◌∙◌, fun_ext}
use mathlib.Core.Bool.{true}
use mathlib.Core.List.{List, map}
use native.Mathlib.Omega.{arith}
use lib.ListN.{length, get_or}
use borrow.Author.Tests.{lt-ltb, le-ltb}
use Rattle.semantics.specs.Files.{Table}
use Rattle.semantics.specs.Plans.{Plan, tables, leftmost, plan_of}
use Rattle.semantics.specs.Shapes.{shape_of, scratch_need}
use Rattle.semantics.specs.Outcome.{refused, admitted, sent_verdict, plan_verdict, scratch_verdict}
use Rattle.theory.specs.Rules.{WithinRules}
use Rattle.theory.proofs.Mending.{mend_same}
use Rattle.theory.proofs.Mendable.{mendable-unmendable, well_behaved-mendable, leftmost_small}
use Rattle.theory.proofs.Spelling.{first-table}
use Rattle.theory.proofs.Rules.{tables-count, rows-count, plan-sent, plan-within}
use Rattle.words.specs.Arrays.{padded}
use Rattle.words.proofs.Arrays.{padded_at}
use Rattle.tables.specs.declared.Catalog.{Catalog}
use Rattle.tables.proofs.Catalogs.{rows_at}
use Rattle.plans.specs.declared.admission.Followed.{Followed}
use Rattle.plans.specs.declared.admission.Followed.TheVariants as followed
use Rattle.std.specs.Prelude.{Result, Ok, Err}
use Rattle.refusals.specs.declared.Refusal.{Refusal}
use Rattle.refusals.specs.Refusals.{number_of}
use Rattle.storage.specs.Layout.{storage_size, storage}
use Rattle.storage.proofs.Sizes.{storage-le, storage-need}
use Rattle.mending.specs.Places.{PlanAt}
use Rattle.scheduling.specs.declared.Schedule.{Schedule}
use Rattle.scheduling.specs.Schedules.{row_counts, schedule_with, schedule_of, no_schedule, Plannable}
use Rattle.plans.specs.Admissions.{not-admitted, is-admitted, Tabled, Catalogued, check_of, Formable, Follows, Accepted, Decided, decided_by, decided_following, decided_plan}
use Rattle.plans.specs.Forming.{FormableFor}
use Rattle.mending.proofs.Places.{spelled-stands}
use Rattle.plans.proofs.Judging.{tested-behaved}
use Rattle.plans.proofs.Admitting.{masks_are, rows_are, rows_few, spelled-sent, Passed, check-refused, check-as-sent, check_formed}

-- a refusal of the plan record
pub refused_admission : (c : Catalog) (ts : List Table) (code : List ℕ) (n d words : ℕ) → Tabled c ts → plan_verdict ts code ≡ refused n d → (free : Schedule) → free ≡ no_schedule
    → record { verdict = not-admitted n d; catalog = c; schedule = free } ≡ decided_plan ts code words
unfolding decided_plan scratch_verdict
refused_admission c ts code n d words h v free f = rw (v, scratch_verdict) (λ i. record { verdict = not-admitted n d; catalog = h.is i; schedule = f i })

module _ (c : Catalog) (code : List ℕ) (ts : List Table) (h : Tabled c ts) (a : Follows code ts) where
  within : WithinRules ts (plan_of code)
  within = a.within

  few : length (tables (plan_of code)) ≤ 16
  few = omega (arith, tables-count ts (plan_of code) within, h.few)

  counts : (t : ℕ) → t < 16 → get_or c.rows t 0 ≤ 4096
  counts = rw (rows_are c ts h) (rows_few ts h.rows)

  pub plannable : Plannable code (row_counts c.rows)
  plannable = record { plan = plan_of code; stands = spelled-stands code a.spelled; few = few; counts = counts }

  module _ (s : Schedule) (made : (p : Plan) → PlanAt code 0 p (length code) → length (tables p) ≤ 16 → s ≡ schedule_of c.masks (row_counts c.rows) p) where
    schedule_is : s ≡ schedule_of c.masks (row_counts c.rows) (plan_of code)
    schedule_is = made (plan_of code) (spelled-stands code a.spelled) few

    first_is : get_or s.order 0 0 ≡ leftmost (plan_of code)
    unfolding schedule_of schedule_with
    first_is = ap (λ x. get_or x.order 0 0) schedule_is ∙ padded_at (tables (plan_of code)) 0 ∙ first-table (plan_of code)

    used_is : s.used ≡ storage (row_counts c.rows) (plan_of code)
    unfolding schedule_of schedule_with
    used_is = ap (λ x. x.used) schedule_is

    first_rows_lem : get_or c.rows (get_or s.order 0 0) 0 ≡ get_or c.rows (leftmost (plan_of code)) 0
    first_rows_lem = ap (λ t. get_or c.rows t 0) first_is

    pub first-low : get_or s.order 0 0 < 16
    first-low = omega (arith, first_is, leftmost_small (plan_of code) within.small)

    pub countable : (s.used ≤ 4294967296) × (get_or c.rows (get_or s.order 0 0) 0 ≤ 4096)
    countable = (omega (arith, used_is, storage-le (row_counts c.rows) counts (plan_of code) within.small, few), counts (get_or s.order 0 0) first-low)

    rows_is : row_counts c.rows ≡ (shape_of ts).rows
    unfolding shape_of
    rows_is = fun_ext (λ t. ap (λ l. get_or l t 0) (rows_are c ts h) ∙ rows_at ts t)

    -- the words counted are document 01's need
    need_is : s.used + storage_size (get_or c.rows (get_or s.order 0 0) 0) ≡ scratch_need ts (plan_of code)
    unfolding scratch_need
    need_is =
        omega (arith, first_rows_lem, used_is, ap (λ f. storage f (plan_of code) + storage_size (f (leftmost (plan_of code)))) rows_is, storage-need (shape_of ts) (plan_of code), rows-count ts (plan_of code) within)

    module _ (words need : ℕ) (counted : need ≡ s.used + storage_size (get_or c.rows (get_or s.order 0 0) 0)) where
      pub scratch-short : words < need → (free : Schedule) → free ≡ no_schedule → record { verdict = not-admitted 10 need; catalog = c; schedule = free } ≡ decided_following ts (plan_of code) words
      unfolding decided_following scratch_verdict
      scratch-short lt free e =
          let n : need ≡ scratch_need ts (plan_of code) = counted ∙ need_is in
          rw (lt-ltb words (scratch_need ts (plan_of code)) (omega arith), scratch_verdict)
          (λ i. record { verdict = not-admitted 10 (n i); catalog = h.is i; schedule = e i })

      pub scratch_enough : need ≤ words → record { verdict = is-admitted; catalog = c; schedule = s } ≡ decided_following ts (plan_of code) words
      unfolding decided_following scratch_verdict
      scratch_enough le =
          let n : need ≡ scratch_need ts (plan_of code) = counted ∙ need_is in
          let q : s ≡ schedule_of (padded (map (λ t. t.mask) ts)) (row_counts (padded (map (λ t. t.rows) ts))) (plan_of code) = schedule_is ∙ ap₂ (λ x y. schedule_of x (row_counts y) (plan_of code)) (masks_are c ts h) (rows_are c ts h) in
          rw (le-ltb words (scratch_need ts (plan_of code)) (omega arith), scratch_verdict)
          (λ i. record { verdict = is-admitted; catalog = h.is i; schedule = q i })

-- ---- what the check of the plan tells
-- a well-behaved plan is followed as it was sent
behaved-follows : (ts : List Table) (code : List ℕ) → length ts ≤ 16 → Passed ts code true → Follows code ts × (plan_verdict ts code ≡ admitted ts (plan_of code))
unfolding sent_verdict
behaved-follows ts code few p =
    let w = tested-behaved (shape_of ts) (plan_of code) p.tested in
    let n = mendable-unmendable (shape_of ts) (plan_of code) 0 (well_behaved-mendable (shape_of ts) (plan_of code) w) in
    let u : sent_verdict ts code ≡ admitted ts (plan_of code) = rw (p.named.spelled, p.named.named, n, sent_verdict) (ap (admitted ts) (mend_same (shape_of ts) (plan_of code) w)) in
    let v = plan-sent ts code (spelled-sent ts code p.named.spelled) ∙ u in
    (record { spelled = p.named.spelled; within = (plan-within ts ts code (plan_of code) few v).1 }, v)

module _ (c : Catalog) (code : List ℕ) (r : Result Followed Refusal) (checked : (ts : List Table) → Tabled c ts → r ≡ check_of ts code) where
  module _ (e : r ≡ Ok followed.AsSent) where
    as-sent-follows : (ts : List Table) → Tabled c ts → Follows code ts × (plan_verdict ts code ≡ admitted ts (plan_of code))
    as-sent-follows ts h = behaved-follows ts code h.few (check-as-sent ts code (sym e ∙ checked ts h))

    pub follows : (ts : List Table) → Tabled c ts → Follows code ts
    follows ts h = (as-sent-follows ts h).0

    pub accepted : Catalogued c → Accepted code c
    accepted q = record { ts = q.ts; tabled = q.tabled; follows = follows q.ts q.tabled }

    pub as-sent : (ts : List Table) → Tabled c ts → (words : ℕ) (a : Decided) → a ≡ decided_following ts (plan_of code) words → a ≡ decided_plan ts code words
    unfolding decided_following decided_plan
    as-sent ts h words a q = q ∙ ap (λ v. decided_by ts (scratch_verdict words v)) (sym (as-sent-follows ts h).1)

  pub formable : r ≡ Ok followed.Formed → (ts : List Table) → Tabled c ts → Formable code ts
  formable e ts h = check_formed ts code (sym e ∙ checked ts h)

  pub formable_for : r ≡ Ok followed.Formed → Catalogued c → FormableFor code c
  formable_for e q = record { ts = q.ts; tabled = q.tabled; formable = formable e q.ts q.tabled }

  pub plan-refused : (e : Refusal) (words : ℕ) → r ≡ Err e → (free : Schedule) → free ≡ no_schedule → (ts : List Table) → Tabled c ts
      → record { verdict = not-admitted (number_of e.reason) e.detail; catalog = c; schedule = free } ≡ decided_plan ts code words
  plan-refused e words q free f ts h = refused_admission c ts code (number_of e.reason) e.detail words h (check-refused ts code e (sym q ∙ checked ts h)) free f
