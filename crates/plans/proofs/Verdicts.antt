-- Answers 1 to 10 and 14 for a file: what the reading gave, and then what its plan comes to.
use Prim.Native.Nat.{ℕ, ◌-◌, ◌≤◌}
use mathlib.Core.Path.{◌≡◌, sym, ap, ◌∙◌}
use mathlib.Core.List.{List}
use native.Mathlib.Omega.{arith}
use lib.ListN.{length, drop}
use Rattle.theory.specs.Rules.{Bytes, Fitting}
use Rattle.semantics.specs.Files.{Table, read}
use Rattle.semantics.specs.Outcome.{read_verdict, rules_verdict, scratch_verdict, verdict}
use Rattle.theory.proofs.Lists.{Each-map}
use Rattle.theory.proofs.Reading.{ending-cases, fault-number, tables_few, tables_fit, tables-masks, plan_last}
use Rattle.tables.specs.declared.Contents.{Contents}
use Rattle.std.specs.Prelude.{Ok, Err}
use Rattle.refusals.specs.declared.Refusal.{Refusal}
use Rattle.refusals.specs.Refusals.{number_of, refusal_of}
use Rattle.refusals.proofs.Numbers.{number-fault}
use Rattle.tables.specs.Catalogs.{catalog_of, end_of, contents_of}
use Rattle.scheduling.specs.declared.Schedule.{Schedule}
use Rattle.scheduling.specs.Schedules.{no_schedule}
use Rattle.plans.specs.Admissions.{not-admitted, Tabled, Catalogued, Decided, decided_plan, decided_of}

module _ (file : List ℕ) (contents : Contents) (was : contents ≡ contents_of file) where
  catalog_is : contents.catalog ≡ catalog_of (read file).tables
  unfolding contents_of
  catalog_is = ap (λ x. x.catalog) was

  end_is : contents.end ≡ end_of (length file) (read file).ending
  unfolding contents_of
  end_is = ap (λ x. x.end) was

  pub tabled : Bytes file → Tabled contents.catalog (read file).tables
  tabled b =
      record {
        is = catalog_is;
        few = tables_few file;
        masks = tables-masks file b;
        rows = Each-map (Fitting (length file)) (λ t. t.rows ≤ 4096) (λ t f. f.low) (read file).tables (tables_fit file);
      }

  pub catalogued : Bytes file → Catalogued contents.catalog
  catalogued b = record { ts = (read file).tables; tabled = tabled b }

  -- the reading ends in a refusal
  pub file-refused : (e : Refusal) (words : ℕ) → contents.end ≡ Err e → (free : Schedule) → free ≡ no_schedule
      → record { verdict = not-admitted (number_of e.reason) e.detail; catalog = contents.catalog; schedule = free } ≡ decided_of file words
  unfolding decided_of verdict rules_verdict read_verdict scratch_verdict
  file-refused e words p free f =
      ending-cases (read file).ending
      (λ m k g.
      let q : Err e ≡ Err (refusal_of m k) = sym p ∙ end_is ∙ ap (end_of (length file)) g in
      let z : e ≡ refusal_of m k = cc in
      let a : number_of e.reason ≡ m = ap (λ x. number_of x.reason) z ∙ number-fault m (fault-number file m k g) in
      let b : e.detail ≡ k = ap (λ x. x.detail) z in
      rw (g, read_verdict) (λ i. record { verdict = not-admitted (a i) (b i); catalog = catalog_is i; schedule = f i }))
      (λ code g.
      let q : Err e ≡ Ok (length file - length code) = sym p ∙ end_is ∙ ap (end_of (length file)) g in
      let z : ◌≡◌ {A = ℕ} 0 1 = cc in
      absurd (omega arith))

  -- it ends in a plan, whose bytes begin at an offset
  pub plan-inside : (at : ℕ) → contents.end ≡ Ok at → at ≤ length file
  plan-inside at e =
      ending-cases (read file).ending
      (λ m k g. let q : Ok at ≡ Err (refusal_of m k) = sym e ∙ end_is ∙ ap (end_of (length file)) g in let z : ◌≡◌ {A = ℕ} 0 1 = cc in absurd (omega arith))
      (λ code g. let q : Ok at ≡ Ok (length file - length code) = sym e ∙ end_is ∙ ap (end_of (length file)) g in let a : at ≡ length file - length code = cc in omega arith)

  pub file_planned : Bytes file → (at words : ℕ) → contents.end ≡ Ok at → (r : Decided) → ((ts : List Table) → Tabled contents.catalog ts → r ≡ decided_plan ts (drop at file) words) → r ≡ decided_of file words
  unfolding decided_of decided_plan verdict rules_verdict read_verdict
  file_planned b at words e r f =
      ending-cases (read file).ending
      (λ m k g. let q : Ok at ≡ Err (refusal_of m k) = sym e ∙ end_is ∙ ap (end_of (length file)) g in let z : ◌≡◌ {A = ℕ} 0 1 = cc in absurd (omega arith))
      (λ code g.
      let q : Ok at ≡ Ok (length file - length code) = sym e ∙ end_is ∙ ap (end_of (length file)) g in
      let a : at ≡ length file - length code = cc in
      let c : drop at file ≡ code = ap (λ i. drop i file) a ∙ plan_last file code g in
      rw (g, read_verdict) (rw c at (f (read file).tables (tabled b))))
