-- From a file admitted to what the code may rely on.
use Prim.Native.Nat.{ℕ, ◌+◌, ◌<◌, ◌≤◌}
use mathlib.Core.Path.{◌≡◌, refl, sym, ap, ◌∙◌, fun_ext}
use mathlib.Core.List.{List, ◌∷◌, map}
use native.Mathlib.Omega.{arith}
use lib.ListN.{length, get_or, length-map}
use Rattle.semantics.specs.Files.{Table, table_with, has_bit, read}
use Rattle.theory.specs.Rules.{Fitting, WithinRules}
use Rattle.semantics.specs.Plans.{Plan, tables, leftmost}
use Rattle.semantics.specs.Shapes.{no_table, shape_of, scratch_need}
use Rattle.semantics.specs.Outcome.{refused, admitted, verdict}
use Rattle.theory.proofs.Lists.{Each-map, Each-of-map}
use Rattle.theory.proofs.Reading.{tables_few, tables_fit}
use Rattle.theory.proofs.Copies.{tables-counted}
use Rattle.theory.proofs.Rules.{verdict-cases, rules-tables, verdict-within, verdict-rules, tables-count, rows-count}
use Rattle.words.specs.Arrays.{padded}
use Rattle.words.proofs.Arrays.{padded-length, padded_each}
use Rattle.storage.specs.Layout.{storage_size, storage}
use Rattle.storage.proofs.Sizes.{storage-le, storage-need}
use Rattle.tables.specs.declared.Catalog.{Catalog}
use Rattle.tables.specs.Catalogs.{catalog_of, columns_of, counts_at, CopiesAhead}
use Rattle.tables.specs.Copies.{CopiesOf}
use Rattle.tables.specs.PlanTables.{PlanTables}
use Rattle.theory.proofs.Mendable.{small_each}
use Rattle.tables.proofs.Catalogs.{mask_at, rows_at, start_at, counts_at_lem, ahead_at}
use Rattle.tables.proofs.CopyColumns.{copies_each}
use Rattle.scheduling.specs.declared.Schedule.{Schedule}
use Rattle.scheduling.specs.Schedules.{row_counts, turns_in, placements_in, schedule_with, schedule_of}
use Rattle.plans.specs.Admissions.{not-admitted, is-admitted, verdict_of, schedule_for, Decided, decided_of, AdmittedAs, AdmittedOf}
use Rattle.plans.specs.Prepared.{Sized, Prepared}
use Rattle.scheduling.proofs.Growing.{turns-length}
use Rattle.scheduling.proofs.Tops.{top_placed}
use Rattle.scheduling.proofs.ByPosition.{schedule-joins, schedule_first, turns_below, parents_below}

-- ---- the answer `admitted` comes with a catalog and a schedule
pub admitted-as : (bytes : List ℕ) (words : ℕ) (a : Decided) → a ≡ decided_of bytes words → a.verdict ≡ is-admitted → AdmittedOf bytes words a.catalog a.schedule
unfolding decided_of
admitted-as bytes words a e h =
    verdict-cases (verdict bytes words)
    (λ n d v. let q : not-admitted n d ≡ is-admitted = sym (ap verdict_of v) ∙ sym (ap (λ x. x.verdict) e) ∙ h in let w : ◌≡◌ {A = ℕ} 0 1 = cc in absurd (omega arith))
    (λ ts p v.
    let t : ts ≡ (read bytes).tables = rules-tables bytes ts p (verdict-rules bytes words ts p v).0 in
    record { ts = ts; plan = p; admitted = record { accepted = v; catalog = ap (λ x. x.catalog) e ∙ ap catalog_of (sym t); schedule = ap (λ x. x.schedule) e ∙ ap schedule_for v } })

-- and a refusal is the verdict's
pub refused_as : (bytes : List ℕ) (words : ℕ) (a : Decided) → a ≡ decided_of bytes words → (n d : ℕ) → a.verdict ≡ not-admitted n d → verdict bytes words ≡ refused n d
unfolding decided_of
refused_as bytes words a e n d h =
    let v : a.verdict ≡ verdict_of (verdict bytes words) = ap (λ x. x.verdict) e in
    verdict-cases (verdict bytes words)
    (λ m k w. let q : not-admitted n d ≡ not-admitted m k = sym h ∙ v ∙ ap verdict_of w in let x : n ≡ m = cc in let y : d ≡ k = cc in rw (x, y) w)
    (λ ts p w. let q : not-admitted n d ≡ is-admitted = sym h ∙ v ∙ ap verdict_of w in let x : ◌≡◌ {A = ℕ} 0 1 = cc in absurd (omega arith))

-- ---- the arrays
field-length : {A : Type 0} (f : A → ℕ) (xs : List A) → length xs ≤ 16 → length (padded (map f xs)) ≡ 16
field-length f xs h = padded-length (map f xs) (omega (arith, length-map xs f))

sized_of : (ts : List Table) → length ts ≤ 16 → Sized (catalog_of ts)
unfolding catalog_of
sized_of ts few = record { masks = field-length (λ t. t.mask) ts few; rows = field-length (λ t. t.rows) ts few; starts = field-length (λ t. t.start) ts few }

-- ---- all of it
module _ (bytes : List ℕ) (words : ℕ) (ts : List Table) (p : Plan) (v : verdict bytes words ≡ admitted ts p) where
  within : WithinRules ts p
  within = verdict-within bytes words ts p v

  tables_are : ts ≡ (read bytes).tables
  tables_are = rules-tables bytes ts p (verdict-rules bytes words ts p v).0

  few : length ts ≤ 16
  few = omega (arith, tables_few bytes, ap length tables_are)

  abbrev rows : List ℕ
  rows = padded (map (λ t. t.rows) ts)

  abbrev masks : List ℕ
  masks = padded (map (λ t. t.mask) ts)

  rows_of : (t : ℕ) → get_or rows t 0 ≡ (shape_of ts).rows t
  unfolding shape_of
  rows_of t = rows_at ts t

  rows-low : (t : ℕ) → get_or rows t 0 ≤ 4096
  rows-low = padded_each (λ n. n ≤ 4096) (map (λ t. t.rows) ts) (Each-of-map (λ n. n ≤ 4096) (λ t. t.rows) ts (Each-map (Fitting (length bytes)) (λ t. t.rows ≤ 4096) (λ t f. f.low) ts (rw tables_are (tables_fit bytes)))) (omega arith)

  named : length (tables p) ≤ 16
  named = omega (arith, tables-count ts p within, few)

  rows_is : row_counts rows ≡ (shape_of ts).rows
  rows_is = fun_ext rows_of

  need-fits : storage (row_counts rows) p + storage_size (get_or rows (leftmost p) 0) ≤ words
  unfolding scratch_need
  need-fits = omega (arith, ap (λ f. storage f p + storage_size (f (leftmost p))) rows_is, storage-need (shape_of ts) p, rows-count ts p within, (verdict-rules bytes words ts p v).1)

  -- what stands at the positions of the schedule
  parents-low : (i : ℕ) → get_or (schedule_of masks (row_counts rows) p).layout.parents i 0 < 16
  unfolding schedule_of schedule_with
  parents-low =
      let R = placements_in masks (row_counts rows) p 0 0 in
      padded_each (λ i. i < 16) (0 ∷ map (λ x. x.parent) R)
      (omega arith, Each-of-map (λ i. i < 16) (λ x. x.parent) R (Each-map (λ x. x.parent < 0 + length (tables p)) (λ x. x.parent < 16) (λ x h. omega (arith, named)) R (parents_below masks (row_counts rows) p 0 0)))
      (omega arith)

  table_at : (t : ℕ) → table_with (get_or masks t 0) (get_or rows t 0) (get_or (padded (map (λ t. t.start) ts)) t 0) ≡ columns_of (get_or ts t no_table)
  table_at t = rw (mask_at ts t, rows_at ts t, start_at ts t)

  copies_at_lem : (t : ℕ) → CopiesOf bytes (counts_at (catalog_of ts) t) (get_or ts t no_table)
  copies_at_lem t = rw (counts_at_lem ts t) (copies_each ts (rw tables_are (tables_fit bytes)) (rw tables_are (tables-counted bytes)) t)

  copies_ahead : (t : ℕ) → CopiesAhead (catalog_of ts) t
  copies_ahead t = ahead_at (length bytes) ts (rw tables_are (tables_fit bytes)) t

  prepared_of : Prepared bytes words (catalog_of ts) (schedule_of masks (row_counts rows) p) ts p
  unfolding catalog_of schedule_of schedule_with shape_of
  prepared_of =
      record {
        within = within;
        few = few;
        fits = rw tables_are (tables_fit bytes);
        counted = rw tables_are (tables-counted bytes);
        masks = λ t a. ap (λ m. has_bit m a) (sym (mask_at ts t));
        rows = rows_of;
        table = table_at;
        copies = copies_at_lem;
        ahead = copies_ahead;
        count = turns-length p 0;
        turns = refl;
        top = top_placed p (padded (turns_in p 0)) (length (turns_in p 0)) refl (turns-length p 0);
        named = refl;
        order = refl;
        positions = schedule-joins masks (row_counts rows) p named;
        used = refl;
        first = schedule_first masks (row_counts rows) p;
        need = need-fits;
        sized = sized_of ts few;
        rows-low = rows-low;
        order-low = padded_each (λ t. t < 16) (tables p) (small_each p within.small) (omega arith);
        turns-low = padded_each (λ i. i < 16) (turns_in p 0) (Each-map (λ i. i < 0 + length (tables p)) (λ i. i < 16) (λ i h. omega (arith, named)) (turns_in p 0) (turns_below p 0)) (omega arith);
        parents-low = parents-low;
        used_low = omega (arith, storage-le (row_counts rows) (λ t h. rows-low t) p within.small, named);
      }

pub prepared : (bytes : List ℕ) (words : ℕ) (c : Catalog) (s : Schedule) (ts : List Table) (p : Plan) → AdmittedAs bytes words c s ts p → Prepared bytes words c s ts p
prepared bytes words c s ts p a = rw (a.catalog, a.schedule) (prepared_of bytes words ts p a.accepted)

-- the tables of the plan, as the output's columns and the choices are made from them
pub plan-tables : {bytes : List ℕ} {words : ℕ} {c : Catalog} {s : Schedule} {ts : List Table} {p : Plan} → AdmittedAs bytes words c s ts p → PlanTables bytes c s.order s.tables ts p
plan-tables A =
    let P = prepared _ _ _ _ _ _ A in
    record { catalog_is = A.catalog; order_is = P.order; size = P.named; few = P.few; fitting = P.fits; counted = P.counted; rules = P.within }
