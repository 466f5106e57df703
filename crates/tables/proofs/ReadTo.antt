-- What the loop of `read` keeps: the catalog holds the tables passed, and the reading from the offset on is the whole reading.
use mathlib.Core.Path.{◌≡◌, refl, sym, ap, ◌∙◌}
use mathlib.Core.List.{List, [], ◌∷◌, ◌++◌}
use Prim.Native.Nat.{ℕ, suc, ◌+◌, ◌-◌, ◌≤◌, ◌<◌}
use native.Mathlib.Omega.{arith}
use lib.ListN.{length, drop, length-append, length-drop}
use lib.Seq.{drop-drop}
use Rattle.std.proofs.Common.{Result, Ok, Err}
use Rattle.semantics.specs.Files.{Table, read_from, read}
use Rattle.theory.proofs.Reading.{WholeRecord}
use Rattle.refusals.specs.declared.Refusal.{Refusal}
use Rattle.tables.specs.declared.Catalog.{Catalog}
use Rattle.tables.specs.declared.Entry.{Entry}
use Rattle.tables.specs.declared.Record.{Record}
use Rattle.tables.specs.declared.Record.TheVariants as kind
use Rattle.tables.specs.Catalogs.{catalog_of, entry_of, end_of, found, record_of, contents_of}
use Rattle.tables.proofs.Catalogs.{catalog-count}
use Rattle.tables.proofs.Steps.{Step, ends, goes_on, step}

pub record ReadTo (file : List ℕ) (at : ℕ) (catalog : Catalog) : Type 0 where
  pub within : at ≤ length file
  pub ts : List Table
  pub few : length ts ≤ 16
  pub is : catalog ≡ catalog_of ts
  pub ahead : read file ≡ read_from (16 - length ts) at (drop at file) ts

pub begun : (file : List ℕ) (c : Catalog) → c ≡ catalog_of [] → ReadTo file 0 c
unfolding read
begun file c e = record { within = omega arith; ts = []; few = omega arith; is = e; ahead = refl }

-- c is the catalog with one table more
abbrev Entered : Catalog → Entry → Catalog → Type 0
Entered catalog entry c = (ts : List Table) (t : Table) → catalog ≡ catalog_of ts → entry ≡ entry_of t entry.size → c ≡ catalog_of (ts ++ (t ∷ []))

-- what a table taken at the offset gives
pub record Taken (file : List ℕ) (at : ℕ) (catalog : Catalog) (entry : Entry) : Type 0 where
  pub room : catalog.count < 16
  pub long : 10 ≤ entry.size
  pub inside : at + entry.size ≤ length file
  pub again : (c : Catalog) → Entered catalog entry c → ReadTo file (at + entry.size) c

-- ---- which record was found
plan_found : (r : Result ℕ Refusal) (start : ℕ) → Ok (kind.Plan start) ≡ found kind.Plan r → r ≡ Ok start
plan_found (Ok x) start e = cc
plan_found (Err x) start e = cc

refusal-found : (r : Result ℕ Refusal) (f : Refusal) → Err f ≡ found kind.Plan r → r ≡ Err f
refusal-found (Ok x) f e = cc
refusal-found (Err x) f e = cc

no-table : (r : Result ℕ Refusal) (entry : Entry) → Ok (kind.Table entry) ≡ found kind.Plan r → ⊥
no-table (Ok x) entry e = cc
no-table (Err x) entry e = cc

module _ (file : List ℕ) (at : ℕ) (catalog : Catalog) (r : ReadTo file at catalog) where
  count_is : catalog.count ≡ length r.ts
  count_is = ap (λ c. c.count) r.is ∙ catalog-count r.ts

  one_more : (t : Table) (entry : Entry) (j : ℕ) → entry ≡ entry_of t entry.size → 16 - length r.ts ≡ suc j → WholeRecord at (length (drop at file)) t entry.size
      → read_from (16 - length r.ts) at (drop at file) r.ts ≡ read_from j (at + entry.size) (drop entry.size (drop at file)) (r.ts ++ (t ∷ []))
      → Taken file at catalog entry
  one_more t entry j e more w on =
      let few : length r.ts < 16 = omega arith in
      let inside : at + entry.size ≤ length file = omega (arith, w.there, length-drop at file, r.within) in
      let left : j ≡ 16 - length (r.ts ++ (t ∷ [])) = simp length-append (omega arith) in
      record {
        room = omega (arith, count_is);
        long = omega (arith, w.takes);
        inside = inside;
        again = λ c entered. record {
          within = inside;
          ts = r.ts ++ (t ∷ []);
          few = simp length-append (omega arith);
          is = entered r.ts t r.is e;
          ahead = r.ahead ∙ on ∙ rw (left, drop-drop entry.size at file);
        };
      }

  -- k is the record at the offset
  module _ (k : Result Record Refusal) (next : k ≡ record_of catalog.count (length file) at (drop at file)) where
    now : Step (16 - length r.ts) (length file) at (drop at file) r.ts
    now = step (16 - length r.ts) (length file) at (drop at file) r.ts (omega (arith, r.few))

    of-ts : k ≡ record_of (length r.ts) (length file) at (drop at file)
    of-ts = next ∙ ap (λ c. record_of c (length file) at (drop at file)) count_is

    pub at_plan : (start : ℕ) → k ≡ Ok (kind.Plan start) → record { catalog = catalog; end = Ok start } ≡ contents_of file
    unfolding contents_of
    at_plan start plan =
        elim now [
          | ends g is on ↦ rw (r.ahead, on, r.is, plan_found (end_of (length file) g) start (sym plan ∙ of-ts ∙ is))
          | goes_on t size j more w is on ↦
              let z : ◌≡◌ {A = ℕ} 0 1 = cc of-ts in
              absurd (omega arith)
        ]

    pub at-refusal : (f : Refusal) → k ≡ Err f → record { catalog = catalog; end = Err f } ≡ contents_of file
    unfolding contents_of
    at-refusal f refused =
        elim now [
          | ends g is on ↦ rw (r.ahead, on, r.is, refusal-found (end_of (length file) g) f (sym refused ∙ of-ts ∙ is))
          | goes_on t size j more w is on ↦
              let z : ◌≡◌ {A = ℕ} 0 1 = cc of-ts in
              absurd (omega arith)
        ]

    pub at_table : (entry : Entry) → k ≡ Ok (kind.Table entry) → Taken file at catalog entry
    at_table entry table =
        elim now [
          | ends g is on ↦ absurd (no-table (end_of (length file) g) entry (sym table ∙ of-ts ∙ is))
          | goes_on t s j more w is on ↦
              let e : entry ≡ entry_of t s = cc of-ts in
              let size : s ≡ entry.size = ap (λ e. e.size) (sym e) in
              one_more t entry j (e ∙ ap (entry_of t) size) more (rw (← size) w) (rw (← size) on)
        ]
