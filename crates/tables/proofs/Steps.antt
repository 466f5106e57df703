-- One record of a file is one step of its reading: the reading ends there, or goes on behind a table.
use mathlib.Core.Path.{◌≡◌, refl, ap, ◌∙◌}
use mathlib.Core.List.{List, [], ◌∷◌, ◌++◌}
use Prim.Native.Nat.{ℕ, zero, suc, ◌+◌}
use native.Mathlib.Omega.{arith}
use lib.ListN.{length, drop}
use Rattle.semantics.specs.Files.{Table, next_mark, next_table, Ending, fault, plan_record, read_from}
use Rattle.theory.proofs.Reading.{mark-cases, record-cases, WholeRecord, whole_is}
use Rattle.tables.specs.declared.Record.TheVariants as kind
use Rattle.std.proofs.Common.{Ok}
use Rattle.tables.specs.Catalogs.{entry_of, end_of, table_of, found, record_of}
use Rattle.tables.proofs.Records.{limited_full, limited-rules, of_cut, of-table, of-plan, of_other}

-- the record at offset o of a file of that many bytes, where the bytes l stand, the tables ts came before and k more may come
pub data Step (k size o : ℕ) (l : List ℕ) (ts : List Table) : Type 0 where
  ends : (e : Ending) → record_of (length ts) size o l ≡ found kind.Plan (end_of size e) → read_from k o l ts ≡ record { tables = ts; ending = e } → Step k size o l ts
  goes_on : (t : Table) (s j : ℕ) → k ≡ suc j → WholeRecord o (length l) t s → record_of (length ts) size o l ≡ Ok (kind.Table (entry_of t s)) → read_from k o l ts ≡ read_from j (o + s) (drop s l) (ts ++ (t ∷ [])) → Step k size o l ts

pub step : (k size o : ℕ) (l : List ℕ) (ts : List Table) → k + length ts ≡ 16 → Step k size o l ts
unfolding read_from
step zero size o l ts h =
    mark-cases (next_mark l)
    (λ m. ends (fault 1 o) (of_cut _ _ _ _ m) (rw (m, read_from)))
    (λ f m. ends (fault 5 o) (of-table _ _ _ _ f m ∙ ap (found kind.Table) (limited_full _ f _ _ (omega arith))) (rw (m, read_from)))
    (λ m. ends (plan_record o l) (of-plan _ _ _ _ m) (rw (m, read_from)))
    (λ m. ends (fault 2 o) (of_other _ _ _ _ m) (rw (m, read_from)))
step (suc k) size o l ts h =
    mark-cases (next_mark l)
    (λ m. ends (fault 1 o) (of_cut _ _ _ _ m) (rw (m, read_from)))
    (λ f m. let r : record_of (length ts) size o l ≡ found kind.Table (table_of o (next_table f o l)) = of-table _ _ _ _ f m ∙ ap (found kind.Table) (limited-rules _ f _ _ (omega arith)) in
    record-cases (next_table f o l)
    (λ n e. ends (fault n o) (r ∙ ap (λ x. found kind.Table (table_of o x)) e) (rw (m, e, read_from)))
    (λ t s e. goes_on t s k refl (whole_is f o l t s e) (r ∙ ap (λ x. found kind.Table (table_of o x)) e) (rw (m, e, read_from))))
    (λ m. ends (plan_record o l) (of-plan _ _ _ _ m) (rw (m, read_from)))
    (λ m. ends (fault 2 o) (of_other _ _ _ _ m) (rw (m, read_from)))
