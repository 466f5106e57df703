-- What admission gives for what `semantics` decides.
use Rattle.std.specs.Prelude.{◌≡◌, Bool, true, false, ◌&&◌, List, [], map, ℕ, ◌<◌, ◌≤◌, ◌^◌, length, eqb, ltb, Result, Ok, Err}
use Rattle.std.proofs.Math.Option.{none, some}
use Rattle.theory.specs.Elements.{Each}
use Rattle.semantics.specs.Files.{Table, read}
use Rattle.semantics.specs.Plans.{Plan, misplaced, plan_of, misnamed}
use Rattle.semantics.specs.Shapes.{shape_of}
use Rattle.semantics.specs.Outcome.{Verdict, refused, admitted, asks_for_plan, plan_verdict, scratch_verdict, verdict}
use Rattle.theory.specs.Rules.{WithinRules}
use Rattle.words.specs.Arrays.{padded}
use Rattle.tables.specs.declared.Catalog.{Catalog}
use Rattle.tables.specs.Catalogs.{catalog_of}
use Rattle.refusals.specs.declared.Refusal.{Refusal}
use Rattle.refusals.specs.Refusals.{number_of, refusal_of}
use Rattle.plans.specs.declared.admission.Followed.{Followed}
use Rattle.plans.specs.declared.admission.Followed.TheVariants as followed
use Rattle.plans.specs.Judging.{well_behaved}
use Rattle.scheduling.specs.declared.Schedule.{Schedule}
use Rattle.scheduling.specs.Schedules.{row_counts, no_schedule, schedule_of}

-- the catalog holds these tables, as a file within the rules has them
pub record Tabled (c : Catalog) (ts : List Table) : Type 0 where
  pub is : c ≡ catalog_of ts
  pub few : length ts ≤ 16
  pub masks : Each (λ t. t.mask < 2 ^ 32) ts
  pub rows : Each (λ t. t.rows ≤ 4096) ts

pub record Catalogued (c : Catalog) : Type 0 where
  pub ts : List Table
  pub tabled : Tabled c ts

-- of n tables and these bytes a plan is asked for
unfoldable pub asks_for : ℕ → List ℕ → Bool
asks_for n code = eqb (length code) 0 && ltb 0 n

-- what answers 7 and 8 leave of a plan that is sent
unfoldable pub sent_check : List Table → List ℕ → Result Followed Refusal
sent_check ts code =
    elim (misplaced 1 0 code) [
      | some i ↦ Err (refusal_of 7 i)
      | none ↦
          elim (misnamed (length ts) [] 0 code) [
            | some i ↦ Err (refusal_of 8 i)
            | none ↦ elim (well_behaved (shape_of ts) (plan_of code)) [ true ↦ Ok followed.AsSent | false ↦ Ok followed.Formed ]
          ]
    ]

-- and where none is
unfoldable pub check_of : List Table → List ℕ → Result Followed Refusal
check_of ts code = elim (asks_for_plan ts code) [ true ↦ Ok followed.Formed | false ↦ sent_check ts code ]

-- 7 and 8 are not due for the plan's bytes and these tables
pub record Named (code : List ℕ) (ts : List Table) : Type 0 where
  pub spelled : misplaced 1 0 code ≡ none
  pub named : misnamed (length ts) [] 0 code ≡ none

-- so it is of some tables that the catalog holds
pub record NamedFor (code : List ℕ) (c : Catalog) : Type 0 where
  pub ts : List Table
  pub tabled : Tabled c ts
  pub named : Named code ts

-- a plan is to be formed: none is sent, or one for which 7 and 8 are not due
pub data Formable (code : List ℕ) (ts : List Table) : Type 0 where
  asked : asks_for_plan ts code ≡ true → Formable code ts
  sent : Named code ts → Formable code ts

-- the bytes are those of a plan that the join can follow with these tables
pub record Follows (code : List ℕ) (ts : List Table) : Type 0 where
  pub spelled : misplaced 1 0 code ≡ none
  pub within : WithinRules ts (plan_of code)

pub record Accepted (code : List ℕ) (c : Catalog) : Type 0 where
  pub ts : List Table
  pub tabled : Tabled c ts
  pub follows : Follows code ts

-- whether a file is admitted: refused with a number and its detail, or admitted; as the code says it, and as a verdict does
pub data Decision : Type 0 where
  not-admitted : ℕ → ℕ → Decision
  is-admitted : Decision

abbrev pub decision_of : Result (Unit {0}) Refusal → Decision
decision_of (Err r) = not-admitted (number_of r.reason) r.detail
decision_of (Ok u) = is-admitted

abbrev pub verdict_of : Verdict → Decision
verdict_of (refused n d) = not-admitted n d
verdict_of (admitted ts p) = is-admitted

-- the schedule of an admitted plan
abbrev pub schedule_for : Verdict → Schedule
schedule_for (refused n d) = no_schedule
schedule_for (admitted ts p) = schedule_of (padded (map (λ t. t.mask) ts)) (row_counts (padded (map (λ t. t.rows) ts))) p

-- what is decided: the verdict, the catalog of the tables read before it, and the schedule of an admitted plan
pub record Decided : Type 0 where
  pub verdict : Decision
  pub catalog : Catalog
  pub schedule : Schedule

abbrev pub decided_in : Result (Unit {0}) Refusal → Catalog → Schedule → Decided
decided_in v c s = record { verdict = decision_of v; catalog = c; schedule = s }

-- by a verdict on these tables
abbrev pub decided_by : List Table → Verdict → Decided
decided_by ts v = record { verdict = verdict_of v; catalog = catalog_of ts; schedule = schedule_for v }

-- answer 10 for a plan that the join follows and a scratch of that many words
unfoldable pub decided_following : List Table → Plan → ℕ → Decided
decided_following ts p words = decided_by ts (scratch_verdict words (admitted ts p))

-- the answers 7 to 10 and 14 for the plan's bytes, the tables of a file and a scratch of that many words
unfoldable pub decided_plan : List Table → List ℕ → ℕ → Decided
decided_plan ts code words = decided_by ts (scratch_verdict words (plan_verdict ts code))

-- a verdict, with a schedule, is: that of the plan that the bytes spell, where the join can follow it; of
-- the plan record, where a plan is to be formed; of the plan record
abbrev pub FollowedBy : Catalog → List ℕ → ℕ → Result (Unit {0}) Refusal → Schedule → Type 0
FollowedBy c code words v s =
    (ts : List Table) → Tabled c ts → Follows code ts
    → decided_in v c s ≡ decided_following ts (plan_of code) words

abbrev pub FormedBy : Catalog → List ℕ → ℕ → Result (Unit {0}) Refusal → Schedule → Type 0
FormedBy c code words v s =
    (ts : List Table) → Tabled c ts → Formable code ts → decided_in v c s ≡ decided_plan ts code words

abbrev pub RuledBy : Catalog → List ℕ → ℕ → Result (Unit {0}) Refusal → Schedule → Type 0
RuledBy c code words v s =
    (ts : List Table) → Tabled c ts → decided_in v c s ≡ decided_plan ts code words

-- the answers 1 to 10 and 14, or the catalog and the schedule
unfoldable pub decided_of : List ℕ → ℕ → Decided
decided_of bytes words =
    record {
      verdict = verdict_of (verdict bytes words);
      catalog = catalog_of (read bytes).tables;
      schedule = schedule_for (verdict bytes words);
    }

-- the file is admitted, with the tables ts and the plan p, and c and s are its catalog and its schedule
pub record AdmittedAs (bytes : List ℕ) (words : ℕ) (c : Catalog) (s : Schedule) (ts : List Table) (p : Plan) : Type 0 where
  pub accepted : verdict bytes words ≡ admitted ts p
  pub catalog : c ≡ catalog_of ts
  pub schedule : s ≡ schedule_of (padded (map (λ t. t.mask) ts)) (row_counts (padded (map (λ t. t.rows) ts))) p

-- the file is admitted, with some tables and some plan
pub record AdmittedOf (bytes : List ℕ) (words : ℕ) (c : Catalog) (s : Schedule) : Type 0 where
  pub ts : List Table
  pub plan : Plan
  pub admitted : AdmittedAs bytes words c s ts plan
