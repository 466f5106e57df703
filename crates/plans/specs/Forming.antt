-- What forming a plan asks and promises.
use Rattle.std.specs.Prelude.{◌≡◌, List, [], ℕ, ◌<◌, ◌≤◌, length, take, Result, Ok, Err}
use Rattle.semantics.specs.Files.{Table}
use Rattle.semantics.specs.Plans.{Plan, encode}
use Rattle.semantics.specs.Outcome.{refused, admitted, plan_verdict}
use Rattle.tables.specs.declared.Catalog.{Catalog}
use Rattle.refusals.specs.declared.Refusal.{Refusal}
use Rattle.refusals.specs.Refusals.{number_of}
use Rattle.plans.specs.Admissions.{Tabled, Named, Formable}

-- of some tables that the catalog holds a plan is to be formed; there are tables
pub record FormableFor (code : List ℕ) (c : Catalog) : Type 0 where
  pub ts : List Table
  pub tabled : Tabled c ts
  pub formable : Formable code ts

pub record PlanlessFor (c : Catalog) : Type 0 where
  pub ts : List Table
  pub tabled : Tabled c ts
  pub present : 0 < length ts

-- the plan record's verdict is a refusal; or a plan, with whose bytes the buffer begins
pub record PlanIn (ts : List Table) (code : List ℕ) (n : ℕ) (out : List ℕ) : Type 0 where
  pub plan : Plan
  pub admits : plan_verdict ts code ≡ admitted ts plan
  pub fits : n ≤ 31
  pub size : length out ≡ 31
  pub bytes : take n out ≡ encode plan

abbrev pub FormedAs : List Table → List ℕ → Result ℕ Refusal → List ℕ → Type 0
FormedAs ts code (Err r) out = plan_verdict ts code ≡ refused (number_of r.reason) r.detail
FormedAs ts code (Ok n) out = PlanIn ts code n out

-- so it is of the catalog's tables: where the plan sent is mended, where one is found, where either is
abbrev pub MendedFor : Catalog → List ℕ → Result ℕ Refusal → List ℕ → Type 0
MendedFor c code r out = (ts : List Table) → Tabled c ts → Named code ts → FormedAs ts code r out

abbrev pub FoundFor : Catalog → Result ℕ Refusal → List ℕ → Type 0
FoundFor c r out = (ts : List Table) → Tabled c ts → 0 < length ts → FormedAs ts [] r out

abbrev pub FormedFor : Catalog → List ℕ → Result ℕ Refusal → List ℕ → Type 0
FormedFor c code r out = (ts : List Table) → Tabled c ts → Formable code ts → FormedAs ts code r out
