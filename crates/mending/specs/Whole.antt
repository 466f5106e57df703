-- What mending a whole plan asks and promises.
use Rattle.std.specs.Prelude.{◌≡◌, List, ℕ, ◌<◌, ◌≤◌, length, get_or, take, ltb, Option, Result}
use Rattle.std.proofs.Math.Option.{none, some}
use Rattle.refusals.specs.Refusals.{refused_at}
use Rattle.refusals.specs.declared.Refusal.{Refusal}
use Rattle.semantics.specs.Lists.{filter}
use Rattle.semantics.specs.Plans.{Plan, encode}
use Rattle.semantics.specs.Shapes.{Shape}
use Rattle.theory.specs.Selections.{Mendable}
use Rattle.semantics.specs.Mending.{cost, mended_root, mend, unmendable}
use Rattle.mending.specs.Places.{PlanAt}
use Rattle.mending.specs.Parts.{shape_in, MaskWords}
use Rattle.mending.specs.Rooting.{RootsRemembered, Distinct, Given, bytes_from, Picked}
use Rattle.mending.specs.declared.parts.Survey.{Survey}
use Rattle.mending.specs.declared.rooting.Candidate.{Candidate}

-- the bytes are those of one plan, and it can be mended
pub record MendablePlan (s masks rows : List ℕ) : Type 0 where
  pub plan : Plan
  pub stands : PlanAt s 0 plan (length s)
  pub mendable : Mendable (shape_in masks rows) plan

-- what answers 4, 7 and 8 leave: the bytes are those of one plan, 31 at most, that names no table twice; the masks are words, and no
-- table has more than 4,096 rows
pub record Sent (s masks rows : List ℕ) : Type 0 where
  pub plan : Plan
  pub stands : PlanAt s 0 plan (length s)
  pub short : length s ≤ 31
  pub distinct : Distinct s
  pub words : MaskWords masks
  pub few : (t : ℕ) → get_or rows t 0 ≤ 4096

-- what mending the plan p, of n bytes, returns, and the bytes that the buffer holds then: those behind the mended plan are left open
pub record Mends (S : Shape) (p : Plan) (n : ℕ) (before out : List ℕ) (r : Result (Unit {0}) Refusal) : Type 0 where
  pub answer : r ≡ refused_at 9 (unmendable S p 0)
  pub size : length out ≡ 31
  pub bytes : unmendable S p 0 ≡ none → take n out ≡ encode (mend S p)
  pub untouched : (i : ℕ) → unmendable S p 0 ≡ some i → out ≡ before

-- the answer and the buffer are those of mending the plan that the bytes spell
abbrev pub MendsPlan : List ℕ → List ℕ → List ℕ → List ℕ → List ℕ → Result (Unit {0}) Refusal → Type 0
MendsPlan s masks rows before out r = (p : Plan) → PlanAt s 0 p (length s) → Mends (shape_in masks rows) p (length s) before out r

-- the byte at the place is that of the overall root
pub record RootOfWhole (s masks rows : List ℕ) (place : ℕ) : Type 0 where
  pub within : place < length s
  pub root : (p : Plan) → PlanAt s 0 p (length s) → get_or s place 0 ≡ mended_root (shape_in masks rows) p

-- the search for it, n bytes gone through
abbrev pub WholeSearched : List ℕ → List ℕ → List ℕ → ℕ → Option Candidate → Type 0
WholeSearched s masks rows n pick =
    (p : Plan) → PlanAt s 0 p (length s) → Picked (cost (shape_in masks rows) p) s (filter (λ b. ltb b 16) (bytes_from s 0 n)) pick

-- what the search asks, and what it promises: the memory stays right, and the place is the root's
abbrev pub WholeAsked : Survey → List (Option Candidate) → Type 0
WholeAsked v best =
    Given v.code.now v.masks.now v.rows.now v.parts × RootsRemembered v.code.now v.masks.now v.rows.now best
    × MendablePlan v.code.now v.masks.now v.rows.now

abbrev pub WholeFound : Survey → List (Option Candidate) → ℕ → Type 0
WholeFound v best place =
    RootsRemembered v.code.now v.masks.now v.rows.now best × RootOfWhole v.code.now v.masks.now v.rows.now place
