-- What the search for answer 9 promises.
use Rattle.std.specs.Prelude.{◌≡◌, Bool, List, ℕ, ◌+◌, ◌≤◌, length, get_or, Option, None, Some}
use Rattle.std.proofs.Math.Option.{none, some}
use Rattle.std.proofs.Math.Option as math
use Rattle.semantics.specs.Lists.{any}
use Rattle.semantics.specs.Plans.{Plan, tables}
use Rattle.semantics.specs.Mending.{both_hold, unmendable}
use Rattle.mending.specs.Places.{PlanAt, Planned}
use Rattle.mending.specs.Parts.{shape_in, Surveyed}
use Rattle.mending.specs.Hanging.{holds_key}
use Rattle.mending.specs.declared.parts.Side.{Side}
use Rattle.mending.specs.declared.parts.Survey.{Survey}

-- an index, where there is one, as the code says it
abbrev pub found_of : math.Option ℕ → Option ℕ
found_of none = None
found_of (some i) = Some i

-- what the search asks: a plan begins at the index, of a short plan that is surveyed
abbrev pub LackAsked : Survey → ℕ → Type 0
LackAsked v at = (length v.code.now ≤ 31) × Surveyed v.code.now v.masks.now v.parts × Planned v.code.now at

-- whether a table of the side's plan holds its key
abbrev pub SideHolds : List ℕ → List ℕ → Side → Bool → Type 0
SideHolds s masks side b =
    (p : Plan) → PlanAt s side.start p side.end → b ≡ any (λ t. holds_key side.key (get_or masks t 0)) (tables p)

-- whether both sides of the join at an index have a holder; row counts do not matter
abbrev pub BothHold : List ℕ → List ℕ → ℕ → Bool → Type 0
BothHold s masks at b =
    (rows : List ℕ) (x y : Plan) (m e : ℕ) → PlanAt s (at + 1) x m → PlanAt s m y e → b ≡ both_hold (shape_in masks rows) x y

-- the first FF, in the plan at an index, whose join has a side without one
abbrev pub FirstLack : List ℕ → List ℕ → ℕ → Option ℕ → Type 0
FirstLack s masks at r = (rows : List ℕ) (p : Plan) (e : ℕ) → PlanAt s at p e → r ≡ found_of (unmendable (shape_in masks rows) p at)
