-- What the bytes of a tree promise.
use Rattle.std.specs.Prelude.{◌≡◌, List, ℕ, ◌-◌, length, get_or, take, Option}
use Rattle.semantics.specs.Plans.{Plan, encode}
use Rattle.semantics.specs.Mending.{tree_for}
use Rattle.mending.specs.Places.{PlanAt}
use Rattle.mending.specs.Parts.{shape_in}
use Rattle.mending.specs.Rooting.{RootsRemembered, TreeAsked}
use Rattle.mending.specs.declared.parts.Survey.{Survey}
use Rattle.mending.specs.declared.rooting.Candidate.{Candidate}

-- the bytes are those of the tree, of the plan at an index, for the root whose byte stands at the place
abbrev pub Spelt : List ℕ → List ℕ → List ℕ → ℕ → ℕ → List ℕ → Type 0
Spelt s masks rows at place out =
    (p : Plan) (e : ℕ) → PlanAt s at p e → take (e - at) out ≡ encode (tree_for (shape_in masks rows) p (get_or s place 0))

-- what writing a tree asks, and what it promises: the memory stays right, and the buffer begins with the tree's bytes
abbrev pub WriteAsked : Survey → List (Option Candidate) → List ℕ → ℕ → ℕ → Type 0
WriteAsked v best out at place = TreeAsked v best at place × (length out ≡ 31)

abbrev pub TreeWritten : Survey → List (Option Candidate) → List ℕ → ℕ → ℕ → Type 0
TreeWritten v best out at place =
    RootsRemembered v.code.now v.masks.now v.rows.now best × (length out ≡ 31)
    × Spelt v.code.now v.masks.now v.rows.now at place out
