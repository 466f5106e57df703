-- What the check of well-behaved plans gives for a plan inside the plan.
use Rattle.std.specs.Prelude.{◌≡◌, Bool, true, false, ◌&&◌, List, ℕ, ◌<◌, ◌^◌, eqb, Option, Some, None, if◌then◌else◌}
use Rattle.std.specs.Int.Bits.{bit_and, bit_or}
use Rattle.semantics.specs.Files.{has_bit}
use Rattle.semantics.specs.Plans.{Plan, scan, join, leftmost}
use Rattle.semantics.specs.Shapes.{Shape, holds}
use Rattle.theory.specs.Rules.{behaves}
use Rattle.words.specs.Masks.{Masked}
use Rattle.plans.specs.declared.behaviour.Subplan.{Subplan}

-- the plan is well-behaved, as a test
abbrev pub well_behaved : Shape → Plan → Bool
well_behaved S (scan t) = true
well_behaved S (join l r) = behaves S l r && (well_behaved S l && well_behaved S r)

-- the join of two plans has its join attributes in both leftmost tables, which have the masks m and n
abbrev pub behaves_by : Subplan → Subplan → ℕ → ℕ → Bool
behaves_by l r m n = eqb (bit_and (bit_and l.attributes r.attributes) (bit_and m n)) (bit_and l.attributes r.attributes)

-- the join of two well-behaved plans whose leftmost tables have these masks, where it is well-behaved
abbrev pub joined_of : Subplan → Subplan → ℕ → ℕ → Option Subplan
joined_of l r m n =
    if behaves_by l r m n
    then Some (record { attributes = bit_or l.attributes r.attributes; leftmost = l.leftmost; next = r.next })
    else None

-- what the tables of the shape make of the plan p, which is well-behaved
pub record Ruled (S : Shape) (p : Plan) (r : Subplan) : Type 0 where
  pub attributes : (a : ℕ) → has_bit r.attributes a ≡ holds S p a
  pub word : r.attributes < 2 ^ 32
  pub behaved : well_behaved S p ≡ true

-- r is what the plan p, which ends at e, comes to
pub record JudgedAs (masks : List ℕ) (p : Plan) (e : ℕ) (r : Subplan) : Type 0 where
  pub leftmost : r.leftmost ≡ leftmost p
  pub small : r.leftmost < 16
  pub next : r.next ≡ e
  pub rules : (S : Shape) → Masked masks S → Ruled S p r

-- where it is well-behaved
abbrev pub Judged : List ℕ → Plan → ℕ → Option Subplan → Type 0
Judged masks p e None = (S : Shape) → Masked masks S → well_behaved S p ≡ false
Judged masks p e (Some r) = JudgedAs masks p e r
