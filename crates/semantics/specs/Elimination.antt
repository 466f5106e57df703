-- Request U4, "files without a plan": the plan that is found for tables whose file gives none. Nothing here can see an attribute value.
use Rattle.std.specs.Prelude.{Bool, true, false, ◌&&◌, not, List, [], ◌∷◌, ℕ, zero, suc, ◌-◌, eqb}
use Rattle.std.proofs.Math.Option.{Option, none, some}
use Rattle.semantics.specs.Lists.{any, all, filter, first, up_to, head_of}
use Rattle.semantics.specs.Plans.{Plan, scan}
use Rattle.semantics.specs.Shapes.{Shape, attributes}
use Rattle.semantics.specs.JoinTrees.{hang_rising}

-- ---- which table hangs under which
-- a table, and the one under which it hangs
pub record Hanging : Type 0 where
  pub child : ℕ
  pub parent : ℕ

-- how the repeated step ends: with the root and what was hung, the latest first; or with the lowest number that remains
pub data Elimination : Type 0 where
  rooted : ℕ → List Hanging → Elimination
  stuck : ℕ → Elimination

-- the remaining tables but t
unfoldable pub without : ℕ → List ℕ → List ℕ
without t rs = filter (λ u. not (eqb u t)) rs

-- "the lowest remaining number": the remaining tables always stand in rising number
unfoldable pub lowest : List ℕ → ℕ
lowest rs = head_of rs

module _ (S : Shape) where
  -- the table t has the attribute, and "some other remaining table has" it, rs remaining
  unfoldable pub shared_in : List ℕ → ℕ → ℕ → Bool
  shared_in rs t a = S.has t a && any (λ u. S.has u a) (without t rs)

  -- its "shared attributes", rising
  unfoldable pub shared_attributes : List ℕ → ℕ → List ℕ
  shared_attributes rs t = filter (shared_in rs t) attributes

  -- they "all lie in one other remaining table": "the lowest-numbered such table"
  unfoldable pub parent_of : List ℕ → ℕ → Option ℕ
  parent_of rs t = let ks = shared_attributes rs t in first (λ u. all (S.has u) ks) (without t rs)

  -- "the lowest-numbered table" of ts that can be hung, rs remaining
  abbrev pub next_of : List ℕ → List ℕ → Option Hanging
  next_of rs [] = none
  next_of rs (t ∷ ts) = elim (parent_of rs t) [ some u ↦ some (record { child = t; parent = u }) | none ↦ next_of rs ts ]

  -- "repeatedly", m tables being still to hang, rs remaining and hs hung; "the last one is the root"
  abbrev pub hang_all : ℕ → List ℕ → List Hanging → Elimination
  hang_all zero rs hs = rooted (lowest rs) hs
  hang_all (suc m) rs hs = elim (next_of rs rs) [ some h ↦ hang_all m (without h.child rs) (h ∷ hs) | none ↦ stuck (lowest rs) ]

  -- of the tables 0 to n - 1 all but one are to hang
  unfoldable pub eliminate : ℕ → Elimination
  eliminate n = hang_all (n - 1) (up_to n) []

-- ---- the plan
-- the plan of table t and of what hangs under it. What hangs under a child was hung before the child.
abbrev pub plan_under : List Hanging → ℕ → Plan
plan_under [] t = scan t
plan_under (h ∷ hs) t = elim (eqb t h.parent) [ true ↦ hang_rising (plan_under hs h.child) (plan_under hs t) | false ↦ plan_under hs t ]
