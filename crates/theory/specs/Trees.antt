-- Join trees written out: a table and its children in order. `semantics` keeps a tree as the plan that it gives. And the children in such
-- a plan.
use Rattle.std.specs.Prelude.{◌≡◌, ◌&&◌, List, [], ◌∷◌, ◌++◌, ℕ, eqb}
use Rattle.semantics.specs.Lists.{any}
use Rattle.semantics.specs.Plans.{Plan, scan, join, leftmost}
use Rattle.semantics.specs.Elimination.{Hanging}
use Rattle.theory.specs.Elements.{Rising, member}

mutual
  pub data JoinTree : Type 0 where
    node : ℕ → Children → JoinTree

  pub data Children : Type 0 where
    childless : Children
    child : JoinTree → Children → Children

-- "in the plan a table joins its children's plans in turn"
abbrev mutual
  pub plan_of_tree : JoinTree → Plan
  plan_of_tree (node t cs) = in_turn cs (scan t)

  pub in_turn : Children → Plan → Plan
  in_turn childless p = p
  in_turn (child c cs) p = in_turn cs (join p (plan_of_tree c))

-- the tree of a plan, where a join hangs the right tree last under the root of the left one
abbrev pub child_last : Children → JoinTree → Children
child_last childless d = child d childless
child_last (child c cs) d = child c (child_last cs d)

abbrev pub hung_last : JoinTree → JoinTree → JoinTree
hung_last (node t cs) d = node t (child_last cs d)

abbrev pub join_tree_of : Plan → JoinTree
join_tree_of (scan t) = node t childless
join_tree_of (join l r) = hung_last (join_tree_of l) (join_tree_of r)

-- the children of a plan's first-named table, in the order in which it joins their plans
abbrev pub children_of : Plan → List ℕ
children_of (scan t) = []
children_of (join l r) = children_of l ++ (leftmost r ∷ [])

-- every plan that hangs in the plan has the property: under its first-named table, and further below
abbrev pub EachHung : (Plan → Type 0) → Plan → Type 0
EachHung P (scan t) = Unit {0}
EachHung P (join l r) = EachHung P l × P r × EachHung P r

-- the plan under every table has the property: each table is the first named of the plan, or of one that hangs in it
abbrev pub UnderEach : (Plan → Type 0) → Plan → Type 0
UnderEach P p = P p × EachHung P p

-- request U4: the children of the first-named table are the tables that were hung under it, and "stand in rising number"
pub record HungRising (gs : List Hanging) (p : Plan) : Type 0 where
  pub hung : (c : ℕ) → member (children_of p) c ≡ any (λ h. eqb (leftmost p) h.parent && eqb c h.child) gs
  pub rising : Rising (children_of p)
