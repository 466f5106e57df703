-- Requests U2 and U4: join trees. A tree is kept as the plan that it gives: `scan t` is the table t without children, `join a b` is the
-- tree a with the tree b hung last under a's root. So "in the plan a table joins its children's plans in turn", the root is the
-- leftmost table, and the tree's tables are the plan's.
use Rattle.std.specs.Prelude.{Bool, true, false, ℕ, suc, eqb, ltb}
use Rattle.semantics.specs.Lists.{any}
use Rattle.semantics.specs.Plans.{Plan, scan, join, tables, leftmost}

-- the plan names the table x
abbrev pub names_table : Plan → ℕ → Bool
names_table p x = any (eqb x) (tables p)

-- how deep the table x lies in a tree that names it: the root's depth is 0
abbrev pub depth : Plan → ℕ → ℕ
depth (scan t) x = 0
depth (join a b) x = elim (names_table a x) [ true ↦ depth a x | false ↦ suc (depth b x) ]

-- the tree p with the tree c hung last under the table x
abbrev pub hang_under : ℕ → Plan → Plan → Plan
hang_under x c (scan t) = join (scan t) c
hang_under x c (join a b) =
    elim (eqb x (leftmost a)) [
      | true ↦ join (join a b) c
      | false ↦ elim (names_table a x) [ true ↦ join (hang_under x c a) b | false ↦ join a (hang_under x c b) ]
    ]

-- request U4, "children stand in rising number": the tree p with the tree c hung under its root, before the children of higher number
abbrev pub hang_rising : Plan → Plan → Plan
hang_rising c (scan t) = join (scan t) c
hang_rising c (join a b) = elim (ltb (leftmost c) (leftmost b)) [ true ↦ join (hang_rising c a) b | false ↦ join (join a b) c ]
