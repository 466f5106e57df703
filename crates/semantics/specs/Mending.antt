-- Request U2, "mend the plans our optimiser sends": the mended plan, its penalty, and answer 9.
-- Nothing here can see an attribute value.
use Rattle.std.specs.Prelude.{Bool, true, false, ◌&&◌, List, [], ◌∷◌, ℕ, suc, ◌+◌, length, ltb}
use Rattle.std.proofs.Math.Option.{Option, none, some}
use Rattle.semantics.specs.Lists.{all, filter, non_empty}
use Rattle.semantics.specs.Plans.{Plan, scan, join, encode, tables}
use Rattle.semantics.specs.Shapes.{Shape, join_attributes, or_else}
use Rattle.semantics.specs.JoinTrees.{names_table, depth, hang_under}

-- the cheapest of x and the tables after it, f saying what each costs; "all ties go to the first named"
abbrev pub first_least : (ℕ → ℕ) → ℕ → List ℕ → ℕ
first_least f x [] = x
first_least f x (y ∷ ys) = elim (ltb (f y) (f x)) [ true ↦ first_least f y ys | false ↦ first_least f x ys ]

-- "the cheapest" of some tables
abbrev pub cheapest : (ℕ → ℕ) → List ℕ → ℕ
cheapest f [] = 0
cheapest f (x ∷ xs) = first_least f x xs

module _ (S : Shape) where
  -- the table holds all of the attributes
  unfoldable pub holds_all : List ℕ → ℕ → Bool
  holds_all ks t = all (S.has t) ks

  -- a side "offers the tables that hold all join attributes", in the order named
  unfoldable pub holders : List ℕ → Plan → List ℕ
  holders ks p = filter (holds_all ks) (tables p)

  -- "the topmost table of the other tree that holds the join attributes": the one of least depth
  unfoldable pub topmost : List ℕ → Plan → ℕ
  topmost ks p = cheapest (depth p) (holders ks p)

  -- the tree c "hangs last under" it in the tree p
  unfoldable pub hang : List ℕ → Plan → Plan → Plan
  hang ks c p = hang_under (topmost ks p) c p

  -- at the join of l and r, "the cheapest of them becomes that side's root", f saying what a table costs as its root
  unfoldable pub chosen : Plan → Plan → Plan → (ℕ → ℕ) → ℕ
  chosen l r side f = cheapest f (holders (join_attributes S l r) side)

  -- The penalty of a plan's tree with the root x. "When the root lies right, the row count of the left side's chosen root; else
  -- nothing; summed over joins." The choice has "any row count it adds at this join included".
  abbrev pub cost : Plan → ℕ → ℕ
  cost (scan t) x = 0
  cost (join l r) x =
      elim (names_table l x) [
        | true ↦ cost l x + cost r (chosen l r r (λ b. cost r b))
        | false ↦ cost r x + (cost l (chosen l r l (λ b. cost l b + S.rows b)) + S.rows (chosen l r l (λ b. cost l b + S.rows b)))
      ]

  -- the root of the side without the root: of the right side, and of the left one
  unfoldable pub right_root : Plan → Plan → ℕ
  right_root l r = chosen l r r (λ b. cost r b)

  unfoldable pub left_root : Plan → Plan → ℕ
  left_root l r = chosen l r l (λ b. cost l b + S.rows b)

  -- a plan's tree with the root x
  abbrev pub tree_for : Plan → ℕ → Plan
  tree_for (scan t) x = scan t
  tree_for (join l r) x =
      elim (names_table l x) [
        | true ↦ hang (join_attributes S l r) (tree_for r (right_root l r)) (tree_for l x)
        | false ↦ hang (join_attributes S l r) (tree_for l (left_root l r)) (tree_for r x)
      ]

  -- "the overall root is the cheapest table"
  unfoldable pub mended_root : Plan → ℕ
  mended_root p = cheapest (cost p) (tables p)

  -- the plan that the join follows
  unfoldable pub mend : Plan → Plan
  mend p = tree_for p (mended_root p)

  unfoldable pub penalty : Plan → ℕ
  penalty p = cost p (mended_root p)

  -- ---- answer 9
  -- both sides of the join have a table that holds its join attributes
  unfoldable pub both_hold : Plan → Plan → Bool
  both_hold l r = non_empty (holders (join_attributes S l r) l) && non_empty (holders (join_attributes S l r) r)

  -- "a join has a side where no table holds its join attributes; detail, the first such FF", in a plan whose bytes begin at i
  abbrev pub unmendable : Plan → ℕ → Option ℕ
  unmendable (scan t) i = none
  unmendable (join l r) i =
      elim (both_hold l r) [ false ↦ some i | true ↦ or_else (unmendable l (suc i)) (unmendable r (suc i + length (encode l))) ]
