-- Join trees: what is hung where keeps the plan well-behaved; plans and trees are one to one.
use mathlib.Core.Path.{◌≡◌, refl, sym, ap, ap₂, ◌∙◌}
use mathlib.Core.Bool.{Bool, true, false, ◌&&◌, ◌||◌, or-false}
use mathlib.Core.List.{List, [], ◌∷◌, ◌++◌, append_assoc}
use Prim.Native.Nat.{ℕ, ◌<◌}
use lib.Dec.{eqb, ltb}
use borrow.Author.Tests.{eqb-true, eq-eqb}
use Rattle.semantics.specs.Lists.{any}
use Rattle.theory.specs.Elements.{Permutation, unchanged, beside, through}
use Rattle.semantics.specs.Plans.{Plan, scan, join, tables, leftmost}
use Rattle.semantics.specs.Shapes.{Shape, holds, shared, join_attributes}
use Rattle.theory.specs.Rules.{behaves, WellBehaved}
use Rattle.theory.proofs.Cases.{cases, and_left, and_right, or_cases, or_left, or_right}
use Rattle.theory.proofs.Permutations.{permutation-any, last_two}
use Rattle.theory.proofs.Lists.{any_append}
use Rattle.theory.proofs.Attributes.{each-attribute, attribute_each}
use Rattle.semantics.specs.JoinTrees.{names_table, hang_under, hang_rising}
use Rattle.theory.specs.Trees.{JoinTree, node, Children, childless, child, plan_of_tree, in_turn, child_last, hung_last, join_tree_of}

-- the attributes found both in p and in c are all in the tables x and y
abbrev pub Within : Shape → Plan → Plan → ℕ → ℕ → Type 0
Within S p c x y = (a : ℕ) → a < 32 → holds S p a ≡ true → holds S c a ≡ true → (S.has x a ≡ true) × (S.has y a ≡ true)

-- ---- hanging
-- under the root, in the left tree or in the right one
hang-cases : (P : Plan → Type 0) (x : ℕ) (c a b : Plan) → (eqb x (leftmost a) ≡ true → P (join (join a b) c)) → (names_table a x ≡ true → P (join (hang_under x c a) b)) → (names_table a x ≡ false → P (join a (hang_under x c b)))
    → P (hang_under x c (join a b))
hang-cases P x c a b f g k = cases (eqb x (leftmost a)) (λ h. rw (h, hang_under) (f h)) (λ h. cases (names_table a x) (λ n. rw (h, hang_under) (rw n (g n))) (λ n. rw (h, hang_under) (rw n (k n))))

pub hang-leftmost : (x : ℕ) (c p : Plan) → leftmost (hang_under x c p) ≡ leftmost p
hang-leftmost x c (scan t) = refl
hang-leftmost x c (join a b) = hang-cases (λ q. leftmost q ≡ leftmost a) x c a b (λ h. refl) (λ g. hang-leftmost x c a) (λ g. refl)

pub hang-tables : (x : ℕ) (c p : Plan) → Permutation (tables (hang_under x c p)) (tables p ++ tables c)
hang-tables x c (scan t) = unchanged
hang-tables x c (join a b) =
    hang-cases (λ q. Permutation (tables q) ((tables a ++ tables b) ++ tables c)) x c a b (λ h. unchanged)
    (λ g. through (beside (hang-tables x c a) unchanged) (last_two (tables a) (tables c) (tables b)))
    (λ g. rw (append_assoc (tables a) (tables b) (tables c)) (beside (unchanged {xs = tables a}) (hang-tables x c b)))

-- hung at its place among the root's children
rising-cases : (P : Plan → Type 0) (c a b : Plan) → P (join (hang_rising c a) b) → P (join (join a b) c) → P (hang_rising c (join a b))
rising-cases P c a b f g = cases (ltb (leftmost c) (leftmost b)) (λ h. rw (h, hang_rising) f) (λ h. rw (h, hang_rising) g)

pub rising-leftmost : (c p : Plan) → leftmost (hang_rising c p) ≡ leftmost p
rising-leftmost c (scan t) = refl
rising-leftmost c (join a b) = rising-cases (λ q. leftmost q ≡ leftmost a) c a b (rising-leftmost c a) refl

pub rising-tables : (c p : Plan) → Permutation (tables (hang_rising c p)) (tables p ++ tables c)
rising-tables c (scan t) = unchanged
rising-tables c (join a b) =
    rising-cases (λ q. Permutation (tables q) ((tables a ++ tables b) ++ tables c)) c a b
    (through (beside (rising-tables c a) unchanged) (last_two (tables a) (tables c) (tables b))) unchanged

-- what is named has what passes
pub named-any : (q : ℕ → Bool) (x : ℕ) (ts : List ℕ) → any (eqb x) ts ≡ true → q x ≡ true → any q ts ≡ true
named-any q x [] e h = e
named-any q x (t ∷ ts) e h =
    or_cases (eqb x t) (any (eqb x) ts) e (λ g. or_left (q t) (any q ts) (rw (eqb-true x t g) at h)) (λ g. or_right (q t) (any q ts) (named-any q x ts g h))

pub names-leftmost : (p : Plan) → names_table p (leftmost p) ≡ true
names-leftmost (scan t) = rw (eq-eqb t t refl)
names-leftmost (join a b) = any_append (eqb (leftmost a)) (tables a) (tables b) ∙ or_left (names_table a (leftmost a)) (names_table b (leftmost a)) (names-leftmost a)

module _ (S : Shape) where
  pub holds-scan : (t a : ℕ) → holds S (scan t) a ≡ S.has t a
  unfolding holds
  holds-scan t a = or-false (S.has t a)

  pub holds-join : (l r : Plan) (a : ℕ) → holds S (join l r) a ≡ (holds S l a || holds S r a)
  unfolding holds
  holds-join l r a = any_append (λ t. S.has t a) (tables l) (tables r)

  pub holds_named : (p : Plan) (x a : ℕ) → names_table p x ≡ true → S.has x a ≡ true → holds S p a ≡ true
  unfolding holds
  holds_named p x a n h = named-any (λ t. S.has t a) x (tables p) n h

  pub holds_permutation : (p q : Plan) (a : ℕ) → Permutation (tables p) (tables q) → holds S p a ≡ holds S q a
  unfolding holds
  holds_permutation p q a e = permutation-any (λ t. S.has t a) e

  pub holds-hang : (x : ℕ) (c p : Plan) (a : ℕ) → holds S (hang_under x c p) a ≡ (holds S p a || holds S c a)
  unfolding holds
  holds-hang x c p a = permutation-any (λ t. S.has t a) (hang-tables x c p) ∙ any_append (λ t. S.has t a) (tables p) (tables c)

  pub holds-rising : (c p : Plan) (a : ℕ) → holds S (hang_rising c p) a ≡ (holds S p a || holds S c a)
  unfolding holds
  holds-rising c p a = permutation-any (λ t. S.has t a) (rising-tables c p) ∙ any_append (λ t. S.has t a) (tables p) (tables c)

  -- what `behaves` says, attribute by attribute
  pub behaves-within : (l r : Plan) → behaves S l r ≡ true → Within S l r (leftmost l) (leftmost r)
  unfolding behaves join_attributes shared
  behaves-within l r e a h hl hr =
      let t = each-attribute (shared S l r) (λ a. S.has (leftmost l) a && S.has (leftmost r) a) e a h (rw (hl, hr)) in
      (and_left (S.has (leftmost l) a) (S.has (leftmost r) a) t, and_right (S.has (leftmost l) a) (S.has (leftmost r) a) t)

  pub within-behaves : (l r : Plan) → Within S l r (leftmost l) (leftmost r) → behaves S l r ≡ true
  unfolding behaves join_attributes shared
  within-behaves l r w =
      attribute_each (shared S l r) (λ a. S.has (leftmost l) a && S.has (leftmost r) a)
      (λ a h e. let (x, y) = w a h (and_left (holds S l a) (holds S r a) e) (and_right (holds S l a) (holds S r a) e) in rw (x, y))

  pub in_left_lem : (l r : Plan) (a : ℕ) → holds S l a ≡ true → holds S (join l r) a ≡ true
  in_left_lem l r a h = holds-join l r a ∙ or_left (holds S l a) (holds S r a) h

  pub in_right_lem : (l r : Plan) (a : ℕ) → holds S r a ≡ true → holds S (join l r) a ≡ true
  in_right_lem l r a h = holds-join l r a ∙ or_right (holds S l a) (holds S r a) h

  -- hung under a table that holds what the two trees share, as the root of the hung tree does
  pub hang-well_behaved : (x : ℕ) (c p : Plan) → WellBehaved S p → WellBehaved S c → names_table p x ≡ true → Within S p c x (leftmost c) → WellBehaved S (hang_under x c p)
  hang-well_behaved x c (scan t) wp wc n w =
      (within-behaves (scan t) c (λ a h hp hc. let (y, z) = w a h hp hc in (rw (sym (or_cases (eqb x t) false n (λ g. eqb-true x t g) (λ g. cc))) y, z)), tt, wc)
  hang-well_behaved x c (join a b) wp wc n w =
      hang-cases (WellBehaved S) x c a b
      (λ e. (within-behaves (join a b) c (rw (eqb-true x (leftmost a) e) at w), wp, wc))
      (λ n. (
        within-behaves (hang_under x c a) b
            (λ k h ha hb. rw (hang-leftmost x c a)
            (or_cases (holds S a k) (holds S c k) (sym (holds-hang x c a k) ∙ ha) (λ g. behaves-within a b wp.0 k h g hb)
            (λ g. behaves-within a b wp.0 k h (holds_named a x k n (w k h (in_right_lem a b k hb) g).0) hb))),
        hang-well_behaved x c a wp.1 wc n (λ k h ha hc. w k h (in_left_lem a b k ha) hc),
        wp.2,
      ))
      (λ m. let nb : names_table b x ≡ true = rw m at (sym (any_append (eqb x) (tables a) (tables b)) ∙ n) in (
        within-behaves a (hang_under x c b)
            (λ k h ha hb. rw (hang-leftmost x c b)
            (or_cases (holds S b k) (holds S c k) (sym (holds-hang x c b k) ∙ hb) (λ g. behaves-within a b wp.0 k h ha g)
            (λ g. behaves-within a b wp.0 k h ha (holds_named b x k nb (w k h (in_left_lem a b k ha) g).0)))),
        wp.1,
        hang-well_behaved x c b wp.2 wc nb (λ k h hb hc. w k h (in_right_lem a b k hb) hc),
      ))

  -- the same at its place among the root's children
  pub rising-well_behaved : (c p : Plan) → WellBehaved S p → WellBehaved S c → Within S p c (leftmost p) (leftmost c) → WellBehaved S (hang_rising c p)
  rising-well_behaved c (scan t) wp wc w = (within-behaves (scan t) c w, tt, wc)
  rising-well_behaved c (join a b) wp wc w =
      rising-cases (WellBehaved S) c a b (
        within-behaves (hang_rising c a) b
            (λ k h ha hb. rw (rising-leftmost c a)
            (or_cases (holds S a k) (holds S c k) (sym (holds-rising c a k) ∙ ha) (λ g. behaves-within a b wp.0 k h g hb)
            (λ g. behaves-within a b wp.0 k h (holds_named a (leftmost a) k (names-leftmost a) (w k h (in_right_lem a b k hb) g).0) hb))),
        rising-well_behaved c a wp.1 wc (λ k h ha hc. w k h (in_left_lem a b k ha) hc),
        wp.2,
      )
      (within-behaves (join a b) c w, wp, wc)

-- ---- trees written out
in_turn_last : (cs : Children) (d : JoinTree) (p : Plan) → in_turn (child_last cs d) p ≡ join (in_turn cs p) (plan_of_tree d)
in_turn_last childless d p = refl
in_turn_last (child c cs) d p = in_turn_last cs d (join p (plan_of_tree c))

hung_last-plan : (a d : JoinTree) → plan_of_tree (hung_last a d) ≡ join (plan_of_tree a) (plan_of_tree d)
hung_last-plan (node t cs) d = in_turn_last cs d (scan t)

-- plans and trees are the same: every plan is the plan of one tree
pub plan_of_tree_lem : (p : Plan) → plan_of_tree (join_tree_of p) ≡ p
plan_of_tree_lem (scan t) = refl
plan_of_tree_lem (join l r) = hung_last-plan (join_tree_of l) (join_tree_of r) ∙ ap₂ join (plan_of_tree_lem l) (plan_of_tree_lem r)

abbrev children_then : Children → Children → Children
children_then childless ds = ds
children_then (child c cs) ds = child c (children_then cs ds)

children_then_last : (cs : Children) (c : JoinTree) (ds : Children) → children_then (child_last cs c) ds ≡ children_then cs (child c ds)
children_then_last childless c ds = refl
children_then_last (child b cs) c ds = ap (child b) (children_then_last cs c ds)

then_childless : (cs : Children) → children_then cs childless ≡ cs
then_childless childless = refl
then_childless (child c cs) = ap (child c) (then_childless cs)

mutual
  pub tree_of-plan : (t : JoinTree) → join_tree_of (plan_of_tree t) ≡ t
  tree_of-plan (node t cs) = tree-in_turn cs t childless (scan t) refl

  tree-in_turn : (cs : Children) (t : ℕ) (ds : Children) (p : Plan) → join_tree_of p ≡ node t ds → join_tree_of (in_turn cs p) ≡ node t (children_then ds cs)
  tree-in_turn childless t ds p e = e ∙ ap (node t) (sym (then_childless ds))
  tree-in_turn (child c cs) t ds p e =
      tree-in_turn cs t (child_last ds c) (join p (plan_of_tree c)) (ap₂ hung_last e (tree_of-plan c)) ∙ ap (node t) (children_then_last ds c cs)
