-- "The topmost table that holds the join attributes": in a well-behaved tree there is one, and it is the first that the tree's
-- plan names.
use mathlib.Core.Path.{◌≡◌, refl, sym, ◌∙◌}
use mathlib.Core.Logic.{◌⊎◌, inl, inr}
use mathlib.Core.Bool.{true, false}
use mathlib.Core.List.{List, [], ◌∷◌, ◌++◌}
use Prim.Native.Nat.{ℕ, suc, ◌+◌, ◌≤◌, ◌<◌}
use native.Mathlib.Omega.{arith}
use lib.Dec.{eqb}
use borrow.Author.Tests.{eqb-true}
use Rattle.theory.specs.Elements.{Each}
use Rattle.semantics.specs.Lists.{filter, non_empty, from, up_to, head_of}
use Rattle.semantics.specs.Plans.{Plan, scan, join, tables, leftmost}
use Rattle.semantics.specs.Shapes.{Shape, attributes, shared, join_attributes}
use Rattle.theory.specs.Rules.{behaves, WellBehaved}
use Rattle.theory.proofs.Cases.{cases, true-false, or_cases}
use Rattle.theory.proofs.Lists.{Each-map, Each-with, Each-filter, filter-append, filter_passes, non_empty-filter, empty-nil, all_true, true_all}
use Rattle.theory.proofs.Numbers.{from-lt}
use Rattle.semantics.specs.JoinTrees.{names_table, depth}
use Rattle.semantics.specs.Mending.{cheapest, holds_all, holders, topmost}
use Rattle.theory.proofs.JoinTrees.{named-any, holds_named, behaves-within}
use Rattle.theory.proofs.Cheapest.{cheapest_first}
use Rattle.theory.proofs.Mending.{each-named, not_left, tables_first, depth-leftmost}

head_each : (P : ℕ → Type 0) (xs : List ℕ) → non_empty xs ≡ true → Each P xs → P (head_of xs)
head_each P [] n e = let z : ◌≡◌ {A = ℕ} 0 1 = cc in absurd (omega arith)
head_each P (x ∷ xs) n e = e.0

head-append : (xs ys : List ℕ) → non_empty xs ≡ true → head_of (xs ++ ys) ≡ head_of xs
head-append [] ys n = cc
head-append (x ∷ xs) ys n = refl

depth_left : (a b : Plan) (x : ℕ) → names_table a x ≡ true → depth (join a b) x ≡ depth a x
depth_left a b x h = rw (h, depth)

depth_right : (a b : Plan) (x : ℕ) → names_table a x ≡ false → depth (join a b) x ≡ suc (depth b x)
depth_right a b x h = rw (h, depth)

module _ (S : Shape) (ks : List ℕ) (below : Each (λ k. k < 32) ks) where
  some-holder : (p : Plan) (y : ℕ) → names_table p y ≡ true → holds_all S ks y ≡ true → non_empty (filter (holds_all S ks) (tables p)) ≡ true
  some-holder p y n h = non_empty-filter (holds_all S ks) (tables p) ∙ named-any (holds_all S ks) y (tables p) n h

  first_holds : (p : Plan) → non_empty (filter (holds_all S ks) (tables p)) ≡ true
      → (names_table p (head_of (filter (holds_all S ks) (tables p))) ≡ true) × (holds_all S ks (head_of (filter (holds_all S ks) (tables p))) ≡ true)
  first_holds p n =
      head_each (λ x. (names_table p x ≡ true) × (holds_all S ks x ≡ true)) (filter (holds_all S ks) (tables p)) n
      (Each-with (λ x. names_table p x ≡ true) (λ x. holds_all S ks x ≡ true) (λ x. (names_table p x ≡ true) × (holds_all S ks x ≡ true)) (λ x a b. (a, b)) (filter (holds_all S ks) (tables p))
      (Each-filter (λ x. names_table p x ≡ true) (holds_all S ks) (tables p) (each-named (tables p))) (filter_passes (holds_all S ks) (tables p)))

  -- where both sides of a join have a holder, its root is one
  root-holds : (a b : Plan) (x y : ℕ) → behaves S a b ≡ true → names_table a x ≡ true → holds_all S ks x ≡ true → names_table b y ≡ true → holds_all S ks y ≡ true → holds_all S ks (leftmost a) ≡ true
  unfolding holds_all
  root-holds a b x y w nx hx ny hy =
      true_all (S.has (leftmost a)) ks
      (Each-with (λ k. k < 32) (λ k. (S.has x k ≡ true) × (S.has y k ≡ true)) (λ k. S.has (leftmost a) k ≡ true)
      (λ k h e. (behaves-within S a b w k h (holds_named S a x k nx e.0) (holds_named S b y k ny e.1)).0) ks below
      (Each-with (λ k. S.has x k ≡ true) (λ k. S.has y k ≡ true) (λ k. (S.has x k ≡ true) × (S.has y k ≡ true)) (λ k a b. (a, b)) ks (all_true (S.has x) ks hx) (all_true (S.has y) ks hy)))

  root_first : (p : Plan) → holds_all S ks (leftmost p) ≡ true → head_of (filter (holds_all S ks) (tables p)) ≡ leftmost p
  root_first p h = let (ts, e) = tables_first p in rw e (rw h refl)

  -- the first holder lies above all others
  first_above : (p : Plan) → WellBehaved S p → (y : ℕ) → names_table p y ≡ true → holds_all S ks y ≡ true
      → (depth p (head_of (filter (holds_all S ks) (tables p))) < depth p y) ⊎ (head_of (filter (holds_all S ks) (tables p)) ≡ y)
  first_above (scan t) w y n h = or_cases (eqb y t) false n (λ e. inr (root_first (scan t) (rw (eqb-true y t e) at h) ∙ sym (eqb-true y t e))) (λ e. inl (let z : ◌≡◌ {A = ℕ} 0 1 = cc in absurd (omega arith)))
  first_above (join a b) w y n h =
      rw (filter-append (holds_all S ks) (tables a) (tables b))
      (cases (non_empty (filter (holds_all S ks) (tables a)))
      (λ i. let (nx, hx) = first_holds a i in
      rw (head-append (filter (holds_all S ks) (tables a)) (filter (holds_all S ks) (tables b)) i, depth_left a b (head_of (filter (holds_all S ks) (tables a))) nx)
      (cases (names_table a y)
      (λ m. rw (depth_left a b y m) (first_above a w.1 y m h))
      (λ m. rw (depth_right a b y m, root_first a (root-holds a b (head_of (filter (holds_all S ks) (tables a))) y w.0 nx hx (not_left a b y m n) h), depth-leftmost a) (inl (omega arith)))))
      (λ i.
      let out : (z : ℕ) → holds_all S ks z ≡ true → names_table a z ≡ false = λ z hz. cases (names_table a z) (λ m. absurd (true-false (non_empty (filter (holds_all S ks) (tables a))) (some-holder a z m hz) i)) (λ m. m) in
      let ny : names_table b y ≡ true = not_left a b y (out y h) n in
      let (nx, hx) = first_holds b (some-holder b y ny h) in
      rw (empty-nil (filter (holds_all S ks) (tables a)) i, depth_right a b (head_of (filter (holds_all S ks) (tables b))) (out (head_of (filter (holds_all S ks) (tables b))) hx), depth_right a b y (out y h))
      (deeper (first_above b w.2 y ny h))))
    where
      deeper : {m n x y : ℕ} → (m < n) ⊎ (x ≡ y) → (suc m < suc n) ⊎ (x ≡ y)
      deeper (inl e) = inl (omega arith)
      deeper (inr e) = inr e

  -- the topmost holder is the first that the plan names
  pub topmost_first : (p : Plan) → WellBehaved S p → topmost S ks p ≡ head_of (holders S ks p)
  unfolding topmost holders
  topmost_first p w =
      go (filter (holds_all S ks) (tables p))
      (Each-with (λ y. names_table p y ≡ true) (λ y. holds_all S ks y ≡ true) (λ y. depth p (head_of (filter (holds_all S ks) (tables p))) ≤ depth p y) (λ y n h. at_least (first_above p w y n h)) (filter (holds_all S ks) (tables p))
      (Each-filter (λ y. names_table p y ≡ true) (holds_all S ks) (tables p) (each-named (tables p))) (filter_passes (holds_all S ks) (tables p)))
    where
      at_least : {x y : ℕ} → (depth p x < depth p y) ⊎ (x ≡ y) → depth p x ≤ depth p y
      at_least (inl e) = omega arith
      at_least {x} {y} (inr e) = rw e (omega arith)

      go : (xs : List ℕ) → Each (λ y. depth p (head_of xs) ≤ depth p y) xs → cheapest (depth p) xs ≡ head_of xs
      go [] e = refl
      go (x ∷ xs) e = cheapest_first (depth p) x xs e.1

  -- and every other one lies deeper
  pub topmost_above : (p : Plan) → WellBehaved S p → (y : ℕ) → names_table p y ≡ true → holds_all S ks y ≡ true → (depth p (topmost S ks p) < depth p y) ⊎ (topmost S ks p ≡ y)
  topmost_above p w y n h = rw (topmost_first p w) (unfold holders in first_above p w y n h)

-- join attributes are attributes
pub join_attributes_below : (S : Shape) (l r : Plan) → Each (λ k. k < 32) (join_attributes S l r)
unfolding join_attributes attributes up_to
join_attributes_below S l r = Each-filter (λ k. k < 32) (shared S l r) (from 0 32) (Each-map (λ k. (0 ≤ k) × (k < 0 + 32)) (λ k. k < 32) (λ k h. h.1) (from 0 32) (from-lt 0 32))
