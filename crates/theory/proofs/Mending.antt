-- Request U2: the mended plan names the same tables, is well-behaved, is the plan itself where that is well-behaved, and its
-- penalty is the least over all selections. At each choice of a root it takes the first named of the cheapest.
use mathlib.Core.Path.{◌≡◌, refl, sym, ap, ap₂, ◌∙◌, subst}
use mathlib.Core.Bool.{Bool, true, false, ◌||◌, not}
use mathlib.Core.List.{List, [], ◌∷◌, ◌++◌}
use Prim.Native.Nat.{ℕ, zero, suc, ◌+◌, ◌≤◌, ◌<◌, zero-le}
use native.Mathlib.Omega.{arith}
use lib.ListN.{length, length-append}
use lib.Dec.{eqb}
use borrow.Author.Tests.{eqb-true, eq-eqb}
use Rattle.theory.specs.Elements.{one_if, Each, Permutation, unchanged, exchanged, beside, through}
use Rattle.semantics.specs.Lists.{any, all, sum, filter, non_empty, from, up_to}
use Rattle.semantics.specs.Plans.{Plan, scan, join, tables, leftmost}
use Rattle.semantics.specs.Shapes.{Shape, attributes, holds, shared, join_attributes, over_joins}
use Rattle.theory.specs.Rules.{behaves, WellBehaved}
use Rattle.theory.specs.Details.{Once}
use Rattle.theory.proofs.Cases.{cases, and_left, and_right, true-false, or_cases, or_left, or_right}
use Rattle.theory.proofs.Lists.{Each-map, Each-with, Each-filter, filter_passes, all_true, all_filter, any_append, filter-append, length-filter-sum, all_and, non_empty-append, non_empty-filter}
use Rattle.theory.proofs.Numbers.{from_at}
use Rattle.semantics.specs.JoinTrees.{names_table, depth, hang_under}
use Rattle.semantics.specs.Mending.{cheapest, holds_all, holders, topmost, hang, chosen, cost, right_root, left_root, tree_for, mended_root, mend, penalty, both_hold}
use Rattle.theory.specs.Selections.{FirstCheapest, Selection, only, root_left, root_right, selection_penalty, selection_tree, ChoosesFirst, Mendable}
use Rattle.theory.proofs.Cheapest.{cheapest_each, cheapest_least, cheapest-zero, cheapest_ties}
use Rattle.theory.proofs.Permutations.{permutation-sum, permutation-any, permutation_each}
use Rattle.theory.proofs.JoinTrees.{hang-leftmost, hang-tables, names-leftmost, holds_permutation, hang-well_behaved}

-- ---- tables that a plan names
pub each-named : (ts : List ℕ) → Each (λ x. any (eqb x) ts ≡ true) ts
each-named [] = tt
each-named (t ∷ ts) =
    (or_left (eqb t t) (any (eqb t) ts) (eq-eqb t t refl), Each-map (λ x. any (eqb x) ts ≡ true) (λ x. (eqb x t || any (eqb x) ts) ≡ true) (λ x h. or_right (eqb x t) (any (eqb x) ts) h) ts (each-named ts))

pub not_left : (l r : Plan) (x : ℕ) → names_table l x ≡ false → names_table (join l r) x ≡ true → names_table r x ≡ true
not_left l r x h n = rw h at (sym (any_append (eqb x) (tables l) (tables r)) ∙ n)

pub tables-non_empty : (p : Plan) → non_empty (tables p) ≡ true
tables-non_empty (scan t) = refl
tables-non_empty (join l r) = non_empty-append (tables l) (tables r) ∙ or_left (non_empty (tables l)) (non_empty (tables r)) (tables-non_empty l)

pub tables_first : (p : Plan) → (ts : List ℕ) × (tables p ≡ leftmost p ∷ ts)
tables_first (scan t) = ([], refl)
tables_first (join l r) = let (ts, e) = tables_first l in (ts ++ tables r, rw e)

pub depth-leftmost : (p : Plan) → depth p (leftmost p) ≡ 0
depth-leftmost (scan t) = refl
depth-leftmost (join a b) = rw (names-leftmost a, depth) (depth-leftmost a)

hang_under-leftmost : (c p : Plan) → hang_under (leftmost p) c p ≡ join p c
hang_under-leftmost c (scan t) = refl
hang_under-leftmost c (join a b) = rw (eq-eqb (leftmost a) (leftmost a) refl, hang_under)

pub each_at : (P : ℕ → Type 0) (x : ℕ) (ts : List ℕ) → any (eqb x) ts ≡ true → Each P ts → P x
each_at P x [] n e = let z : ◌≡◌ {A = ℕ} 0 1 = cc in absurd (omega arith)
each_at P x (t ∷ ts) n e = or_cases (eqb x t) (any (eqb x) ts) n (λ h. subst P (sym (eqb-true x t h)) e.0) (λ h. each_at P x ts h e.1)

pub filter-named : (q : ℕ → Bool) (x : ℕ) (ts : List ℕ) → any (eqb x) ts ≡ true → q x ≡ true → any (eqb x) (filter q ts) ≡ true
filter-named q x [] n h = n
filter-named q x (t ∷ ts) n h =
    or_cases (eqb x t) (any (eqb x) ts) n (λ e. rw (rw (eqb-true x t e) at h) (or_left (eqb x t) (any (eqb x) (filter q ts)) e))
    (λ e. cases (q t) (λ g. rw g (or_right (eqb x t) (any (eqb x) (filter q ts)) (filter-named q x ts e h))) (λ g. rw g (filter-named q x ts e h)))

-- ---- no table twice
once_join : (l r : Plan) (t : ℕ) → Once (join l r) → length (filter (eqb t) (tables l)) + length (filter (eqb t) (tables r)) ≤ 1
once_join l r t o = omega (arith, o t, length-append (filter (eqb t) (tables l)) (filter (eqb t) (tables r)), ap length (filter-append (eqb t) (tables l) (tables r)))

once_left : (l r : Plan) → Once (join l r) → Once l
once_left l r o t = omega (arith, once_join l r t o)

once_right : (l r : Plan) → Once (join l r) → Once r
once_right l r o t = omega (arith, once_join l r t o)

named_count : (x : ℕ) (ts : List ℕ) → any (eqb x) ts ≡ true → 1 ≤ length (filter (eqb x) ts)
named_count x [] n = let z : ◌≡◌ {A = ℕ} 0 1 = cc in absurd (omega arith)
named_count x (t ∷ ts) n = cases (eqb x t) (λ h. rw h (omega arith)) (λ h. rw h (named_count x ts (rw h at n)))

once-apart : (l r : Plan) (x : ℕ) → Once (join l r) → names_table r x ≡ true → names_table l x ≡ false
once-apart l r x o n = cases (names_table l x) (λ h. absurd (omega (arith, once_join l r x o, named_count x (tables l) h, named_count x (tables r) n))) (λ h. h)

once_from : (t i n : ℕ) → (sum (λ x. one_if (eqb t x)) (from i n) ≤ 1) × (t < i → sum (λ x. one_if (eqb t x)) (from i n) ≡ 0)
once_from t i zero = (omega arith, λ h. refl)
once_from t i (suc n) =
    let (a, b) = once_from t (suc i) n in
    cases (eqb t i) (λ e. let q : t ≡ i = eqb-true t i e in rw e (omega (arith, b (omega arith)), λ h. omega arith)) (λ e. rw e (omega arith, λ h. omega (arith, b (omega arith))))

-- answer 8's rule leaves no table twice
pub sums-once : (n : ℕ) (p : Plan) → ((f : ℕ → ℕ) → sum f (tables p) ≡ sum f (from 0 n)) → Once p
sums-once n p s t = omega (arith, length-filter-sum (eqb t) (tables p), s (λ x. one_if (eqb t x)), (once_from t 0 n).0)

module _ (S : Shape) where
  tree_for-cases : (P : Plan → Type 0) (l r : Plan) (x : ℕ)
      → (names_table l x ≡ true → P (hang S (join_attributes S l r) (tree_for S r (right_root S l r)) (tree_for S l x)))
      → (names_table l x ≡ false → P (hang S (join_attributes S l r) (tree_for S l (left_root S l r)) (tree_for S r x)))
      → P (tree_for S (join l r) x)
  tree_for-cases P l r x f g = cases (names_table l x) (λ h. rw (h, tree_for) (f h)) (λ h. rw (h, tree_for) (g h))

  hung-leftmost : (ks : List ℕ) (c p : Plan) → leftmost (hang S ks c p) ≡ leftmost p
  unfolding hang
  hung-leftmost ks c p = hang-leftmost (topmost S ks p) c p

  hung-tables : (ks : List ℕ) (c p : Plan) → Permutation (tables (hang S ks c p)) (tables p ++ tables c)
  unfolding hang
  hung-tables ks c p = hang-tables (topmost S ks p) c p

  -- ---- the same tables
  pub tree_for-tables : (p : Plan) (x : ℕ) → Permutation (tables (tree_for S p x)) (tables p)
  tree_for-tables (scan t) x = unchanged
  tree_for-tables (join l r) x =
      tree_for-cases (λ q. Permutation (tables q) (tables l ++ tables r)) l r x
      (λ h. through (hung-tables (join_attributes S l r) (tree_for S r (right_root S l r)) (tree_for S l x)) (beside (tree_for-tables l x) (tree_for-tables r (right_root S l r))))
      (λ h. through (hung-tables (join_attributes S l r) (tree_for S l (left_root S l r)) (tree_for S r x)) (through (beside (tree_for-tables r x) (tree_for-tables l (left_root S l r))) (exchanged (tables r) (tables l))))

  pub mend-tables : (p : Plan) → Permutation (tables (mend S p)) (tables p)
  unfolding mend
  mend-tables p = tree_for-tables p (mended_root S p)

  -- what is summed over the mended plan's tables is summed over the plan's, and what each table has each table has
  pub mend-sum : (f : ℕ → ℕ) (p : Plan) → sum f (tables (mend S p)) ≡ sum f (tables p)
  mend-sum f p = permutation-sum f (mend-tables p)

  pub mend_each : (P : ℕ → Type 0) (p : Plan) → Each P (tables p) → Each P (tables (mend S p))
  mend_each P p e = permutation_each P (mend-tables p) e

  -- ---- the mended plan is well-behaved
  -- the root is the one asked for
  pub tree_for-root : (p : Plan) (x : ℕ) → names_table p x ≡ true → leftmost (tree_for S p x) ≡ x
  tree_for-root (scan t) x n = or_cases (eqb x t) false n (λ h. sym (eqb-true x t h)) (λ h. cc)
  tree_for-root (join l r) x n =
      tree_for-cases (λ q. leftmost q ≡ x) l r x
      (λ h. hung-leftmost (join_attributes S l r) (tree_for S r (right_root S l r)) (tree_for S l x) ∙ tree_for-root l x h)
      (λ h. hung-leftmost (join_attributes S l r) (tree_for S l (left_root S l r)) (tree_for S r x) ∙ tree_for-root r x (not_left l r x h n))

  -- the cheapest holder is a table of the plan and holds the attributes
  cheapest-holder : (f : ℕ → ℕ) (ks : List ℕ) (p : Plan) → non_empty (holders S ks p) ≡ true → (names_table p (cheapest f (holders S ks p)) ≡ true) × (holds_all S ks (cheapest f (holders S ks p)) ≡ true)
  unfolding holders
  cheapest-holder f ks p n =
      cheapest_each (λ x. (names_table p x ≡ true) × (holds_all S ks x ≡ true)) f (filter (holds_all S ks) (tables p)) n
      (Each-with (λ x. names_table p x ≡ true) (λ x. holds_all S ks x ≡ true) (λ x. (names_table p x ≡ true) × (holds_all S ks x ≡ true)) (λ x a b. (a, b)) (filter (holds_all S ks) (tables p))
      (Each-filter (λ x. names_table p x ≡ true) (holds_all S ks) (tables p) (each-named (tables p))) (filter_passes (holds_all S ks) (tables p)))

  pub left-holds : (l r : Plan) → both_hold S l r ≡ true → non_empty (holders S (join_attributes S l r) l) ≡ true
  unfolding both_hold
  left-holds l r h = and_left (non_empty (holders S (join_attributes S l r) l)) (non_empty (holders S (join_attributes S l r) r)) h

  pub right-holds : (l r : Plan) → both_hold S l r ≡ true → non_empty (holders S (join_attributes S l r) r) ≡ true
  unfolding both_hold
  right-holds l r h = and_right (non_empty (holders S (join_attributes S l r) l)) (non_empty (holders S (join_attributes S l r) r)) h

  pub right_root-holder : (l r : Plan) → both_hold S l r ≡ true → (names_table r (right_root S l r) ≡ true) × (holds_all S (join_attributes S l r) (right_root S l r) ≡ true)
  unfolding right_root chosen
  right_root-holder l r h = cheapest-holder (cost S r) (join_attributes S l r) r (right-holds l r h)

  pub left_root-holder : (l r : Plan) → both_hold S l r ≡ true → (names_table l (left_root S l r) ≡ true) × (holds_all S (join_attributes S l r) (left_root S l r) ≡ true)
  unfolding left_root chosen
  left_root-holder l r h = cheapest-holder (λ b. cost S l b + S.rows b) (join_attributes S l r) l (left-holds l r h)

  -- a holder of the join attributes has what both sides have
  holds_all-has : (l r : Plan) (x : ℕ) → holds_all S (join_attributes S l r) x ≡ true → (a : ℕ) → a < 32 → holds S l a ≡ true → holds S r a ≡ true → S.has x a ≡ true
  unfolding holds_all join_attributes shared attributes up_to
  holds_all-has l r x e a h hl hr =
      let s : (not (shared S l r a) || S.has x a) ≡ true = from_at (λ a. (not (shared S l r a) || S.has x a) ≡ true) 0 32 a (all_true (λ a. not (shared S l r a) || S.has x a) (from 0 32) (sym (all_filter (shared S l r) (S.has x) (from 0 32)) ∙ e)) zero-le h in
      rw (hl, hr) at s

  pub holders_permutation : (ks : List ℕ) (p q : Plan) → Permutation (tables p) (tables q) → non_empty (holders S ks p) ≡ non_empty (holders S ks q)
  unfolding holders
  holders_permutation ks p q e = non_empty-filter (holds_all S ks) (tables p) ∙ permutation-any (holds_all S ks) e ∙ sym (non_empty-filter (holds_all S ks) (tables q))

  hung-well_behaved : (ks : List ℕ) (c p : Plan) → WellBehaved S p → WellBehaved S c → non_empty (holders S ks p) ≡ true → holds_all S ks (leftmost c) ≡ true
      → ((x : ℕ) → holds_all S ks x ≡ true → (a : ℕ) → a < 32 → holds S p a ≡ true → holds S c a ≡ true → S.has x a ≡ true) → WellBehaved S (hang S ks c p)
  unfolding hang topmost
  hung-well_behaved ks c p wp wc n h w =
      let (m, k) = cheapest-holder (depth p) ks p n in
      hang-well_behaved S (cheapest (depth p) (holders S ks p)) c p wp wc m (λ a g hp hc. (w (cheapest (depth p) (holders S ks p)) k a g hp hc, w (leftmost c) h a g hp hc))

  pub tree_for-well_behaved : (p : Plan) (x : ℕ) → Mendable S p → names_table p x ≡ true → WellBehaved S (tree_for S p x)
  tree_for-well_behaved (scan t) x m n = tt
  tree_for-well_behaved (join l r) x m n =
      tree_for-cases (WellBehaved S) l r x
      (λ h. let (nb, hb) = right_root-holder l r m.0 in
      hung-well_behaved (join_attributes S l r) (tree_for S r (right_root S l r)) (tree_for S l x) (tree_for-well_behaved l x m.1 h) (tree_for-well_behaved r (right_root S l r) m.2 nb)
      (holders_permutation (join_attributes S l r) (tree_for S l x) l (tree_for-tables l x) ∙ left-holds l r m.0)
      (rw (tree_for-root r (right_root S l r) nb) hb)
      (λ y hy a g hp hc. holds_all-has l r y hy a g (sym (holds_permutation S (tree_for S l x) l a (tree_for-tables l x)) ∙ hp) (sym (holds_permutation S (tree_for S r (right_root S l r)) r a (tree_for-tables r (right_root S l r))) ∙ hc)))
      (λ h. let (nb, hb) = left_root-holder l r m.0 in
      hung-well_behaved (join_attributes S l r) (tree_for S l (left_root S l r)) (tree_for S r x) (tree_for-well_behaved r x m.2 (not_left l r x h n)) (tree_for-well_behaved l (left_root S l r) m.1 nb)
      (holders_permutation (join_attributes S l r) (tree_for S r x) r (tree_for-tables r x) ∙ right-holds l r m.0)
      (rw (tree_for-root l (left_root S l r) nb) hb)
      (λ y hy a g hp hc. holds_all-has l r y hy a g (sym (holds_permutation S (tree_for S l (left_root S l r)) l a (tree_for-tables l (left_root S l r))) ∙ hc) (sym (holds_permutation S (tree_for S r x) r a (tree_for-tables r x)) ∙ hp)))

  pub mended_root-named : (p : Plan) → names_table p (mended_root S p) ≡ true
  unfolding mended_root
  mended_root-named p = cheapest_each (λ x. names_table p x ≡ true) (cost S p) (tables p) (tables-non_empty p) (each-named (tables p))

  pub mend-well_behaved : (p : Plan) → Mendable S p → WellBehaved S (mend S p)
  unfolding mend
  mend-well_behaved p m = tree_for-well_behaved p (mended_root S p) m (mended_root-named p)

  pub tree_for_left : (l r : Plan) (x : ℕ) → names_table l x ≡ true → tree_for S (join l r) x ≡ hang S (join_attributes S l r) (tree_for S r (right_root S l r)) (tree_for S l x)
  tree_for_left l r x h = rw (h, tree_for)

  pub tree_for_right : (l r : Plan) (x : ℕ) → names_table l x ≡ false → tree_for S (join l r) x ≡ hang S (join_attributes S l r) (tree_for S l (left_root S l r)) (tree_for S r x)
  tree_for_right l r x h = rw (h, tree_for)

  -- ---- a well-behaved plan comes out as it is
  pub cost_left : (l r : Plan) (x : ℕ) → names_table l x ≡ true → cost S (join l r) x ≡ cost S l x + cost S r (right_root S l r)
  unfolding right_root
  cost_left l r x h = rw (h, cost)

  pub cost_right : (l r : Plan) (x : ℕ) → names_table l x ≡ false → cost S (join l r) x ≡ cost S r x + (cost S l (left_root S l r) + S.rows (left_root S l r))
  unfolding left_root
  cost_right l r x h = rw (h, cost)

  -- the first holder, where it costs nothing
  first-holder : (f : ℕ → ℕ) (ks : List ℕ) (p : Plan) → holds_all S ks (leftmost p) ≡ true → f (leftmost p) ≡ 0 → cheapest f (holders S ks p) ≡ leftmost p
  unfolding holders
  first-holder f ks p h z = let (ts, e) = tables_first p in rw e (rw h (cheapest-zero f (leftmost p) (filter (holds_all S ks) ts) z))

  pub behaves-holders : (l r : Plan) → behaves S l r ≡ true → (holds_all S (join_attributes S l r) (leftmost l) ≡ true) × (holds_all S (join_attributes S l r) (leftmost r) ≡ true)
  unfolding behaves holds_all
  behaves-holders l r h =
      let b = sym (all_and (S.has (leftmost l)) (S.has (leftmost r)) (join_attributes S l r)) ∙ h in
      (and_left (all (S.has (leftmost l)) (join_attributes S l r)) (all (S.has (leftmost r)) (join_attributes S l r)) b, and_right (all (S.has (leftmost l)) (join_attributes S l r)) (all (S.has (leftmost r)) (join_attributes S l r)) b)

  right_root_first : (l r : Plan) → behaves S l r ≡ true → cost S r (leftmost r) ≡ 0 → right_root S l r ≡ leftmost r
  unfolding right_root chosen
  right_root_first l r h z = first-holder (cost S r) (join_attributes S l r) r (behaves-holders l r h).1 z

  hung-root : (ks : List ℕ) (c p : Plan) → holds_all S ks (leftmost p) ≡ true → hang S ks c p ≡ join p c
  unfolding hang topmost
  hung-root ks c p h = ap (λ x. hang_under x c p) (first-holder (depth p) ks p h (depth-leftmost p)) ∙ hang_under-leftmost c p

  cost-leftmost : (p : Plan) → WellBehaved S p → cost S p (leftmost p) ≡ 0
  cost-leftmost (scan t) w = refl
  cost-leftmost (join l r) w =
      let z : cost S r (leftmost r) ≡ 0 = cost-leftmost r w.2 in
      omega (arith, cost_left l r (leftmost l) (names-leftmost l), cost-leftmost l w.1, z, ap (cost S r) (right_root_first l r w.0 z))

  tree_for-leftmost : (p : Plan) → WellBehaved S p → tree_for S p (leftmost p) ≡ p
  tree_for-leftmost (scan t) w = refl
  tree_for-leftmost (join l r) w =
      tree_for-cases (λ q. q ≡ join l r) l r (leftmost l)
      (λ h. ap₂ (hang S (join_attributes S l r)) (ap (tree_for S r) (right_root_first l r w.0 (cost-leftmost r w.2)) ∙ tree_for-leftmost r w.2) (tree_for-leftmost l w.1)
      ∙ hung-root (join_attributes S l r) r l (behaves-holders l r w.0).0)
      (λ h. absurd (true-false (names_table l (leftmost l)) (names-leftmost l) h))

  pub mend_same : (p : Plan) → WellBehaved S p → mend S p ≡ p
  unfolding mend mended_root
  mend_same p w =
      let (ts, e) = tables_first p in
      ap (tree_for S p) (ap (cheapest (cost S p)) e ∙ cheapest-zero (cost S p) (leftmost p) ts (cost-leftmost p w)) ∙ tree_for-leftmost p w

  -- each join adds the rows of one table at most
  pub cost-bound : (m : ℕ) → ((t : ℕ) → S.rows t ≤ m) → (p : Plan) (x : ℕ) → cost S p x ≤ over_joins (λ l r. m) p
  cost-bound m b (scan t) x = omega arith
  cost-bound m b (join l r) x =
      cases (names_table l x)
      (λ h. omega (arith, cost_left l r x h, cost-bound m b l x, cost-bound m b r (right_root S l r)))
      (λ h. omega (arith, cost_right l r x h, cost-bound m b r x, cost-bound m b l (left_root S l r), b (left_root S l r)))

  -- ---- no selection costs less
  selection-named : {p : Plan} {x : ℕ} → Selection S p x → names_table p x ≡ true
  selection-named (only {t}) = or_left (eqb t t) false (eq-eqb t t refl)
  selection-named (root_left {l} {r} {x} b h s u) = any_append (eqb x) (tables l) (tables r) ∙ or_left (names_table l x) (names_table r x) (selection-named s)
  selection-named (root_right {l} {r} {x} b h s u) = any_append (eqb x) (tables l) (tables r) ∙ or_right (names_table l x) (names_table r x) (selection-named s)

  least-holder : (f : ℕ → ℕ) (ks : List ℕ) (p : Plan) (b : ℕ) → names_table p b ≡ true → holds_all S ks b ≡ true → f (cheapest f (holders S ks p)) ≤ f b
  unfolding holders
  least-holder f ks p b n h = each_at (λ y. f (cheapest f (filter (holds_all S ks) (tables p))) ≤ f y) b (filter (holds_all S ks) (tables p)) (filter-named (holds_all S ks) b (tables p) n h) (cheapest_least f (filter (holds_all S ks) (tables p)))

  right_root_least : (l r : Plan) (b : ℕ) → names_table r b ≡ true → holds_all S (join_attributes S l r) b ≡ true → cost S r (right_root S l r) ≤ cost S r b
  unfolding right_root chosen
  right_root_least l r b n h = least-holder (cost S r) (join_attributes S l r) r b n h

  left_root_least : (l r : Plan) (b : ℕ) → names_table l b ≡ true → holds_all S (join_attributes S l r) b ≡ true → cost S l (left_root S l r) + S.rows (left_root S l r) ≤ cost S l b + S.rows b
  unfolding left_root chosen
  left_root_least l r b n h = least-holder (λ b. cost S l b + S.rows b) (join_attributes S l r) l b n h

  pub cost_least : {p : Plan} {x : ℕ} → Once p → (s : Selection S p x) → cost S p x ≤ selection_penalty S s
  cost_least o only = omega arith
  cost_least o (root_left {l} {r} {x} b h s u) =
      omega (arith, cost_left l r x (selection-named s), cost_least (once_left l r o) s, cost_least (once_right l r o) u, right_root_least l r b (selection-named u) h)
  cost_least o (root_right {l} {r} {x} b h s u) =
      omega (arith, cost_right l r x (once-apart l r x o (selection-named s)), cost_least (once_right l r o) s, cost_least (once_left l r o) u, left_root_least l r b (selection-named u) h)

  -- "the penalty must be the least over all such selections"
  pub mend_least : (p : Plan) (x : ℕ) → Once p → (s : Selection S p x) → penalty S p ≤ selection_penalty S s
  unfolding penalty mended_root
  mend_least p x o s = omega (arith, cost_least o s, each_at (λ y. cost S p (cheapest (cost S p) (tables p)) ≤ cost S p y) x (tables p) (selection-named s) (cheapest_least (cost S p) (tables p)))

  -- ---- all ties go to the first named, at the joins
  right_root_ties : (l r : Plan) → both_hold S l r ≡ true → FirstCheapest (cost S r) (holders S (join_attributes S l r) r) (right_root S l r)
  unfolding right_root chosen
  right_root_ties l r h = cheapest_ties (cost S r) (holders S (join_attributes S l r) r) (right-holds l r h)

  left_root_ties : (l r : Plan) → both_hold S l r ≡ true → FirstCheapest (λ t. cost S l t + S.rows t) (holders S (join_attributes S l r) l) (left_root S l r)
  unfolding left_root chosen
  left_root_ties l r h = cheapest_ties (λ t. cost S l t + S.rows t) (holders S (join_attributes S l r) l) (left-holds l r h)

  -- and it is that of a selection, whose tree the mended plan is
  pub record Chosen (p : Plan) (x : ℕ) : Type 0 where
    pub selection : Selection S p x
    pub costs : selection_penalty S selection ≡ cost S p x
    pub builds : selection_tree S selection ≡ tree_for S p x
    pub first : ChoosesFirst S selection

  pub cost_attained : (p : Plan) (x : ℕ) → Mendable S p → names_table p x ≡ true → Chosen p x
  cost_attained (scan t) x m n = subst (Chosen (scan t)) (or_cases (eqb x t) false n (λ h. sym (eqb-true x t h)) (λ h. cc)) (record { selection = only; costs = refl; builds = refl; first = tt })
  cost_attained (join l r) x m n =
      cases (names_table l x)
      (λ h. let (nb, hb) = right_root-holder l r m.0 in let s = cost_attained l x m.1 h in let u = cost_attained r (right_root S l r) m.2 nb in
      record {
        selection = root_left (right_root S l r) hb s.selection u.selection;
        costs = ap₂ (λ a b. a + b) s.costs u.costs ∙ sym (cost_left l r x h);
        builds = ap₂ (hang S (join_attributes S l r)) u.builds s.builds ∙ sym (tree_for_left l r x h);
        first = (right_root_ties l r m.0, s.first, u.first);
      })
      (λ h. let (nb, hb) = left_root-holder l r m.0 in let s = cost_attained r x m.2 (not_left l r x h n) in let u = cost_attained l (left_root S l r) m.1 nb in
      record {
        selection = root_right (left_root S l r) hb s.selection u.selection;
        costs = ap₂ (λ a b. a + (b + S.rows (left_root S l r))) s.costs u.costs ∙ sym (cost_right l r x h);
        builds = ap₂ (hang S (join_attributes S l r)) u.builds s.builds ∙ sym (tree_for_right l r x h);
        first = (left_root_ties l r m.0, s.first, u.first);
      })

  pub mend_attained : (p : Plan) → Mendable S p → (s : Selection S p (mended_root S p)) × (selection_penalty S s ≡ penalty S p) × (selection_tree S s ≡ mend S p)
  unfolding mend penalty
  mend_attained p m = let c = cost_attained p (mended_root S p) m (mended_root-named p) in (c.selection, c.costs, c.builds)

  -- "the overall root is the cheapest table; all ties go to the first named": there, and in the selection whose tree the mended plan is
  pub mend_ties : (p : Plan) → Mendable S p
      → FirstCheapest (cost S p) (tables p) (mended_root S p) × ((s : Selection S p (mended_root S p)) × ChoosesFirst S s × (selection_tree S s ≡ mend S p))
  unfolding mend
  mend_ties p m =
      let c = cost_attained p (mended_root S p) m (mended_root-named p) in
      (unfold mended_root in cheapest_ties (cost S p) (tables p) (tables-non_empty p), (c.selection, c.first, c.builds))
