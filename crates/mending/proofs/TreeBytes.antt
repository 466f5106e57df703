-- The bytes of a tree: those of the side with the root, with the other side's tree hung in them.
use mathlib.Core.Path.{◌≡◌, refl, sym, ap, ◌∙◌, fun_ext}
use mathlib.Core.List.{List, [], ◌∷◌}
use Prim.Native.Nat.{ℕ, ◌+◌, ◌-◌, ◌≤◌, ◌<◌}
use native.Mathlib.Omega.{arith}
use lib.ListN.{length, get_or, set, take}
use lib.Seq.{length-take-le}
use Rattle.semantics.specs.Lists.{any, filter, head_of}
use Rattle.semantics.specs.Plans.{Plan, scan, join, encode, tables}
use Rattle.theory.specs.Rules.{Small, WellBehaved}
use Rattle.semantics.specs.Shapes.{Shape, join_attributes}
use Rattle.semantics.specs.JoinTrees.{hang_under}
use Rattle.semantics.specs.Mending.{holds_all, holders, topmost, hang, tree_for}
use Rattle.theory.proofs.Permutations.{permutation-any, permutation_each}
use Rattle.theory.proofs.Mending.{tree_for-tables, tree_for-well_behaved}
use Rattle.theory.proofs.Mendable.{small_each, each_small}
use Rattle.theory.proofs.Topmost.{topmost_first, join_attributes_below}
use Rattle.words.proofs.Arrays.{take-set}
use Rattle.mending.specs.Places.{PlanAt}
use Rattle.mending.specs.Parts.{shape_in, other_hand, choose, SideFor}
use Rattle.mending.specs.Hanging.{holds_key, candidates, Spells, Hangable, HungBytes}
use Rattle.mending.specs.Rooting.{RootPicked}
use Rattle.mending.specs.Writing.{Spelt}
use Rattle.mending.specs.declared.parts.Hand.{Hand}
use Rattle.mending.specs.declared.parts.Hand.TheVariants as hand
use Rattle.mending.specs.declared.parts.Side.{Side}
use Rattle.mending.specs.declared.parts.Survey.{Survey}
use Rattle.mending.specs.declared.rooting.Candidate.{Candidate}
use Rattle.mending.proofs.Places.{plan_span}
use Rattle.mending.proofs.Bytes.{plan_unique, plan_small, names_small}
use Rattle.mending.proofs.Sides.{join_stands, key-holds}
use Rattle.mending.proofs.Roots.{side-mendable}
use Rattle.mending.proofs.Trees.{Taken, own, other, chosen, lies, own-named, own_stands, own-holder, picked, other_stands}

tree_small : (masks rows : List ℕ) (p : Plan) (x : ℕ) → Small p → Small (tree_for (shape_in masks rows) p x)
tree_small masks rows p x h = each_small (tree_for (shape_in masks rows) p x) (permutation_each (λ t. t < 16) (tree_for-tables (shape_in masks rows) p x) (small_each p h))

hang_is : (masks rows ks : List ℕ) (c t : Plan) → hang_under (topmost (shape_in masks rows) ks t) c t ≡ hang (shape_in masks rows) ks c t
unfolding hang
hang_is masks rows ks c t = refl

candidates_tree : (masks rows ks : List ℕ) (key : ℕ) (p : Plan) → ((t : ℕ) → holds_key key (get_or masks t 0) ≡ holds_all (shape_in masks rows) ks t) → Small p → candidates masks key (encode p) ≡ holders (shape_in masks rows) ks p
unfolding candidates holders
candidates_tree masks rows ks key p k h = ap (filter (λ t. holds_key key (get_or masks t 0))) (names_small p h) ∙ ap (λ g. filter g (tables p)) (fun_ext k)

-- the first holder among the bytes of a well-behaved tree is the topmost one
first-topmost : (masks rows : List ℕ) (l r p : Plan) (key : ℕ) → ((t : ℕ) → holds_key key (get_or masks t 0) ≡ holds_all (shape_in masks rows) (join_attributes (shape_in masks rows) l r) t) → Small p → WellBehaved (shape_in masks rows) p
    → head_of (candidates masks key (encode p)) ≡ topmost (shape_in masks rows) (join_attributes (shape_in masks rows) l r) p
first-topmost masks rows l r p key k h w =
    ap head_of (candidates_tree masks rows (join_attributes (shape_in masks rows) l r) key p k h)
    ∙ sym (topmost_first (shape_in masks rows) (join_attributes (shape_in masks rows) l r) (join_attributes_below (shape_in masks rows) l r) p w)

-- both sides of a join, and the FF, are the join
both-sizes : (h : Hand) (at m e n k : ℕ) → at + 1 < m → m < e → choose h m (at + 1) + n ≡ choose h e m → choose (other_hand h) m (at + 1) + k ≡ choose (other_hand h) e m → at + (n + k + 1) ≡ e
both-sizes hand.Right at m e n k a b p q = omega arith
both-sizes hand.Left at m e n k a b p q = omega arith

module _ {v : Survey} {at place : ℕ} {h : Hand} {side : Side} (T : Taken v at place h side) (o : Hand) (z : o ≡ other_hand h) (across : Side) (f : SideFor v at o across) where
  abbrev s : List ℕ
  s = v.code.now

  abbrev S : Shape
  S = shape_in v.masks.now v.rows.now

  abbrev ks : List ℕ
  ks = join_attributes S T.joins.left T.joins.right

  abbrev n : ℕ
  n = side.end - side.start

  abbrev k : ℕ
  k = across.end - across.start

  pub sizes_fit : (at + (n + k + 1) ≡ T.joins.end) × (n + k + 1 ≤ 31) × (side.start < side.end) × (across.start < across.end)
  sizes_fit =
      let j = T.joins in
      let a = plan_span s (at + 1) j.left j.middle j.lefts in
      let b = plan_span s j.middle j.right j.end j.rights in
      let c = plan_span s side.start (own T) side.end (own_stands T) in
      let d = plan_span s across.start (other T) across.end (other_stands T o z across f) in
      let p = T.is j.left j.right j.middle j.end j.lefts j.rights in
      let q = f j.left j.right j.middle j.end j.lefts j.rights in
      let q1 : across.start ≡ choose (other_hand h) j.middle (at + 1) = q.start ∙ ap (λ d. choose d j.middle (at + 1)) z in
      let q2 : across.end ≡ choose (other_hand h) j.end j.middle = q.end ∙ ap (λ d. choose d j.end j.middle) z in
      let e : at + (n + k + 1) ≡ j.end = both-sizes h at j.middle j.end n k a.0 b.0 (omega (arith, p.start, p.end, c.0)) (omega (arith, d.0)) in
      (e, omega (arith, T.given.short), c.0, d.0)

  -- what two trees of 31 bytes leave: theirs fit into 31 bytes with an FF
  pub fits : (tree hung : List ℕ) → length tree ≡ 31 → length hung ≡ 31 → length (take n tree) + length (take k hung) + 1 ≤ 31
  fits tree hung a b = let q = sizes_fit in omega (arith, length-take-le n tree (omega arith), length-take-le k hung (omega arith))

  key-is : (t : ℕ) → holds_key side.key (get_or v.masks.now t 0) ≡ holds_all S ks t
  key-is = key-holds v.masks.now v.rows.now T.joins.left T.joins.right side.key (T.is T.joins.left T.joins.right T.joins.middle T.joins.end T.joins.lefts T.joins.rights).key

  abbrev trunk : Plan
  trunk = tree_for S (own T) (get_or s place 0)

  own_small : Small trunk
  own_small = tree_small v.masks.now v.rows.now (own T) (get_or s place 0) (plan_small s side.start (own T) side.end (own_stands T))

  own-spells : (tree : List ℕ) → Spelt s v.masks.now v.rows.now side.start place tree → Spells v.masks.now side.key (take n tree) trunk
  own-spells tree g =
      record {
        is = g (own T) side.end (own_stands T);
        small = own_small;
        holder = ap (λ g. any g (tables trunk)) (fun_ext key-is) ∙ permutation-any (holds_all S ks) (tree_for-tables S (own T) (get_or s place 0)) ∙ own-holder T;
      }

  pub hangable : (tree : List ℕ) → Spelt s v.masks.now v.rows.now side.start place tree → Hangable v.masks.now side.key (take n tree)
  hangable tree g = record { plan = trunk; spells = own-spells tree g }

  module _ (pick : Candidate) (picks : (l r : Plan) (m e : ℕ) → PlanAt s (at + 1) l m → PlanAt s m r e → RootPicked s S o l r pick) where
    other-bytes : (hung : List ℕ) → Spelt s v.masks.now v.rows.now across.start pick.place hung → take k hung ≡ encode (tree_for S (other T) (chosen T))
    other-bytes hung g = g (other T) across.end (other_stands T o z across f) ∙ ap (λ b. encode (tree_for S (other T) b)) (picked T o z pick picks).root

    pub taken_spelt : (tree hung out : List ℕ) → length tree ≡ 31 → length hung ≡ 31 → Spelt s v.masks.now v.rows.now side.start place tree → Spelt s v.masks.now v.rows.now across.start pick.place hung
        → HungBytes v.masks.now side.key (take n tree) (take k hung) out → Spelt s v.masks.now v.rows.now at place out
    taken_spelt tree hung out lt lh a b c p e st =
        let j = T.joins in
        let t = tree_for S (other T) (chosen T) in
        let (i, y) = plan_unique s at p (join j.left j.right) e j.end st (join_stands j) in
        let fit = sizes_fit in
        let la : length (take n tree) ≡ n = length-take-le n tree (omega arith) in
        let lb : length (take k hung) ≡ k = length-take-le k hung (omega arith) in
        let u : e - at ≡ length (take n tree) + length (take k hung) + 1 = omega arith in
        ap (λ q. take q out) u
        ∙ c trunk t (own-spells tree a) (other-bytes hung b)
        ∙ ap (λ y. encode (hang_under y t trunk)) (ap (λ bs. head_of (candidates v.masks.now side.key bs)) (own-spells tree a).is
        ∙ first-topmost v.masks.now v.rows.now j.left j.right trunk side.key key-is own_small (tree_for-well_behaved S (own T) (get_or s place 0) (side-mendable v.masks.now v.rows.now h j.left j.right T.mendable) (own-named T)))
        ∙ ap encode (hang_is v.masks.now v.rows.now ks t trunk ∙ sym (lies T).tree ∙ ap (λ q. tree_for S q (get_or s place 0)) (sym i))

-- a table's tree
pub table_spelt : (s masks rows : List ℕ) (at place : ℕ) (out : List ℕ) → get_or s at 0 < 16 → length out ≡ 31 → Spelt s masks rows at place (set out 0 (get_or s at 0))
table_spelt s masks rows at place out n w (join l r) e h = let a : get_or s at 0 ≡ 255 = h.1 in absurd (omega arith)
table_spelt s masks rows at place out n w (scan t) e h =
    let z : e - at ≡ 1 = omega (arith, h.3) in
    ap (λ k. take k (set out 0 (get_or s at 0))) z ∙ take-set out 0 (get_or s at 0) (omega (arith, w)) ∙ ap (λ b. b ∷ []) h.1
