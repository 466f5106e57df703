-- A join that can be mended, taken apart for a root: what its two sides come to.
use mathlib.Core.Path.{◌≡◌, refl, sym, ap, ap₂, ◌∙◌}
use mathlib.Core.Bool.{Bool, true, false}
use mathlib.Core.List.{List}
use Prim.Native.Nat.{ℕ, ◌+◌, ◌≤◌, ◌<◌}
use native.Mathlib.Omega.{arith}
use lib.ListN.{get_or}
use lib.Dec.{ltb}
use borrow.Author.Tests.{ltb-true, ltb-false}
use Rattle.semantics.specs.Lists.{any}
use Rattle.semantics.specs.Plans.{Plan, scan, join, tables}
use Rattle.semantics.specs.Shapes.{Shape, join_attributes}
use Rattle.semantics.specs.JoinTrees.{names_table}
use Rattle.semantics.specs.Mending.{holds_all, holders, hang, cost, tree_for}
use Rattle.theory.specs.Selections.{Mendable}
use Rattle.theory.proofs.Cases.{cases}
use Rattle.theory.proofs.Lists.{non_empty-filter}
use Rattle.theory.proofs.Mending.{tree_for_left, tree_for_right, cost_left, cost_right, right_root-holder, left_root-holder}
use Rattle.mending.specs.Places.{PlanAt, Planned}
use Rattle.mending.specs.Parts.{shape_in, JoinIn, other_hand, side_plan, choose, hand_at, JoinAsked, SideFor, HandFor}
use Rattle.mending.specs.Rooting.{added, side_root, RootPicked, Given, Buildable, MendableAt}
use Rattle.mending.specs.declared.parts.Hand.{Hand}
use Rattle.mending.specs.declared.parts.Hand.TheVariants as hand
use Rattle.mending.specs.declared.parts.Side.{Side}
use Rattle.mending.specs.declared.parts.Survey.{Survey}
use Rattle.mending.specs.declared.rooting.Candidate.{Candidate}
use Rattle.mending.proofs.Places.{tested-mark}
use Rattle.mending.proofs.Bytes.{plan_unique, planned-join, found-names, named_small, named-inside, named_left}
use Rattle.mending.proofs.Sides.{join_stands, side_there}
use Rattle.mending.proofs.Roots.{side_root_right, side_root_left, cost_small, added_small, side-holders, side-mendable, SideKnown, join_asked}

-- what a root comes to that lies in that side of the join of l and r
pub record LiesIn (S : Shape) (l r : Plan) (at m e place x : ℕ) (h : Hand) : Type 0 where
  pub from : choose h m (at + 1) ≤ place
  pub to : place < choose h e m
  pub tree : tree_for S (join l r) x ≡ hang S (join_attributes S l r) (tree_for S (side_plan (other_hand h) l r) (side_root S (other_hand h) l r)) (tree_for S (side_plan h l r) x)
  pub costs : cost S (join l r) x ≡ cost S (side_plan h l r) x + (cost S (side_plan (other_hand h) l r) (side_root S (other_hand h) l r) + added S (other_hand h) (side_root S (other_hand h) l r))

module _ (S : Shape) (l r : Plan) (at m e place x : ℕ) (after : at < place) (before : place < e) (named : names_table l x ≡ ltb place m) where
  lies_left : ltb place m ≡ true → LiesIn S l r at m e place x hand.Left
  lies_left g =
      record {
        from = omega arith;
        to = ltb-true place m g;
        tree = rw (side_root_right S l r) (tree_for_left S l r x (named ∙ g));
        costs = rw (side_root_right S l r) (omega (arith, cost_left S l r x (named ∙ g)));
      }

  lies_right : ltb place m ≡ false → LiesIn S l r at m e place x hand.Right
  lies_right g =
      record {
        from = ltb-false place m g;
        to = before;
        tree = rw (side_root_left S l r) (tree_for_right S l r x (named ∙ g));
        costs = rw (side_root_left S l r) (cost_right S l r x (named ∙ g));
      }

  lies-in : (h : Hand) → h ≡ hand_at place m → LiesIn S l r at m e place x h
  lies-in h q = cases (ltb place m) (λ g. let z : h ≡ hand.Left = q ∙ rw (g, hand_at) refl in rw z (lies_left g)) (λ g. let z : h ≡ hand.Right = q ∙ rw (g, hand_at) refl in rw z (lies_right g))

-- a side's root is one of its tables
root-named : (S : Shape) (h : Hand) (l r : Plan) → Mendable S (join l r) → names_table (side_plan h l r) (side_root S h l r) ≡ true
root-named S hand.Right l r ok = rw (side_root_right S l r) (right_root-holder S l r ok.0).0
root-named S hand.Left l r ok = rw (side_root_left S l r) (left_root-holder S l r ok.0).0

-- the join at an index, the place of a root, and the side that it lies in
pub record Taken (v : Survey) (at place : ℕ) (h : Hand) (side : Side) : Type 0 where
  pub given : Given v.code.now v.masks.now v.rows.now v.parts
  pub joins : JoinIn v.code.now at
  pub mendable : Mendable (shape_in v.masks.now v.rows.now) (join joins.left joins.right)
  pub is : SideFor v at h side
  pub hand : h ≡ hand_at place joins.middle
  pub after : at < place
  pub before : place < joins.end
  pub table : get_or v.code.now place 0 < 16

pub buildable_planned : {s masks rows : List ℕ} {at place : ℕ} → Buildable s masks rows at place → Planned s at
buildable_planned b = record { plan = b.plan; end = b.end; stands = b.stands }

-- where the code's test for a table fails, a join stands
mark_there : (s : List ℕ) {masks rows : List ℕ} {at place : ℕ} {r : Bool} → r ≡ ltb (get_or s at 0) 16 → r ≡ false → Buildable s masks rows at place → get_or s at 0 ≡ 255
mark_there s {at = at} {r = r} q f b = tested-mark s at r q f (buildable_planned b)

pub join_there : (v : Survey) {at place : ℕ} {r : Bool} → r ≡ ltb (get_or v.code.now at 0) 16 → r ≡ false → Given v.code.now v.masks.now v.rows.now v.parts → Buildable v.code.now v.masks.now v.rows.now at place
    → JoinAsked v at
join_there v {at} q f g b = join_asked v g (planned-join v.code.now at (mark_there v.code.now q f b) (buildable_planned b))

pub taken : (v : Survey) {at place : ℕ} {r : Bool} {h : Hand} {side : Side} → r ≡ ltb (get_or v.code.now at 0) 16 → r ≡ false → Given v.code.now v.masks.now v.rows.now v.parts → Buildable v.code.now v.masks.now v.rows.now at place
    → SideFor v at h side → HandFor v at place h → Taken v at place h side
taken v {at} {place} {r} {h} {side} z n g b f q = let k = mark_there v.code.now z n b in go k b.plan b.end b.stands b.mendable b.to
  where
    go : get_or v.code.now at 0 ≡ 255 → (p : Plan) (e : ℕ) → PlanAt v.code.now at p e → Mendable (shape_in v.masks.now v.rows.now) p → place < e → Taken v at place h side
    go k (scan t) e st ok lt = let a : get_or v.code.now at 0 ≡ t = st.1 in let c : t < 16 = st.2 in absurd (omega arith)
    go k (join l r) e st ok lt =
        let (m, u, w) = st.2 in
        let other : at ≡ place → ⊥ = λ z. omega (arith, b.table, ap (λ i. get_or v.code.now i 0) z) in
        record {
          given = g;
          joins = record { mark = k; left = l; right = r; middle = m; end = e; lefts = u; rights = w };
          mendable = ok;
          is = f;
          hand = q l m u;
          after = omega (arith, b.from);
          before = lt;
          table = b.table;
        }

module _ {v : Survey} {at place : ℕ} {h : Hand} {side : Side} (T : Taken v at place h side) where
  abbrev s : List ℕ
  s = v.code.now

  abbrev S : Shape
  S = shape_in v.masks.now v.rows.now

  abbrev j : JoinIn s at
  j = T.joins

  abbrev pub own : Plan
  own = side_plan h j.left j.right

  abbrev pub other : Plan
  other = side_plan (other_hand h) j.left j.right

  abbrev pub chosen : ℕ
  chosen = side_root S (other_hand h) j.left j.right

  pub lies : LiesIn S j.left j.right at j.middle j.end place (get_or s place 0) h
  lies = lies-in S j.left j.right at j.middle j.end place (get_or s place 0) T.after T.before (named_left s at j.left j.right j.middle j.end place T.given.distinct j.lefts j.rights T.after T.before T.table) h T.hand

  pub taken-mendable : MendableAt s v.masks.now v.rows.now at
  taken-mendable l r m e u w =
      let (a, b) = plan_unique s (at + 1) l j.left m j.middle u j.lefts in
      let (c, d) = plan_unique s m r j.right e j.end w (rw b j.rights) in
      rw (a, c) T.mendable

  pub taken_known : SideKnown v at h side
  taken_known = record { is = T.is; join = j; given = T.given; mendable = taken-mendable }

  pub across_known : (o : Hand) (across : Side) → SideFor v at o across → SideKnown v at o across
  across_known o across f = record { is = f; join = j; given = T.given; mendable = taken-mendable }

  pub own_stands : PlanAt s side.start own side.end
  own_stands = side_there v at h side T.is j.left j.right j.middle j.end j.lefts j.rights

  pub own_buildable : Buildable s v.masks.now v.rows.now side.start place
  own_buildable =
      let q = T.is j.left j.right j.middle j.end j.lefts j.rights in
      record {
        plan = own;
        end = side.end;
        stands = own_stands;
        mendable = side-mendable v.masks.now v.rows.now h j.left j.right T.mendable;
        from = rw q.start lies.from;
        to = rw q.end lies.to;
        table = T.table;
      }

  pub own-named : names_table own (get_or s place 0) ≡ true
  own-named =
      let q = T.is j.left j.right j.middle j.end j.lefts j.rights in
      found-names s side.start own side.end (get_or s place 0) place own_stands T.table (rw q.start lies.from) (rw q.end lies.to) refl

  -- the side with the root has a holder
  pub own-holder : any (holds_all S (join_attributes S j.left j.right)) (tables own) ≡ true
  own-holder = sym (non_empty-filter (holds_all S (join_attributes S j.left j.right)) (tables own)) ∙ (unfold holders in side-holders v.masks.now v.rows.now h j.left j.right T.mendable)

  pub other_stands : (o : Hand) → o ≡ other_hand h → (across : Side) → SideFor v at o across → PlanAt s across.start other across.end
  other_stands o z across f = rw (← z) (side_there v at o across f j.left j.right j.middle j.end j.lefts j.rights)

  -- the root of the side across, the sum that the code forms, and that it fits
  module _ (o : Hand) (z : o ≡ other_hand h) (pick : Candidate)
      (picks : (l r : Plan) (m e : ℕ) → PlanAt s (at + 1) l m → PlanAt s m r e → RootPicked s S o l r pick) where
    pub picked : RootPicked s S (other_hand h) j.left j.right pick
    picked = rw z at (picks j.left j.right j.middle j.end j.lefts j.rights)

    pub other_buildable : (across : Side) → SideFor v at o across → Buildable s v.masks.now v.rows.now across.start pick.place
    other_buildable across f =
        let st = other_stands o z across f in
        let named : names_table other (get_or s pick.place 0) ≡ true = rw picked.root (root-named S (other_hand h) j.left j.right T.mendable) in
        let small : get_or s pick.place 0 < 16 = named_small s across.start other across.end (get_or s pick.place 0) st named in
        let i = named-inside s across.start other across.end pick.place T.given.distinct st picked.within small named in
        record { plan = other; end = across.end; stands = st; mendable = side-mendable v.masks.now v.rows.now (other_hand h) j.left j.right T.mendable; from = i.0; to = i.1; table = small }

    module _ (a : ℕ) (owns : (p : Plan) (e : ℕ) → PlanAt s side.start p e → a ≡ cost S p (get_or s place 0)) where
      pub taken-costs : (p : Plan) (e : ℕ) → PlanAt s at p e → a + pick.cost ≡ cost S p (get_or s place 0)
      taken-costs p e st =
          let (i, k) = plan_unique s at p (join j.left j.right) e j.end st (join_stands j) in
          ap₂ (λ f g. f + g) (owns own side.end own_stands) picked.costs ∙ sym lies.costs ∙ ap (λ q. cost S q (get_or s place 0)) (sym i)

      pub pick_small : a + pick.cost ≤ 262144
      pick_small =
          let g = T.given in
          omega (
            arith,
            owns own side.end own_stands,
            cost_small s v.masks.now v.rows.now g.short g.few side.start own side.end (get_or s place 0) own_stands,
            picked.costs,
            small h chosen,
            added_small s v.masks.now v.rows.now g.short g.few (other_hand h) chosen,
          )
        where
          small : (d : Hand) (x : ℕ) → cost S (side_plan (other_hand d) j.left j.right) x ≤ 126976
          small hand.Left x = cost_small s v.masks.now v.rows.now T.given.short T.given.few j.middle j.right j.end x j.rights
          small hand.Right x = cost_small s v.masks.now v.rows.now T.given.short T.given.few (at + 1) j.left j.middle x j.lefts

-- ---- a table's tree costs nothing
pub table-cost : (s masks rows : List ℕ) (at root : ℕ) → get_or s at 0 < 16 → (p : Plan) (e : ℕ) → PlanAt s at p e → 0 ≡ cost (shape_in masks rows) p root
table-cost s masks rows at root n (scan t) e h = refl
table-cost s masks rows at root n (join l r) e h = let a : get_or s at 0 ≡ 255 = h.1 in absurd (omega arith)
