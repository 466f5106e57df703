-- The search for the root of a side, byte by byte, and the memory of roots.
use mathlib.Core.Path.{◌≡◌, refl, sym, ap, ap₂, ◌∙◌, fun_ext, subst}
use mathlib.Core.Bool.{true, false}
use mathlib.Core.List.{List, [], ◌∷◌, ◌++◌, append-nil}
use Prim.Native.Nat.{ℕ, ◌+◌, ◌*◌, ◌-◌, ◌≤◌, ◌<◌}
use native.Mathlib.Omega.{arith}
use native.Mathlib.Nat.{add-zero}
use lib.ListN.{length, get_or, set, length-append, length-set}
use lib.Seq.{get_or-set_same, get_or-set_other}
use lib.Dec.{eqb, ltb}
use borrow.Author.Tests.{eqb-true, eqb-false, lt-ltb, le-ltb, ltb-true, ltb-false}
use Rattle.semantics.specs.Lists.{filter, non_empty}
use Rattle.semantics.specs.Plans.{Plan, scan, join, encode, tables}
use Rattle.semantics.specs.Shapes.{Shape, join_attributes, over_joins}
use Rattle.semantics.specs.Mending.{cheapest, holders, chosen, cost, right_root, left_root}
use Rattle.theory.specs.Selections.{Mendable}
use Rattle.theory.proofs.Cases.{cases}
use Rattle.theory.proofs.Lists.{filter-append}
use Rattle.theory.proofs.Mending.{cost-bound, left-holds, right-holds}
use Rattle.mending.specs.Places.{PlanAt}
use Rattle.mending.specs.Parts.{shape_in, size_at, JoinIn, JoinAsked, side_plan, slot_of, SideFor}
use Rattle.mending.specs.Hanging.{holds_key, held_by, candidates}
use Rattle.mending.specs.Rooting.{better_of, rows_added, added, side_cost, side_root, RootPicked, RootsRemembered, Given, RootAsked, Buildable, MendableAt, bytes_from, Picked, SideSearched}
use Rattle.mending.specs.declared.parts.Hand.{Hand}
use Rattle.mending.specs.declared.parts.Hand.TheVariants as hand
use Rattle.mending.specs.declared.parts.Side.{Side}
use Rattle.mending.specs.declared.parts.Survey.{Survey}
use Rattle.mending.specs.declared.rooting.Candidate.{Candidate}
use Rattle.mending.proofs.Places.{plan-end, plan_span}
use Rattle.mending.proofs.Bytes.{plan_small, bytes_from-plan, bytes_from_more, names_small}
use Rattle.mending.proofs.Sides.{size_is, join_stands, key-holds, side_bounds, side_there}
use Rattle.mending.proofs.Holders.{held-table, held_small, held-key}
use Rattle.mending.proofs.Picks.{picked_more}
use Rattle.std.specs.Prelude.{Option, None, Some, IsSome}

-- ---- a side's root is the definitions'
pub side_root_right : (S : Shape) (l r : Plan) → side_root S hand.Right l r ≡ right_root S l r
unfolding side_root right_root chosen
side_root_right S l r = ap (λ f. cheapest f (holders S (join_attributes S l r) r)) (fun_ext (λ b. add-zero (cost S r b)))

pub side_root_left : (S : Shape) (l r : Plan) → side_root S hand.Left l r ≡ left_root S l r
unfolding side_root left_root chosen
side_root_left S l r = refl

-- ---- penalties fit
joins_few : (p : Plan) → over_joins (λ l r. 4096) p ≤ 4096 * length (encode p)
joins_few (scan t) = omega arith
joins_few (join l r) = omega (arith, joins_few l, joins_few r, length-append (encode l) (encode r))

module _ (s masks rows : List ℕ) (short : length s ≤ 31) (few : (t : ℕ) → get_or rows t 0 ≤ 4096) where
  pub cost_small : (at : ℕ) (p : Plan) (e x : ℕ) → PlanAt s at p e → cost (shape_in masks rows) p x ≤ 126976
  unfolding shape_in
  cost_small at p e x h = omega (arith, cost-bound (shape_in masks rows) 4096 few p x, joins_few p, plan-end s at p e h, plan_span s at p e h)

  pub added_small : (h : Hand) (t : ℕ) → added (shape_in masks rows) h t ≤ 4096
  unfolding shape_in
  added_small hand.Right t = omega arith
  added_small hand.Left t = few t

rows-added : (masks rows : List ℕ) (h : Hand) (t : ℕ) → rows_added rows h t ≡ added (shape_in masks rows) h t
unfolding shape_in
rows-added masks rows hand.Right t = refl
rows-added masks rows hand.Left t = refl

-- ---- candidates
module _ (masks : List ℕ) (key : ℕ) (bs : List ℕ) (b : ℕ) where
  candidates_more : candidates masks key (bs ++ (b ∷ [])) ≡ candidates masks key bs ++ candidates masks key (b ∷ [])
  unfolding candidates
  candidates_more = ap (filter (λ t. holds_key key (get_or masks t 0))) (filter-append (λ b. ltb b 16) bs (b ∷ [])) ∙ filter-append (λ t. holds_key key (get_or masks t 0)) (filter (λ b. ltb b 16) bs) (filter (λ b. ltb b 16) (b ∷ []))

  candidate_large : 16 ≤ b → candidates masks key (b ∷ []) ≡ []
  unfolding candidates
  candidate_large h = rw (le-ltb b 16 h)

  candidate_other : b < 16 → holds_key key (get_or masks b 0) ≡ false → candidates masks key (b ∷ []) ≡ []
  unfolding candidates
  candidate_other h g = rw (lt-ltb b 16 h) (rw g)

  candidate-holder : b < 16 → holds_key key (get_or masks b 0) ≡ true → candidates masks key (b ∷ []) ≡ b ∷ []
  unfolding candidates
  candidate-holder h g = rw (lt-ltb b 16 h) (rw g)

  candidate_not : held_by masks key b ≡ false → candidates masks key (b ∷ []) ≡ []
  candidate_not h =
      cases (ltb b 16)
      (λ e. let e' : b < 16 = ltb-true b 16 e in candidate_other e' (sym (held-table masks key b e') ∙ h))
      (λ e. candidate_large (ltb-false b 16 e))

  candidate_is : held_by masks key b ≡ true → candidates masks key (b ∷ []) ≡ b ∷ []
  candidate_is h = candidate-holder (held_small masks key b h) (held-key masks key b h)

pub side-holders : (masks rows : List ℕ) (h : Hand) (l r : Plan) → Mendable (shape_in masks rows) (join l r) → non_empty (holders (shape_in masks rows) (join_attributes (shape_in masks rows) l r) (side_plan h l r)) ≡ true
side-holders masks rows hand.Right l r ok = right-holds (shape_in masks rows) l r ok.0
side-holders masks rows hand.Left l r ok = left-holds (shape_in masks rows) l r ok.0

pub side-mendable : (masks rows : List ℕ) (h : Hand) (l r : Plan) → Mendable (shape_in masks rows) (join l r) → Mendable (shape_in masks rows) (side_plan h l r)
side-mendable masks rows hand.Right l r ok = ok.2
side-mendable masks rows hand.Left l r ok = ok.1

-- a side that is searched, of the join at an index
pub record SideKnown (v : Survey) (at : ℕ) (h : Hand) (side : Side) : Type 0 where
  pub is : SideFor v at h side
  pub join : JoinIn v.code.now at
  pub given : Given v.code.now v.masks.now v.rows.now v.parts
  pub mendable : MendableAt v.code.now v.masks.now v.rows.now at

abbrev pub join_asked : (v : Survey) {at : ℕ} → Given v.code.now v.masks.now v.rows.now v.parts → JoinIn v.code.now at → JoinAsked v at
join_asked v g j = (g.short, g.surveyed, j)

pub side_known : (v : Survey) {best : List (Option Candidate)} {at : ℕ} {h : Hand} {side : Side} → SideFor v at h side → RootAsked v best at → SideKnown v at h side
side_known v f q = record { is = f; join = q.2; given = q.0; mendable = q.3 }

module _ {v : Survey} {at : ℕ} {h : Hand} {side : Side} (K : SideKnown v at h side) where
  abbrev s : List ℕ
  s = v.code.now

  abbrev masks : List ℕ
  masks = v.masks.now

  abbrev rows : List ℕ
  rows = v.rows.now

  abbrev j : JoinIn s at
  j = K.join

  pub known-bounds : (side.slot < 64) × (at < side.start) × (side.start < side.end) × (side.end ≤ length s) × (length s ≤ 31)
  known-bounds = omega (arith, side_bounds v at h side K.is (join_asked v K.given K.join))

  stands_at : (x y : Plan) (m e : ℕ) → PlanAt s (at + 1) x m → PlanAt s m y e → PlanAt s side.start (side_plan h x y) side.end
  stands_at = side_there v at h side K.is

  -- its plan is smaller than the join
  pub side_smaller : size_at v.parts side.start < size_at v.parts at
  side_smaller =
      omega (
        arith,
        side_bounds v at h side K.is (join_asked v K.given K.join),
        size_is s masks v.parts K.given.surveyed at (join j.left j.right) j.end (join_stands j),
        size_is s masks v.parts K.given.surveyed side.start (side_plan h j.left j.right) side.end (stands_at j.left j.right j.middle j.end j.lefts j.rights),
      )

  -- the bytes before a place are searched
  abbrev pub SearchedTo : ℕ → Option Candidate → Type 0
  SearchedTo place pick = SideSearched s masks rows at h side.start side.key (place - side.start) pick

  pub search-begun : SearchedTo side.start None
  search-begun x y m e u w = let z : side.start - side.start ≡ 0 = omega arith in rw z (unfold candidates in refl)

  -- a byte more
  more_is : (place : ℕ) → side.start ≤ place
      → candidates masks side.key (bytes_from s side.start (place + 1 - side.start)) ≡ candidates masks side.key (bytes_from s side.start (place - side.start)) ++ candidates masks side.key (get_or s place 0 ∷ [])
  more_is place b =
      let n : place + 1 - side.start ≡ place - side.start + 1 = omega arith in
      let z : side.start + (place - side.start) ≡ place = omega arith in
      ap (λ k. candidates masks side.key (bytes_from s side.start k)) n
      ∙ ap (candidates masks side.key) (bytes_from_more s side.start (place - side.start))
      ∙ candidates_more masks side.key (bytes_from s side.start (place - side.start)) (get_or s (side.start + (place - side.start)) 0)
      ∙ ap (λ k. candidates masks side.key (bytes_from s side.start (place - side.start)) ++ candidates masks side.key (get_or s k 0 ∷ [])) z

  pub search_passed : (place : ℕ) (pick : Option Candidate) → side.start ≤ place → held_by masks side.key (get_or s place 0) ≡ false → SearchedTo place pick → SearchedTo (place + 1) pick
  search_passed place pick b g p x y m e u w =
      rw (more_is place b ∙ ap (λ l. candidates masks side.key (bytes_from s side.start (place - side.start)) ++ l) (candidate_not masks side.key [] (get_or s place 0) g) ∙ append-nil (candidates masks side.key (bytes_from s side.start (place - side.start))))
      (p x y m e u w)

  module _ (place c more : ℕ) (b : side.start ≤ place) (cs : (p : Plan) (e : ℕ) → PlanAt s side.start p e → c ≡ cost (shape_in masks rows) p (get_or s place 0))
      (adds : more ≡ rows_added rows h (get_or s place 0)) where
    pub search_taken : (pick : Option Candidate) → held_by masks side.key (get_or s place 0) ≡ true → place < side.end
        → SearchedTo place pick → SearchedTo (place + 1) (Some (better_of pick (record { place = place; cost = c + more })))
    search_taken pick g lt p x y m e u w =
        rw (more_is place b ∙ ap (λ l. candidates masks side.key (bytes_from s side.start (place - side.start)) ++ l) (candidate_is masks side.key [] (get_or s place 0) g))
        (picked_more (side_cost (shape_in masks rows) h (side_plan h x y)) s (record { place = place; cost = c + more }) (omega (arith, known-bounds))
        (ap₂ (λ a b. a + b) (cs (side_plan h x y) side.end (stands_at x y m e u w)) (adds ∙ rows-added masks rows h (get_or s place 0)))
        pick (candidates masks side.key (bytes_from s side.start (place - side.start))) (p x y m e u w))

    -- the sum that the code forms
    pub sum_small : c + more ≤ 131072
    sum_small =
        let st = stands_at j.left j.right j.middle j.end j.lefts j.rights in
        omega (
          arith,
          cs (side_plan h j.left j.right) side.end st,
          cost_small s masks rows K.given.short K.given.few side.start (side_plan h j.left j.right) side.end (get_or s place 0) st,
          adds,
          rows-added masks rows h (get_or s place 0),
          added_small s masks rows K.given.short K.given.few h (get_or s place 0),
        )

  candidates-holders : (x y : Plan) (m e : ℕ) → PlanAt s (at + 1) x m → PlanAt s m y e
      → candidates masks side.key (bytes_from s side.start (side.end - side.start)) ≡ holders (shape_in masks rows) (join_attributes (shape_in masks rows) x y) (side_plan h x y)
  unfolding candidates holders
  candidates-holders x y m e u w =
      let st = stands_at x y m e u w in
      ap (λ bs. filter (λ t. holds_key side.key (get_or masks t 0)) (filter (λ b. ltb b 16) bs)) (bytes_from-plan s side.start (side.end - side.start) (side_plan h x y) side.end st (omega (arith, known-bounds)))
      ∙ ap (filter (λ t. holds_key side.key (get_or masks t 0))) (names_small (side_plan h x y) (plan_small s side.start (side_plan h x y) side.end st))
      ∙ ap (λ g. filter g (tables (side_plan h x y))) (fun_ext (key-holds masks rows x y side.key (K.is x y m e u w).key))

  candidates-some : (x y : Plan) (m e : ℕ) → PlanAt s (at + 1) x m → PlanAt s m y e → non_empty (candidates masks side.key (bytes_from s side.start (side.end - side.start))) ≡ true
  candidates-some x y m e u w = ap non_empty (candidates-holders x y m e u w) ∙ side-holders masks rows h x y (K.mendable x y m e u w)

  -- some table is found, and it is the side's root
  module _ (place : ℕ) (pick : Option Candidate) (z : place ≡ side.end) (p : SearchedTo place pick) where
    searched : SearchedTo side.end pick
    searched = let P : ℕ → Type 0 = λ n. SearchedTo n pick in subst P z p

    pub search_some : IsSome pick
    search_some = some pick (searched j.left j.right j.middle j.end j.lefts j.rights)
      where
        some : (o : Option Candidate) → Picked (side_cost (shape_in masks rows) h (side_plan h j.left j.right)) s (candidates masks side.key (bytes_from s side.start (side.end - side.start))) o → IsSome o
        some (Some c) q = refl
        some None q = cc (q, candidates-some j.left j.right j.middle j.end j.lefts j.rights)

    pub search_done : (c : Candidate) → pick ≡ Some c → (x y : Plan) (m e : ℕ) → PlanAt s (at + 1) x m → PlanAt s m y e → RootPicked s (shape_in masks rows) h x y c
    unfolding side_root
    search_done c is x y m e u w =
        let t = candidates-holders x y m e u w in
        let F : ℕ → ℕ = side_cost (shape_in masks rows) h (side_plan h x y) in
        let P : Option Candidate → Type 0 = λ o. Picked F s (candidates masks side.key (bytes_from s side.start (side.end - side.start))) o in
        let q = subst P is (searched x y m e u w) in
        record { within = q.within; root = q.root ∙ ap (cheapest F) t; costs = q.costs ∙ ap (λ l. F (cheapest F l)) t }

  -- the trees that the search asks for
  pub side_buildable : (place : ℕ) → side.start ≤ place → place < side.end → held_by masks side.key (get_or s place 0) ≡ true → Buildable s masks rows side.start place
  side_buildable place b lt g =
      record {
        plan = side_plan h j.left j.right;
        end = side.end;
        stands = stands_at j.left j.right j.middle j.end j.lefts j.rights;
        mendable = side-mendable masks rows h j.left j.right (K.mendable j.left j.right j.middle j.end j.lefts j.rights);
        from = b;
        to = lt;
        table = held_small masks side.key (get_or s place 0) g;
      }

  -- ---- remembering
  pub kept_more : (best : List (Option Candidate)) (c : Candidate) → RootsRemembered s masks rows best → ((x y : Plan) (m e : ℕ) → PlanAt s (at + 1) x m → PlanAt s m y e → RootPicked s (shape_in masks rows) h x y c)
      → RootsRemembered s masks rows (set best side.slot (Some c))
  kept_more best c k g =
      record {
        slots = length-set best side.slot (Some c) ∙ k.slots;
        roots = λ i d l r m e u w.
            cases (eqb (slot_of d i) side.slot)
            (λ z. let z' : slot_of d i ≡ side.slot = eqb-true (slot_of d i) side.slot z in
            let (a, b) = slot_same d h i at (z' ∙ (K.is j.left j.right j.middle j.end j.lefts j.rights).slot) in
            rw (z', get_or-set_same best side.slot (Some c) None (omega (arith, k.slots, known-bounds))) (rw a (g l r m e (rw (← b) u) w)))
            (λ z. rw (get_or-set_other best side.slot (slot_of d i) (Some c) None (eqb-false (slot_of d i) side.slot z)) (k.roots i d l r m e u w));
      }
    where
      slot_same : (a b : Hand) (i j : ℕ) → slot_of a i ≡ slot_of b j → (a ≡ b) × (i ≡ j)
      slot_same hand.Right hand.Right i j e = (refl, omega arith)
      slot_same hand.Right hand.Left i j e = absurd (omega arith)
      slot_same hand.Left hand.Right i j e = absurd (omega arith)
      slot_same hand.Left hand.Left i j e = (refl, omega arith)

  pub kept_known : (best : List (Option Candidate)) (c : Candidate) → RootsRemembered s masks rows best → get_or best side.slot None ≡ Some c
      → (x y : Plan) (m e : ℕ) → PlanAt s (at + 1) x m → PlanAt s m y e → RootPicked s (shape_in masks rows) h x y c
  kept_known best c k z x y m e u w =
      let q = (K.is x y m e u w).slot in
      let g = k.roots at h x y m e u w in
      rw (ap (λ i. get_or best i None) (sym q) ∙ z) at g
