-- Answer 9: a side's holder among its bytes, and the first join without one.
use mathlib.Core.Path.{◌≡◌, refl, sym, ap, ap₂, ◌∙◌, fun_ext}
use mathlib.Core.Bool.{Bool, true, false, ◌&&◌, ◌||◌}
use mathlib.Core.List.{List, [], ◌∷◌, ◌++◌}
use mathlib.Core.Option.{none, some}
use mathlib.Core.Option as math
use Prim.Native.Nat.{ℕ, suc, ◌+◌, ◌-◌, ◌<◌}
use native.Mathlib.Omega.{arith}
use native.Mathlib.Numerals.{add-one}
use lib.ListN.{length, get_or, take, drop}
use lib.Seq.{take-add, drop-cons, drop-drop}
use Rattle.semantics.specs.Lists.{any}
use Rattle.semantics.specs.Plans.{Plan, scan, join, encode, tables}
use Rattle.semantics.specs.Shapes.{join_attributes, or_else}
use Rattle.semantics.specs.Mending.{holds_all, holders, both_hold, unmendable}
use Rattle.theory.proofs.Lists.{any_append, non_empty-filter}
use Rattle.mending.specs.Places.{PlanAt}
use Rattle.mending.specs.Parts.{shape_in, Sided}
use Rattle.mending.specs.Hanging.{holds_key, held_by}
use Rattle.mending.specs.Lacking.{found_of}
use Rattle.mending.specs.declared.parts.Hand.TheVariants as hand
use Rattle.mending.specs.declared.parts.Side.{Side}
use Rattle.std.specs.Prelude.{Option, None, Some}
use Rattle.std.specs.Option.{option_or}
use Rattle.std.specs.List.{list_any}
use Rattle.std.proofs.lemmas.List.Folds.{list_any-append}
use Rattle.theory.specs.Rules.{Small}
use Rattle.mending.proofs.Holders.{held-table, held-mark}
use Rattle.mending.proofs.Places.{plan-end, plan_span}
use Rattle.mending.proofs.Bytes.{plan_small}
use Rattle.mending.proofs.Sides.{key-holds}

-- ---- the bytes of a plan
plan-bytes : (s : List ℕ) (at : ℕ) (p : Plan) (e : ℕ) → PlanAt s at p e → take (e - at) (drop at s) ≡ encode p
plan-bytes s at (scan t) e h =
    let z : e - at ≡ 1 = omega (arith, h.3) in
    ap₂ take z (drop-cons s at 0 h.0) ∙ ap (λ b. b ∷ []) h.1
plan-bytes s at (join l r) e h =
    let (m, u, v) = h.2 in
    let a = plan_span s (at + 1) l m u in
    let b = plan_span s m r e v in
    let z : e - at ≡ suc ((m - (at + 1)) + (e - m)) = omega arith in
    let y : at + 1 + (m - (at + 1)) ≡ m = omega arith in
    ap₂ take z (drop-cons s at 0 h.0 ∙ ap (λ n. get_or s at 0 ∷ drop n s) (sym (add-one at)))
    ∙ ap₂ (λ x xs. x ∷ xs) h.1
    (take-add (m - (at + 1)) (e - m) (drop (at + 1) s)
    ∙ ap₂ (λ f g. f ++ g) (plan-bytes s (at + 1) l m u) (ap (take (e - m)) (drop-drop (m - (at + 1)) (at + 1) s ∙ ap (λ n. drop n s) y) ∙ plan-bytes s m r e v))

-- ---- a holder among the bytes of a plan
module _ (masks : List ℕ) (key : ℕ) where
  any_held : (p : Plan) → Small p → list_any (held_by masks key) (encode p) ≡ any (λ t. holds_key key (get_or masks t 0)) (tables p)
  any_held (scan t) h = ap (λ b. b || false) (held-table masks key t h)
  any_held (join l r) h =
      ap (λ b. b || list_any (held_by masks key) (encode l ++ encode r)) (held-mark masks key 255 (omega arith))
      ∙ list_any-append (held_by masks key) (encode l) (encode r)
      ∙ ap₂ (λ a b. a || b) (any_held l h.0) (any_held r h.1)
      ∙ sym (any_append (λ t. holds_key key (get_or masks t 0)) (tables l) (tables r))

pub side_held : (masks s : List ℕ) (side : Side) (b : Bool) → b ≡ list_any (held_by masks side.key) (take (side.end - side.start) (drop side.start s)) → (p : Plan) → PlanAt s side.start p side.end
    → b ≡ any (λ t. holds_key side.key (get_or masks t 0)) (tables p)
side_held masks s side b q p h = q ∙ ap (list_any (held_by masks side.key)) (plan-bytes s side.start p side.end h) ∙ any_held masks side.key p (plan_small s side.start p side.end h)

-- ---- both sides of a join
module _ (masks rows : List ℕ) (at : ℕ) (x y : Plan) (m e : ℕ) (left right : Side) (p : Sided masks at hand.Left x y m e left) (q : Sided masks at hand.Right x y m e right) where
  both_is : both_hold (shape_in masks rows) x y ≡ (any (λ t. holds_key left.key (get_or masks t 0)) (tables x) && any (λ t. holds_key right.key (get_or masks t 0)) (tables y))
  unfolding both_hold holders
  both_is =
      ap₂ (λ a b. a && b)
      (non_empty-filter (holds_all (shape_in masks rows) (join_attributes (shape_in masks rows) x y)) (tables x) ∙ ap (λ g. any g (tables x)) (fun_ext (λ t. sym (key-holds masks rows x y left.key p.key t))))
      (non_empty-filter (holds_all (shape_in masks rows) (join_attributes (shape_in masks rows) x y)) (tables y) ∙ ap (λ g. any g (tables y)) (fun_ext (λ t. sym (key-holds masks rows x y right.key q.key t))))

  pub both_held : (a b : Bool) → a ≡ any (λ t. holds_key left.key (get_or masks t 0)) (tables x) → b ≡ any (λ t. holds_key right.key (get_or masks t 0)) (tables y) → a ≡ true → b ≡ both_hold (shape_in masks rows) x y
  both_held a b f g h = ap₂ (λ c d. c && d) (sym h ∙ f) g ∙ sym both_is

  pub left-lacks : (a : Bool) → a ≡ any (λ t. holds_key left.key (get_or masks t 0)) (tables x) → a ≡ false → false ≡ both_hold (shape_in masks rows) x y
  left-lacks a f h = ap (λ c. c && any (λ t. holds_key right.key (get_or masks t 0)) (tables y)) (sym h ∙ f) ∙ sym both_is

-- ---- the first join that cannot be mended
found_else : (a b : math.Option ℕ) → option_or (found_of a) (found_of b) ≡ found_of (or_else a b)
found_else none b = refl
found_else (some i) b = refl

module _ (s masks rows : List ℕ) (at : ℕ) where
  pub lacks_here : get_or s at 0 ≡ 255 → (b : Bool) → ((x y : Plan) (m e : ℕ) → PlanAt s (at + 1) x m → PlanAt s m y e → b ≡ both_hold (shape_in masks rows) x y) → b ≡ false
      → (p : Plan) (e : ℕ) → PlanAt s at p e → Some at ≡ found_of (unmendable (shape_in masks rows) p at)
  lacks_here k b f h (scan t) e st = let a : get_or s at 0 ≡ t = st.1 in let c : t < 16 = st.2 in absurd (omega arith)
  lacks_here k b f h (join l r) e st = let (m, u, v) = st.2 in rw (sym (f l r m e u v) ∙ h, unmendable)

  pub lacks-inside : get_or s at 0 ≡ 255 → (b : Bool) → ((x y : Plan) (m e : ℕ) → PlanAt s (at + 1) x m → PlanAt s m y e → b ≡ both_hold (shape_in masks rows) x y) → b ≡ true
      → (next : ℕ) (left right : Option ℕ) → ((p : Plan) (e : ℕ) → PlanAt s (at + 1) p e → next ≡ e) → ((p : Plan) (e : ℕ) → PlanAt s (at + 1) p e → left ≡ found_of (unmendable (shape_in masks rows) p (at + 1)))
      → ((p : Plan) (e : ℕ) → PlanAt s next p e → right ≡ found_of (unmendable (shape_in masks rows) p next)) → (p : Plan) (e : ℕ) → PlanAt s at p e → option_or left right ≡ found_of (unmendable (shape_in masks rows) p at)
  lacks-inside k b f h next left right n g i (scan t) e st = let a : get_or s at 0 ≡ t = st.1 in let c : t < 16 = st.2 in absurd (omega arith)
  lacks-inside k b f h next left right n g i (join l r) e st =
      let (m, u, v) = st.2 in
      let z : next ≡ m = n l m u in
      let w : next ≡ suc at + length (encode l) = omega (arith, plan-end s (at + 1) l m u) in
      rw (sym (f l r m e u v) ∙ h, unmendable)
      (ap₂ option_or (g l m u ∙ ap (λ j. found_of (unmendable (shape_in masks rows) l j)) (add-one at)) (i r e (rw z v) ∙ ap (λ j. found_of (unmendable (shape_in masks rows) r j)) w)
      ∙ found_else (unmendable (shape_in masks rows) l (suc at)) (unmendable (shape_in masks rows) r (suc at + length (encode l))))

  pub table-lacks : get_or s at 0 < 16 → (p : Plan) (e : ℕ) → PlanAt s at p e → None ≡ found_of (unmendable (shape_in masks rows) p at)
  table-lacks n (scan t) e h = refl
  table-lacks n (join l r) e h = let a : get_or s at 0 ≡ 255 = h.1 in absurd (omega arith)

pub found_none : (o : math.Option ℕ) → found_of o ≡ None → o ≡ none
found_none none e = refl
found_none (some i) e = cc

pub found_at : (o : math.Option ℕ) (i : ℕ) → found_of o ≡ Some i → o ≡ some i
found_at none i e = cc
found_at (some j) i e = cc
