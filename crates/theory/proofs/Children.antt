-- Request U4: the children of a table, in the plan that is found, are the tables that were hung under it, and stand in rising number.
use mathlib.Core.Path.{◌≡◌, refl, sym, ap, ap₂, ◌∙◌, subst}
use mathlib.Core.Bool.{Bool, true, false, ◌&&◌, ◌||◌}
use mathlib.Core.List.{List, [], ◌∷◌, ◌++◌}
use Prim.Native.Nat.{ℕ, ◌<◌}
use native.Mathlib.Omega.{arith}
use lib.Dec.{eqb, ltb}
use borrow.Author.Tests.{ltb-true, ltb-false}
use Rattle.semantics.specs.Lists.{any}
use Rattle.semantics.specs.Plans.{Plan, scan, join, leftmost}
use Rattle.semantics.specs.Shapes.{Shape}
use Rattle.semantics.specs.JoinTrees.{hang_rising}
use Rattle.semantics.specs.Elimination.{Hanging, plan_under}
use Rattle.theory.specs.Elements.{Each, Rising, member}
use Rattle.theory.specs.Trees.{children_of, EachHung, UnderEach, HungRising}
use Rattle.theory.specs.Details.{Remains, start, hung}
use Rattle.theory.proofs.Cases.{cases}
use Rattle.theory.proofs.Lists.{Each-map, Each-append, Each-split, any_append}
use Rattle.theory.proofs.TableSets.{decide}
use Rattle.theory.proofs.Hangings.{out-without}
use Rattle.theory.proofs.Forests.{plan_under-leftmost, at-parent, elsewhere}

-- ---- one more number at the end
rising_last : (xs : List ℕ) (y : ℕ) → Rising xs → Each (λ x. x < y) xs → Rising (xs ++ (y ∷ []))
rising_last [] y r e = (tt, tt)
rising_last (x ∷ xs) y r e = (Each-append (λ z. x < z) xs (y ∷ []) r.0 (e.0, tt), rising_last xs y r.1 e.1)

rising_front : (xs : List ℕ) (y : ℕ) → Rising (xs ++ (y ∷ [])) → Rising xs × Each (λ x. x < y) xs
rising_front [] y r = (tt, tt)
rising_front (x ∷ xs) y r =
    let (a, b) = Each-split (λ z. x < z) xs (y ∷ []) r.0 in
    let (c, d) = rising_front xs y r.1 in
    ((a, c), (b.0, d))

-- ---- a tree that is hung
each-hung : (P : ℕ → Type 0) (c p : Plan) → P (leftmost c) → Each P (children_of p) → Each P (children_of (hang_rising c p))
each-hung P c (scan t) h e = (h, tt)
each-hung P c (join a b) h e =
    let (f, g) = Each-split P (children_of a) (leftmost b ∷ []) e in
    cases (ltb (leftmost c) (leftmost b))
    (λ k. rw (k, hang_rising) (Each-append P (children_of (hang_rising c a)) (leftmost b ∷ []) (each-hung P c a h f) g))
    (λ k. rw (k, hang_rising) (Each-append P (children_of (join a b)) (leftmost c ∷ []) e (h, tt)))

-- the table c is no child yet
hung-rising : (c p : Plan) → Each (λ y. y ≡ leftmost c → ⊥) (children_of p) → Rising (children_of p) → Rising (children_of (hang_rising c p))
hung-rising c (scan t) d r = (tt, tt)
hung-rising c (join a b) d r =
    let (rise, below) = rising_front (children_of a) (leftmost b) r in
    let (others, last) = Each-split (λ y. y ≡ leftmost c → ⊥) (children_of a) (leftmost b ∷ []) d in
    cases (ltb (leftmost c) (leftmost b))
    (λ k.
    rw (k, hang_rising) (rising_last (children_of (hang_rising c a)) (leftmost b) (hung-rising c a others rise)
    (each-hung (λ x. x < leftmost b) c a (ltb-true (leftmost c) (leftmost b) k) below)))
    (λ k.
    let apart : (leftmost b ≡ leftmost c → ⊥) = last.0 in
    let above : leftmost b < leftmost c = omega (arith, ltb-false (leftmost c) (leftmost b) k) in
    rw (k, hang_rising) (rising_last (children_of (join a b)) (leftmost c) r
    (Each-append (λ x. x < leftmost c) (children_of a) (leftmost b ∷ []) (Each-map (λ x. x < leftmost b) (λ x. x < leftmost c) (λ x h. omega arith) (children_of a) below) (above, tt))))

-- ---- they are the tables that were hung
child-hung : (c p : Plan) (x : ℕ) → member (children_of (hang_rising c p)) x ≡ (eqb x (leftmost c) || member (children_of p) x)
child-hung c (scan t) x = refl
child-hung c (join a b) x =
    let E = eqb x (leftmost c) in
    let A = member (children_of a) x in
    let B = eqb x (leftmost b) || false in
    let ab : member (children_of a ++ (leftmost b ∷ [])) x ≡ (A || B) = any_append (eqb x) (children_of a) (leftmost b ∷ []) in
    cases (ltb (leftmost c) (leftmost b))
    (λ k. rw (k, hang_rising) (any_append (eqb x) (children_of (hang_rising c a)) (leftmost b ∷ []) ∙ ap (λ m. m || B) (child-hung c a x) ∙ or_three E A B ∙ ap (λ m. E || m) (sym ab)))
    (λ k. rw (k, hang_rising) (any_append (eqb x) (children_of a ++ (leftmost b ∷ [])) (leftmost c ∷ []) ∙ or_last (member (children_of a ++ (leftmost b ∷ [])) x) E))
  where
    or_three : (a b c : Bool) → ((a || b) || c) ≡ (a || (b || c))
    or_three true b c = refl
    or_three false b c = refl

    or_last : (a b : Bool) → (a || (b || false)) ≡ (b || a)
    or_last true true = refl
    or_last true false = refl
    or_last false true = refl
    or_last false false = refl

-- a table is a child of t exactly if it was hung under t
pub children_exactly : (gs : List Hanging) (t c : ℕ) → member (children_of (plan_under gs t)) c ≡ any (λ h. eqb t h.parent && eqb c h.child) gs
children_exactly [] t c = refl
children_exactly (h ∷ hs) t c =
    cases (eqb t h.parent)
    (λ q. rw (q, plan_under) (child-hung (plan_under hs h.child) (plan_under hs t) c ∙ ap₂ (λ u m. eqb c u || m) (plan_under-leftmost hs h.child) (children_exactly hs t c)))
    (λ q. rw (q, plan_under) (children_exactly hs t c))

-- ---- every plan that hangs in another
hung-map : (P Q : Plan → Type 0) → ((r : Plan) → P r → Q r) → (p : Plan) → EachHung P p → EachHung Q p
hung-map P Q f (scan t) e = tt
hung-map P Q f (join l r) e = (hung-map P Q f l e.0, f r e.1, hung-map P Q f r e.2)

one_more : (P : Plan → Type 0) (c p : Plan) → P c → EachHung P c → EachHung P p → EachHung P (hang_rising c p)
one_more P c (scan t) h k e = (tt, h, k)
one_more P c (join a b) h k e =
    cases (ltb (leftmost c) (leftmost b)) (λ q. rw (q, hang_rising) (one_more P c a h k e.0, e.1, e.2)) (λ q. rw (q, hang_rising) (e, h, k))

each-child : (P : ℕ → Type 0) (p : Plan) → EachHung (λ r. P (leftmost r)) p → Each P (children_of p)
each-child P (scan t) e = tt
each-child P (join l r) e = Each-append P (children_of l) (leftmost r ∷ []) (each-child P l e.0) (e.1, tt)

-- ---- and they rise
-- the plan r hangs under some table: it is all that hangs under its own first-named table, which no longer remains
record Settled (gs : List Hanging) (rs : List ℕ) (r : Plan) : Type 0 where
  pub is : r ≡ plan_under gs (leftmost r)
  pub gone : member rs (leftmost r) ≡ true → ⊥

module _ (S : Shape) (n : ℕ) where
  all_settled : (rs : List ℕ) (gs : List Hanging) → Remains S n rs gs → (t : ℕ) → EachHung (Settled gs rs) (plan_under gs t)
  all_settled rs gs start t = tt
  all_settled rs gs (hung {rest} {hs} {h} m x) t =
      let c = plan_under hs h.child in
      let first : leftmost c ≡ h.child = plan_under-leftmost hs h.child in
      let still : (u : ℕ) → EachHung (Settled gs rs) (plan_under hs u)
      = λ u. hung-map (Settled hs rest) (Settled gs rs)
      (λ r g. record {
        is = g.is ∙ sym (elsewhere h hs (leftmost r) (λ q. g.gone (ap (member rest) q ∙ x.hangs.parent)));
        gone = λ k. g.gone (out-without h.child (leftmost r) rest k).1;
      })
      (plan_under hs u) (all_settled rest hs m u) in
      let new : Settled gs rs c
      = record {
        is = sym (ap (plan_under gs) first ∙ elsewhere h hs h.child (λ q. x.hangs.apart (sym q)));
        gone = λ k. (out-without h.child (leftmost c) rest k).0 first;
      } in
      decide t h.parent (λ q. rw (q, at-parent h hs) (one_more (Settled gs rs) c (plan_under hs h.parent) new (still h.child) (still h.parent))) (λ d. rw (elsewhere h hs t d) (still t))

  all_rise : (rs : List ℕ) (gs : List Hanging) → Remains S n rs gs → (t : ℕ) → Rising (children_of (plan_under gs t))
  all_rise rs gs start t = tt
  all_rise rs gs (hung {rest} {hs} {h} m x) t =
      let c = plan_under hs h.child in
      let p = plan_under hs h.parent in
      let other : Each (λ y. y ≡ leftmost c → ⊥) (children_of p)
      = each-child (λ y. y ≡ leftmost c → ⊥) p (hung-map (Settled hs rest) (λ r. leftmost r ≡ leftmost c → ⊥)
      (λ r g e. g.gone (ap (member rest) (e ∙ plan_under-leftmost hs h.child) ∙ x.hangs.inside)) p (all_settled rest hs m h.parent)) in
      decide t h.parent (λ q. rw (q, at-parent h hs) (hung-rising c p other (all_rise rest hs m h.parent))) (λ d. rw (elsewhere h hs t d) (all_rise rest hs m t))

  -- the children of every table are the tables that were hung under it, and stand in rising number
  pub remains_rise : (rs : List ℕ) (gs : List Hanging) → Remains S n rs gs → (t : ℕ) → UnderEach (HungRising gs) (plan_under gs t)
  remains_rise rs gs m t =
      let at : (u : ℕ) → HungRising gs (plan_under gs u)
      = λ u. record {
        hung = λ c. children_exactly gs u c ∙ ap (λ v. any (λ h. eqb v h.parent && eqb c h.child) gs) (sym (plan_under-leftmost gs u));
        rising = all_rise rs gs m u;
      } in
      (at t, hung-map (Settled gs rs) (HungRising gs) (λ r g. subst (HungRising gs) (sym g.is) (at (leftmost r))) (plan_under gs t) (all_settled rs gs m t))
