-- Request U2: which plans are mended, that a well-behaved one is and comes out as it is, and the tables of a mended plan.
use mathlib.Core.Path.{◌≡◌, refl, ap}
use mathlib.Core.Bool.{true}
use mathlib.Core.List.{List, [], ◌∷◌}
use mathlib.Core.Option.{Option, none, some}
use Prim.Native.Nat.{ℕ, suc, ◌+◌, ◌≤◌, ◌<◌}
use native.Mathlib.Omega.{arith}
use lib.ListN.{length}
use lib.Dec.{eqb, ltb}
use borrow.Author.Tests.{ne_eqb, ltb-true, ltb-false}
use Rattle.theory.specs.Elements.{Each}
use Rattle.semantics.specs.Lists.{filter}
use Rattle.semantics.specs.Plans.{Plan, scan, join, encode, tables, leftmost}
use Rattle.theory.specs.Rules.{Small, behaves, WellBehaved, NamedOnce}
use Rattle.semantics.specs.Shapes.{Shape, join_attributes, or_else}
use Rattle.theory.specs.Details.{Once}
use Rattle.semantics.specs.Mending.{holds_all, holders, mend, both_hold, unmendable}
use Rattle.theory.specs.Selections.{Mendable}
use Rattle.theory.proofs.Cases.{cases}
use Rattle.theory.proofs.Lists.{Each-append, Each-split, non_empty-filter}
use Rattle.theory.proofs.JoinTrees.{named-any, names-leftmost}
use Rattle.theory.proofs.Mending.{mend_each, mend-well_behaved, mend_same, behaves-holders}

-- ---- 9 is not due exactly where both sides of every join have a holder
or_none : (a b : Option ℕ) → or_else a b ≡ none → (a ≡ none) × (b ≡ none)
or_none none b e = (refl, e)
or_none (some i) b e = (e, cc)

pub unmendable-mendable : (S : Shape) (p : Plan) (i : ℕ) → unmendable S p i ≡ none → Mendable S p
unmendable-mendable S (scan t) i e = tt
unmendable-mendable S (join l r) i e =
    cases (both_hold S l r)
    (λ h. let (a, b) = or_none (unmendable S l (suc i)) (unmendable S r (suc i + length (encode l))) (rw (h, unmendable) at e) in (h, unmendable-mendable S l (suc i) a, unmendable-mendable S r (suc i + length (encode l)) b))
    (λ h. let z : ◌≡◌ {A = ℕ} 0 1 = cc (rw (h, unmendable) at e) in absurd (omega arith))

pub mendable-unmendable : (S : Shape) (p : Plan) (i : ℕ) → Mendable S p → unmendable S p i ≡ none
mendable-unmendable S (scan t) i m = refl
mendable-unmendable S (join l r) i m = rw (m.0, mendable-unmendable S l (suc i) m.1, unmendable) (mendable-unmendable S r (suc i + length (encode l)) m.2)

-- a well-behaved plan is not refused
pub well_behaved-mendable : (S : Shape) (p : Plan) → WellBehaved S p → Mendable S p
well_behaved-mendable S (scan t) w = tt
well_behaved-mendable S (join l r) w = (both S l r w.0, well_behaved-mendable S l w.1, well_behaved-mendable S r w.2)
  where
    both : (S : Shape) (l r : Plan) → behaves S l r ≡ true → both_hold S l r ≡ true
    both S l r h =
        let (a, b) = behaves-holders S l r h in
        unfold both_hold holders in
        rw (non_empty-filter (holds_all S (join_attributes S l r)) (tables l), non_empty-filter (holds_all S (join_attributes S l r)) (tables r), named-any (holds_all S (join_attributes S l r)) (leftmost l) (tables l) (names-leftmost l) a, named-any (holds_all S (join_attributes S l r)) (leftmost r) (tables r) (names-leftmost r) b)

-- what is mended is mended
pub mend_again : (S : Shape) (p : Plan) → Mendable S p → mend S (mend S p) ≡ mend S p
mend_again S p m = mend_same S (mend S p) (mend-well_behaved S p m)

-- "a well-behaved plan comes out byte for byte"
pub mend-bytes : (S : Shape) (p : Plan) → WellBehaved S p → encode (mend S p) ≡ encode p
mend-bytes S p w = ap encode (mend_same S p w)

-- ---- its tables are those of the plan, so bytes can name them
pub small_each : (p : Plan) → Small p → Each (λ t. t < 16) (tables p)
small_each (scan t) h = (h, tt)
small_each (join l r) h = Each-append (λ t. t < 16) (tables l) (tables r) (small_each l h.0) (small_each r h.1)

pub each_small : (p : Plan) → Each (λ t. t < 16) (tables p) → Small p
each_small (scan t) e = e.0
each_small (join l r) e = let (a, b) = Each-split (λ t. t < 16) (tables l) (tables r) e in (each_small l a, each_small r b)

-- so the leftmost one is
pub leftmost_small : (p : Plan) → Small p → leftmost p < 16
leftmost_small (scan t) h = h
leftmost_small (join l r) h = leftmost_small l h.0

pub mend_small : (S : Shape) (p : Plan) → Small p → Small (mend S p)
mend_small S p h = each_small (mend S p) (mend_each S (λ t. t < 16) p (small_each p h))

-- ---- tables named once each are named once
absent_none : (n t : ℕ) (xs : List ℕ) → n ≤ t → Each (λ x. x < n) xs → length (filter (eqb t) xs) ≡ 0
absent_none n t [] h e = refl
absent_none n t (x ∷ xs) h e = let w : x < n = e.0 in rw (ne_eqb t x (λ q. omega arith)) (absent_none n t xs h e.1)

pub named-once : (n : ℕ) (p : Plan) → NamedOnce n (tables p) → Once p
named-once n p o t =
    cases (ltb t n) (λ h. omega (arith, o.once t (ltb-true t n h))) (λ h. omega (arith, absent_none n t (tables p) (ltb-false t n h) o.present))
