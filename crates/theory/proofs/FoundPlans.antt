-- Request U4's promises over the tables 0 to n - 1: the plan that is found names each of them once and is well-behaved, mending leaves
-- it as it is, and where none is found there is none.
use mathlib.Core.Path.{◌≡◌, refl, sym, ap, ◌∙◌, subst, fun_ext}
use mathlib.Core.Bool.{false, not}
use mathlib.Core.List.{List, [], ◌∷◌}
use Prim.Native.Nat.{ℕ, ◌+◌, ◌-◌, ◌≤◌, ◌<◌, zero-le}
use native.Mathlib.Omega.{arith}
use lib.ListN.{length}
use lib.Dec.{eqb, ltb}
use borrow.Author.Tests.{eq-eqb, ne_eqb, ltb-true, ltb-false}
use Rattle.theory.specs.Elements.{one_if, Each, member}
use Rattle.semantics.specs.Lists.{sum, filter, from, up_to}
use Rattle.semantics.specs.Plans.{Plan, tables}
use Rattle.theory.specs.Rules.{WellBehaved, NamedOnce}
use Rattle.semantics.specs.Shapes.{Shape}
use Rattle.semantics.specs.Mending.{mend}
use Rattle.semantics.specs.Elimination.{Hanging, Elimination, rooted, stuck, eliminate, plan_under}
use Rattle.theory.proofs.Cases.{cases, or_left}
use Rattle.theory.proofs.Lists.{any_sum, Each-map, length-filter-sum}
use Rattle.theory.proofs.Numbers.{length_from, from-lt, rising_from, sum_from_one}
use Rattle.theory.proofs.Mending.{mend_same}
use Rattle.theory.proofs.TableSets.{each_member, member_each}
use Rattle.theory.proofs.Ears.{Reducible}
use Rattle.theory.proofs.Reducing.{plan_reducible}
use Rattle.theory.proofs.Stuck.{stuck_irreducible}
use Rattle.theory.proofs.Forests.{rooted_forest}

pub elimination-cases : {P : Type 0} (e : Elimination) → ((z : ℕ) (hs : List Hanging) → e ≡ rooted z hs → P) → ((d : ℕ) → e ≡ stuck d → P) → P
elimination-cases (rooted z hs) f g = f z hs refl
elimination-cases (stuck d) f g = g d refl

-- ---- lists that have each number as often have the same members
same_members : (xs ys : List ℕ) → ((x : ℕ) → length (filter (eqb x) xs) ≡ length (filter (eqb x) ys)) → member xs ≡ member ys
same_members xs ys s =
    fun_ext (λ x. any_sum (eqb x) xs ∙ ap (λ k. not (eqb k 0)) (sym (length-filter-sum (eqb x) xs) ∙ s x ∙ length-filter-sum (eqb x) ys) ∙ sym (any_sum (eqb x) ys))

none_above : (n x : ℕ) (ts : List ℕ) → Each (λ t. t < n) ts → n ≤ x → length (filter (eqb x) ts) ≡ 0
none_above n x [] e h = refl
none_above n x (t ∷ ts) e h = rw (ne_eqb x t (λ q. omega (arith, e.0))) (none_above n x ts e.1 h)

-- ---- the tables 0 to n - 1, each once
module _ (n : ℕ) where
  from_below : Each (λ t. t < n) (from 0 n)
  from_below = Each-map (λ y. (0 ≤ y) × (y < 0 + n)) (λ y. y < n) (λ y h. omega (arith, h.1)) (from 0 n) (from-lt 0 n)

  from-once : (t : ℕ) → t < n → length (filter (eqb t) (from 0 n)) ≡ 1
  from-once t h = length-filter-sum (eqb t) (from 0 n) ∙ sum_from_one t 0 n zero-le (omega arith)

  once_members : (ts : List ℕ) → NamedOnce n ts → member ts ≡ member (from 0 n)
  once_members ts o =
      same_members ts (from 0 n) (λ x. cases (ltb x n)
      (λ h. let l = ltb-true x n h in o.once x l ∙ sym (from-once x l))
      (λ h. let l = ltb-false x n h in none_above n x ts o.present l ∙ sym (none_above n x (from 0 n) from_below l)))

  -- tables over which all sums are those over 0 to n - 1 are named once each
  pub sums-named : (ts : List ℕ) → ((f : ℕ → ℕ) → sum f ts ≡ sum f (from 0 n)) → NamedOnce n ts
  sums-named ts s =
      let as_often : (x : ℕ) → length (filter (eqb x) ts) ≡ length (filter (eqb x) (from 0 n))
      = λ x. length-filter-sum (eqb x) ts ∙ s (λ y. one_if (eqb x y)) ∙ sym (length-filter-sum (eqb x) (from 0 n)) in
      record {
        present = each_member (λ t. t < n) ts (λ t m. member_each (λ y. y < n) (from 0 n) t from_below (ap (λ M. M t) (sym (same_members ts (from 0 n) as_often)) ∙ m));
        once = λ t h. as_often t ∙ from-once t h;
      }

  -- ---- what is found
  module _ (S : Shape) where
    pub rooted-plan : (z : ℕ) (hs : List Hanging) → 0 < n → eliminate S n ≡ rooted z hs → ((f : ℕ → ℕ) → sum f (tables (plan_under hs z)) ≡ sum f (from 0 n)) × WellBehaved S (plan_under hs z)
    rooted-plan z hs l e =
        let F = rooted_forest S n z hs l e in
        (λ f. let q = F.sums f in omega arith, F.behaved z (or_left (eqb z z) false (eq-eqb z z refl)))

    -- "the found plan is left as it is" by mending
    pub rooted-mended : (z : ℕ) (hs : List Hanging) → 0 < n → eliminate S n ≡ rooted z hs → mend S (plan_under hs z) ≡ plan_under hs z
    rooted-mended z hs l e = mend_same S (plan_under hs z) (rooted-plan z hs l e).1

    -- where none is found, "no well-behaved plan over these tables exists"
    pub stuck_none : (d : ℕ) → 0 < n → eliminate S n ≡ stuck d → (p : Plan) → NamedOnce n (tables p) → WellBehaved S p → ⊥
    unfolding eliminate up_to
    stuck_none d l e p o w =
        stuck_irreducible S (n - 1) d (from 0 n) [] e (omega (arith, length_from 0 n)) (rising_from 0 n) (subst (Reducible S) (once_members (tables p) o) (plan_reducible S p w))
