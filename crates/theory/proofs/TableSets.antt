-- Sets of tables as tests, and how a table is taken out.
use mathlib.Core.Path.{◌≡◌, refl, sym, ◌∙◌, subst, fun_ext}
use mathlib.Core.Bool.{Bool, true, false, ◌&&◌, ◌||◌, not}
use mathlib.Core.List.{List, [], ◌∷◌}
use Prim.Native.Nat.{ℕ}
use lib.Dec.{eqb}
use borrow.Author.Tests.{eqb-true, eqb-false, eq-eqb, ne_eqb}
use Rattle.theory.specs.Elements.{Each, member}
use Rattle.semantics.specs.Lists.{any, filter}
use Rattle.theory.proofs.Cases.{cases, and_left, and_right, not-true, true-false, or_left, or_right, or_cases}
use Rattle.semantics.specs.Elimination.{without}

pub decide : {P : Type 0} (x y : ℕ) → (x ≡ y → P) → ((x ≡ y → ⊥) → P) → P
decide x y f g = cases (eqb x y) (λ h. f (eqb-true x y h)) (λ h. g (eqb-false x y h))

-- the set without e
abbrev pub minus : (ℕ → Bool) → ℕ → ℕ → Bool
minus M e x = not (eqb x e) && M x

-- the set with e
abbrev pub plus : (ℕ → Bool) → ℕ → ℕ → Bool
plus M e x = M x || eqb x e

pub in_minus : (M : ℕ → Bool) (e x : ℕ) → (x ≡ e → ⊥) → M x ≡ true → minus M e x ≡ true
in_minus M e x d m = rw (ne_eqb x e d) m

pub out_minus : (M : ℕ → Bool) (e x : ℕ) → minus M e x ≡ true → (x ≡ e → ⊥) × (M x ≡ true)
out_minus M e x m = (eqb-false x e (not-true (eqb x e) (and_left (not (eqb x e)) (M x) m)), and_right (not (eqb x e)) (M x) m)

and-swap : (a b c : Bool) → (a && (b && c)) ≡ (b && (a && c))
and-swap true true c = refl
and-swap true false c = refl
and-swap false true c = refl
and-swap false false c = refl

pub minus-swap : (M : ℕ → Bool) (e g : ℕ) → minus (minus M e) g ≡ minus (minus M g) e
minus-swap M e g = fun_ext (λ x. and-swap (not (eqb x g)) (not (eqb x e)) (M x))

pub member-without : (t : ℕ) (rs : List ℕ) → member (without t rs) ≡ minus (member rs) t
unfolding without
member-without t rs = fun_ext (λ x. at x rs)
  where
    at : (x : ℕ) (rs : List ℕ) → any (eqb x) (filter (λ u. not (eqb u t)) rs) ≡ (not (eqb x t) && any (eqb x) rs)
    at x [] = cases (eqb x t) (λ h. rw h) (λ h. rw h)
    at x (r ∷ rs) =
        decide r t
        (λ q. rw (eq-eqb r t q) (at x rs ∙ cases (eqb x t) (λ h. rw h) (λ h. rw (h, q, h))))
        (λ d. rw (ne_eqb r t d) (cases (eqb x r) (λ h. rw (h, eqb-true x r h, ne_eqb r t d)) (λ h. rw h (at x rs))))

-- what each element has, each member has, and back
pub each_member : (P : ℕ → Type 0) (xs : List ℕ) → ((x : ℕ) → member xs x ≡ true → P x) → Each P xs
each_member P [] f = tt
each_member P (x ∷ xs) f = (f x (or_left (eqb x x) (member xs x) (eq-eqb x x refl)), each_member P xs (λ y m. f y (or_right (eqb y x) (member xs y) m)))

pub member_each : (P : ℕ → Type 0) (xs : List ℕ) (x : ℕ) → Each P xs → member xs x ≡ true → P x
member_each P [] x e m = absurd (true-false false m refl)
member_each P (y ∷ ys) x e m = or_cases (eqb x y) (member ys x) m (λ i. subst P (sym (eqb-true x y i)) e.0) (λ i. member_each P ys x e.1 i)
