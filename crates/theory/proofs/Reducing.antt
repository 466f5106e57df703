-- The tables of a well-behaved plan can be reduced: a join's tables are put back under the two leftmost ones.
use mathlib.Core.Path.{◌≡◌, refl, sym, ap, ◌∙◌, subst, fun_ext}
use mathlib.Core.Bool.{Bool, true, false, ◌||◌, or-false}
use Prim.Native.Nat.{ℕ, suc, ◌<◌}
use lib.Dec.{eqb}
use borrow.Author.Tests.{eqb-true, eq-eqb, ne_eqb}
use Rattle.theory.specs.Elements.{member}
use Rattle.semantics.specs.Plans.{Plan, scan, join, tables, leftmost}
use Rattle.semantics.specs.Shapes.{Shape, holds}
use Rattle.theory.specs.Rules.{WellBehaved}
use Rattle.theory.specs.Details.{Ear}
use Rattle.theory.proofs.Cases.{cases, true-false, or_left, or_right, or_cases}
use Rattle.theory.proofs.Lists.{any_append}
use Rattle.theory.proofs.JoinTrees.{names-leftmost, holds_named, behaves-within, in_left_lem, in_right_lem}
use Rattle.theory.proofs.TableSets.{decide, minus, plus}
use Rattle.theory.proofs.Ears.{ReducibleIn, Reducible}

-- ---- sets put together
or_swap : (a b c : Bool) → ((a || b) || c) ≡ ((a || c) || b)
or_swap true b c = refl
or_swap false true true = refl
or_swap false true false = refl
or_swap false false true = refl
or_swap false false false = refl

or-group : (a b c : Bool) → ((a || b) || c) ≡ (a || (b || c))
or-group true b c = refl
or-group false b c = refl

-- the set with the tables of a plan
abbrev union : (ℕ → Bool) → Plan → ℕ → Bool
union M p x = M x || member (tables p) x

plus_there : (M : ℕ → Bool) (e : ℕ) → M e ≡ true → plus M e ≡ M
plus_there M e m = fun_ext (λ x. decide x e (λ q. rw (q, m)) (λ d. rw (ne_eqb x e d) (or-false (M x))))

minus_plus : (M : ℕ → Bool) (e : ℕ) → M e ≡ false → minus (plus M e) e ≡ M
minus_plus M e m = fun_ext (λ x. decide x e (λ q. rw (q, m, eq-eqb e e refl)) (λ d. rw (ne_eqb x e d) (or-false (M x))))

module _ (S : Shape) where
  -- a table is added whose attributes shared with those there lie in one of them
  add_ear : (M : ℕ → Bool) (e f : ℕ) → M f ≡ true → ((a u : ℕ) → a < 32 → S.has e a ≡ true → M u ≡ true → S.has u a ≡ true → S.has f a ≡ true)
      → Reducible S M → Reducible S (plus M e)
  add_ear M e f mf covers r =
      cases (M e) (λ m. subst (Reducible S) (sym (plus_there M e m)) r)
      (λ m.
      let E : Ear S (plus M e) e f
      = record {
        inside = or_right (M e) (eqb e e) (eq-eqb e e refl);
        parent = or_left (M f) (eqb f e) mf;
        apart = λ q. true-false (M f) mf (ap M q ∙ m);
        covers = λ a u l h i d k. covers a u l h (or_cases (M u) (eqb u e) i (λ j. j) (λ j. absurd (d (eqb-true u e j)))) k;
      } in
      (suc r.0, (e, f, E, subst (ReducibleIn S r.0) (sym (minus_plus M e m)) r.1)))

  -- what the tables of the plan share with the set lies in its leftmost table
  abbrev Meets : (ℕ → Bool) → Plan → Type 0
  Meets M p = (a u : ℕ) → a < 32 → holds S p a ≡ true → M u ≡ true → S.has u a ≡ true → S.has (leftmost p) a ≡ true

  add-plan : (M : ℕ → Bool) (p : Plan) → WellBehaved S p → Meets M p → Reducible S (plus M (leftmost p)) → Reducible S (union M p)
  add-plan M (scan t) w c r = subst (Reducible S) (fun_ext (λ x. ap (λ b. M x || b) (sym (or-false (eqb x t))))) r
  add-plan M (join l r) (b, wl, wr) c R =
      let x = leftmost l in
      let y = leftmost r in
      let both : Reducible S (plus (plus M x) y)
      = add_ear (plus M x) y x (or_right (M x) (eqb x x) (eq-eqb x x refl))
      (λ a u k h m g. or_cases (M u) (eqb u x) m (λ i. c a u k (in_right_lem S l r a (holds_named S r y a (names-leftmost r) h)) i g) (λ i. rw (eqb-true u x i) at g)) R in
      let left : Reducible S (union (plus M y) l)
      = add-plan (plus M y) l wl
      (λ a u k h m g. or_cases (M u) (eqb u y) m (λ i. c a u k (in_left_lem S l r a h) i g) (λ i. (behaves-within S l r b a k h (holds_named S r y a (names-leftmost r) (rw (eqb-true u y i) at g))).0))
      (subst (Reducible S) (fun_ext (λ z. or_swap (M z) (eqb z x) (eqb z y))) both) in
      let right : Reducible S (union (union M l) r)
      = add-plan (union M l) r wr
      (λ a u k h m g. or_cases (M u) (member (tables l) u) m
      (λ i. (behaves-within S l r b a k (holds_named S l x a (names-leftmost l) (c a u k (in_right_lem S l r a h) i g)) h).1)
      (λ i. (behaves-within S l r b a k (holds_named S l u a i g) h).1))
      (subst (Reducible S) (fun_ext (λ z. or_swap (M z) (eqb z y) (member (tables l) z))) left) in
      subst (Reducible S) (fun_ext (λ z. or-group (M z) (member (tables l) z) (member (tables r) z) ∙ ap (λ b. M z || b) (sym (any_append (eqb z) (tables l) (tables r))))) right

  pub plan_reducible : (p : Plan) → WellBehaved S p → Reducible S (member (tables p))
  plan_reducible p w = add-plan (λ x. false) p w (λ a u k h m g. absurd (true-false false m refl)) (0, (leftmost p, λ x m. eqb-true x (leftmost p) m))
