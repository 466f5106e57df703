-- Answer 14: where the step is stuck no well-behaved plan names these tables.
use mathlib.Core.Path.{◌≡◌, refl, sym, subst}
use mathlib.Core.Bool.{Bool, true}
use mathlib.Core.List.{List, [], ◌∷◌}
use mathlib.Core.Option.{none}
use Prim.Native.Nat.{ℕ, zero, suc}
use native.Mathlib.Omega.{arith}
use lib.ListN.{length}
use lib.Dec.{eqb}
use borrow.Author.Tests.{eq-eqb}
use Rattle.theory.specs.Elements.{Rising, member}
use Rattle.semantics.specs.Shapes.{Shape}
use Rattle.theory.proofs.Cases.{option_cases, or_left, or_right}
use Rattle.theory.specs.Details.{Ear}
use Rattle.semantics.specs.Elimination.{Hanging, stuck, without, next_of, hang_all}
use Rattle.theory.proofs.TableSets.{minus, member-without}
use Rattle.theory.proofs.Ears.{Reducible, alone_no_ear, take_ear}
use Rattle.theory.proofs.Hangings.{length_without, rising-without, step_ear, step_none}

-- two tables or more, all one
not_alone : (m z : ℕ) (rs : List ℕ) → length rs ≡ suc (suc m) → Rising rs → ((x : ℕ) → member rs x ≡ true → x ≡ z) → ⊥
not_alone m z [] l r f = omega arith
not_alone m z (x ∷ []) l r f = omega arith
not_alone m z (x ∷ (y ∷ rs)) l r f =
    let a : x ≡ z = f x (or_left (eqb x x) (member (y ∷ rs) x) (eq-eqb x x refl)) in
    let b : y ≡ z = f y (or_right (eqb y x) (member (y ∷ rs) y) (or_left (eqb y y) (member rs y) (eq-eqb y y refl))) in
    omega (arith, r.0.0)

module _ (S : Shape) where
  has_ear : (m : ℕ) (rs : List ℕ) → length rs ≡ suc (suc m) → Rising rs → Reducible S (member rs) → next_of S rs rs ≡ none → ⊥
  has_ear m rs l r (zero, q) n = not_alone m q.0 rs l r q.1
  has_ear m rs l r (suc k, (e, f, E, q)) n = step_none S rs e f n E

  reduced : (M : ℕ → Bool) (e f : ℕ) → Reducible S M → Ear S M e f → Reducible S (minus M e)
  reduced M e f (zero, q) E = absurd (alone_no_ear S M e f q E)
  reduced M e f (suc n, q) E = (n, take_ear S n M e f q E)

  pub stuck_irreducible : (m d : ℕ) (rs : List ℕ) (hs : List Hanging) → hang_all S m rs hs ≡ stuck d → length rs ≡ suc m → Rising rs → Reducible S (member rs) → ⊥
  stuck_irreducible zero d rs hs e l r R = let z : ◌≡◌ {A = ℕ} 0 1 = cc in omega arith
  stuck_irreducible (suc m) d rs hs e l r R =
      option_cases (next_of S rs rs) (λ n. has_ear m rs l r R n)
      (λ h s.
      let E = step_ear S rs h s in
      stuck_irreducible m d (without h.child rs) (h ∷ hs) (rw (s, hang_all) at e) (omega (arith, length_without h.child rs r E.inside))
      (rising-without h.child rs r) (subst (Reducible S) (sym (member-without h.child rs)) (reduced (member rs) h.child h.parent R E)))
