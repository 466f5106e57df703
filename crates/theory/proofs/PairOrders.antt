-- The order of pairs is that of rows, and within a row of copies.
use mathlib.Core.Path.{◌≡◌}
use mathlib.Core.Logic.{◌⊎◌, inl, inr}
use mathlib.Core.List.{List, [], ◌∷◌}
use Prim.Native.Nat.{ℕ, ◌<◌}
use native.Mathlib.Omega.{arith}
use lib.Dec.{ltb}
use borrow.Author.Tests.{ltb-true, ltb-false}
use Rattle.semantics.specs.Results.{Pick, pair_of, pair_numbers}
use Rattle.theory.specs.Elements.{Each}
use Rattle.theory.specs.Orders.{Before, BeforeByRows}
use Rattle.theory.proofs.Cases.{cases}
use Rattle.theory.proofs.Pairs.{pair_below, pair-later}

pub before-numbers : (b c : List Pick) → Each (λ x. x.copy < 65536) b → BeforeByRows b c → Before (pair_numbers b) (pair_numbers c)
unfolding pair_numbers
before-numbers [] c e h = absurd h
before-numbers (x ∷ b) [] e h = absurd h
before-numbers (x ∷ b) (y ∷ c) e (inl h) = inl (pair_below x.row y.row x.copy y.copy h e.0)
before-numbers (x ∷ b) (y ∷ c) e (inr (q, inl h)) = inl (rw (← q) (pair-later x.row x.copy y.copy h))
before-numbers (x ∷ b) (y ∷ c) e (inr (q, inr h)) = inr (rw (q, h.0), before-numbers b c e.1 h.1)

pairs_before_lem : (y z c d : ℕ) → c < 65536 → d < 65536 → pair_of y c < pair_of z d → (y < z) ⊎ ((y ≡ z) × (c < d))
unfolding pair_of
pairs_before_lem y z c d g k h = cases (ltb y z) (λ e. inl (ltb-true y z e)) (λ e. inr (omega (arith, ltb-false y z e)))

pairs_same : (y z c d : ℕ) → c < 65536 → d < 65536 → pair_of y c ≡ pair_of z d → (y ≡ z) × (c ≡ d)
unfolding pair_of
pairs_same y z c d g k h = omega arith

pub numbers_before : (b c : List Pick) → Each (λ x. x.copy < 65536) b → Each (λ x. x.copy < 65536) c → Before (pair_numbers b) (pair_numbers c) → BeforeByRows b c
unfolding pair_numbers
numbers_before [] c e g h = absurd h
numbers_before (x ∷ b) [] e g h = absurd h
numbers_before (x ∷ b) (y ∷ c) e g (inl h) = first (pairs_before_lem x.row y.row x.copy y.copy e.0 g.0 h)
  where
    first : (x.row < y.row) ⊎ ((x.row ≡ y.row) × (x.copy < y.copy)) → BeforeByRows (x ∷ b) (y ∷ c)
    first (inl h) = inl h
    first (inr h) = inr (h.0, inl h.1)
numbers_before (x ∷ b) (y ∷ c) e g (inr h) =
    let q = pairs_same x.row y.row x.copy y.copy e.0 g.0 h.0 in
    inr (q.0, inr (q.1, numbers_before b c e.1 g.1 h.1))
