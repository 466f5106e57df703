-- What a test of some attributes says of each of them.
use mathlib.Core.Path.{◌≡◌, sym, ◌∙◌}
use mathlib.Core.Bool.{Bool, true, ◌||◌, not}
use Prim.Native.Nat.{ℕ, ◌+◌, ◌≤◌, ◌<◌, zero-le}
use native.Mathlib.Omega.{arith}
use Rattle.semantics.specs.Lists.{all, filter, from, up_to}
use Rattle.semantics.specs.Shapes.{attributes}
use Rattle.theory.proofs.Cases.{cases, not-true, true-false, or_cases}
use Rattle.theory.proofs.Lists.{Each-map, all_true, true_all, all_filter}
use Rattle.theory.proofs.Numbers.{from_at, from-lt}

pub each-attribute : (p q : ℕ → Bool) → all q (filter p attributes) ≡ true → (a : ℕ) → a < 32 → p a ≡ true → q a ≡ true
unfolding attributes up_to
each-attribute p q h a l k =
    or_cases (not (p a)) (q a)
    (from_at (λ a. (not (p a) || q a) ≡ true) 0 32 a (all_true (λ a. not (p a) || q a) (from 0 32) (sym (all_filter p q (from 0 32)) ∙ h)) zero-le (omega arith))
    (λ n. absurd (true-false (p a) k (not-true (p a) n))) (λ m. m)

pub attribute_each : (p q : ℕ → Bool) → ((a : ℕ) → a < 32 → p a ≡ true → q a ≡ true) → all q (filter p attributes) ≡ true
unfolding attributes up_to
attribute_each p q f =
    all_filter p q (from 0 32)
    ∙ true_all (λ a. not (p a) || q a) (from 0 32)
    (Each-map (λ a. (0 ≤ a) × (a < 0 + 32)) (λ a. (not (p a) || q a) ≡ true) (λ a l. cases (p a) (λ h. rw h (f a (omega arith) h)) (λ h. rw h)) (from 0 32) (from-lt 0 32))
