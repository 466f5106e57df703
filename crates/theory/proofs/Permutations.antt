-- A list in another order: what is summed, multiplied, asked of one or of each element is the same.
use mathlib.Core.Path.{◌≡◌, refl, sym, ap₂, ◌∙◌}
use mathlib.Core.Bool.{Bool, ◌||◌, or_comm}
use mathlib.Core.List.{List, ◌++◌, append_assoc}
use Prim.Native.Nat.{ℕ, ◌*◌}
use native.Mathlib.Omega.{arith}
use native.Mathlib.Nat.{mul_comm}
use Rattle.theory.specs.Elements.{Each, Permutation, unchanged, exchanged, beside, through}
use Rattle.semantics.specs.Lists.{any, sum, product}
use Rattle.theory.proofs.Lists.{Each-append, Each-split, any_append, sum-append, product-append}

pub permutation-sum : (f : ℕ → ℕ) {xs ys : List ℕ} → Permutation xs ys → sum f xs ≡ sum f ys
permutation-sum f unchanged = refl
permutation-sum f (exchanged xs ys) = omega (arith, sum-append f xs ys, sum-append f ys xs)
permutation-sum f (beside {xs} {ys} {zs} {ws} p q) = omega (arith, sum-append f xs zs, sum-append f ys ws, permutation-sum f p, permutation-sum f q)
permutation-sum f (through p q) = permutation-sum f p ∙ permutation-sum f q

pub permutation-product : (f : ℕ → ℕ) {xs ys : List ℕ} → Permutation xs ys → product f xs ≡ product f ys
permutation-product f unchanged = refl
permutation-product f (exchanged xs ys) = product-append f xs ys ∙ mul_comm (product f xs) (product f ys) ∙ sym (product-append f ys xs)
permutation-product f (beside {xs} {ys} {zs} {ws} p q) = product-append f xs zs ∙ ap₂ (λ a b. a * b) (permutation-product f p) (permutation-product f q) ∙ sym (product-append f ys ws)
permutation-product f (through p q) = permutation-product f p ∙ permutation-product f q

pub permutation-any : (t : ℕ → Bool) {xs ys : List ℕ} → Permutation xs ys → any t xs ≡ any t ys
permutation-any t unchanged = refl
permutation-any t (exchanged xs ys) = any_append t xs ys ∙ or_comm (any t xs) (any t ys) ∙ sym (any_append t ys xs)
permutation-any t (beside {xs} {ys} {zs} {ws} p q) = any_append t xs zs ∙ ap₂ (λ a b. a || b) (permutation-any t p) (permutation-any t q) ∙ sym (any_append t ys ws)
permutation-any t (through p q) = permutation-any t p ∙ permutation-any t q

pub permutation_each : (P : ℕ → Type 0) {xs ys : List ℕ} → Permutation xs ys → Each P ys → Each P xs
permutation_each P unchanged e = e
permutation_each P (exchanged xs ys) e = let (a, b) = Each-split P ys xs e in Each-append P xs ys b a
permutation_each P (beside {xs} {ys} {zs} {ws} p q) e = let (a, b) = Each-split P ys ws e in Each-append P xs zs (permutation_each P p a) (permutation_each P q b)
permutation_each P (through p q) e = permutation_each P p (permutation_each P q e)

-- the last two of three parts exchanged
pub last_two : (xs ys zs : List ℕ) → Permutation ((xs ++ ys) ++ zs) ((xs ++ zs) ++ ys)
last_two xs ys zs = rw (append_assoc xs ys zs, append_assoc xs zs ys) (beside (unchanged {xs = xs}) (exchanged ys zs))
