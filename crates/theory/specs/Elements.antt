-- What is said of the elements of a list: properties of each, orders, the same list in another order.
use Rattle.std.specs.Prelude.{◌≡◌, Bool, true, false, List, [], ◌∷◌, ◌++◌, ◌⊎◌, ℕ, ◌<◌, eqb}
use Rattle.semantics.specs.Lists.{any}

abbrev pub one_if : Bool → ℕ
one_if true = 1
one_if false = 0

module _ {A : Type 0} where
  -- the list where the test passed, else none
  abbrev pub only_if : Bool → List A → List A
  only_if true l = l
  only_if false l = []

  -- every element has the property
  abbrev pub Each : (A → Type 0) → List A → Type 0
  Each P [] = Unit {0}
  Each P (x ∷ xs) = P x × Each P xs

  -- the element stands in the list
  abbrev pub In : A → List A → Type 0
  In z [] = ⊥
  In z (x ∷ xs) = (x ≡ z) ⊎ In z xs

-- the number stands in the list
abbrev pub member : List ℕ → ℕ → Bool
member xs x = any (eqb x) xs

-- one list is the other in another order
pub data Permutation : List ℕ → List ℕ → Type 0 where
  unchanged : {xs : List ℕ} → Permutation xs xs
  exchanged : (xs ys : List ℕ) → Permutation (xs ++ ys) (ys ++ xs)
  beside : {xs ys zs ws : List ℕ} → Permutation xs ys → Permutation zs ws → Permutation (xs ++ zs) (ys ++ ws)
  through : {xs ys zs : List ℕ} → Permutation xs ys → Permutation ys zs → Permutation xs zs

-- each number is below those after it
abbrev pub Rising : List ℕ → Type 0
Rising [] = Unit {0}
Rising (x ∷ xs) = Each (λ y. x < y) xs × Rising xs
