-- The elements of lists: what each has, one of them has.
use mathlib.Core.Path.{◌≡◌, refl}
use mathlib.Core.Bool.{Bool, true}
use mathlib.Core.List.{List, [], ◌∷◌, ◌++◌, map}
use mathlib.Core.Logic.{◌⊎◌, inl, inr, ⊎_elim}
use Prim.Native.Nat.{ℕ, zero, suc, ◌<◌}
use native.Mathlib.Omega.{arith}
use lib.ListN.{length, get_or}
use Rattle.semantics.specs.Lists.{filter, concat_map, head_of}
use Rattle.theory.specs.Elements.{Each, In}
use Rattle.theory.proofs.Cases.{cases}

module _ {A : Type 0} where
  pub each_at : (P : A → Type 0) (z : A) (xs : List A) → Each P xs → In z xs → P z
  each_at P z [] e i = absurd i
  each_at P z (x ∷ xs) e (inl q) = rw q at e.0
  each_at P z (x ∷ xs) e (inr i) = each_at P z xs e.1 i

  pub each_of : (P : A → Type 0) (xs : List A) → ((z : A) → In z xs → P z) → Each P xs
  each_of P [] f = tt
  each_of P (x ∷ xs) f = (f x (inl refl), each_of P xs (λ z i. f z (inr i)))

  pub each_in : (xs : List A) → Each (λ z. In z xs) xs
  each_in xs = each_of (λ z. In z xs) xs (λ z i. i)

  pub in-filter : (q : A → Bool) (z : A) (xs : List A) → In z (filter q xs) → In z xs × (q z ≡ true)
  in-filter q z [] i = absurd i
  in-filter q z (x ∷ xs) i =
      cases (q x)
      (λ h. ⊎_elim (λ e. (inl e, rw e at h)) (λ j. let (a, b) = in-filter q z xs j in (inr a, b)) (rw h at i))
      (λ h. let (a, b) = in-filter q z xs (rw h at i) in (inr a, b))

  pub in-append : (z : A) (xs ys : List A) → In z (xs ++ ys) → In z xs ⊎ In z ys
  in-append z [] ys i = inr i
  in-append z (x ∷ xs) ys (inl e) = inl (inl e)
  in-append z (x ∷ xs) ys (inr i) = ⊎_elim (λ j. inl (inr j)) (λ j. inr j) (in-append z xs ys i)

  -- at a place of the list
  pub in_at : (xs : List A) (d : A) (n : ℕ) → n < length xs → In (get_or xs n d) xs
  in_at [] d n h = absurd (omega arith)
  in_at (x ∷ xs) d zero h = inl refl
  in_at (x ∷ xs) d (suc n) h = inr (in_at xs d n (omega arith))

module _ {A B : Type 0} where
  pub in_map : (f : A → B) (v : B) (xs : List A) → In v (map f xs) → (x : A) × In x xs × (f x ≡ v)
  in_map f v [] i = absurd i
  in_map f v (x ∷ xs) (inl e) = (x, inl refl, e)
  in_map f v (x ∷ xs) (inr i) = let (y, j, e) = in_map f v xs i in (y, inr j, e)

  pub in-concat_map : (f : A → List B) (v : B) (xs : List A) → In v (concat_map f xs) → (x : A) × In x xs × In v (f x)
  in-concat_map f v [] i = absurd i
  in-concat_map f v (x ∷ xs) i =
      ⊎_elim (λ j. (x, inl refl, j)) (λ j. let (y, k, l) = in-concat_map f v xs j in (y, inr k, l)) (in-append v (f x) (concat_map f xs) i)

pub head_in : (zs : List ℕ) → (zs ≡ [] → ⊥) → In (head_of zs) zs
head_in [] n = absurd (n refl)
head_in (z ∷ zs) n = inl refl
