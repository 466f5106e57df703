-- Laws of the lists of `specs/Lists.antt`.
use mathlib.Core.Path.{◌≡◌, refl, sym, ap, ap₂, ◌∙◌}
use mathlib.Core.Bool.{Bool, true, false, ◌&&◌, ◌||◌, not, and-false, and_comm}
use mathlib.Core.List.{List, [], ◌∷◌, ◌++◌, map, append_assoc, map-append}
use Prim.Native.Nat.{ℕ, zero, suc, ◌+◌, ◌*◌, ◌<◌, ◌≤◌}
use native.Mathlib.Omega.{arith}
use native.Mathlib.Nat.{zero-add, zero-mul, suc-mul, mul_assoc}
use lib.ListN.{length, get_or, length-append, length-map}
use lib.Dec.{eqb}
use borrow.Author.Tests.{eqb-true, eq-eqb, ne_eqb}
use Rattle.theory.specs.Elements.{one_if, Each, only_if}
use Rattle.semantics.specs.Lists.{same, any, all, sum, product, filter, cons_if, non_empty, several, concat_map}
use Rattle.theory.proofs.Cases.{cases, true-false}

module _ {A : Type 0} where
  -- ---- each element
  pub each : (P : A → Type 0) → ((x : A) → P x) → (xs : List A) → Each P xs
  each P f [] = tt
  each P f (x ∷ xs) = (f x, each P f xs)

  pub Each-map : (P Q : A → Type 0) → ((y : A) → P y → Q y) → (xs : List A) → Each P xs → Each Q xs
  Each-map P Q f [] p = tt
  Each-map P Q f (x ∷ xs) p = (f x p.0, Each-map P Q f xs p.1)

  pub Each-with : (P Q R : A → Type 0) → ((y : A) → P y → Q y → R y) → (xs : List A) → Each P xs → Each Q xs → Each R xs
  Each-with P Q R f [] p q = tt
  Each-with P Q R f (x ∷ xs) p q = (f x p.0 q.0, Each-with P Q R f xs p.1 q.1)

  pub Each-append : (P : A → Type 0) (xs ys : List A) → Each P xs → Each P ys → Each P (xs ++ ys)
  Each-append P [] ys p q = q
  Each-append P (x ∷ xs) ys p q = (p.0, Each-append P xs ys p.1 q)

  pub Each-split : (P : A → Type 0) (xs ys : List A) → Each P (xs ++ ys) → Each P xs × Each P ys
  Each-split P [] ys e = (tt, e)
  Each-split P (x ∷ xs) ys e = let (a, b) = Each-split P xs ys e.1 in ((e.0, a), b)

  -- what each element has, and what stands for one that is not there, every place has
  pub each_at : (P : A → Type 0) (xs : List A) (d : A) → Each P xs → P d → (i : ℕ) → P (get_or xs i d)
  each_at P [] d e z i = z
  each_at P (x ∷ xs) d e z zero = e.0
  each_at P (x ∷ xs) d e z (suc i) = each_at P xs d e.1 z i

  pub get_d_each : (P : A → Type 0) (xs : List A) (i : ℕ) (d : A) → i < length xs → Each P xs → P (get_or xs i d)
  get_d_each P [] i d h e = absurd (omega arith)
  get_d_each P (x ∷ xs) zero d h e = e.0
  get_d_each P (x ∷ xs) (suc i) d h e = get_d_each P xs i d (omega arith) e.1

  pub get_d_map : (f : A → ℕ) (xs : List A) (i : ℕ) (d : A) → i < length xs → get_or (map f xs) i 0 ≡ f (get_or xs i d)
  get_d_map f [] i d h = absurd (omega arith)
  get_d_map f (x ∷ xs) zero d h = refl
  get_d_map f (x ∷ xs) (suc i) d h = get_d_map f xs i d (omega arith)

  pub Each-filter : (P : A → Type 0) (p : A → Bool) (xs : List A) → Each P xs → Each P (filter p xs)
  Each-filter P p [] e = tt
  Each-filter P p (x ∷ xs) e = cases (p x) (λ h. rw h (e.0, Each-filter P p xs e.1)) (λ h. rw h (Each-filter P p xs e.1))

  -- what passed a test passes it
  pub filter_passes : (q : A → Bool) (xs : List A) → Each (λ x. q x ≡ true) (filter q xs)
  filter_passes q [] = tt
  filter_passes q (x ∷ xs) = cases (q x) (λ h. rw h (h, filter_passes q xs)) (λ h. rw h (filter_passes q xs))

  -- ---- filter
  pub cons_if-append : (b : Bool) (x : A) (xs ys : List A) → cons_if b x (xs ++ ys) ≡ cons_if b x xs ++ ys
  cons_if-append true x xs ys = refl
  cons_if-append false x xs ys = refl

  pub filter-append : (p : A → Bool) (xs ys : List A) → filter p (xs ++ ys) ≡ filter p xs ++ filter p ys
  filter-append p [] ys = refl
  filter-append p (x ∷ xs) ys = ap (λ l. cons_if (p x) x l) (filter-append p xs ys) ∙ cons_if-append (p x) x (filter p xs) (filter p ys)

  -- the second test after the first
  pub filter-filter : (p q : A → Bool) (xs : List A) → filter (λ x. p x && q x) xs ≡ filter q (filter p xs)
  filter-filter p q [] = refl
  filter-filter p q (x ∷ xs) = cases (p x) (λ h. rw h (ap (λ l. cons_if (q x) x l) (filter-filter p q xs))) (λ h. rw h (filter-filter p q xs))

  pub filter-swap : (p q : A → Bool) (xs : List A) → filter p (filter q xs) ≡ filter q (filter p xs)
  filter-swap p q xs = sym (filter-filter q p xs) ∙ simp and_comm (filter-filter p q xs)

  pub filter_each : (p q : A → Bool) (xs : List A) → Each (λ x. p x ≡ q x) xs → filter p xs ≡ filter q xs
  filter_each p q [] e = refl
  filter_each p q (x ∷ xs) e = rw (e.0, filter_each p q xs e.1)

  -- a test that goes the same way everywhere
  pub filter-only_if : (p : A → Bool) (b : Bool) (xs : List A) → Each (λ x. p x ≡ b) xs → filter p xs ≡ only_if b xs
  filter-only_if p true [] e = refl
  filter-only_if p false [] e = refl
  filter-only_if p true (x ∷ xs) e = rw (e.0, filter-only_if p true xs e.1)
  filter-only_if p false (x ∷ xs) e = rw (e.0, filter-only_if p false xs e.1)

  pub filter-true : (xs : List A) → filter (λ x. true) xs ≡ xs
  filter-true [] = refl
  filter-true (x ∷ xs) = ap (λ l. x ∷ l) (filter-true xs)

  pub filter-false : (xs : List A) → filter (λ x. false) xs ≡ []
  filter-false [] = refl
  filter-false (x ∷ xs) = filter-false xs

  pub length-filter : (p : A → Bool) (xs : List A) → length (filter p xs) ≤ length xs
  length-filter p [] = omega arith
  length-filter p (x ∷ xs) = cases (p x) (λ h. rw h (omega (arith, length-filter p xs))) (λ h. rw h (omega (arith, length-filter p xs)))

  -- where what passes f passes g
  pub filter-fewer : (f g : A → Bool) (xs : List A) → Each (λ x. g x ≡ true) (filter f xs) → length (filter f xs) ≤ length (filter g xs)
  filter-fewer f g [] e = omega arith
  filter-fewer f g (x ∷ xs) e = more (f x) (g x) refl (λ e. filter-fewer f g xs e) e
    where
      more : (b c : Bool) → g x ≡ c → (Each (λ x. g x ≡ true) (filter f xs) → length (filter f xs) ≤ length (filter g xs)) → Each (λ x. g x ≡ true) (cons_if b x (filter f xs))
          → length (cons_if b x (filter f xs)) ≤ length (cons_if c x (filter g xs))
      more true true q k e = omega (arith, k e.1)
      more true false q k e = absurd (true-false (g x) e.0 q)
      more false true q k e = omega (arith, k e)
      more false false q k e = k e

  -- ---- all and any
  pub all_each : (p q : A → Bool) (xs : List A) → Each (λ x. p x ≡ q x) xs → all p xs ≡ all q xs
  all_each p q [] e = refl
  all_each p q (x ∷ xs) e = rw (e.0, all_each p q xs e.1)

  pub all_true : (p : A → Bool) (xs : List A) → all p xs ≡ true → Each (λ x. p x ≡ true) xs
  all_true p [] e = tt
  all_true p (x ∷ xs) e = cases (p x) (λ h. (h, all_true p xs (rw h at e))) (λ h. let z : ◌≡◌ {A = ℕ} 0 1 = cc (rw h at e) in absurd (omega arith))

  pub true_all : (p : A → Bool) (xs : List A) → Each (λ x. p x ≡ true) xs → all p xs ≡ true
  true_all p [] e = refl
  true_all p (x ∷ xs) e = rw e.0 (true_all p xs e.1)

  pub all_and : (p q : A → Bool) (xs : List A) → all (λ x. p x && q x) xs ≡ (all p xs && all q xs)
  all_and p q [] = refl
  all_and p q (x ∷ xs) = cases (p x) (λ h. rw h (cases (q x) (λ g. rw g (all_and p q xs)) (λ g. rw g (sym (and-false (all p xs)))))) (λ h. rw h)

  pub all_append : (p : A → Bool) (xs ys : List A) → all p (xs ++ ys) ≡ (all p xs && all p ys)
  all_append p [] ys = refl
  all_append p (x ∷ xs) ys = cases (p x) (λ h. rw h (all_append p xs ys)) (λ h. rw h)

  -- all that pass p pass q
  pub all_filter : (p q : A → Bool) (xs : List A) → all q (filter p xs) ≡ all (λ x. not (p x) || q x) xs
  all_filter p q [] = refl
  all_filter p q (x ∷ xs) = cases (p x) (λ h. rw (h, all_filter p q xs)) (λ h. rw (h, all_filter p q xs))

  pub any_append : (p : A → Bool) (xs ys : List A) → any p (xs ++ ys) ≡ (any p xs || any p ys)
  any_append p [] ys = refl
  any_append p (x ∷ xs) ys = cases (p x) (λ h. rw h) (λ h. rw h (any_append p xs ys))

  pub any-middle : (p : A → Bool) (y : A) (xs ys : List A) → (p y || any p (xs ++ ys)) ≡ any p (xs ++ (y ∷ ys))
  any-middle p y [] ys = refl
  any-middle p y (x ∷ xs) ys = cases (p x) (λ h. cases (p y) (λ g. rw (h, g)) (λ g. rw (h, g))) (λ h. rw h (any-middle p y xs ys))

  pub any_each : (p q : A → Bool) (xs : List A) → Each (λ x. p x ≡ q x) xs → any p xs ≡ any q xs
  any_each p q [] e = refl
  any_each p q (x ∷ xs) e = rw (e.0, any_each p q xs e.1)

  -- ---- sums
  pub sum-append : (f : A → ℕ) (xs ys : List A) → sum f (xs ++ ys) ≡ sum f xs + sum f ys
  sum-append f [] ys = omega arith
  sum-append f (x ∷ xs) ys = omega (arith, sum-append f xs ys)

  pub sum_each : (f g : A → ℕ) (xs : List A) → Each (λ x. f x ≡ g x) xs → sum f xs ≡ sum g xs
  sum_each f g [] e = refl
  sum_each f g (x ∷ xs) e = rw (e.0, sum_each f g xs e.1)

  pub sum-const : (n : ℕ) (xs : List A) → sum (λ x. n) xs ≡ length xs * n
  sum-const n [] = sym (zero-mul n)
  sum-const n (x ∷ xs) = omega (arith, sum-const n xs, suc-mul (length xs) n)

  pub sum_one : (xs : List A) → sum (λ x. 1) xs ≡ length xs
  sum_one [] = refl
  sum_one (x ∷ xs) = omega (arith, sum_one xs)

  -- how many pass a test, as a sum
  pub length-filter-sum : (q : A → Bool) (xs : List A) → length (filter q xs) ≡ sum (λ x. one_if (q x)) xs
  length-filter-sum q [] = refl
  length-filter-sum q (x ∷ xs) = cases (q x) (λ h. rw h (omega (arith, length-filter-sum q xs))) (λ h. rw h (omega (arith, length-filter-sum q xs)))

  pub any_sum : (q : A → Bool) (xs : List A) → any q xs ≡ not (eqb (sum (λ x. one_if (q x)) xs) 0)
  any_sum q [] = refl
  any_sum q (x ∷ xs) =
      cases (q x) (λ h. rw h (ap not (sym (ne_eqb (1 + sum (λ x. one_if (q x)) xs) 0 (λ e. omega arith)))))
      (λ h. rw h (any_sum q xs ∙ ap (λ n. not (eqb n 0)) (sym (zero-add (sum (λ x. one_if (q x)) xs)))))

  -- what adds nothing may be left out
  pub sum-filter : (f : A → ℕ) (q : A → Bool) → ((x : A) → q x ≡ false → f x ≡ 0) → (xs : List A) → sum f xs ≡ sum f (filter q xs)
  sum-filter f q z [] = refl
  sum-filter f q z (x ∷ xs) = cases (q x) (λ h. rw (h, sum-filter f q z xs)) (λ h. rw h (omega (arith, z x h, sum-filter f q z xs)))

  -- ---- empty and not
  pub non_empty-append : (xs ys : List A) → non_empty (xs ++ ys) ≡ (non_empty xs || non_empty ys)
  non_empty-append [] ys = refl
  non_empty-append (x ∷ xs) ys = refl

  pub non_empty-filter : (p : A → Bool) (xs : List A) → non_empty (filter p xs) ≡ any p xs
  non_empty-filter p [] = refl
  non_empty-filter p (x ∷ xs) = cases (p x) (λ h. rw h) (λ h. rw h (non_empty-filter p xs))

  pub any-const : (b : Bool) (xs : List A) → any (λ x. b) xs ≡ (b && non_empty xs)
  any-const true [] = refl
  any-const false [] = refl
  any-const true (x ∷ xs) = refl
  any-const false (x ∷ xs) = any-const false xs

  pub empty-nil : (xs : List A) → non_empty xs ≡ false → xs ≡ []
  empty-nil [] h = refl
  empty-nil (x ∷ xs) h = cc

  pub non_empty_not-nil : (xs : List A) → non_empty xs ≡ true → xs ≡ [] → ⊥
  non_empty_not-nil xs h e = let z : ◌≡◌ {A = ℕ} 0 1 = cc (ap non_empty e) in omega arith

  pub length-zero : (xs : List A) → length xs ≡ 0 → xs ≡ []
  length-zero [] e = refl
  length-zero (x ∷ xs) e = absurd (omega arith)

  -- no element passes
  pub filter_none : (p : A → Bool) (xs : List A) → length (filter p xs) ≡ 0 → any p xs ≡ false
  filter_none p xs e = sym (non_empty-filter p xs) ∙ ap non_empty (length-zero (filter p xs) e)

  pub none_filtered : (p : A → Bool) (xs : List A) → any p xs ≡ false → length (filter p xs) ≡ 0
  none_filtered p xs e = ap length (empty-nil (filter p xs) (non_empty-filter p xs ∙ e))

  -- how many pass on both sides of one that passes
  pub length-filter-middle : (p : A → Bool) (y : A) (xs ys : List A) → p y ≡ true → length (filter p (xs ++ (y ∷ ys))) ≡ length (filter p xs) + suc (length (filter p ys))
  length-filter-middle p y xs ys h = ap length (filter-append p xs (y ∷ ys)) ∙ rw h (length-append (filter p xs) (y ∷ filter p ys))

module _ {A B : Type 0} where
  pub Each-of-map : (P : B → Type 0) (f : A → B) (xs : List A) → Each (λ x. P (f x)) xs → Each P (map f xs)
  Each-of-map P f [] e = tt
  Each-of-map P f (x ∷ xs) e = (e.0, Each-of-map P f xs e.1)

  pub Each-unmap : (P : B → Type 0) (f : A → B) (xs : List A) → Each P (map f xs) → Each (λ x. P (f x)) xs
  Each-unmap P f [] e = tt
  Each-unmap P f (x ∷ xs) e = (e.0, Each-unmap P f xs e.1)

  pub filter_map : (p : B → Bool) (f : A → B) (xs : List A) → filter p (map f xs) ≡ map f (filter (λ x. p (f x)) xs)
  filter_map p f [] = refl
  filter_map p f (x ∷ xs) = cases (p (f x)) (λ h. rw (h, filter_map p f xs)) (λ h. rw (h, filter_map p f xs))

  pub any-map : (q : B → Bool) (f : A → B) (xs : List A) → any q (map f xs) ≡ any (λ x. q (f x)) xs
  any-map q f [] = refl
  any-map q f (x ∷ xs) = ap (λ b. q (f x) || b) (any-map q f xs)

  pub several-alike : (xs : List A) (ys : List B) → length xs ≡ length ys → several xs ≡ several ys
  several-alike [] [] e = refl
  several-alike [] (y ∷ ys) e = absurd (omega (arith, e))
  several-alike (x ∷ xs) [] e = absurd (omega (arith, e))
  several-alike (x ∷ []) (y ∷ []) e = refl
  several-alike (x ∷ []) (y ∷ u ∷ ys) e = absurd (omega (arith, e))
  several-alike (x ∷ z ∷ xs) (y ∷ []) e = absurd (omega (arith, e))
  several-alike (x ∷ z ∷ xs) (y ∷ u ∷ ys) e = refl

  pub all_map : (q : B → Bool) (f : A → B) (xs : List A) → all q (map f xs) ≡ all (λ x. q (f x)) xs
  all_map q f [] = refl
  all_map q f (x ∷ xs) = ap (λ b. q (f x) && b) (all_map q f xs)

  pub sum-map : (g : B → ℕ) (f : A → B) (xs : List A) → sum g (map f xs) ≡ sum (λ x. g (f x)) xs
  sum-map g f [] = refl
  sum-map g f (x ∷ xs) = ap (λ n. g (f x) + n) (sum-map g f xs)

  pub non_empty-map : (f : A → B) (xs : List A) → non_empty (map f xs) ≡ non_empty xs
  non_empty-map f [] = refl
  non_empty-map f (x ∷ xs) = refl

  pub map-only_if : (f : A → B) (b : Bool) (xs : List A) → map f (only_if b xs) ≡ only_if b (map f xs)
  map-only_if f true xs = refl
  map-only_if f false xs = refl

  pub map-cons_if : (f : A → B) (b : Bool) (x : A) (xs : List A) → map f (cons_if b x xs) ≡ cons_if b (f x) (map f xs)
  map-cons_if f true x xs = refl
  map-cons_if f false x xs = refl

  pub map_each : (f g : A → B) (xs : List A) → Each (λ x. f x ≡ g x) xs → map f xs ≡ map g xs
  map_each f g [] e = refl
  map_each f g (x ∷ xs) e = rw (e.0, map_each f g xs e.1)

  -- ---- concat_map
  pub concat_map-append : (f : A → List B) (xs ys : List A) → concat_map f (xs ++ ys) ≡ concat_map f xs ++ concat_map f ys
  concat_map-append f [] ys = refl
  concat_map-append f (x ∷ xs) ys = rw (concat_map-append f xs ys) (sym (append_assoc (f x) (concat_map f xs) (concat_map f ys)))

  pub concat_map_each : (f g : A → List B) (xs : List A) → Each (λ x. f x ≡ g x) xs → concat_map f xs ≡ concat_map g xs
  concat_map_each f g [] e = refl
  concat_map_each f g (x ∷ xs) e = rw (e.0, concat_map_each f g xs e.1)

  pub Each-concat_map : (P : B → Type 0) (f : A → List B) (xs : List A) → Each (λ x. Each P (f x)) xs → Each P (concat_map f xs)
  Each-concat_map P f [] e = tt
  Each-concat_map P f (x ∷ xs) e = Each-append P (f x) (concat_map f xs) e.0 (Each-concat_map P f xs e.1)

  pub Each-unconcat : (P : B → Type 0) (f : A → List B) (xs : List A) → Each P (concat_map f xs) → Each (λ x. Each P (f x)) xs
  Each-unconcat P f [] e = tt
  Each-unconcat P f (x ∷ xs) e = let (a, b) = Each-split P (f x) (concat_map f xs) e in (a, Each-unconcat P f xs b)

  pub filter-concat_map : (p : B → Bool) (f : A → List B) (xs : List A) → filter p (concat_map f xs) ≡ concat_map (λ x. filter p (f x)) xs
  filter-concat_map p f [] = refl
  filter-concat_map p f (x ∷ xs) = filter-append p (f x) (concat_map f xs) ∙ rw (filter-concat_map p f xs)

  -- a test on the elements moves into what they give
  pub concat_map-filter : (p : A → Bool) (f : A → List B) (xs : List A) → concat_map f (filter p xs) ≡ concat_map (λ x. only_if (p x) (f x)) xs
  concat_map-filter p f [] = refl
  concat_map-filter p f (x ∷ xs) = cases (p x) (λ h. rw (h, concat_map-filter p f xs)) (λ h. rw (h, concat_map-filter p f xs))

  -- what gives nothing may be left out
  pub concat_map-skip : (f : A → List B) (q : A → Bool) → ((x : A) → q x ≡ false → f x ≡ []) → (xs : List A) → concat_map f xs ≡ concat_map f (filter q xs)
  concat_map-skip f q z [] = refl
  concat_map-skip f q z (x ∷ xs) = cases (q x) (λ h. rw (h, concat_map-skip f q z xs)) (λ h. rw (h, z x h) (concat_map-skip f q z xs))

  pub any-concat_map : (p : B → Bool) (f : A → List B) (xs : List A) → any p (concat_map f xs) ≡ any (λ x. any p (f x)) xs
  any-concat_map p f [] = refl
  any-concat_map p f (x ∷ xs) = any_append p (f x) (concat_map f xs) ∙ ap (λ b. any p (f x) || b) (any-concat_map p f xs)

  pub sum-concat_map : (g : B → ℕ) (f : A → List B) (xs : List A) → sum g (concat_map f xs) ≡ sum (λ x. sum g (f x)) xs
  sum-concat_map g f [] = refl
  sum-concat_map g f (x ∷ xs) = sum-append g (f x) (concat_map f xs) ∙ ap (λ n. sum g (f x) + n) (sum-concat_map g f xs)

  pub non_empty-concat_map : (f : A → List B) (xs : List A) → non_empty (concat_map f xs) ≡ any (λ x. non_empty (f x)) xs
  non_empty-concat_map f [] = refl
  non_empty-concat_map f (x ∷ xs) = non_empty-append (f x) (concat_map f xs) ∙ ap (λ b. non_empty (f x) || b) (non_empty-concat_map f xs)

  pub length-concat_map : (f : A → List B) (xs : List A) → length (concat_map f xs) ≡ sum (λ x. length (f x)) xs
  length-concat_map f [] = refl
  length-concat_map f (x ∷ xs) = length-append (f x) (concat_map f xs) ∙ rw (length-concat_map f xs)

  pub map-singleton : (f : A → B) (xs : List A) → map f xs ≡ concat_map (λ x. f x ∷ []) xs
  map-singleton f [] = refl
  map-singleton f (x ∷ xs) = rw (map-singleton f xs)

module _ {A B C : Type 0} where
  pub concat_map-concat_map : (g : B → List C) (f : A → List B) (xs : List A) → concat_map g (concat_map f xs) ≡ concat_map (λ x. concat_map g (f x)) xs
  concat_map-concat_map g f [] = refl
  concat_map-concat_map g f (x ∷ xs) = concat_map-append g (f x) (concat_map f xs) ∙ rw (concat_map-concat_map g f xs)

  pub concat_map-map : (g : B → List C) (f : A → B) (xs : List A) → concat_map g (map f xs) ≡ concat_map (λ x. g (f x)) xs
  concat_map-map g f [] = refl
  concat_map-map g f (x ∷ xs) = rw (concat_map-map g f xs)

  pub map-concat_map : (g : B → C) (f : A → List B) (xs : List A) → map g (concat_map f xs) ≡ concat_map (λ x. map g (f x)) xs
  map-concat_map g f [] = refl
  map-concat_map g f (x ∷ xs) = map-append g (f x) (concat_map f xs) ∙ rw (map-concat_map g f xs)

module _ {A : Type 0} where
  pub product-append : (f : A → ℕ) (xs ys : List A) → product f (xs ++ ys) ≡ product f xs * product f ys
  product-append f [] ys = omega arith
  product-append f (x ∷ xs) ys = ap (λ n. f x * n) (product-append f xs ys) ∙ sym (mul_assoc (f x) (product f xs) (product f ys))

  -- how many pairs pass a test that tests their halves
  pub count-pairs : (p q r : List A → Bool) (cs es : List (List A)) → Each (λ c. Each (λ e. p (c ++ e) ≡ (q c && r e)) es) cs
      → length (filter p (concat_map (λ c. map (λ e. c ++ e) es) cs)) ≡ length (filter q cs) * length (filter r es)
  count-pairs p q r [] es h = sym (zero-mul (length (filter r es)))
  count-pairs p q r (c ∷ cs) es h =
      let one : length (filter p (map (λ e. c ++ e) es)) ≡ length (filter (λ e. q c && r e) es)
      = ap length (filter_map p (λ e. c ++ e) es) ∙ length-map (filter (λ e. p (c ++ e)) es) (λ e. c ++ e) ∙ ap length (filter_each (λ e. p (c ++ e)) (λ e. q c && r e) es h.0) in
      ap length (filter-append p (map (λ e. c ++ e) es) (concat_map (λ c. map (λ e. c ++ e) es) cs))
      ∙ length-append (filter p (map (λ e. c ++ e) es)) (filter p (concat_map (λ c. map (λ e. c ++ e) es) cs))
      ∙ ap₂ (λ a b. a + b) one (count-pairs p q r cs es h.1)
      ∙ cases (q c) (λ g. rw g (omega (arith, suc-mul (length (filter q cs)) (length (filter r es))))) (λ g. rw g (ap (λ n. length n + length (filter q cs) * length (filter r es)) (filter-false es) ∙ omega arith))

-- ---- equal lists of numbers
pub same-append : (a b c d : List ℕ) → length a ≡ length c → same (a ++ b) (c ++ d) ≡ (same a c && same b d)
same-append [] b [] d h = refl
same-append [] b (y ∷ c) d h = absurd (omega arith)
same-append (x ∷ a) b [] d h = absurd (omega arith)
same-append (x ∷ a) b (y ∷ c) d h = cases (eqb x y) (λ e. rw e (same-append a b c d (omega arith))) (λ e. rw e)

pub same_refl : (k : List ℕ) → same k k ≡ true
same_refl [] = refl
same_refl (x ∷ k) = rw (eq-eqb x x refl) (same_refl k)

pub same_true : (k x : List ℕ) → same k x ≡ true → k ≡ x
same_true [] [] e = refl
same_true [] (y ∷ x) e = cc
same_true (a ∷ k) [] e = cc
same_true (a ∷ k) (y ∷ x) e = cases (eqb a y) (λ h. cc (eqb-true a y h, same_true k x (rw h at e))) (λ h. cc (rw h at e))

-- two keys taken in the attributes that pass a test
pub same-filter : {A : Type 0} (f g : A → ℕ) (p : A → Bool) (xs : List A)
    → same (map f (filter p xs)) (map g (filter p xs)) ≡ all (λ a. not (p a) || eqb (f a) (g a)) xs
same-filter f g p [] = refl
same-filter f g p (x ∷ xs) = cases (p x) (λ h. rw (h, same-filter f g p xs)) (λ h. rw (h, same-filter f g p xs))
