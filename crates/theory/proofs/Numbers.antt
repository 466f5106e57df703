-- Rising rows of numbers: `from`, `up_to` and `Rising`.
use mathlib.Core.Path.{◌≡◌, refl, ap, ◌∙◌, subst}
use mathlib.Core.Bool.{Bool, false, ◌&&◌, or-false}
use mathlib.Core.List.{List, [], ◌∷◌, ◌++◌, map, append-nil}
use Prim.Native.Nat.{ℕ, zero, suc, ◌+◌, ◌-◌, ◌≤◌, ◌<◌}
use native.Mathlib.Omega.{arith}
use native.Mathlib.Nat.{zero-add, add-zero}
use lib.ListN.{length, get_or, length-map}
use lib.Dec.{eqb}
use borrow.Author.Tests.{eqb-true, eqb-false, ne_eqb}
use Rattle.theory.specs.Elements.{one_if, Each, only_if, Rising}
use Rattle.semantics.specs.Lists.{any, sum, filter, cons_if, concat_map, from, up_to}
use Rattle.theory.proofs.Cases.{cases}
use Rattle.theory.proofs.Lists.{Each-map, Each-filter, filter-append, get_d_map}

pub length_from : (i n : ℕ) → length (from i n) ≡ n
length_from i zero = refl
length_from i (suc n) = ap suc (length_from (suc i) n)

pub length-map_from : {B : Type 0} (f : ℕ → B) (i n : ℕ) → length (map f (from i n)) ≡ n
length-map_from f i n = length-map (from i n) f ∙ length_from i n

pub length-up_to : (n : ℕ) → length (up_to n) ≡ n
unfolding up_to
length-up_to n = length_from 0 n

pub from-lt : (i n : ℕ) → Each (λ y. (i ≤ y) × (y < i + n)) (from i n)
from-lt i zero = tt
from-lt i (suc n) =
    (omega arith, Each-map (λ y. (suc i ≤ y) × (y < suc i + n)) (λ y. (i ≤ y) × (y < i + suc n)) (λ y h. omega arith) (from (suc i) n) (from-lt (suc i) n))

-- the number at a place, and what a function gives for it
pub get_d_from : (i n j : ℕ) → j < n → get_or (from i n) j 0 ≡ i + j
get_d_from i zero j h = absurd (omega arith)
get_d_from i (suc n) zero h = omega arith
get_d_from i (suc n) (suc j) h = get_d_from (suc i) n j (omega arith) ∙ omega arith

pub map_from : (f : ℕ → ℕ) (i n j : ℕ) → j < n → get_or (map f (from i n)) j 0 ≡ f (i + j)
map_from f i n j h = get_d_map f (from i n) j 0 (omega (arith, length_from i n)) ∙ ap f (get_d_from i n j h)

-- a row in two parts
pub from-split : (i n m : ℕ) → from i (n + m) ≡ from i n ++ from (i + n) m
from-split i zero m = rw (add-zero i, zero-add m)
from-split i (suc n) m =
    let e : suc n + m ≡ suc (n + m) = omega arith in
    let z : suc i + n ≡ i + suc n = omega arith in
    ap (from i) e ∙ ap (λ l. i ∷ l) (from-split (suc i) n m ∙ ap (λ j. from (suc i) n ++ from j m) z)

-- one number more
pub from_last : (i : ℕ) → from 0 (i + 1) ≡ from 0 i ++ (i ∷ [])
from_last i = from-split 0 i 1 ∙ ap (λ j. from 0 i ++ (j ∷ [])) (zero-add i)

pub filter_last : (q : ℕ → Bool) (i : ℕ) → filter q (from 0 (i + 1)) ≡ filter q (from 0 i) ++ filter q (i ∷ [])
filter_last q i = ap (filter q) (from_last i) ∙ filter-append q (from 0 i) (i ∷ [])

-- the numbers below n that pass a test, from i on: one more, none from n on, all from 0 on
pub passing_step : (q : ℕ → Bool) (i n : ℕ) → i < n → filter q (from i (n - i)) ≡ cons_if (q i) i (filter q (from (suc i) (n - suc i)))
passing_step q i n h = let e : n - i ≡ suc (n - suc i) = omega arith in rw e

pub passing_none : (q : ℕ → Bool) (i n : ℕ) → i ≡ n → filter q (from i (n - i)) ≡ []
passing_none q i n e = let z : n - i ≡ 0 = omega (arith, e) in rw z

pub passing_all : (q : ℕ → Bool) (n : ℕ) → filter q (from 0 (n - 0)) ≡ filter q (up_to n)
unfolding up_to
passing_all q n = let z : n - 0 ≡ n = omega arith in rw z

-- those from the next number on are above
pub passing_above : (q : ℕ → Bool) (i m : ℕ) → Each (λ x. i < x) (filter q (from (suc i) m))
passing_above q i m = Each-filter (λ x. i < x) q (from (suc i) m) (Each-map (λ x. (suc i ≤ x) × (x < suc i + m)) (λ x. i < x) (λ x h. omega arith) (from (suc i) m) (from-lt (suc i) m))

-- what each number of the row has, each number in its range has
pub from_at : (P : ℕ → Type 0) (i n a : ℕ) → Each P (from i n) → i ≤ a → a < i + n → P a
from_at P i zero a e h g = absurd (omega arith)
from_at P i (suc n) a e h g =
    cases (eqb i a) (λ q. subst P (eqb-true i a q) e.0) (λ q. let d : (i ≡ a → ⊥) = eqb-false i a q in from_at P (suc i) n a e.1 (omega arith) (omega arith))

pub sum_shift : (f : ℕ → ℕ) (i n : ℕ) → sum f (from (suc i) n) ≡ sum (λ j. f (suc j)) (from i n)
sum_shift f i zero = refl
sum_shift f i (suc n) = ap (λ k. f (suc i) + k) (sum_shift f (suc i) n)

-- the last number of the row apart
sum_last_from : (f : ℕ → ℕ) (i n : ℕ) → sum f (from i (suc n)) ≡ sum f (from i n) + f (i + n)
sum_last_from f i zero = rw (add-zero i) (omega arith)
sum_last_from f i (suc n) = let e : suc i + n ≡ i + suc n = omega arith in omega (arith, sum_last_from f (suc i) n, ap f e)

pub sum_last : (f : ℕ → ℕ) (n : ℕ) → sum f (from 0 (suc n)) ≡ sum f (from 0 n) + f n
sum_last f n = sum_last_from f 0 n ∙ ap (λ k. sum f (from 0 n) + f k) (zero-add n)

pub rising_from : (i n : ℕ) → Rising (from i n)
rising_from i zero = tt
rising_from i (suc n) = (Each-map (λ y. (suc i ≤ y) × (y < suc i + n)) (λ y. i < y) (λ y h. h.0) (from (suc i) n) (from-lt (suc i) n), rising_from (suc i) n)

pub rising-filter : (q : ℕ → Bool) (xs : List ℕ) → Rising xs → Rising (filter q xs)
rising-filter q [] r = tt
rising-filter q (x ∷ xs) r = cases (q x) (λ h. rw h (Each-filter (λ y. x < y) q xs r.0, rising-filter q xs r.1)) (λ h. rw h (rising-filter q xs r.1))

-- ---- one number of the row alone counts
any_below : (g : ℕ → Bool) (y i n : ℕ) → y < i → any (λ z. eqb z y && g z) (from i n) ≡ false
any_below g y i zero h = refl
any_below g y i (suc n) h = cases (eqb i y) (λ e. absurd (omega (arith, eqb-true i y e))) (λ e. rw e (any_below g y (suc i) n (omega arith)))

pub any_from : (g : ℕ → Bool) (y i n : ℕ) → i ≤ y → y < i + n → any (λ z. eqb z y && g z) (from i n) ≡ g y
any_from g y i zero a b = absurd (omega arith)
any_from g y i (suc n) a b =
    cases (eqb i y) (λ e. rw (e, any_below g y (suc i) n (omega (arith, eqb-true i y e)), eqb-true i y e) (or-false (g y)))
    (λ e. rw e (any_from g y (suc i) n (let ne : (i ≡ y → ⊥) = eqb-false i y e in omega arith) (omega arith)))

picked_none : {B : Type 0} (f : ℕ → List B) (y i n : ℕ) → y < i → concat_map (λ z. only_if (eqb z y) (f z)) (from i n) ≡ []
picked_none f y i zero h = refl
picked_none f y i (suc n) h = rw (ne_eqb i y (λ e. omega arith)) (picked_none f y (suc i) n (omega arith))

pub picked : {B : Type 0} (f : ℕ → List B) (y i n : ℕ) → i ≤ y → y < i + n → concat_map (λ z. only_if (eqb z y) (f z)) (from i n) ≡ f y
picked f y i zero a b = absurd (omega arith)
picked f y i (suc n) a b =
    cases (eqb i y) (λ e. rw (e, eqb-true i y e, picked_none f y (suc y) n (omega arith)) (append-nil (f y)))
    (λ e. let d : (i ≡ y → ⊥) = eqb-false i y e in rw e (picked f y (suc i) n (omega arith) (omega arith)))

sum_below : (t i n : ℕ) → t < i → sum (λ x. one_if (eqb t x)) (from i n) ≡ 0
sum_below t i zero h = refl
sum_below t i (suc n) h = rw (ne_eqb t i (λ e. omega arith)) (omega (arith, sum_below t (suc i) n (omega arith)))

pub sum_from_one : (t i n : ℕ) → i ≤ t → t < i + n → sum (λ x. one_if (eqb t x)) (from i n) ≡ 1
sum_from_one t i zero a b = absurd (omega arith)
sum_from_one t i (suc n) a b =
    cases (eqb t i) (λ e. rw e (omega (arith, sum_below t (suc i) n (omega (arith, eqb-true t i e)))))
    (λ e. let d : (t ≡ i → ⊥) = eqb-false t i e in rw e (omega (arith, sum_from_one t (suc i) n (omega arith) (omega arith))))

pub sum_at_most_one : (t i n : ℕ) → sum (λ x. one_if (eqb t x)) (from i n) ≤ 1
sum_at_most_one t i zero = omega arith
sum_at_most_one t i (suc n) =
    cases (eqb t i) (λ e. rw e (omega (arith, sum_below t (suc i) n (omega (arith, eqb-true t i e)))))
    (λ e. rw e (omega (arith, sum_at_most_one t (suc i) n)))

map_shift : {A : Type 0} (f : ℕ → A) (i n : ℕ) → map f (from (suc i) n) ≡ map (λ j. f (suc j)) (from i n)
map_shift f i zero = refl
map_shift f i (suc n) = ap (λ l. f (suc i) ∷ l) (map_shift f (suc i) n)

pub map_get_d : (xs : List ℕ) → map (λ t. get_or xs t 0) (from 0 (length xs)) ≡ xs
map_get_d [] = refl
map_get_d (x ∷ xs) = ap (λ l. x ∷ l) (map_shift (λ t. get_or (x ∷ xs) t 0) 0 (length xs) ∙ map_get_d xs)
