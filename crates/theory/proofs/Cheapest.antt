-- Request U2, "the cheapest": one of the tables, no table costs less, and each one named before it costs more.
use mathlib.Core.Path.{◌≡◌, refl, sym, ap, subst, ◌∙◌}
use mathlib.Core.Bool.{true}
use mathlib.Core.List.{List, [], ◌∷◌, ◌++◌}
use Prim.Native.Nat.{ℕ, ◌≤◌, ◌<◌}
use native.Mathlib.Omega.{arith}
use lib.Dec.{ltb}
use borrow.Author.Tests.{ltb-true, ltb-false}
use Rattle.semantics.specs.Lists.{non_empty}
use Rattle.semantics.specs.Mending.{first_least, cheapest}
use Rattle.theory.specs.Elements.{Each}
use Rattle.theory.specs.Selections.{FirstCheapest}
use Rattle.theory.proofs.Cases.{cases}
use Rattle.theory.proofs.Lists.{each, Each-split}

first_least_each : (P : ℕ → Type 0) (f : ℕ → ℕ) (x : ℕ) (ys : List ℕ) → P x → Each P ys → P (first_least f x ys)
first_least_each P f x [] p e = p
first_least_each P f x (y ∷ ys) p e =
    cases (ltb (f y) (f x)) (λ h. rw (h, first_least) (first_least_each P f y ys e.0 e.1)) (λ h. rw (h, first_least) (first_least_each P f x ys p e.1))

-- it is one of the tables
pub cheapest_each : (P : ℕ → Type 0) (f : ℕ → ℕ) (xs : List ℕ) → non_empty xs ≡ true → Each P xs → P (cheapest f xs)
cheapest_each P f [] n e = let z : ◌≡◌ {A = ℕ} 0 1 = cc in absurd (omega arith)
cheapest_each P f (x ∷ xs) n e = first_least_each P f x xs e.0 e.1

-- what the first least of all is, if it is z
least-along : (f : ℕ → ℕ) (x y : ℕ) (ys : List ℕ) (z : ℕ) → first_least f x (y ∷ ys) ≡ z → f z ≤ f x → f z ≤ f y → Each (λ u. f z ≤ f u) ys
    → (f (first_least f x (y ∷ ys)) ≤ f x) × Each (λ u. f (first_least f x (y ∷ ys)) ≤ f u) (y ∷ ys)
least-along f x y ys z e a b c = subst (λ v. (f v ≤ f x) × Each (λ u. f v ≤ f u) (y ∷ ys)) (sym e) (a, (b, c))

first_least_least : (f : ℕ → ℕ) (x : ℕ) (ys : List ℕ) → (f (first_least f x ys) ≤ f x) × Each (λ y. f (first_least f x ys) ≤ f y) ys
first_least_least f x [] = (omega arith, tt)
first_least_least f x (y ∷ ys) =
    cases (ltb (f y) (f x))
    (λ h.
    let (a, b) = first_least_least f y ys in
    let g : f y < f x = ltb-true (f y) (f x) h in
    let e : first_least f x (y ∷ ys) ≡ first_least f y ys = rw (h, first_least) in
    least-along f x y ys (first_least f y ys) e (omega arith) a b)
    (λ h.
    let (a, b) = first_least_least f x ys in
    let g : f x ≤ f y = ltb-false (f y) (f x) h in
    let e : first_least f x (y ∷ ys) ≡ first_least f x ys = rw (h, first_least) in
    least-along f x y ys (first_least f x ys) e a (omega arith) b)

-- and none is cheaper
pub cheapest_least : (f : ℕ → ℕ) (xs : List ℕ) → Each (λ y. f (cheapest f xs) ≤ f y) xs
cheapest_least f [] = tt
cheapest_least f (x ∷ xs) = first_least_least f x xs

-- "ties go to the first named": the first table is chosen where none is cheaper
pub cheapest_first : (f : ℕ → ℕ) (x : ℕ) (xs : List ℕ) → Each (λ y. f x ≤ f y) xs → cheapest f (x ∷ xs) ≡ x
cheapest_first f x [] e = refl
cheapest_first f x (y ∷ ys) e =
    cases (ltb (f y) (f x)) (λ h. let g : f x ≤ f y = e.0 in absurd (omega (arith, ltb-true (f y) (f x) h))) (λ h. rw (h, first_least) (cheapest_first f x ys e.1))

pub cheapest-zero : (f : ℕ → ℕ) (x : ℕ) (xs : List ℕ) → f x ≡ 0 → cheapest f (x ∷ xs) ≡ x
cheapest-zero f x xs z = cheapest_first f x xs (each (λ y. f x ≤ f y) (λ y. omega arith) xs)

-- ---- all ties go to the first named
-- one more behind the first, which costs no less
placed : (f : ℕ → ℕ) (x y t : ℕ) (ys before behind : List ℕ) → f x ≤ f y → x ∷ ys ≡ before ++ (t ∷ behind) → Each (λ u. f t < f u) before → Each (λ u. f t ≤ f u) behind
    → FirstCheapest f (x ∷ (y ∷ ys)) t
placed f x y t ys [] behind h e d l =
    let q : x ≡ t = cc in
    let r : ys ≡ behind = cc in
    record { before = []; behind = y ∷ behind; named = cc (q, r); dearer = tt; least = (omega (arith, ap f q), l) }
placed f x y t ys (z ∷ before) behind h e d l =
    let q : x ≡ z = cc in
    let r : ys ≡ before ++ (t ∷ behind) = cc in
    record { before = x ∷ (y ∷ before); behind = behind; named = ap (λ k. x ∷ (y ∷ k)) r; dearer = (omega (arith, ap f q, d.0), (omega (arith, ap f q, d.0), d.1)); least = l }

first_least_first : (f : ℕ → ℕ) (x : ℕ) (ys : List ℕ) → FirstCheapest f (x ∷ ys) (first_least f x ys)
first_least_first f x [] = record { before = []; behind = []; named = refl; dearer = tt; least = tt }
first_least_first f x (y ∷ ys) =
    cases (ltb (f y) (f x))
    (λ h.
    let c = first_least_first f y ys in
    let less : f (first_least f y ys) < f x = omega (arith, ltb-true (f y) (f x) h, (first_least_least f y ys).0) in
    rw (h, first_least) (record { before = x ∷ c.before; behind = c.behind; named = ap (λ k. x ∷ k) c.named; dearer = (less, c.dearer); least = c.least }))
    (λ h.
    let c = first_least_first f x ys in
    rw (h, first_least) (placed f x y (first_least f x ys) ys c.before c.behind (ltb-false (f y) (f x) h) c.named c.dearer c.least))

pub cheapest_ties : (f : ℕ → ℕ) (xs : List ℕ) → non_empty xs ≡ true → FirstCheapest f xs (cheapest f xs)
cheapest_ties f [] n = let z : ◌≡◌ {A = ℕ} 0 1 = cc in absurd (omega arith)
cheapest_ties f (x ∷ xs) n = first_least_first f x xs

-- there is no other such one
one_first : (f : ℕ → ℕ) (x y : ℕ) (a b c d : List ℕ) → a ++ (x ∷ b) ≡ c ++ (y ∷ d)
    → Each (λ u. f x < f u) a → Each (λ u. f x ≤ f u) b → Each (λ u. f y < f u) c → Each (λ u. f y ≤ f u) d → x ≡ y
one_first f x y [] b [] d e p q r s = cc
one_first f x y [] b (z ∷ c) d e p q r s =
    let i : x ≡ z = cc in
    let j : b ≡ c ++ (y ∷ d) = cc in
    absurd (omega (arith, ap f i, r.0, (Each-split (λ u. f x ≤ f u) c (y ∷ d) (rw j at q)).1.0))
one_first f x y (z ∷ a) b [] d e p q r s =
    let i : z ≡ y = cc in
    let j : d ≡ a ++ (x ∷ b) = cc in
    absurd (omega (arith, ap f i, p.0, (Each-split (λ u. f y ≤ f u) a (x ∷ b) (rw j at s)).1.0))
one_first f x y (z ∷ a) b (w ∷ c) d e p q r s = let j : a ++ (x ∷ b) ≡ c ++ (y ∷ d) = cc in one_first f x y a b c d j p.1 q r.1 s

pub first_unique : (f : ℕ → ℕ) (xs : List ℕ) (x y : ℕ) → FirstCheapest f xs x → FirstCheapest f xs y → x ≡ y
first_unique f xs x y a b = one_first f x y a.before a.behind b.before b.behind (sym a.named ∙ b.named) a.dearer a.least b.dearer b.least
