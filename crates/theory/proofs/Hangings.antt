-- One step: what is hung is an ear of the remaining tables, and where nothing can be hung they have none.
use mathlib.Core.Path.{◌≡◌, refl, sym, ap, ◌∙◌}
use mathlib.Core.Bool.{Bool, true, false, not}
use mathlib.Core.List.{List, [], ◌∷◌}
use mathlib.Core.Option.{Option, none, some}
use Prim.Native.Nat.{ℕ, suc, ◌+◌, ◌<◌}
use native.Mathlib.Omega.{arith}
use lib.ListN.{length}
use lib.Dec.{eqb}
use borrow.Author.Tests.{eqb-true, eq-eqb, ne_eqb}
use Rattle.theory.specs.Elements.{Each, Rising, member}
use Rattle.semantics.specs.Lists.{any, all, first, sum}
use Rattle.semantics.specs.Shapes.{Shape}
use Rattle.theory.proofs.Cases.{cases, option_cases, and_left, and_right, true-false, or_left, or_right, or_cases}
use Rattle.theory.proofs.Lists.{sum_one}
use Rattle.theory.proofs.Numbers.{rising-filter}
use Rattle.theory.proofs.JoinTrees.{named-any}
use Rattle.theory.specs.Details.{Ear}
use Rattle.semantics.specs.Elimination.{Hanging, without, shared_in, shared_attributes, parent_of, next_of}
use Rattle.theory.proofs.TableSets.{decide, in_minus, out_minus, member-without, member_each}
use Rattle.theory.proofs.Attributes.{each-attribute, attribute_each}

-- ---- the first that passes
first_some : (p : ℕ → Bool) (xs : List ℕ) (x : ℕ) → first p xs ≡ some x → (member xs x ≡ true) × (p x ≡ true)
first_some p [] x e = let z : ◌≡◌ {A = ℕ} 0 1 = cc in absurd (omega arith)
first_some p (y ∷ ys) x e =
    cases (p y)
    (λ h. let q : y ≡ x = cc (rw (h, first) at e) in (or_left (eqb x y) (member ys x) (eq-eqb x y (sym q)), rw q at h))
    (λ h. let (m, k) = first_some p ys x (rw (h, first) at e) in (or_right (eqb x y) (member ys x) m, k))

first_none : (p : ℕ → Bool) (xs : List ℕ) (x : ℕ) → first p xs ≡ none → member xs x ≡ true → p x ≡ true → ⊥
first_none p [] x e m k = true-false false m refl
first_none p (y ∷ ys) x e m k =
    cases (p y) (λ h. let z : ◌≡◌ {A = ℕ} 0 1 = cc (rw (h, first) at e) in omega arith)
    (λ h. or_cases (eqb x y) (member ys x) m (λ i. true-false (p y) (rw (eqb-true x y i) at k) h) (λ i. first_none p ys x (rw (h, first) at e) i k))

-- of rising ones it is the lowest
first-lowest : (p : ℕ → Bool) (xs : List ℕ) (x y : ℕ) → Rising xs → first p xs ≡ some x → y < x → member xs y ≡ true → p y ≡ true → ⊥
first-lowest p [] x y r e l m k = let z : ◌≡◌ {A = ℕ} 0 1 = cc in omega arith
first-lowest p (z ∷ zs) x y r e l m k =
    cases (p z)
    (λ h.
    let q : z ≡ x = cc (rw (h, first) at e) in
    or_cases (eqb y z) (member zs y) m (λ i. omega (arith, eqb-true y z i)) (λ i. omega (arith, member_each (λ w. z < w) zs y r.0 i)))
    (λ h. or_cases (eqb y z) (member zs y) m (λ i. true-false (p z) (rw (eqb-true y z i) at k) h) (λ i. first-lowest p zs x y r.1 (rw (h, first) at e) l i k))

any_find : (q : ℕ → Bool) (xs : List ℕ) → any q xs ≡ true → (u : ℕ) × (member xs u ≡ true) × (q u ≡ true)
any_find q [] h = absurd (true-false false h refl)
any_find q (x ∷ xs) h =
    or_cases (q x) (any q xs) h (λ k. (x, or_left (eqb x x) (member xs x) (eq-eqb x x refl), k))
    (λ k. let (u, m, i) = any_find q xs k in (u, or_right (eqb u x) (member xs u) m, i))

-- ---- the tables but one
pub in_without : (t u : ℕ) (rs : List ℕ) → (u ≡ t → ⊥) → member rs u ≡ true → member (without t rs) u ≡ true
in_without t u rs d m = ap (λ M. M u) (member-without t rs) ∙ in_minus (member rs) t u d m

pub out-without : (t u : ℕ) (rs : List ℕ) → member (without t rs) u ≡ true → (u ≡ t → ⊥) × (member rs u ≡ true)
out-without t u rs m = out_minus (member rs) t u (sym (ap (λ M. M u) (member-without t rs)) ∙ m)

without_above : (t : ℕ) (xs : List ℕ) → Each (λ y. t < y) xs → without t xs ≡ xs
unfolding without
without_above t [] e = refl
without_above t (x ∷ xs) e = rw (ne_eqb x t (λ q. omega (arith, e.0))) (ap (λ l. x ∷ l) (without_above t xs e.1))

pub sum-without : (g : ℕ → ℕ) (t : ℕ) (rs : List ℕ) → Rising rs → member rs t ≡ true → sum g rs ≡ g t + sum g (without t rs)
unfolding without
sum-without g t [] r m = absurd (true-false false m refl)
sum-without g t (x ∷ xs) r m =
    decide x t (λ q. rw (eq-eqb x t q) (rw q (ap (λ l. g t + sum g l) (sym (without_above t xs (rw q at r.0))))))
    (λ d. rw (ne_eqb x t d) (omega (arith, sum-without g t xs r.1 (or_cases (eqb t x) (member xs t) m (λ i. absurd (d (sym (eqb-true t x i)))) (λ i. i)))))

pub length_without : (t : ℕ) (rs : List ℕ) → Rising rs → member rs t ≡ true → length rs ≡ suc (length (without t rs))
length_without t rs r m = omega (arith, sum-without (λ x. 1) t rs r m, sum_one rs, sum_one (without t rs))

pub rising-without : (t : ℕ) (rs : List ℕ) → Rising rs → Rising (without t rs)
unfolding without
rising-without t rs r = rising-filter (λ u. not (eqb u t)) rs r

module _ (S : Shape) where
  -- ---- what t shares with other remaining tables
  shared_of : (rs : List ℕ) (t u a : ℕ) → S.has t a ≡ true → member rs u ≡ true → (u ≡ t → ⊥) → S.has u a ≡ true → shared_in S rs t a ≡ true
  unfolding shared_in
  shared_of rs t u a h m d k = rw h (named-any (λ u. S.has u a) u (without t rs) (in_without t u rs d m) k)

  shared_with : (rs : List ℕ) (t a : ℕ) → shared_in S rs t a ≡ true → (S.has t a ≡ true) × ((u : ℕ) × (member rs u ≡ true) × (u ≡ t → ⊥) × (S.has u a ≡ true))
  unfolding shared_in
  shared_with rs t a e =
      let (u, m, k) = any_find (λ u. S.has u a) (without t rs) (and_right (S.has t a) (any (λ u. S.has u a) (without t rs)) e) in
      let (d, j) = out-without t u rs m in
      (and_left (S.has t a) (any (λ u. S.has u a) (without t rs)) e, (u, j, d, k))

  -- its parent is an other remaining table that has all of it
  parent_ear : (rs : List ℕ) (t f : ℕ) → member rs t ≡ true → parent_of S rs t ≡ some f → Ear S (member rs) t f
  unfolding parent_of shared_attributes
  parent_ear rs t f m e =
      let (i, k) = first_some (λ u. all (S.has u) (shared_attributes S rs t)) (without t rs) f e in
      let (d, j) = out-without t f rs i in
      record { inside = m; parent = j; apart = d; covers = λ a u l h mu c g. each-attribute (shared_in S rs t) (S.has f) k a l (shared_of rs t u a h mu c g) }

  ear-covers : (rs : List ℕ) (t f : ℕ) → Ear S (member rs) t f → all (S.has f) (shared_attributes S rs t) ≡ true
  unfolding shared_attributes
  ear-covers rs t f E = attribute_each (shared_in S rs t) (S.has f) (λ a l h. let (x, (u, m, d, k)) = shared_with rs t a h in E.covers a u l x m d k)

  no-parent : (rs : List ℕ) (t f : ℕ) → parent_of S rs t ≡ none → Ear S (member rs) t f → ⊥
  unfolding parent_of
  no-parent rs t f e E =
      first_none (λ u. all (S.has u) (shared_attributes S rs t)) (without t rs) f e (in_without t f rs E.apart E.parent) (ear-covers rs t f E)

  lowest-parent : (rs : List ℕ) (t f u : ℕ) → Rising rs → parent_of S rs t ≡ some f → u < f → Ear S (member rs) t u → ⊥
  unfolding parent_of
  lowest-parent rs t f u r e l E =
      first-lowest (λ u. all (S.has u) (shared_attributes S rs t)) (without t rs) f u (rising-without t rs r) e l (in_without t u rs E.apart E.parent) (ear-covers rs t u E)

  next_some : (rs ts : List ℕ) (h : Hanging) → next_of S rs ts ≡ some h → (member ts h.child ≡ true) × (parent_of S rs h.child ≡ some h.parent)
  next_some rs [] h e = let z : ◌≡◌ {A = ℕ} 0 1 = cc in absurd (omega arith)
  next_some rs (t ∷ ts) h e =
      option_cases (parent_of S rs t)
      (λ n. let (m, k) = next_some rs ts h (rw (n, next_of) at e) in (or_right (eqb h.child t) (member ts h.child) m, k))
      (λ f s.
      let q : ◌≡◌ {A = Option Hanging} (some (record { child = t; parent = f })) (some h) = rw (s, next_of) at e in
      let i : ◌≡◌ {A = Hanging} (record { child = t; parent = f }) h = cc in
      let c : t ≡ h.child = ap (λ x. x.child) i in
      let p : f ≡ h.parent = ap (λ x. x.parent) i in
      (or_left (eqb h.child t) (member ts h.child) (eq-eqb h.child t (sym c)), ap (parent_of S rs) (sym c) ∙ s ∙ ap some p))

  next_none : (rs ts : List ℕ) (t : ℕ) → next_of S rs ts ≡ none → member ts t ≡ true → parent_of S rs t ≡ none
  next_none rs [] t e m = absurd (true-false false m refl)
  next_none rs (x ∷ ts) t e m =
      option_cases (parent_of S rs x)
      (λ n. or_cases (eqb t x) (member ts t) m (λ i. ap (parent_of S rs) (eqb-true t x i) ∙ n) (λ i. next_none rs ts t (rw (n, next_of) at e) i))
      (λ f s. let z : ◌≡◌ {A = ℕ} 0 1 = cc (rw (s, next_of) at e) in absurd (omega arith))

  next-lowest : (rs ts : List ℕ) (h : Hanging) (t : ℕ) → Rising ts → next_of S rs ts ≡ some h → t < h.child → member ts t ≡ true → parent_of S rs t ≡ none
  next-lowest rs [] h t r e l m = absurd (true-false false m refl)
  next-lowest rs (x ∷ ts) h t r e l m =
      option_cases (parent_of S rs x)
      (λ n. or_cases (eqb t x) (member ts t) m (λ i. ap (parent_of S rs) (eqb-true t x i) ∙ n) (λ i. next-lowest rs ts h t r.1 (rw (n, next_of) at e) l i))
      (λ f s.
      let q : ◌≡◌ {A = Option Hanging} (some (record { child = x; parent = f })) (some h) = rw (s, next_of) at e in
      let i : ◌≡◌ {A = Hanging} (record { child = x; parent = f }) h = cc in
      let c : x ≡ h.child = ap (λ y. y.child) i in
      absurd (or_cases (eqb t x) (member ts t) m (λ i. omega (arith, eqb-true t x i)) (λ i. omega (arith, member_each (λ w. x < w) ts t r.0 i))))

  -- what the step hangs is an ear of what remains
  pub step_ear : (rs : List ℕ) (h : Hanging) → next_of S rs rs ≡ some h → Ear S (member rs) h.child h.parent
  step_ear rs h e = let (m, k) = next_some rs rs h e in parent_ear rs h.child h.parent m k

  -- where it hangs nothing there is no ear
  pub step_none : (rs : List ℕ) (e f : ℕ) → next_of S rs rs ≡ none → Ear S (member rs) e f → ⊥
  step_none rs e f n E = no-parent rs e f (next_none rs rs e n E.inside) E

  -- what it hangs is the lowest-numbered one, under the lowest-numbered one
  pub step-lowest : (rs : List ℕ) (h : Hanging) → Rising rs → next_of S rs rs ≡ some h
      → ((t u : ℕ) → t < h.child → Ear S (member rs) t u → ⊥) × ((u : ℕ) → u < h.parent → Ear S (member rs) h.child u → ⊥)
  step-lowest rs h r e = (
    λ t u l E. no-parent rs t u (next-lowest rs rs h t r e l E.inside) E,
    λ u l E. lowest-parent rs h.child h.parent u r (next_some rs rs h e).1 l E,
  )
