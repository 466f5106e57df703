-- The root is the last table: a set that can be reduced has two ears, so the lowest-numbered one is not the highest-numbered table.
use mathlib.Core.Path.{◌≡◌, refl, sym, ◌∙◌, subst}
use mathlib.Core.Bool.{Bool, true, false}
use mathlib.Core.List.{List, [], ◌∷◌}
use Prim.Native.Nat.{ℕ, zero, suc, ◌+◌, ◌-◌, ◌≤◌, ◌<◌, zero-le}
use native.Mathlib.Omega.{arith}
use lib.ListN.{length}
use lib.Dec.{eqb}
use borrow.Author.Tests.{eqb-true, eq-eqb}
use Rattle.theory.specs.Elements.{Rising, member}
use Rattle.semantics.specs.Lists.{from, up_to}
use Rattle.semantics.specs.Shapes.{Shape}
use Rattle.semantics.specs.Elimination.{Hanging, rooted, without, lowest, next_of, hang_all, eliminate}
use Rattle.theory.specs.Details.{Ear}
use Rattle.theory.proofs.Cases.{option_cases, true-false, or_left, or_right, or_cases}
use Rattle.theory.proofs.Numbers.{length_from, from-lt, rising_from}
use Rattle.theory.proofs.TableSets.{decide, minus, in_minus, out_minus, member-without, member_each}
use Rattle.theory.proofs.Ears.{ReducibleIn}
use Rattle.theory.proofs.Eliminating.{neither}
use Rattle.theory.proofs.Hangings.{in_without, out-without, length_without, rising-without, step_ear, step-lowest}

one-member : (x y : ℕ) → member (x ∷ []) y ≡ true → y ≡ x
one-member x y m = or_cases (eqb y x) false m (λ i. eqb-true y x i) (λ i. absurd (true-false false i refl))

member_from : (t i n : ℕ) → i ≤ t → t < i + n → member (from i n) t ≡ true
member_from t i zero l h = absurd (omega arith)
member_from t i (suc n) l h = decide t i (λ e. or_left (eqb t i) (member (from (suc i) n) t) (eq-eqb t i e)) (λ d. or_right (eqb t i) (member (from (suc i) n) t) (member_from t (suc i) n (omega arith) (omega arith)))

-- two ears of a set
record TwoEars (S : Shape) (M : ℕ → Bool) : Type 0 where
  pub one : ℕ
  pub other : ℕ
  pub apart : one ≡ other → ⊥
  pub parents : ℕ × ℕ
  pub ears : Ear S M one parents.0 × Ear S M other parents.1

module _ (S : Shape) where
  -- an ear of what is left without the ear e, which hangs under f, is an ear with e too, where it is not f
  ear_back : (M : ℕ → Bool) (e f g h : ℕ) → Ear S M e f → Ear S (minus M e) g h → (g ≡ f → ⊥) → Ear S M g h
  ear_back M e f g h E G d =
      let (ge, mg) = out_minus M e g G.inside in
      record {
        inside = mg;
        parent = (out_minus M e h G.parent).1;
        apart = G.apart;
        covers = λ a u l k m n i. decide u e
            (λ q. G.covers a f l k (in_minus M e f E.apart E.parent) (λ z. d (sym z)) (E.covers a g l (rw q at i) mg ge k))
            (λ q. G.covers a u l k (in_minus M e u q m) n i);
      }

  two_ears_there : (n : ℕ) (M : ℕ → Bool) → ReducibleIn S (suc n) M → TwoEars S M
  two_ears_there zero M (e, f, E, (z, only)) =
      let alone : (u : ℕ) → M u ≡ true → (u ≡ e → ⊥) → u ≡ f = λ u m d. only u (in_minus M e u d m) ∙ sym (only f (in_minus M e f E.apart E.parent)) in
      let F : Ear S M f e
      = record {
        inside = E.parent;
        parent = E.inside;
        apart = λ q. E.apart (sym q);
        covers = λ a u l k m n i. decide u e (λ q. rw q at i) (λ q. absurd (n (alone u m q)));
      } in
      record { one = e; other = f; apart = λ q. E.apart (sym q); parents = (f, e); ears = (E, F) }
  two_ears_there (suc n) M (e, f, E, R) =
      let t = two_ears_there n (minus M e) R in
      let found : (g h : ℕ) → Ear S (minus M e) g h → (g ≡ f → ⊥) → TwoEars S M
      = λ g h G d. record { one = e; other = g; apart = λ q. (out_minus M e g G.inside).0 (sym q); parents = (f, h); ears = (E, ear_back M e f g h E G d) } in
      decide t.one f
      (λ q. found t.other t.parents.1 t.ears.1 (λ z. t.apart (q ∙ sym z)))
      (λ d. found t.one t.parents.0 t.ears.0 d)

  -- the steps up to the root take out ears
  rooted_reducible : (m z : ℕ) (rs : List ℕ) (hs gs : List Hanging) → hang_all S m rs hs ≡ rooted z gs → length rs ≡ suc m → Rising rs → ReducibleIn S m (member rs)
  rooted_reducible zero z [] hs gs e l r = absurd (omega arith)
  rooted_reducible zero z (x ∷ []) hs gs e l r = (x, λ y m. one-member x y m)
  rooted_reducible zero z (x ∷ (y ∷ rs)) hs gs e l r = absurd (omega arith)
  rooted_reducible (suc m) z rs hs gs e l r =
      option_cases (next_of S rs rs) (λ k. let q : ◌≡◌ {A = ℕ} 0 1 = cc (rw (k, hang_all) at e) in absurd (omega arith))
      (λ h s.
      let E = step_ear S rs h s in
      let rest = rooted_reducible m z (without h.child rs) (h ∷ hs) gs (rw (s, hang_all) at e) (omega (arith, length_without h.child rs r E.inside)) (rising-without h.child rs r) in
      (h.child, h.parent, E, subst (ReducibleIn S m) (member-without h.child rs) rest))

  -- the highest-numbered table is never hung
  root_highest : (m z top : ℕ) (rs : List ℕ) (hs gs : List Hanging) → hang_all S m rs hs ≡ rooted z gs → length rs ≡ suc m → Rising rs
      → member rs top ≡ true → ((t : ℕ) → member rs t ≡ true → t ≤ top) → z ≡ top
  unfolding lowest
  root_highest zero z top [] hs gs e l r m f = absurd (omega arith)
  root_highest zero z top (x ∷ []) hs gs e l r m f = let q : x ≡ z = cc in sym q ∙ sym (one-member x top m)
  root_highest zero z top (x ∷ (y ∷ rs)) hs gs e l r m f = absurd (omega arith)
  root_highest (suc k) z top rs hs gs e l r m f =
      option_cases (next_of S rs rs) (λ k. let q : ◌≡◌ {A = ℕ} 0 1 = cc (rw (k, hang_all) at e) in absurd (omega arith))
      (λ h s.
      let E = step_ear S rs h s in
      let c = h.child in
      let low = (step-lowest S rs h r s).0 in
      let t = two_ears_there k (member rs) (rooted_reducible (suc k) z rs hs gs e l r) in
      let high : (g u : ℕ) → Ear S (member rs) g u → c ≡ top → g ≡ top = λ g u G q. neither g top (λ d. low g u (omega arith) G) (λ d. omega (arith, f g G.inside)) in
      let below : c ≡ top → ⊥ = λ q. t.apart (high t.one t.parents.0 t.ears.0 q ∙ sym (high t.other t.parents.1 t.ears.1 q)) in
      root_highest k z top (without c rs) (h ∷ hs) gs (rw (s, hang_all) at e) (omega (arith, length_without c rs r E.inside)) (rising-without c rs r)
      (in_without c top rs (λ q. below (sym q)) m) (λ t i. f t (out-without c t rs i).1))

  pub root_last : (n z : ℕ) (hs : List Hanging) → 0 < n → eliminate S n ≡ rooted z hs → z + 1 ≡ n
  unfolding eliminate up_to
  root_last n z hs l e =
      let below : (t : ℕ) → member (from 0 n) t ≡ true → t ≤ n - 1 = λ t m. omega (arith, (member_each (λ y. (0 ≤ y) × (y < 0 + n)) (from 0 n) t (from-lt 0 n) m).1) in
      let z_is : z ≡ n - 1 = root_highest (n - 1) z (n - 1) (from 0 n) [] hs e (omega (arith, length_from 0 n)) (rising_from 0 n) (member_from (n - 1) 0 n zero-le (omega arith)) below in
      omega arith
