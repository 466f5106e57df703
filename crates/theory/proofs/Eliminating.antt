-- The repeated step in the request's words: the recursion hangs the lowest-numbered table that can hang under the lowest-numbered one
-- under which it can, and it is stuck where no table can.
use mathlib.Core.Path.{◌≡◌, refl, sym, ap, ◌∙◌, subst}
use mathlib.Core.Bool.{true, false}
use mathlib.Core.List.{List, [], ◌∷◌}
use mathlib.Core.Logic.{◌↔◌}
use mathlib.Core.Option.{none, some}
use Prim.Native.Nat.{ℕ, zero, suc, ◌-◌, ◌≤◌, ◌<◌}
use native.Mathlib.Omega.{arith}
use lib.ListN.{length}
use lib.Dec.{eqb, ltb}
use borrow.Author.Tests.{eqb-true, eq-eqb, ltb-true, ltb-false}
use Rattle.theory.specs.Elements.{Rising, member}
use Rattle.semantics.specs.Lists.{from, up_to}
use Rattle.semantics.specs.Shapes.{Shape}
use Rattle.semantics.specs.Elimination.{Hanging, rooted, stuck, without, lowest, next_of, hang_all, eliminate}
use Rattle.theory.specs.Details.{Ear, NextHung, Remains, start, hung, NoneHangs}
use Rattle.theory.proofs.Cases.{cases, option_cases, true-false, or_cases, or_left}
use Rattle.theory.proofs.Numbers.{length_from, rising_from}
use Rattle.theory.proofs.TableSets.{member_each}
use Rattle.theory.proofs.Hangings.{in_without, length_without, rising-without, step_ear, step_none, step-lowest}

-- of two numbers of which neither is below the other
pub neither : (x y : ℕ) → (x < y → ⊥) → (y < x → ⊥) → x ≡ y
neither x y f g = cases (ltb x y) (λ h. absurd (f (ltb-true x y h))) (λ h. cases (ltb y x) (λ k. absurd (g (ltb-true y x k))) (λ k. omega (arith, ltb-false x y h, ltb-false y x k)))

member-long : (x : ℕ) (xs : List ℕ) → member xs x ≡ true → 0 < length xs
member-long x [] m = absurd (true-false false m refl)
member-long x (y ∷ ys) m = omega arith

-- the lowest of rising numbers
lowest_of : (rs : List ℕ) → 0 < length rs → Rising rs → (member rs (lowest rs) ≡ true) × ((t : ℕ) → member rs t ≡ true → lowest rs ≤ t)
unfolding lowest
lowest_of [] l r = absurd (omega arith)
lowest_of (x ∷ xs) l r = (
  or_left (eqb x x) (member xs x) (eq-eqb x x refl),
  λ t m. or_cases (eqb t x) (member xs t) m (λ i. omega (arith, eqb-true t x i)) (λ i. omega (arith, member_each (λ y. x < y) xs t r.0 i)),
)

module _ (S : Shape) where
  -- the step hangs just the table that is to hang next
  pub next_exactly : (rs : List ℕ) (h : Hanging) → Rising rs → (next_of S rs rs ≡ some h) ↔ NextHung S rs h
  next_exactly rs h r = (
    λ e. let (f, g) = step-lowest S rs h r e in record { hangs = step_ear S rs h e; lowest_child = f; lowest_parent = g },
    λ x. option_cases (next_of S rs rs) (λ n. absurd (step_none S rs h.child h.parent n x.hangs))
        (λ k e.
        let (f, g) = step-lowest S rs k r e in
        let E = step_ear S rs k e in
        let c : k.child ≡ h.child = neither k.child h.child (λ l. x.lowest_child k.child k.parent l E) (λ l. f h.child h.parent l x.hangs) in
        let p : k.parent ≡ h.parent
        = neither k.parent h.parent (λ l. x.lowest_parent k.parent l (subst (λ y. Ear S (member rs) y k.parent) c E))
        (λ l. g h.parent l (subst (λ y. Ear S (member rs) y h.parent) (sym c) x.hangs)) in
        e ∙ ap some (λ i. record { child = c i; parent = p i })),
  )

  module _ (n : ℕ) where
    -- what remains stands in rising number, and the recursion goes on from there
    record RestRising (rs : List ℕ) (hs : List Hanging) : Type 0 where
      pub rising : Rising rs
      pub same : eliminate S n ≡ hang_all S (length rs - 1) rs hs

    within : (rs : List ℕ) (gs : List Hanging) → Remains S n rs gs → RestRising rs gs
    unfolding eliminate up_to
    within rs gs start = record { rising = rising_from 0 n; same = ap (λ k. hang_all S (k - 1) (from 0 n) []) (sym (length_from 0 n)) }
    within rs gs (hung {rest} {hs} {h} m x) =
        let w = within rest hs m in
        let E = x.hangs in
        let e = (next_exactly rest h w.rising).1 x in
        let long : length rest - 1 ≡ suc (length (without h.child rest) - 1)
        = omega (arith, length_without h.child rest w.rising E.inside, member-long h.parent (without h.child rest) (in_without h.child h.parent rest E.apart E.parent)) in
        record { rising = rising-without h.child rest w.rising; same = w.same ∙ ap (λ k. hang_all S k rest hs) long ∙ rw (e, hang_all) }

    -- ---- where it is stuck
    stuck_none-hangs : (m d : ℕ) (rs : List ℕ) (hs : List Hanging) → hang_all S m rs hs ≡ stuck d → length rs ≡ suc m → Rising rs → Remains S n rs hs → NoneHangs S n d
    stuck_none-hangs zero d rs hs e l r m = let z : ◌≡◌ {A = ℕ} 0 1 = cc in absurd (omega arith)
    stuck_none-hangs (suc m) d rs hs e l r q =
        option_cases (next_of S rs rs)
        (λ k.
        let z : lowest rs ≡ d = cc (rw (k, hang_all) at e) in
        let (there, least) = lowest_of rs (omega arith) r in
        record { rest = rs; hung = hs; remains = q; several = omega arith; none = λ t u E. step_none S rs t u k E; there = rw z at there; lowest = rw z at least })
        (λ h s.
        let x = (next_exactly rs h r).0 s in
        stuck_none-hangs m d (without h.child rs) (h ∷ hs) (rw (s, hang_all) at e) (omega (arith, length_without h.child rs r x.hangs.inside))
        (rising-without h.child rs r) (hung q x))

    none-hangs-stuck : (d : ℕ) → NoneHangs S n d → eliminate S n ≡ stuck d
    none-hangs-stuck d x =
        let rs = x.rest in
        let w = within rs x.hung x.remains in
        let (there, least) = lowest_of rs (omega (arith, x.several)) w.rising in
        let none : next_of S rs rs ≡ none = option_cases (next_of S rs rs) (λ e. e) (λ h e. absurd (x.none h.child h.parent (step_ear S rs h e))) in
        let long : length rs - 1 ≡ suc (length rs - 2) = omega (arith, x.several) in
        let same : lowest rs ≡ d = omega (arith, least d x.there, x.lowest (lowest rs) there) in
        w.same ∙ ap (λ k. hang_all S k rs x.hung) long ∙ rw (none, hang_all) (ap stuck same)

    pub stuck_exactly : (d : ℕ) → 0 < n → (eliminate S n ≡ stuck d) ↔ NoneHangs S n d
    unfolding eliminate up_to
    stuck_exactly d l = (
      λ e. stuck_none-hangs (n - 1) d (from 0 n) [] e (omega (arith, length_from 0 n)) (rising_from 0 n) start,
      none-hangs-stuck d,
    )

    -- ---- where it has a root
    rooted_remains : (m z : ℕ) (rs : List ℕ) (hs gs : List Hanging) → hang_all S m rs hs ≡ rooted z gs → length rs ≡ suc m → Rising rs → Remains S n rs hs → Remains S n (z ∷ []) gs
    unfolding lowest
    rooted_remains zero z [] hs gs e l r q = absurd (omega arith)
    rooted_remains zero z (x ∷ []) hs gs e l r q =
        let a : x ≡ z = cc in
        let b : hs ≡ gs = cc in
        subst (Remains S n (z ∷ [])) b (subst (λ y. Remains S n (y ∷ []) hs) a q)
    rooted_remains zero z (x ∷ (y ∷ rs)) hs gs e l r q = absurd (omega arith)
    rooted_remains (suc m) z rs hs gs e l r q =
        option_cases (next_of S rs rs) (λ k. let o : ◌≡◌ {A = ℕ} 0 1 = cc (rw (k, hang_all) at e) in absurd (omega arith))
        (λ h s.
        let x = (next_exactly rs h r).0 s in
        rooted_remains m z (without h.child rs) (h ∷ hs) gs (rw (s, hang_all) at e) (omega (arith, length_without h.child rs r x.hangs.inside))
        (rising-without h.child rs r) (hung q x))

    pub rooted_exactly : (z : ℕ) (hs : List Hanging) → 0 < n → (eliminate S n ≡ rooted z hs) ↔ Remains S n (z ∷ []) hs
    unfolding eliminate up_to lowest
    rooted_exactly z hs l = (
      λ e. rooted_remains (n - 1) z (from 0 n) [] hs e (omega (arith, length_from 0 n)) (rising_from 0 n) start,
      λ q. (within (z ∷ []) hs q).same,
    )
