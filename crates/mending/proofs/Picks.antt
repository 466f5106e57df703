-- The cheapest table so far.
use mathlib.Core.Path.{◌≡◌, refl, sym, ap, ◌∙◌}
use mathlib.Core.List.{List, [], ◌∷◌, ◌++◌}
use Prim.Native.Nat.{ℕ, ◌≤◌, ◌<◌}
use native.Mathlib.Omega.{arith}
use lib.ListN.{length, get_or}
use lib.Dec.{ltb}
use borrow.Author.Tests.{lt-ltb, le-ltb, ltb-true, ltb-false}
use Rattle.std.specs.Prelude.{Option, None, Some}
use Rattle.semantics.specs.Mending.{first_least}
use Rattle.theory.proofs.Cases.{cases}
use Rattle.mending.specs.Rooting.{better_of, Picked}
use Rattle.mending.specs.declared.rooting.Candidate.{Candidate}

-- ---- one table more
last_less : (f : ℕ → ℕ) (x : ℕ) (ys : List ℕ) (t : ℕ) → f t < f (first_least f x ys) → first_least f x (ys ++ (t ∷ [])) ≡ t
last_less f x [] t h = rw (lt-ltb (f t) (f x) h, first_least)
last_less f x (y ∷ ys) t h =
    cases (ltb (f y) (f x)) (λ g. rw (g, first_least) (last_less f y ys t (rw (g, first_least) at h))) (λ g. rw (g, first_least) (last_less f x ys t (rw (g, first_least) at h)))

last_more : (f : ℕ → ℕ) (x : ℕ) (ys : List ℕ) (t : ℕ) → f (first_least f x ys) ≤ f t → first_least f x (ys ++ (t ∷ [])) ≡ first_least f x ys
last_more f x [] t h = rw (le-ltb (f t) (f x) h, first_least)
last_more f x (y ∷ ys) t h =
    cases (ltb (f y) (f x)) (λ g. rw (g, first_least) (last_more f y ys t (rw (g, first_least) at h))) (λ g. rw (g, first_least) (last_more f x ys t (rw (g, first_least) at h)))

module _ (f : ℕ → ℕ) (s : List ℕ) (next : Candidate) (w : next.place < length s) (q : next.cost ≡ f (get_or s next.place 0)) where
  pub picked_more : (pick : Option Candidate) (xs : List ℕ) → Picked f s xs pick → Picked f s (xs ++ (get_or s next.place 0 ∷ [])) (Some (better_of pick next))
  picked_more None [] p = record { some = refl; within = w; root = refl; costs = q }
  picked_more None (x ∷ xs) p = cc
  picked_more (Some first) [] p = cc p.some
  picked_more (Some first) (x ∷ xs) p =
      let d : first.cost ≡ f (first_least f x xs) = p.costs in
      cases (ltb next.cost first.cost)
      (λ g.
      let g' : next.cost < first.cost = ltb-true next.cost first.cost g in
      let z : first_least f x (xs ++ (get_or s next.place 0 ∷ [])) ≡ get_or s next.place 0 = last_less f x xs (get_or s next.place 0) (omega arith) in
      rw (g, better_of) (record { some = refl; within = w; root = sym z; costs = q ∙ ap f (sym z) }))
      (λ g.
      let g' : first.cost ≤ next.cost = ltb-false next.cost first.cost g in
      let z : first_least f x (xs ++ (get_or s next.place 0 ∷ [])) ≡ first_least f x xs = last_more f x xs (get_or s next.place 0) (omega arith) in
      rw (g, better_of) (record { some = refl; within = p.within; root = p.root ∙ sym z; costs = d ∙ ap f (sym z) }))
