-- Tables that hold a key.
use mathlib.Core.Path.{◌≡◌, refl, sym, ap, ◌∙◌}
use mathlib.Core.Bool.{Bool, true, false}
use mathlib.Core.List.{List}
use Prim.Native.Nat.{ℕ, ◌≤◌, ◌<◌}
use lib.ListN.{length, get_or}
use native.Mathlib.Omega.{arith}
use lib.Dec.{eqb, ltb}
use lib.Bits.{bit_and}
use borrow.Author.Tests.{lt-ltb, le-ltb, ltb-true, ltb-false}
use Rattle.theory.proofs.Cases.{cases, true-false}
use Rattle.std.specs.Prelude.{Option, None, Some, IsSome, is_some, not}
use Rattle.std.specs.List.{position, position_or_len}
use Rattle.std.proofs.lemmas.List.Quantifiers.{position-Some}
use Rattle.std.proofs.lemmas.List.Sums.{prefix_len_passes}
use Rattle.mending.specs.Hanging.{holds_key, held_by, HolderAt, FirstAt, FirstHolder}

module _ (masks : List ℕ) (key b : ℕ) where
  pub held-table : b < 16 → held_by masks key b ≡ holds_key key (get_or masks b 0)
  unfolding held_by
  held-table h = rw (lt-ltb b 16 h, held_by)

  pub held-mark : 16 ≤ b → held_by masks key b ≡ false
  unfolding held_by
  held-mark h = rw (le-ltb b 16 h, held_by)

  pub held_small : held_by masks key b ≡ true → b < 16
  held_small h = cases (ltb b 16) (λ e. ltb-true b 16 e) (λ e. absurd (true-false (held_by masks key b) h (held-mark (ltb-false b 16 e))))

  pub held-key : held_by masks key b ≡ true → holds_key key (get_or masks b 0) ≡ true
  held-key h = sym (held-table (held_small h)) ∙ h

  -- as the code tests it
  pub tested : (t : ℕ) → t ≡ b → b < 16 → eqb (bit_and key (get_or masks t 0)) key ≡ held_by masks key b
  tested t q h = ap (λ t. eqb (bit_and key (get_or masks t 0)) key) q ∙ (unfold holds_key in sym (held-table h))

module _ (masks s : List ℕ) (key j : ℕ) (b : Bool) (q : b ≡ held_by masks key (get_or s j 0)) where
  is-holder : b ≡ true → HolderAt masks key s j
  is-holder h = record { table = held_small masks key (get_or s j 0) (sym q ∙ h); holds = held-key masks key (get_or s j 0) (sym q ∙ h) }

  not-holder : b ≡ false → HolderAt masks key s j → ⊥
  not-holder h y = true-false (held_by masks key (get_or s j 0)) (held-table masks key (get_or s j 0) y.table ∙ y.holds) (sym q ∙ h)

-- where a search finds one, it is the first one
pub first_at : (masks s : List ℕ) (key j : ℕ) → position (held_by masks key) s ≡ Some j → FirstAt masks key s j
first_at masks s key j e =
    let (w, t, early) = position-Some (held_by masks key) s j 0 e in
    record { early = λ k h y. not-holder masks s key k false (sym (early k h)) refl y; there = is-holder masks s key j true (sym t) refl; within = w }

-- a list with a holder has a first one
pub holder_found : (masks s : List ℕ) (key k : ℕ) → k < length s → HolderAt masks key s k → IsSome (position (held_by masks key) s)
holder_found masks s key k h y =
    cases (ltb n (length s)) (λ g. rw g)
    (λ g. let d : length s ≤ n = ltb-false n (length s) g in
    let f : not (held_by masks key (get_or s k 0)) ≡ true = prefix_len_passes (λ b. not (held_by masks key b)) s k 0 (omega arith) in
    absurd (not-holder masks s key k false (falsely (held_by masks key (get_or s k 0)) f) refl y))
  where
    n : ℕ
    n = position_or_len (held_by masks key) s

    falsely : (b : Bool) → not b ≡ true → false ≡ b
    falsely true e = cc
    falsely false e = refl

-- what a search for the first one gives
pub first_found : (masks s : List ℕ) (key : ℕ) (r : Option ℕ) → r ≡ position (held_by masks key) s → FirstHolder masks key s r
first_found masks s key None e = λ k h y. true-false (is_some (position (held_by masks key) s)) (holder_found masks s key k h y) (sym (ap is_some e))
first_found masks s key (Some j) e = first_at masks s key j (sym e)

-- where there is a holder, there is a first one
pub first_some : (masks s : List ℕ) (key : ℕ) (r : Option ℕ) → FirstHolder masks key s r → (k : ℕ) → k < length s → HolderAt masks key s k → IsSome r
first_some masks s key None f k h y = absurd (f k h y)
first_some masks s key (Some j) f k h y = refl
