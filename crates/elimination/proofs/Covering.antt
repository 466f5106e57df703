-- One turn of each search.
use mathlib.Core.Path.{◌≡◌, refl, sym, ap, ap₂, ◌∙◌, fun_ext}
use mathlib.Core.Bool.{Bool, true, false, ◌&&◌, not}
use mathlib.Core.List.{List, [], ◌∷◌, ◌++◌, append-nil}
use mathlib.Core.Option.{Option as Maybe, none, some}
use Rattle.std.specs.Prelude.{Option, Some, None}
use Prim.Native.Nat.{ℕ, suc, ◌+◌, ◌-◌, ◌<◌, ◌≤◌, zero-le}
use native.Mathlib.Omega.{arith}
use native.Mathlib.Numerals.{add-one}
use lib.ListN.{get_or}
use lib.Dec.{eqb}
use lib.Bits.{bit_and, bit_or, and_le_l}
use borrow.Author.Tests.{eqb-false, eq-eqb, ne_eqb}
use Rattle.theory.specs.Elements.{Each}
use Rattle.semantics.specs.Lists.{any, all, filter, first, cons_if, from}
use Rattle.semantics.specs.Files.{has_bit}
use Rattle.semantics.specs.Shapes.{Shape, attributes}
use Rattle.theory.proofs.Cases.{cases}
use Rattle.theory.proofs.Lists.{filter-append, any_each, Each-map, Each-filter}
use Rattle.theory.proofs.Numbers.{filter_last, from-lt}
use Rattle.words.proofs.Masks.{no-attribute, has_bit_and, union_more, covers}
use Rattle.words.specs.Masks.{Masked}
use Rattle.semantics.specs.Elimination.{without, shared_in, shared_attributes, parent_of, next_of}
use Rattle.elimination.specs.Parents.{remaining, OthersHave, first_covering, parent_found, Gathered, Uncovered}
use Rattle.elimination.specs.Steps.{next_found, Unhung}

-- the numbers from u on
pub from_next : (u n : ℕ) → u < n → from u (n - u) ≡ u ∷ from (u + 1) (n - (u + 1))
from_next u n h =
    let e : n - u ≡ suc (n - (u + 1)) = omega arith in
    ap (from u) e ∙ ap (λ i. u ∷ from i (n - (u + 1))) (sym (add-one u))

pub from_none : (u n : ℕ) → n ≤ u → from u (n - u) ≡ []
from_none u n h = let e : n - u ≡ 0 = omega arith in ap (from u) e

-- ---- one table more
module _ (masks : List ℕ) (flags : List Bool) (t : ℕ) where
  others_next : (u : ℕ) → without t (remaining (u + 1) flags) ≡ without t (remaining u flags) ++ without t (cons_if (get_or flags u false) u [])
  unfolding without
  others_next u = ap (without t) (filter_last (λ t. get_or flags t false) u) ∙ filter-append (λ v. not (eqb v t)) (remaining u flags) (cons_if (get_or flags u false) u [])

  -- a table that is gone, or t itself; and another
  others_same : (u : ℕ) → (get_or flags u false ≡ true → u ≡ t) → without t (remaining (u + 1) flags) ≡ without t (remaining u flags)
  unfolding without
  others_same u f =
      others_next u
      ∙ cases (get_or flags u false) (λ h. rw (h, eq-eqb u t (f h)) (append-nil (without t (remaining u flags)))) (λ h. rw h (append-nil (without t (remaining u flags))))

  others_more : (u : ℕ) → get_or flags u false ≡ true → (u ≡ t → ⊥) → without t (remaining (u + 1) flags) ≡ without t (remaining u flags) ++ (u ∷ [])
  unfolding without
  others_more u f d = others_next u ∙ rw (f, ne_eqb u t d)

  -- the first that covers, of the tables from u on
  module _ (n m : ℕ) where
    abbrev ahead : ℕ → Maybe ℕ
    ahead u = first_covering masks (filter (λ v. get_or flags v false) (from u (n - u))) t m

    ahead_next : (u : ℕ) → u < n → ahead u ≡ first_covering masks (cons_if (get_or flags u false) u (filter (λ v. get_or flags v false) (from (u + 1) (n - (u + 1))))) t m
    ahead_next u h = ap (λ l. first_covering masks (filter (λ v. get_or flags v false) l) t m) (from_next u n h)

-- ---- the attributes of the others
module _ {masks : List ℕ} {flags : List Bool} {n t : ℕ} where
  pub gathered-begun : Gathered masks flags n t 0 0
  unfolding without
  gathered-begun = record { within = zero-le; attributes = λ a. no-attribute a }

  pub gathered_gone : {u have : ℕ} → Gathered masks flags n t u have → u < n → (get_or flags u false ≡ true → u ≡ t) → Gathered masks flags n t (u + 1) have
  gathered_gone {u} {have} g l f =
      record { within = omega arith; attributes = λ a. g.attributes a ∙ ap (any (λ v. has_bit (get_or masks v 0) a)) (sym (others_same masks flags t u f)) }

  pub gathered_more : {u have : ℕ} → Gathered masks flags n t u have → u < n → get_or flags u false ≡ true → (u ≡ t → ⊥) → Gathered masks flags n t (u + 1) (bit_or have (get_or masks u 0))
  gathered_more {u} {have} g l f d =
      record {
        within = omega arith;
        attributes = λ a. union_more (λ v. get_or masks v 0) (without t (remaining u flags)) u have a (g.attributes a)
            ∙ ap (any (λ v. has_bit (get_or masks v 0) a)) (sym (others_more masks flags t u f d));
      }

  -- ---- the first that covers
  module _ {m : ℕ} where
    pub uncovered_all : {u : ℕ} → Uncovered masks flags n t m u → n ≤ u → parent_found (first_covering masks (remaining n flags) t m) ≡ parent_found none
    unfolding without
    uncovered_all {u} g h = ap parent_found (g.ahead ∙ ap (λ l. first_covering masks (filter (λ v. get_or flags v false) l) t m) (from_none u n h))

    pub uncovered_more : {u : ℕ} → Uncovered masks flags n t m u → u < n → (get_or flags u false ≡ true → (u ≡ t → ⊥) → bit_and m (get_or masks u 0) ≡ m → ⊥) → Uncovered masks flags n t m (u + 1)
    unfolding without
    uncovered_more {u} g h f =
        record {
          within = omega arith;
          ahead = g.ahead ∙ ahead_next masks flags t n m u h
              ∙ cases (get_or flags u false)
              (λ i. rw i (cases (eqb u t) (λ e. rw e) (λ e. rw (e, ne_eqb (bit_and m (get_or masks u 0)) m (f i (eqb-false u t e)), first))))
              (λ i. rw i);
        }

    pub covered_here : {u : ℕ} → Uncovered masks flags n t m u → u < n → get_or flags u false ≡ true → (u ≡ t → ⊥) → bit_and m (get_or masks u 0) ≡ m → parent_found (first_covering masks (remaining n flags) t m) ≡ parent_found (some u)
    unfolding without
    covered_here {u} g h f d e =
        let here : first_covering masks (cons_if (get_or flags u false) u (filter (λ v. get_or flags v false) (from (u + 1) (n - (u + 1))))) t m ≡ some u = rw (f, ne_eqb u t d, eq-eqb (bit_and m (get_or masks u 0)) m e, first) in
        ap parent_found (g.ahead ∙ ahead_next masks flags t n m u h ∙ here)

-- ---- the parent of a table
first_each : (p q : ℕ → Bool) (xs : List ℕ) → Each (λ x. p x ≡ q x) xs → first p xs ≡ first q xs
first_each p q [] e = refl
first_each p q (x ∷ xs) e = cases (q x) (λ h. rw (e.0, h, first)) (λ h. rw (e.0, h, first) (first_each p q xs e.1))

-- the test of masks is the test of shared attributes
pub parent_test : (masks : List ℕ) (flags : List Bool) (n t have : ℕ) (S : Shape) → Masked masks S → n ≤ 16 → t < 16 → OthersHave masks (remaining n flags) t have
    → parent_found (first_covering masks (remaining n flags) t (bit_and (get_or masks t 0) have)) ≡ parent_found (parent_of S (remaining n flags) t)
unfolding parent_of shared_attributes shared_in
parent_test masks flags n t have S M few h o =
    let rs = remaining n flags in
    let m = bit_and (get_or masks t 0) have in
    let ks = shared_attributes S rs t in
    let below : Each (λ u. u < 16) (without t rs)
    = unfold without in Each-filter (λ u. u < 16) (λ u. not (eqb u t)) rs (Each-filter (λ u. u < 16) (λ t. get_or flags t false) (from 0 n) (Each-map (λ y. (0 ≤ y) × (y < 0 + n)) (λ u. u < 16) (λ y l. omega arith) (from 0 n) (from-lt 0 n))) in
    let bits : (a : ℕ) → has_bit m a ≡ (S.has t a && any (λ u. S.has u a) (without t rs))
    = λ a. has_bit_and (get_or masks t 0) have a
    ∙ ap₂ (λ x y. x && y) (sym (M.bits t a h)) (o a ∙ any_each (λ u. has_bit (get_or masks u 0) a) (λ u. S.has u a) (without t rs) (Each-map (λ u. u < 16) (λ u. has_bit (get_or masks u 0) a ≡ S.has u a) (λ u l. sym (M.bits u a l)) (without t rs) below)) in
    let keys : filter (has_bit m) attributes ≡ ks = ap (λ f. filter f attributes) (fun_ext bits) in
    ap parent_found
    (first_each (λ u. eqb (bit_and m (get_or masks u 0)) m) (λ u. all (S.has u) ks) (without t rs)
    (Each-map (λ u. u < 16) (λ u. eqb (bit_and m (get_or masks u 0)) m ≡ all (S.has u) ks)
    (λ u l. covers m (get_or masks u 0) (omega (arith, and_le_l (get_or masks t 0) have, M.words t h)) ∙ ap₂ (λ f xs. all f xs) (fun_ext (λ a. sym (M.bits u a l))) keys)
    (without t rs) below))

-- ---- the table that hangs next
nowhere : (o : Maybe ℕ) → None ≡ parent_found o → o ≡ none
nowhere none e = refl
nowhere (some u) e = cc

under : (o : Maybe ℕ) (p : ℕ) → Some p ≡ parent_found o → o ≡ some p
under none p e = cc
under (some u) p e = cc

module _ {masks : List ℕ} {flags : List Bool} {n : ℕ} where
  pub unhung_gone : {t : ℕ} → Unhung masks flags n t → t < n → get_or flags t false ≡ false → Unhung masks flags n (t + 1)
  unhung_gone {t} g h f =
      record {
        within = omega arith;
        ahead = λ S M. g.ahead S M ∙ ap (λ l. next_of S (remaining n flags) (filter (λ v. get_or flags v false) l)) (from_next t n h) ∙ rw f;
      }

  pub unhung_more : {t : ℕ} → Unhung masks flags n t → t < n → get_or flags t false ≡ true → (r : Option ℕ) → ((S : Shape) → Masked masks S → r ≡ parent_found (parent_of S (remaining n flags) t)) → r ≡ None → Unhung masks flags n (t + 1)
  unhung_more {t} g h f r p q =
      record {
        within = omega arith;
        ahead = λ S M. g.ahead S M ∙ ap (λ l. next_of S (remaining n flags) (filter (λ v. get_or flags v false) l)) (from_next t n h) ∙ rw (f, nowhere (parent_of S (remaining n flags) t) (sym q ∙ p S M), next_of);
      }

  pub hung_here : {t : ℕ} (u : ℕ) → Unhung masks flags n t → t < n → get_or flags t false ≡ true → (r : Option ℕ) → ((S : Shape) → Masked masks S → r ≡ parent_found (parent_of S (remaining n flags) t)) → r ≡ Some u → (S : Shape) → Masked masks S
      → next_found (next_of S (remaining n flags) (remaining n flags)) ≡ next_found (some (record { child = t; parent = u }))
  hung_here {t} u g h f r p q S M =
      let here : next_of S (remaining n flags) (cons_if (get_or flags t false) t (filter (λ v. get_or flags v false) (from (t + 1) (n - (t + 1))))) ≡ some (record { child = t; parent = u }) = rw (f, under (parent_of S (remaining n flags) t) u (sym q ∙ p S M), next_of) in
      ap next_found (g.ahead S M ∙ ap (λ l. next_of S (remaining n flags) (filter (λ v. get_or flags v false) l)) (from_next t n h) ∙ here)
