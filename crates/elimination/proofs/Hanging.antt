-- One turn of the hanging.
use mathlib.Core.Path.{◌≡◌, refl, sym, ap, ◌∙◌, subst}
use mathlib.Core.Bool.{Bool, true, false, ◌&&◌, ◌||◌, not, and-false, and-true, or-false}
use mathlib.Core.List.{List, [], ◌∷◌}
use mathlib.Core.Option.{Option as Maybe, none, some}
use Rattle.std.specs.Prelude.{Option, Some, None, Ok, Err, position, unwrap_or}
use Rattle.std.specs.Option.{option_eq}
use Rattle.std.specs.List.{position_from}
use Rattle.std.proofs.lemmas.Iterator.Adapters.{position_from-zero}
use Prim.Native.Nat.{ℕ, zero, suc, ◌+◌, ◌-◌, ◌<◌, ◌≤◌}
use native.Mathlib.Omega.{arith}
use native.Mathlib.Numerals.{add-one}
use lib.ListN.{length, get_or, set, replicate, take, drop, length-set, length-replicate, get_or-replicate}
use lib.Seq.{drop-cons, get_or-set_same, get_or-set_other}
use lib.Dec.{eqb}
use borrow.Author.Tests.{eq-eqb, ne_eqb}
use Rattle.theory.specs.Elements.{Each, member}
use Rattle.semantics.specs.Lists.{filter, from, up_to}
use Rattle.semantics.specs.Shapes.{Shape}
use Rattle.theory.proofs.Cases.{cases, true-false}
use Rattle.theory.proofs.Lists.{Each-map, Each-with, Each-filter, filter_passes, filter-filter, filter_each, filter-true, each}
use Rattle.theory.proofs.Numbers.{length_from, from-lt, rising_from, rising-filter}
use Rattle.words.specs.Masks.{Masked}
use Rattle.semantics.specs.Elimination.{Hanging, stuck, without, lowest, next_of, hang_all, eliminate}
use Rattle.theory.proofs.TableSets.{decide, member_each}
use Rattle.theory.specs.Details.{Ear}
use Rattle.theory.proofs.Hangings.{length_without, step_ear}
use Rattle.refusals.specs.Refusals.{refusal_of}
use Rattle.elimination.specs.Parents.{remaining}
use Rattle.elimination.specs.Steps.{next_found, Shaped, HungAs, HungSoFar}

-- ---- the lowest table that remains
lowest_from : (flags : List Bool) (i n : ℕ) → i + n ≤ length flags → unwrap_or (position_from (λ b. b) i (take n (drop i flags))) 0 ≡ lowest (filter (λ v. get_or flags v false) (from i n))
unfolding lowest
lowest_from flags i zero h = refl
lowest_from flags i (suc n) h =
    let ih = lowest_from flags (suc i) n (omega arith) in
    rw (drop-cons flags i false (omega arith), add-one) (cases (get_or flags i false) (λ e. rw e refl) (λ e. rw e ih))

-- it is the first one whose flag stands
pub lowest_is : (flags : List Bool) (n : ℕ) → n ≤ length flags → unwrap_or (position (λ b. b) (take n flags)) 0 ≡ lowest (remaining n flags)
lowest_is flags n h = ap (λ o. unwrap_or o 0) (position_from-zero (λ b. b) (take n flags)) ∙ lowest_from flags 0 n (omega arith)

-- ---- all tables remain
all_remain : (n : ℕ) → n ≤ 16 → remaining n (replicate 16 true) ≡ from 0 n
all_remain n few =
    filter_each (λ t. get_or (replicate 16 true) t false) (λ t. true) (from 0 n)
    (Each-map (λ y. (0 ≤ y) × (y < 0 + n)) (λ t. get_or (replicate 16 true) t false ≡ true) (λ t l. get_or-replicate 16 t true false (omega arith)) (from 0 n) (from-lt 0 n))
    ∙ filter-true (from 0 n)

pub so_far-begun : {masks : List ℕ} {n : ℕ} → 0 < n → n ≤ 16 → HungSoFar masks n (replicate 16 true) (replicate 16 None) (n - 1)
unfolding eliminate up_to
so_far-begun {masks} {n} pos few =
    let all = all_remain n few in
    record {
      hung = [];
      sizes = (length-replicate 16 true, length-replicate {A = Option ℕ} 16 None);
      long = ap length all ∙ length_from 0 n ∙ omega arith;
      named = λ t c lt lc. ap (λ o. option_eq eqb o (Some t)) (get_or-replicate {A = Option ℕ} 16 c None None lc);
      free = λ t l g. get_or-replicate {A = Option ℕ} 16 t None None l;
      ahead = λ S M. ap (λ l. hang_all S (n - 1) l []) (sym all);
    }

-- ---- one table is hung
next-hang : (o : Maybe Hanging) (c p : ℕ) → Some (c, p) ≡ next_found o → o ≡ some (record { child = c; parent = p })
next-hang none c p e = cc
next-hang (some h) c p e = let q : (h.child, h.parent) ≡ (c, p) = cc in ap (λ (x : ℕ × ℕ). some (record { child = x.0; parent = x.1 })) q

next-nothing : (o : Maybe Hanging) → None ≡ next_found o → o ≡ none
next-nothing none e = refl
next-nothing (some h) e = cc

remaining_below : (n : ℕ) (flags : List Bool) → Each (λ t. (t < n) × (get_or flags t false ≡ true)) (remaining n flags)
remaining_below n flags =
    Each-with (λ t. t < n) (λ t. get_or flags t false ≡ true) (λ t. (t < n) × (get_or flags t false ≡ true)) (λ t a b. (a, b)) (remaining n flags)
    (Each-filter (λ t. t < n) (λ t. get_or flags t false) (from 0 n) (Each-map (λ y. (0 ≤ y) × (y < 0 + n)) (λ t. t < n) (λ y l. omega arith) (from 0 n) (from-lt 0 n)))
    (filter_passes (λ t. get_or flags t false) (from 0 n))

-- a table's flag is taken away
remaining-without : (n c : ℕ) (flags : List Bool) → c < length flags → remaining n (set flags c false) ≡ without c (remaining n flags)
unfolding without
remaining-without n c flags h =
    filter_each (λ t. get_or (set flags c false) t false) (λ t. get_or flags t false && not (eqb t c)) (from 0 n)
    (each (λ t. get_or (set flags c false) t false ≡ (get_or flags t false && not (eqb t c)))
    (λ t. decide t c (λ e. rw (e, get_or-set_same flags c false false h, eq-eqb c c refl) (sym (and-false (get_or flags c false))))
    (λ d. get_or-set_other flags c t false false d ∙ rw (ne_eqb t c d) (sym (and-true (get_or flags t false))))) (from 0 n))
    ∙ filter-filter (λ t. get_or flags t false) (λ t. not (eqb t c)) (from 0 n)

eqb_sym : (x y : ℕ) → eqb x y ≡ eqb y x
eqb_sym x y = decide x y (λ e. eq-eqb x y e ∙ sym (eq-eqb y x (sym e))) (λ d. ne_eqb x y d ∙ sym (ne_eqb y x (λ e. d (sym e))))

module _ {masks : List ℕ} {n : ℕ} {flags : List Bool} {parents : List (Option ℕ)} {m : ℕ} (g : HungSoFar masks n flags parents m) (few : n ≤ 16) (w : Shaped masks)
    (r : Option (ℕ × ℕ)) (is : (S : Shape) → Masked masks S → r ≡ next_found (next_of S (remaining n flags) (remaining n flags))) where
  module _ (c p : ℕ) (e : r ≡ Some (c, p)) where
    hung_next : (S : Shape) → Masked masks S → next_of S (remaining n flags) (remaining n flags) ≡ some (record { child = c; parent = p })
    hung_next S M = next-hang (next_of S (remaining n flags) (remaining n flags)) c p (sym e ∙ is S M)

    ear : Ear w.0 (member (remaining n flags)) c p
    ear = step_ear w.0 (remaining n flags) (record { child = c; parent = p }) (hung_next w.0 w.1)

    child_below : (c < 16) × (p < 16)
    child_below =
        let a = member_each (λ t. (t < n) × (get_or flags t false ≡ true)) (remaining n flags) c (remaining_below n flags) ear.inside in
        let b = member_each (λ t. (t < n) × (get_or flags t false ≡ true)) (remaining n flags) p (remaining_below n flags) ear.parent in
        omega (arith, a.0, b.0)

    pub so_far_more : 0 < m → HungSoFar masks n (set flags c false) (set parents c (Some p)) (m - 1)
    so_far_more pos =
        let h : Hanging = record { child = c; parent = p } in
        let (lc, lp) = child_below in
        let (below, up) = member_each (λ t. (t < n) × (get_or flags t false ≡ true)) (remaining n flags) c (remaining_below n flags) ear.inside in
        let rest : remaining n (set flags c false) ≡ without c (remaining n flags) = remaining-without n c flags (omega (arith, g.sizes.0)) in
        let one : suc (m - 1) ≡ m = omega arith in
        record {
          hung = h ∷ g.hung;
          sizes = (length-set flags c false ∙ g.sizes.0, length-set parents c (Some p) ∙ g.sizes.1);
          long = ap length rest ∙ omega (arith, g.long, length_without c (remaining n flags) (rising-filter (λ t. get_or flags t false) (from 0 n) (rising_from 0 n)) ear.inside);
          named = λ t x lt lx. decide x c
              (λ q. rw (q, get_or-set_same parents c (Some p) None (omega (arith, g.sizes.1)), eq-eqb c c refl)
              (eqb_sym p t ∙ sym (ap (λ b. eqb t p || b) (sym (g.named t c lt lc) ∙ ap (λ o. option_eq eqb o (Some t)) (g.free c lc up)) ∙ or-false (eqb t p))))
              (λ d. ap (λ o. option_eq eqb o (Some t)) (get_or-set_other parents c x (Some p) None d) ∙ g.named t x lt lx ∙ rw (ne_eqb x c d));
          free = λ t l f. decide t c
              (λ q. absurd (true-false (get_or (set flags c false) t false) f (rw q (get_or-set_same flags c false false (omega (arith, g.sizes.0))))))
              (λ d. get_or-set_other parents c t (Some p) None d ∙ g.free t l (sym (get_or-set_other flags c t false false d) ∙ f));
          ahead = λ S M.
              let step : hang_all S (suc (m - 1)) (remaining n flags) g.hung ≡ hang_all S (m - 1) (without c (remaining n flags)) (h ∷ g.hung) = rw (hung_next S M, hang_all) in
              g.ahead S M ∙ ap (λ k. hang_all S k (remaining n flags) g.hung) (sym one) ∙ step ∙ ap (λ l. hang_all S (m - 1) l (h ∷ g.hung)) (sym rest);
        }

  pub so_far-stuck : r ≡ None → 0 < m → (d : ℕ) → d ≡ lowest (remaining n flags) → (parents' : List (Option ℕ)) (S : Shape) → Masked masks S → HungAs (Err (refusal_of 14 d)) parents' (eliminate S n)
  so_far-stuck e pos d a parents' S M =
      let one : suc (m - 1) ≡ m = omega arith in
      let step : hang_all S (suc (m - 1)) (remaining n flags) g.hung ≡ stuck (lowest (remaining n flags)) = rw (next-nothing (next_of S (remaining n flags) (remaining n flags)) (sym e ∙ is S M), hang_all) in
      subst (HungAs (Err (refusal_of 14 d)) parents') (sym (g.ahead S M ∙ ap (λ k. hang_all S k (remaining n flags) g.hung) (sym one) ∙ step)) (ap (λ x. Err (refusal_of 14 x)) a)

pub so_far-rooted : {masks : List ℕ} {n : ℕ} {flags : List Bool} {parents : List (Option ℕ)} {m : ℕ} → HungSoFar masks n flags parents m → m ≤ 0
    → (t : ℕ) → t ≡ lowest (remaining n flags) → (S : Shape) → Masked masks S → HungAs (Ok t) parents (eliminate S n)
so_far-rooted {masks} {n} {flags} {parents} {m} g z t a S M =
    let e : m ≡ 0 = omega arith in
    subst (HungAs (Ok t) parents) (sym (g.ahead S M ∙ ap (λ k. hang_all S k (remaining n flags) g.hung) e)) (ap Ok a, g.named)
