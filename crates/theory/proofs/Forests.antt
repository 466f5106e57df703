-- The remaining tables, each with the plan of what hangs under it: these plans are well-behaved, share with each other only
-- what their leftmost tables have, and together name each table once.
use mathlib.Core.Path.{◌≡◌, refl, sym, ap, ◌∙◌, subst}
use mathlib.Core.Bool.{true, false, not}
use mathlib.Core.List.{List, [], ◌∷◌}
use Prim.Native.Nat.{ℕ, zero, suc, ◌+◌, ◌-◌, ◌<◌}
use native.Mathlib.Omega.{arith}
use lib.ListN.{length}
use lib.Dec.{eqb}
use borrow.Author.Tests.{eqb-false, eq-eqb, ne_eqb, not-true}
use Rattle.semantics.specs.Lists.{sum, from, up_to}
use Rattle.theory.specs.Elements.{Rising, member}
use Rattle.semantics.specs.Plans.{join, tables, leftmost}
use Rattle.semantics.specs.Shapes.{Shape, holds}
use Rattle.theory.specs.Rules.{WellBehaved}
use Rattle.theory.proofs.Cases.{cases, option_cases, true-false, or_cases}
use Rattle.theory.proofs.Lists.{each, Each-map, filter_passes, sum-append, sum_each}
use Rattle.theory.proofs.Numbers.{length_from, rising_from}
use Rattle.semantics.specs.JoinTrees.{hang_rising}
use Rattle.theory.proofs.Permutations.{permutation-sum}
use Rattle.theory.proofs.JoinTrees.{rising-leftmost, rising-tables, holds-join, holds_permutation, rising-well_behaved}
use Rattle.theory.specs.Details.{Ear}
use Rattle.semantics.specs.Elimination.{Hanging, rooted, without, lowest, next_of, hang_all, eliminate, plan_under}
use Rattle.theory.proofs.TableSets.{decide}
use Rattle.theory.proofs.Hangings.{in_without, out-without, sum-without, length_without, rising-without, step_ear}

pub record Forest (S : Shape) (n : ℕ) (rs : List ℕ) (hs : List Hanging) : Type 0 where
  pub behaved : (t : ℕ) → member rs t ≡ true → WellBehaved S (plan_under hs t)
  pub meets : (t u a : ℕ) → member rs t ≡ true → member rs u ≡ true → (t ≡ u → ⊥) → a < 32 → holds S (plan_under hs t) a ≡ true → holds S (plan_under hs u) a ≡ true → S.has t a ≡ true
  pub sums : (f : ℕ → ℕ) → sum (λ t. sum f (tables (plan_under hs t))) rs ≡ sum f (from 0 n)

pub plan_under-leftmost : (hs : List Hanging) (t : ℕ) → leftmost (plan_under hs t) ≡ t
plan_under-leftmost [] t = refl
plan_under-leftmost (h ∷ hs) t =
    cases (eqb t h.parent) (λ e. rw (e, plan_under) (rising-leftmost (plan_under hs h.child) (plan_under hs t) ∙ plan_under-leftmost hs t)) (λ e. rw (e, plan_under) (plan_under-leftmost hs t))

-- ---- the plans after one more is hung
pub at-parent : (h : Hanging) (hs : List Hanging) → plan_under (h ∷ hs) h.parent ≡ hang_rising (plan_under hs h.child) (plan_under hs h.parent)
at-parent h hs = rw (eq-eqb h.parent h.parent refl, plan_under)

pub elsewhere : (h : Hanging) (hs : List Hanging) (t : ℕ) → (t ≡ h.parent → ⊥) → plan_under (h ∷ hs) t ≡ plan_under hs t
elsewhere h hs t d = rw (ne_eqb t h.parent d, plan_under)

hung-sum : (f : ℕ → ℕ) (h : Hanging) (hs : List Hanging) (rs : List ℕ) → Rising rs → member rs h.child ≡ true → member rs h.parent ≡ true → (h.parent ≡ h.child → ⊥)
    → sum (λ t. sum f (tables (plan_under (h ∷ hs) t))) (without h.child rs) ≡ sum (λ t. sum f (tables (plan_under hs t))) rs
hung-sum f h hs rs r mc mp d =
    let F : ℕ → ℕ = λ t. sum f (tables (plan_under hs t)) in
    let G : ℕ → ℕ = λ t. sum f (tables (plan_under (h ∷ hs) t)) in
    let c = h.child in
    let p = h.parent in
    let q = rising-without c rs r in
    let m : member (without c rs) p ≡ true = in_without c p rs d mp in
    let others : sum G (without p (without c rs)) ≡ sum F (without p (without c rs))
    = unfold without in sum_each G F (without p (without c rs))
    (Each-map (λ u. not (eqb u p) ≡ true) (λ u. G u ≡ F u) (λ u k. ap (λ x. sum f (tables x)) (elsewhere h hs u (eqb-false u p (not-true (eqb u p) k)))) (without p (without c rs)) (filter_passes (λ u. not (eqb u p)) (without c rs))) in
    let both : G p ≡ F p + F c = ap (λ x. sum f (tables x)) (at-parent h hs) ∙ permutation-sum f (rising-tables (plan_under hs c) (plan_under hs p)) ∙ sum-append f (tables (plan_under hs p)) (tables (plan_under hs c)) in
    omega (arith, others, both, sum-without F c rs r mc, sum-without F p (without c rs) q m, sum-without G p (without c rs) q m)

module _ (S : Shape) (n : ℕ) where
  holds-hung : {P : Type 0} (h : Hanging) (hs : List Hanging) (t a : ℕ) → holds S (plan_under (h ∷ hs) t) a ≡ true
      → (holds S (plan_under hs t) a ≡ true → P) → (t ≡ h.parent → holds S (plan_under hs h.child) a ≡ true → P) → P
  holds-hung h hs t a k f g =
      decide t h.parent
      (λ q.
      let c = plan_under hs h.child in
      let p = plan_under hs h.parent in
      or_cases (holds S p a) (holds S c a) (sym (holds_permutation S (hang_rising c p) (join p c) a (rising-tables c p) ∙ holds-join S p c a) ∙ rw (q, at-parent h hs) at k) (λ i. f (rw q i)) (λ i. g q i))
      (λ d. f (rw (elsewhere h hs t d) at k))

  hung_forest : (h : Hanging) (hs : List Hanging) (rs : List ℕ) → Rising rs → Ear S (member rs) h.child h.parent → Forest S n rs hs → Forest S n (without h.child rs) (h ∷ hs)
  hung_forest h hs rs r E F =
      let c = h.child in
      let p = h.parent in
      record {
        behaved = λ t m.
            let (tc, mt) = out-without c t rs m in
            decide t p
            (λ q. rw (q, at-parent h hs)
            (rising-well_behaved S (plan_under hs c) (plan_under hs p) (F.behaved p E.parent) (F.behaved c E.inside)
            (λ a k hp hc. (
              rw (plan_under-leftmost hs p) (F.meets p c a E.parent E.inside E.apart k hp hc),
              rw (plan_under-leftmost hs c) (F.meets c p a E.inside E.parent (λ y. E.apart (sym y)) k hc hp),
            ))))
            (λ d. rw (elsewhere h hs t d) (F.behaved t mt));
        meets = λ t u a mt mu d k ht hu.
            let (tc, it) = out-without c t rs mt in
            let (uc, iu) = out-without c u rs mu in
            holds-hung h hs t a ht
            (λ x. holds-hung h hs u a hu (λ y. F.meets t u a it iu d k x y) (λ q y. F.meets t c a it E.inside tc k x y))
            (λ q x. holds-hung h hs u a hu
            (λ y.
            let hc : S.has c a ≡ true = F.meets c u a E.inside iu (λ z. uc (sym z)) k x y in
            rw q (E.covers a u k hc iu uc (F.meets u c a iu E.inside uc k y x)))
            (λ z y. absurd (d (q ∙ sym z))));
        sums = λ f. hung-sum f h hs rs r E.inside E.parent E.apart ∙ F.sums f;
      }

  start_forest : Forest S n (up_to n) []
  unfolding up_to holds
  start_forest =
      record {
        behaved = λ t m. tt;
        meets = λ t u a mt mu d k ht hu. or_cases (S.has t a) false ht (λ h. h) (λ h. absurd (true-false false h refl));
        sums = λ f. sum_each (λ t. f t + 0) f (from 0 n) (each (λ t. f t + 0 ≡ f t) (λ t. omega arith) (from 0 n));
      }

  hung_all : (m z : ℕ) (rs : List ℕ) (hs gs : List Hanging) → hang_all S m rs hs ≡ rooted z gs → length rs ≡ suc m → Rising rs → Forest S n rs hs → Forest S n (z ∷ []) gs
  unfolding lowest
  hung_all zero z [] hs gs e l r F = absurd (omega arith)
  hung_all zero z (x ∷ []) hs gs e l r F =
      let a : x ≡ z = cc in
      let b : hs ≡ gs = cc in
      subst (Forest S n (z ∷ [])) b (subst (λ y. Forest S n (y ∷ []) hs) a F)
  hung_all zero z (x ∷ (y ∷ rs)) hs gs e l r F = absurd (omega arith)
  hung_all (suc m) z rs hs gs e l r F =
      option_cases (next_of S rs rs) (λ k. let q : ◌≡◌ {A = ℕ} 0 1 = cc (rw (k, hang_all) at e) in absurd (omega arith))
      (λ h s.
      let E = step_ear S rs h s in
      hung_all m z (without h.child rs) (h ∷ hs) gs (rw (s, hang_all) at e) (omega (arith, length_without h.child rs r E.inside)) (rising-without h.child rs r) (hung_forest h hs rs r E F))

  pub rooted_forest : (z : ℕ) (gs : List Hanging) → 0 < n → eliminate S n ≡ rooted z gs → Forest S n (z ∷ []) gs
  unfolding eliminate up_to
  rooted_forest z gs l e = hung_all (n - 1) z (up_to n) [] gs e (omega (arith, length_from 0 n)) (rising_from 0 n) start_forest
