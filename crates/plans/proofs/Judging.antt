-- One step of the check of well-behaved plans: a single table, and a join of two plans.
use Prim.Native.Nat.{ℕ, ◌+◌, ◌<◌, ◌^◌}
use mathlib.Core.Path.{◌≡◌, refl, sym, ap, ap₂, ◌∙◌, fun_ext}
use mathlib.Core.Bool.{true, ◌&&◌, and-false}
use mathlib.Core.List.{List}
use native.Mathlib.Omega.{arith}
use lib.ListN.{get_or}
use lib.Dec.{eqb, ltb}
use borrow.Author.Tests.{ltb-true, ltb-false}
use lib.Bits.{bit_and, or_lt, and_le_l}
use Rattle.semantics.specs.Lists.{all, filter}
use Rattle.semantics.specs.Files.{has_bit}
use Rattle.semantics.specs.Plans.{Plan, scan, join, leftmost}
use Rattle.semantics.specs.Shapes.{Shape, attributes, holds, shared, join_attributes}
use Rattle.std.specs.Prelude.{Option, Some, None, is_some}
use Rattle.theory.specs.Rules.{behaves, WellBehaved}
use Rattle.theory.proofs.Cases.{cases, and_left, and_right}
use Rattle.theory.proofs.JoinTrees.{holds-scan}
use Rattle.words.specs.Masks.{Masked}
use Rattle.words.proofs.Masks.{has_bit_and, union-holds, covers}
use Rattle.plans.specs.declared.behaviour.Subplan.{Subplan}
use Rattle.mending.specs.Places.{PlanAt, Planned}
use Rattle.plans.specs.Judging.{well_behaved, behaves_by, joined_of, Ruled, JudgedAs, Judged}
use Rattle.mending.proofs.Places.{no_other, left, right}

-- the two directions of the test
pub tested-behaved : (S : Shape) (p : Plan) → well_behaved S p ≡ true → WellBehaved S p
tested-behaved S (scan t) e = tt
tested-behaved S (join l r) e =
    let b = and_right (behaves S l r) (well_behaved S l && well_behaved S r) e in
    (and_left (behaves S l r) (well_behaved S l && well_behaved S r) e, tested-behaved S l (and_left (well_behaved S l) (well_behaved S r) b), tested-behaved S r (and_right (well_behaved S l) (well_behaved S r) b))

pub behaved-tested : (S : Shape) (p : Plan) → WellBehaved S p → well_behaved S p ≡ true
behaved-tested S (scan t) w = refl
behaved-tested S (join l r) w = ap₂ (λ a b. a && b) w.0 (ap₂ (λ a b. a && b) (behaved-tested S l w.1) (behaved-tested S r w.2))

-- ---- what the code finds
-- a single table: not an FF
pub one_table : (masks s : List ℕ) (at : ℕ) → (get_or s at 0 ≡ 255 → ⊥) → (x : ℕ) → x ≡ get_or s at 0 → (p : Plan) (e : ℕ) → PlanAt s at p e
    → JudgedAs masks p e (record { attributes = get_or masks x 0; leftmost = x; next = at + 1 })
one_table masks s at n x q (join l r) e h = absurd (n h.1)
one_table masks s at n x q (scan t) e h =
    let y : x ≡ t = q ∙ h.1 in
    let z : t < 16 = h.2 in
    record {
      leftmost = y;
      small = omega arith;
      next = sym h.3;
      rules = λ S m. record {
        attributes = λ i. ap (λ k. has_bit (get_or masks k 0) i) y ∙ sym (m.bits t i z) ∙ sym (holds-scan S t i);
        word = omega (arith, ap (λ k. get_or masks k 0) y, m.words t z);
        behaved = refl;
      };
    }

pub table_small : (s : List ℕ) (at : ℕ) → (get_or s at 0 ≡ 255 → ⊥) → Planned s at → get_or s at 0 < 16
table_small s at n q =
    cases (ltb (get_or s at 0) 16) (λ e. ltb-true (get_or s at 0) 16 e) (λ e. absurd (no_other s at n (ltb-false (get_or s at 0) 16 e) q))

-- the two leftmost tables have all join attributes: a test of masks
module _ (S : Shape) (l r : Plan) (x y m n : ℕ) (hx : (a : ℕ) → has_bit x a ≡ holds S l a) (hy : (a : ℕ) → has_bit y a ≡ holds S r a)
    (hm : (a : ℕ) → has_bit m a ≡ S.has (leftmost l) a) (hn : (a : ℕ) → has_bit n a ≡ S.has (leftmost r) a) (small : x < 2 ^ 32) where
  behaves_test : eqb (bit_and (bit_and x y) (bit_and m n)) (bit_and x y) ≡ behaves S l r
  unfolding behaves join_attributes shared
  behaves_test =
      covers (bit_and x y) (bit_and m n) (omega (arith, and_le_l x y))
      ∙ ap₂ (λ f g. all f (filter g attributes)) (fun_ext (λ a. has_bit_and m n a ∙ ap₂ (λ u v. u && v) (hm a) (hn a))) (fun_ext (λ a. has_bit_and x y a ∙ ap₂ (λ u v. u && v) (hx a) (hy a)))

-- a join: an FF, a left plan and a right plan
module _ (masks s : List ℕ) (at : ℕ) (q : get_or s at 0 ≡ 255) where
  pub not_left : ((p : Plan) (e : ℕ) → PlanAt s (at + 1) p e → Judged masks p e None) → (p : Plan) (e : ℕ) → PlanAt s at p e → Judged masks p e None
  not_left f (scan t) e h = let x : get_or s at 0 ≡ t = h.1 in let y : t < 16 = h.2 in absurd (omega arith)
  not_left f (join a b) e h = λ S M. let (m, u, v) = h.2 in rw (f a m u S M) (and-false (behaves S a b))

  module _ (l : Subplan) (f : (p : Plan) (e : ℕ) → PlanAt s (at + 1) p e → JudgedAs masks p e l) where
    pub not_right : ((p : Plan) (e : ℕ) → PlanAt s l.next p e → Judged masks p e None) → (p : Plan) (e : ℕ) → PlanAt s at p e → Judged masks p e None
    not_right g (scan t) e h = let x : get_or s at 0 ≡ t = h.1 in let y : t < 16 = h.2 in absurd (omega arith)
    not_right g (join a b) e h = λ S M.
        let (m, u, v) = h.2 in
        rw (g b e (rw (f a m u).next v) S M, and-false (well_behaved S a)) (and-false (behaves S a b))

    pub two_plans : (r : Subplan) → ((p : Plan) (e : ℕ) → PlanAt s l.next p e → JudgedAs masks p e r)
        → (p : Plan) (e : ℕ) → PlanAt s at p e → Judged masks p e (joined_of l r (get_or masks l.leftmost 0) (get_or masks r.leftmost 0))
    two_plans r g (scan t) e h = let x : get_or s at 0 ≡ t = h.1 in let y : t < 16 = h.2 in absurd (omega arith)
    two_plans r g (join a b) e h =
        let (m, u, v) = h.2 in
        let jl : JudgedAs masks a m l = f a m u in
        let jr : JudgedAs masks b e r = g b e (rw jl.next v) in
        let tested : (S : Shape) → Masked masks S → behaves_by l r (get_or masks l.leftmost 0) (get_or masks r.leftmost 0) ≡ behaves S a b
        = λ S M.
        let ul : Ruled S a l = jl.rules S M in
        behaves_test S a b l.attributes r.attributes (get_or masks l.leftmost 0) (get_or masks r.leftmost 0) ul.attributes (jr.rules S M).attributes
        (λ i. sym (M.bits l.leftmost i jl.small) ∙ ap (λ t. S.has t i) jl.leftmost)
        (λ i. sym (M.bits r.leftmost i jr.small) ∙ ap (λ t. S.has t i) jr.leftmost) ul.word in
        cases (behaves_by l r (get_or masks l.leftmost 0) (get_or masks r.leftmost 0))
        (λ y. rw y (record {
          leftmost = jl.leftmost;
          small = jl.small;
          next = jr.next;
          rules = λ S M.
              let ul : Ruled S a l = jl.rules S M in
              let ur : Ruled S b r = jr.rules S M in
              record {
                attributes = λ i. union-holds S a b l.attributes r.attributes i (ul.attributes i) (ur.attributes i);
                word = or_lt 32 l.attributes r.attributes ul.word ur.word;
                behaved = rw (sym (tested S M) ∙ y, ul.behaved, ur.behaved);
              };
        }))
        (λ z. rw z (λ S M. rw (sym (tested S M) ∙ z)))

    -- the leftmost tables of both sides of a join are table numbers
    module _ (w : Planned s at) where
      pub left_index : l.leftmost < 16
      left_index = let v = left s at q w in (f v.plan v.end v.stands).small

      pub right_index : (r : Subplan) → ((p : Plan) (e : ℕ) → PlanAt s l.next p e → JudgedAs masks p e r) → r.leftmost < 16
      right_index r g = let v = right s at l.next q (λ p e h. (f p e h).next) w in (g v.plan v.end v.stands).small

-- ---- the whole
pub judged-behaved : (masks : List ℕ) (S : Shape) → Masked masks S → (p : Plan) (e : ℕ) (o : Option Subplan) → Judged masks p e o → is_some o ≡ well_behaved S p
judged-behaved masks S M p e None j = sym (j S M)
judged-behaved masks S M p e (Some r) j = sym (j.rules S M).behaved
