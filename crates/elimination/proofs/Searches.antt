-- The whole search, from what was hung to the bytes of the plan.
use mathlib.Core.Path.{◌≡◌, refl, sym, ap, ◌∙◌, subst}
use mathlib.Core.List.{List}
use Prim.Native.Nat.{ℕ, ◌+◌, ◌<◌, ◌≤◌}
use native.Mathlib.Omega.{arith}
use lib.ListN.{length, take, get_or}
use lib.Seq.{ext_get_or, get_or-take, length-take-le}
use Rattle.semantics.specs.Lists.{sum, from}
use Rattle.semantics.specs.Plans.{Plan, encode, tables, leftmost}
use Rattle.semantics.specs.Shapes.{Shape}
use Rattle.std.specs.Prelude.{Option, Result, Ok, Err}
use Rattle.theory.proofs.Spelling.{plan-length}
use Rattle.theory.proofs.Lists.{sum_one}
use Rattle.theory.proofs.Numbers.{length_from}
use Rattle.words.specs.Masks.{Masked}
use Rattle.theory.proofs.JoinTrees.{names-leftmost}
use Rattle.semantics.specs.Elimination.{Hanging, rooted, eliminate, plan_under}
use Rattle.theory.proofs.TableSets.{member_each}
use Rattle.theory.proofs.Forests.{plan_under-leftmost}
use Rattle.elimination.proofs.PlanBytes.{rooted-once}
use Rattle.theory.proofs.FoundPlans.{elimination-cases, sums-named, rooted-plan}
use Rattle.refusals.specs.declared.Refusal.{Refusal}
use Rattle.refusals.specs.Refusals.{refusal_of}
use Rattle.elimination.specs.Steps.{Shaped, ParentsAre, HungAs, HungAll}
use Rattle.elimination.specs.Writing.{Wrote, Writable, PlanWrote}
use Rattle.elimination.specs.Searches.{SearchIs, Searched}

-- what is written from index 0 on is the front of the code
pub wrote_front : {old bytes code : List ℕ} {next : ℕ} → Wrote old 0 bytes code next → next ≤ length old → take next code ≡ bytes
wrote_front {old} {bytes} {code} {next} w h =
    let l : length (take next code) ≡ length bytes = length-take-le next code (omega (arith, w.size)) ∙ omega (arith, w.end) in
    ext_get_or 0 (take next code) bytes l
    (λ i k. let z : 0 + i ≡ i = omega arith in get_or-take next code i 0 (omega (arith, l, w.end)) ∙ ap (λ j. get_or code j 0) (sym z) ∙ w.here i (omega (arith, l)))

plan-short : (n : ℕ) (p : Plan) → ((f : ℕ → ℕ) → sum f (tables p) ≡ sum f (from 0 n)) → n ≤ 16 → length (encode p) ≤ 31
plan-short n p s few = omega (arith, plan-length p, s (λ x. 1), sum_one (tables p), sum_one (from 0 n), length_from 0 n)

module _ (masks : List ℕ) (n t : ℕ) (parents : List (Option ℕ)) (is : HungAll masks n (Ok t) parents) (l : 0 < n) (few : n ≤ 16) where
  -- what the hanging comes to: a root, under which all tables hang
  rooted-cases : (S : Shape) → Masked masks S → (P : Type 0) → ((z : ℕ) (hs : List Hanging) → eliminate S n ≡ rooted z hs → t ≡ z → ParentsAre parents hs → P) → P
  rooted-cases S M P f =
      elimination-cases (eliminate S n)
      (λ z hs i. let x = subst (HungAs (Ok t) parents) i (is S M) in let e : t ≡ z = cc in f z hs i e x.1)
      (λ d i. let x = subst (HungAs (Ok t) parents) i (is S M) in let e : ◌≡◌ {A = Result ℕ Refusal} (Ok t) (Err (refusal_of 14 d)) = x in cc)

  -- the plan of the root can be written
  pub plan_writable : Shaped masks → Writable parents n t 0
  plan_writable (S, M) =
      rooted-cases S M (Writable parents n t 0)
      (λ z hs i b named.
      let (s, w) = rooted-plan n S z hs l i in
      let p = plan_under hs z in
      let below : leftmost p < n = member_each (λ t. t < n) (tables p) (leftmost p) (sums-named n (tables p) s).present (names-leftmost p) in
      rw b
      (record {
        few = few;
        below = omega (arith, below, plan_under-leftmost hs z);
        hung = hs;
        once = rooted-once S n z hs i;
        named = named;
        fits = omega (arith, plan-short n p s few);
      }))

  -- it is written
  pub search-found : {old out : List ℕ} {next : ℕ} → length old ≡ 31 → PlanWrote parents n t old 0 out next → Searched masks n old out (Ok next)
  search-found {old} {out} {next} k w S M =
      rooted-cases S M (SearchIs (eliminate S n) (Ok next) old out)
      (λ z hs i b named.
      let (s, v) = rooted-plan n S z hs l i in
      let p = plan_under hs z in
      let x : Wrote old 0 (encode p) out next = subst (λ t. Wrote old 0 (encode (plan_under hs t)) out next) b (w hs (rooted-once S n z hs i) named) in
      let fits : next ≤ 31 = omega (arith, x.end, plan-short n p s few) in
      subst (λ y. SearchIs y (Ok next) old out) (sym i) (next, refl, fits, x.size ∙ k, wrote_front x (omega (arith, k))))
