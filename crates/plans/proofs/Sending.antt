-- Mending as the plan record's answers ask for it: what it rests on follows from answers 7 and 8, and what it gives is answer 9 or the
-- plan that the join follows.
use mathlib.Core.Path.{◌≡◌, refl, sym, ap, ap₂, ◌∙◌, fun_ext}
use mathlib.Core.Bool.{Bool, true, not}
use mathlib.Core.List.{List, [], ◌∷◌}
use mathlib.Core.Option.{none}
use Prim.Native.Nat.{ℕ, zero, suc, ◌≤◌, ◌<◌, ◌^◌}
use native.Mathlib.Omega.{arith}
use lib.ListN.{length, get_or}
use lib.Dec.{eqb, ltb}
use borrow.Author.Tests.{eqb-true, eq-eqb, ne_eqb, ltb-true, ltb-false}
use Rattle.semantics.specs.Lists.{filter, from}
use Rattle.semantics.specs.Files.{Table, has_bit}
use Rattle.semantics.specs.Plans.{encode, tables, misplaced, plan_of, misnamed}
use Rattle.semantics.specs.Shapes.{no_table, shape_of}
use Rattle.theory.specs.Details.{Once}
use Rattle.semantics.specs.Mending.{mend, unmendable}
use Rattle.semantics.specs.Outcome.{refused, admitted, sent_verdict, plan_verdict}
use Rattle.theory.proofs.Cases.{cases}
use Rattle.theory.proofs.Lists.{sum_one, each_at}
use Rattle.theory.proofs.Numbers.{length_from}
use Rattle.theory.proofs.Spelling.{plan-length, spelled_out}
use Rattle.theory.proofs.Naming.{plan-names, plan-sum}
use Rattle.theory.proofs.Mending.{sums-once}
use Rattle.theory.proofs.Rules.{plan-sent}
use Rattle.mending.specs.Parts.{shape_in}
use Rattle.mending.specs.Rooting.{Distinct}
use Rattle.mending.specs.Whole.{Sent, Mends}
use Rattle.std.specs.Prelude.{Result, Ok, Err}
use Rattle.refusals.specs.declared.Refusal.{Refusal}
use Rattle.refusals.specs.Refusals.{number_of, refused_at}
use Rattle.refusals.proofs.Numbers.{refused_none, refused_some}
use Rattle.mending.proofs.Places.{spelled-stands}
use Rattle.tables.specs.declared.Catalog.{Catalog}
use Rattle.tables.proofs.Catalogs.{mask_at, rows_at}
use Rattle.plans.specs.Admissions.{Tabled, Named, NamedFor}
use Rattle.plans.specs.Forming.{PlanIn}
use Rattle.plans.proofs.Admitting.{masks_are, rows_are, spelled-sent}

-- ---- 16 tables named once each have a plan of 31 bytes at most
code-short : (n : ℕ) (code : List ℕ) → n ≤ 16 → misplaced 1 0 code ≡ none → misnamed n [] 0 code ≡ none → length code ≤ 31
code-short n code w h g =
    let (s, e) = spelled_out code h in
    omega (arith, plan-length (plan_of code), ap length e, sum_one (tables (plan_of code)), plan-sum (λ t. 1) n code h g, sum_one (from 0 n), length_from 0 n)

-- ---- no table is named by two bytes
one_there : (t : ℕ) (bs : List ℕ) (i : ℕ) → i < length bs → get_or bs i 0 ≡ t → 1 ≤ length (filter (eqb t) bs)
one_there t [] i h e = absurd (omega arith)
one_there t (b ∷ bs) zero h e = rw (eq-eqb t b (sym e)) (omega arith)
one_there t (b ∷ bs) (suc i) h e =
    let q = one_there t bs i (omega arith) e in
    cases (eqb t b) (λ g. rw g (omega arith)) (λ g. rw g q)

two_there : (t : ℕ) (bs : List ℕ) (i j : ℕ) → i < j → j < length bs → get_or bs i 0 ≡ t → get_or bs j 0 ≡ t → 2 ≤ length (filter (eqb t) bs)
two_there t [] i j a b e f = absurd (omega arith)
two_there t (x ∷ bs) i zero a b e f = absurd (omega arith)
two_there t (x ∷ bs) zero (suc j) a b e f = let q = one_there t bs j (omega arith) f in rw (eq-eqb t x (sym e)) (omega arith)
two_there t (x ∷ bs) (suc i) (suc j) a b e f =
    let q = two_there t bs i j (omega arith) (omega arith) e f in
    cases (eqb t x) (λ g. rw g (omega arith)) (λ g. rw g q)

filter_kept : (q : ℕ → Bool) (t : ℕ) (bs : List ℕ) → q t ≡ true → filter (eqb t) (filter q bs) ≡ filter (eqb t) bs
filter_kept q t [] h = refl
filter_kept q t (b ∷ bs) h =
    cases (eqb t b)
    (λ g. let y : q b ≡ true = rw (eqb-true t b g) at h in rw (y, g) (ap (λ l. b ∷ l) (filter_kept q t bs h)))
    (λ g. cases (q b) (λ y. rw (y, g) (filter_kept q t bs h)) (λ y. rw (y, g) (filter_kept q t bs h)))

named_few : (n : ℕ) (code : List ℕ) → misplaced 1 0 code ≡ none → misnamed n [] 0 code ≡ none → (t : ℕ) → t < 16 → length (filter (eqb t) code) ≤ 1
named_few n code h g t w =
    let o : Once (plan_of code) = sums-once n (plan_of code) (λ f. plan-sum f n code h g) in
    let e : filter (eqb t) code ≡ filter (eqb t) (tables (plan_of code)) = sym (filter_kept (λ b. not (eqb b 0xFF)) t code (rw (ne_eqb t 0xFF (λ z. omega arith)) refl)) ∙ ap (filter (eqb t)) (plan-names code h) in
    omega (arith, o t, ap length e)

distinct : (n : ℕ) (code : List ℕ) → misplaced 1 0 code ≡ none → misnamed n [] 0 code ≡ none → Distinct code
distinct n code h g i j a b w e =
    let few = named_few n code h g (get_or code i 0) w in
    cases (ltb i j)
    (λ q. absurd (omega (arith, few, two_there (get_or code i 0) code i j (ltb-true i j q) b refl (sym e))))
    (λ q. cases (ltb j i)
    (λ r. absurd (omega (arith, few, two_there (get_or code i 0) code j i (ltb-true j i r) a (sym e) refl)))
    (λ r. omega (arith, ltb-false i j q, ltb-false j i r)))

-- ---- the tables of a catalog
module _ (c : Catalog) (ts : List Table) (h : Tabled c ts) where
  mask_is : (i : ℕ) → get_or c.masks i 0 ≡ (get_or ts i no_table).mask
  mask_is i = ap (λ l. get_or l i 0) (masks_are c ts h) ∙ mask_at ts i

  rows_is : (i : ℕ) → get_or c.rows i 0 ≡ (get_or ts i no_table).rows
  rows_is i = ap (λ l. get_or l i 0) (rows_are c ts h) ∙ rows_at ts i

  shape_is : shape_in c.masks c.rows ≡ shape_of ts
  unfolding shape_in shape_of
  shape_is = ap₂ (λ (f : ℕ → ℕ) g. record { rows = f; has = g }) (fun_ext rows_is) (fun_ext (λ t. fun_ext (λ a. ap (λ k. has_bit k a) (mask_is t))))

  module _ (code : List ℕ) (n : Named code ts) where
    -- what mending rests on
    pub sent : Sent code c.masks c.rows
    sent =
        record {
          plan = plan_of code;
          stands = spelled-stands code n.spelled;
          short = code-short (length ts) code h.few n.spelled n.named;
          distinct = distinct (length ts) code n.spelled n.named;
          words = λ t. rw (mask_is t) (each_at (λ t. t.mask < 2 ^ 32) ts no_table h.masks (omega arith) t);
          few = λ t. rw (rows_is t) (each_at (λ t. t.rows ≤ 4096) ts no_table h.rows (omega arith) t);
        }

    module _ (before out : List ℕ) (r : Result (Unit {0}) Refusal) (m : Mends (shape_in c.masks c.rows) (plan_of code) (length code) before out r) where
      answer_is : r ≡ refused_at 9 (unmendable (shape_of ts) (plan_of code) 0)
      answer_is = m.answer ∙ ap (λ S. refused_at 9 (unmendable S (plan_of code) 0)) shape_is

      -- answer 9
      pub mended-refused : (e : Refusal) → r ≡ Err e → plan_verdict ts code ≡ refused (number_of e.reason) e.detail
      unfolding sent_verdict
      mended-refused e q =
          let (o, z) = refused_some 9 (unmendable (shape_of ts) (plan_of code) 0) e (sym q ∙ answer_is) in
          plan-sent ts code (spelled-sent ts code n.spelled)
          ∙ rw (n.spelled, n.named, o, sent_verdict) (ap (λ x. refused (number_of x.reason) e.detail) (sym z))

      -- or the mended plan
      module _ (e : r ≡ Ok tt) where
        none_9 : unmendable (shape_of ts) (plan_of code) 0 ≡ none
        none_9 = refused_none 9 (unmendable (shape_of ts) (plan_of code) 0) (sym e ∙ answer_is)

        admitted_is : plan_verdict ts code ≡ admitted ts (mend (shape_of ts) (plan_of code))
        unfolding sent_verdict
        admitted_is = plan-sent ts code (spelled-sent ts code n.spelled) ∙ rw (n.spelled, n.named, none_9, sent_verdict) refl

        pub mended_formed : PlanIn ts code (length code) out
        mended_formed =
            record {
              plan = mend (shape_of ts) (plan_of code);
              admits = admitted_is;
              fits = sent.short;
              size = m.size;
              bytes = m.bytes (ap (λ S. unmendable S (plan_of code) 0) shape_is ∙ none_9) ∙ ap (λ S. encode (mend S (plan_of code))) shape_is;
            }

-- ---- for the caller, who knows of some tables that they are the catalog's
pub sent_of : (c : Catalog) (code : List ℕ) → NamedFor code c → Sent code c.masks c.rows
sent_of c code q = sent c q.ts q.tabled code q.named
