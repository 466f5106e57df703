-- What the answers up to 10 leave: a file within the rules has its tables and its plan, and a refusal has its number.
use mathlib.Core.Path.{◌≡◌, refl, sym, ap, ◌∙◌}
use mathlib.Core.Bool.{true, false, not}
use mathlib.Core.List.{List, [], ◌∷◌}
use mathlib.Core.Logic.{inl, inr}
use Prim.Native.Nat.{ℕ, ◌+◌, ◌≤◌, ◌<◌}
use native.Mathlib.Omega.{arith}
use lib.ListN.{length, get_or}
use lib.Dec.{eqb, ltb}
use borrow.Author.Tests.{ltb-false, lt-ltb, le-ltb}
use Rattle.theory.specs.Elements.{one_if}
use Rattle.semantics.specs.Lists.{any, sum, filter, from}
use Rattle.semantics.specs.Files.{Table, has_bit, read}
use Rattle.semantics.specs.Plans.{Plan, tables, misplaced, plan_of, misnamed}
use Rattle.semantics.specs.Shapes.{no_table, shape_of, holds, rows_in, scratch_need}
use Rattle.semantics.specs.Mending.{mend, unmendable}
use Rattle.semantics.specs.Elimination.{Hanging, rooted, eliminate, plan_under}
use Rattle.theory.specs.Details.{WithoutPlan}
use Rattle.semantics.specs.Outcome.{retired_number, Verdict, refused, admitted, sent_verdict, found_verdict, asks_for_plan, plan_verdict, read_verdict, rules_verdict, scratch_verdict, verdict}
use Rattle.theory.specs.Rules.{ReadingNumber, BeforeTen, ThroughTen, WithinRules}
use Rattle.theory.proofs.Cases.{cases, option_cases, true-false}
use Rattle.theory.proofs.Lists.{Each-map, sum_one, any_sum, length-filter-sum}
use Rattle.theory.proofs.Numbers.{length_from, sum_shift}
use Rattle.theory.proofs.Reading.{ending-cases, fault-number, tables_few}
use Rattle.theory.proofs.Spelling.{spelled_out}
use Rattle.theory.proofs.Naming.{plan-sum, named-sums}
use Rattle.theory.proofs.Mending.{mend-sum, mend-well_behaved}
use Rattle.theory.proofs.Mendable.{unmendable-mendable, each_small, mend_small}
use Rattle.theory.proofs.FoundPlans.{elimination-cases, sums-named, rooted-plan}

pub verdict-cases : {P : Type 0} (v : Verdict) → ((n d : ℕ) → v ≡ refused n d → P) → ((ts : List Table) (p : Plan) → v ≡ admitted ts p → P) → P
verdict-cases (refused n d) f g = f n d refl
verdict-cases (admitted ts p) f g = g ts p refl

-- what is summed over the plan's tables is summed over the file's
pub rules-sums : (ts : List Table) (p : Plan) → WithinRules ts p → (f : ℕ → ℕ) → sum f (tables p) ≡ sum f (from 0 (length ts))
rules-sums ts p w = named-sums (length ts) (tables p) w.named

-- ---- a verdict: what is admitted is within the rules, and the number of a refusal is one of some numbers
abbrev VerdictWithin : (ℕ → Type 0) → List Table → Verdict → Type 0
VerdictWithin N us (refused n d) = N n
VerdictWithin N us (admitted ts p) = (ts ≡ us) × WithinRules ts p

widen : (N M : ℕ → Type 0) (us : List Table) → ((n : ℕ) → N n → M n) → (v : Verdict) → VerdictWithin N us v → VerdictWithin M us v
widen N M us f (refused n d) j = f n j
widen N M us f (admitted ts p) j = j

sent_judged : (ts : List Table) (code : List ℕ) → VerdictWithin (λ n. (7 ≤ n) × (n ≤ 9)) ts (sent_verdict ts code)
unfolding sent_verdict
sent_judged ts code =
    option_cases (misplaced 1 0 code)
    (λ h. option_cases (misnamed (length ts) [] 0 code)
    (λ g. option_cases (unmendable (shape_of ts) (plan_of code) 0)
    (λ f. rw (h, g, f, sent_verdict) (
      refl,
      record {
        small = mend_small (shape_of ts) (plan_of code) (spelled_out code h).0;
        named = sums-named (length ts) (tables (mend (shape_of ts) (plan_of code))) (λ k. mend-sum (shape_of ts) k (plan_of code) ∙ plan-sum k (length ts) code h g);
        behaved = mend-well_behaved (shape_of ts) (plan_of code) (unmendable-mendable (shape_of ts) (plan_of code) 0 f);
      },
    ))
    (λ i f. rw (h, g, f, sent_verdict) (omega arith)))
    (λ i g. rw (h, g, sent_verdict) (omega arith)))
    (λ i h. rw (h, sent_verdict) (omega arith))

-- the plan that is found is within the rules
rooted-within : (ts : List Table) (z : ℕ) (hs : List Hanging) → 0 < length ts → length ts ≤ 16 → eliminate (shape_of ts) (length ts) ≡ rooted z hs → WithinRules ts (plan_under hs z)
rooted-within ts z hs l few e =
    let (s, w) = rooted-plan (length ts) (shape_of ts) z hs l e in
    let o = sums-named (length ts) (tables (plan_under hs z)) s in
    record {
      small = each_small (plan_under hs z) (Each-map (λ t. t < length ts) (λ t. t < 16) (λ t h. omega arith) (tables (plan_under hs z)) o.present);
      named = o;
      behaved = w;
    }

found_judged : (ts : List Table) → 0 < length ts → length ts ≤ 16 → VerdictWithin (λ n. n ≡ 14) ts (found_verdict ts)
unfolding found_verdict
found_judged ts l few =
    elimination-cases (eliminate (shape_of ts) (length ts)) (λ z hs e. rw (e, found_verdict) (refl, rooted-within ts z hs l few e)) (λ d e. rw (e, found_verdict) refl)

-- a plan is asked for where the request says
pub asks-plan : (ts : List Table) (code : List ℕ) → asks_for_plan ts code ≡ true → WithoutPlan ts code
unfolding asks_for_plan
asks-plan [] code e = absurd (true-false false e refl)
asks-plan (t ∷ ts) [] e = record { present = omega arith; empty = refl }
asks-plan (t ∷ ts) (b ∷ code) e = absurd (true-false false e refl)

pub plan-asked : (ts : List Table) (code : List ℕ) → WithoutPlan ts code → asks_for_plan ts code ≡ true
unfolding asks_for_plan
plan-asked [] code w = let z = w.present in absurd (omega arith)
plan-asked (t ∷ ts) code w = rw w.empty

-- the verdict is that on a plan that is sent, or that on the plan that is found
pub plan-sent : (ts : List Table) (code : List ℕ) → asks_for_plan ts code ≡ false → plan_verdict ts code ≡ sent_verdict ts code
unfolding plan_verdict
plan-sent ts code e = rw (e, plan_verdict)

pub plan-found : (ts : List Table) (code : List ℕ) → asks_for_plan ts code ≡ true → plan_verdict ts code ≡ found_verdict ts
unfolding plan_verdict
plan-found ts code e = rw (e, plan_verdict)

plan_judged : (ts : List Table) (code : List ℕ) → length ts ≤ 16 → VerdictWithin BeforeTen ts (plan_verdict ts code)
plan_judged ts code few =
    cases (asks_for_plan ts code)
    (λ h. rw (plan-found ts code h) (widen (λ n. n ≡ 14) BeforeTen ts (λ n e. inr (inl e)) (found_verdict ts) (found_judged ts (asks-plan ts code h).present few)))
    (λ h. rw (plan-sent ts code h) (widen (λ n. (7 ≤ n) × (n ≤ 9)) BeforeTen ts (λ n e. inl (omega (arith, e.0), e.1)) (sent_verdict ts code) (sent_judged ts code)))

-- a fault of the reading comes before 10
reading-early : (n : ℕ) → ReadingNumber n → BeforeTen n
reading-early n (inl h) = inl (h.0, omega (arith, h.1))
reading-early n (inr h) = inr (inr h)

rules_judged : (bytes : List ℕ) → VerdictWithin BeforeTen (read bytes).tables (rules_verdict bytes)
unfolding rules_verdict read_verdict
rules_judged bytes =
    ending-cases (read bytes).ending
    (λ n d e. rw (e, read_verdict) (reading-early n (fault-number bytes n d e)))
    (λ code e. rw (e, read_verdict) (plan_judged (read bytes).tables code (tables_few bytes)))

scratch_judged : (words : ℕ) (us : List Table) (v : Verdict) → VerdictWithin BeforeTen us v → VerdictWithin ThroughTen us (scratch_verdict words v)
unfolding scratch_verdict
scratch_judged words us (refused n d) j = inl j
scratch_judged words us (admitted ts p) j = cases (ltb words (scratch_need ts p)) (λ h. rw (h, scratch_verdict) (inr refl)) (λ h. rw (h, scratch_verdict) j)

verdict_judged : (bytes : List ℕ) (words : ℕ) → VerdictWithin ThroughTen (read bytes).tables (verdict bytes words)
unfolding verdict
verdict_judged bytes words = scratch_judged words (read bytes).tables (rules_verdict bytes) (rules_judged bytes)

-- ---- as users read it
pub plan-within : (ts us : List Table) (code : List ℕ) (p : Plan) → length ts ≤ 16 → plan_verdict ts code ≡ admitted us p → (us ≡ ts) × WithinRules us p
plan-within ts us code p few e = rw e at (plan_judged ts code few)

pub rules-number : (bytes : List ℕ) (n d : ℕ) → rules_verdict bytes ≡ refused n d → BeforeTen n
rules-number bytes n d e = rw e at (rules_judged bytes)

pub rules-tables : (bytes : List ℕ) (ts : List Table) (p : Plan) → rules_verdict bytes ≡ admitted ts p → ts ≡ (read bytes).tables
rules-tables bytes ts p e = (rw e at (rules_judged bytes)).0

pub rules-within : (bytes : List ℕ) (ts : List Table) (p : Plan) → rules_verdict bytes ≡ admitted ts p → WithinRules ts p
rules-within bytes ts p e = (rw e at (rules_judged bytes)).1

pub verdict-number : (bytes : List ℕ) (words n d : ℕ) → verdict bytes words ≡ refused n d → ThroughTen n
verdict-number bytes words n d e = rw e at (verdict_judged bytes words)

-- such a number is none of those that any call gives later, which are 0, 11 and 15 to 18, and not the retired one
pub through_ten : (n : ℕ) → ThroughTen n → (1 ≤ n) × (15 ≤ n → 19 ≤ n) × (n ≡ 11 → ⊥) × (n ≡ retired_number → ⊥)
through_ten n (inl (inl h)) = (h.0, (λ l. omega (arith, h.1)), (λ e. omega (arith, h.1)), λ e. omega (arith, h.1))
through_ten n (inl (inr (inl h))) = (omega arith, (λ l. omega arith), (λ e. omega arith), λ e. omega arith)
through_ten n (inl (inr (inr h))) = (omega arith, (λ l. omega arith), (λ e. omega arith), λ e. omega arith)
through_ten n (inr h) = (omega arith, (λ l. omega arith), (λ e. omega arith), λ e. omega arith)

pub verdict-within : (bytes : List ℕ) (words : ℕ) (ts : List Table) (p : Plan) → verdict bytes words ≡ admitted ts p → WithinRules ts p
verdict-within bytes words ts p e = (rw e at (verdict_judged bytes words)).1

-- 10 is due exactly where a file within the rules finds the scratch too short
pub scratch-short : (bytes : List ℕ) (words : ℕ) (ts : List Table) (p : Plan) → rules_verdict bytes ≡ admitted ts p → words < scratch_need ts p → verdict bytes words ≡ refused 10 (scratch_need ts p)
unfolding verdict scratch_verdict
scratch-short bytes words ts p e h = rw (e, lt-ltb words (scratch_need ts p) h, scratch_verdict)

pub scratch_enough : (bytes : List ℕ) (words : ℕ) (ts : List Table) (p : Plan) → rules_verdict bytes ≡ admitted ts p → scratch_need ts p ≤ words → verdict bytes words ≡ admitted ts p
unfolding verdict scratch_verdict
scratch_enough bytes words ts p e h = rw (e, le-ltb words (scratch_need ts p) h, scratch_verdict)

scratch-admitted : (words : ℕ) (v : Verdict) (ts : List Table) (p : Plan) → scratch_verdict words v ≡ admitted ts p → (v ≡ admitted ts p) × (scratch_need ts p ≤ words)
unfolding scratch_verdict
scratch-admitted words (refused n d) ts p e = let z : ◌≡◌ {A = ℕ} 0 1 = cc in absurd (omega arith)
scratch-admitted words (admitted us q) ts p e =
    cases (ltb words (scratch_need us q))
    (λ h. let f : refused 10 (scratch_need us q) ≡ admitted ts p = rw (h, scratch_verdict) at e in let z : ◌≡◌ {A = ℕ} 0 1 = cc in absurd (omega arith))
    (λ h.
    let f : admitted us q ≡ admitted ts p = rw (h, scratch_verdict) at e in
    let a : us ≡ ts = cc in
    let b : q ≡ p = cc in
    (f, rw (← a, ← b) (ltb-false words (scratch_need us q) h)))

-- what passed 10 is within the rules and has its scratch
pub verdict-rules : (bytes : List ℕ) (words : ℕ) (ts : List Table) (p : Plan) → verdict bytes words ≡ admitted ts p → (rules_verdict bytes ≡ admitted ts p) × (scratch_need ts p ≤ words)
unfolding verdict
verdict-rules bytes words ts p e = scratch-admitted words (rules_verdict bytes) ts p e

-- ---- sums over the file's tables
pub sum-tables : (f : Table → ℕ) (ts : List Table) → sum (λ i. f (get_or ts i no_table)) (from 0 (length ts)) ≡ sum f ts
sum-tables f [] = refl
sum-tables f (t ∷ ts) = ap (λ k. f t + k) (sum_shift (λ i. f (get_or (t ∷ ts) i no_table)) 0 (length ts) ∙ sum-tables f ts)

-- k counts the plan's tables and the file's
pub tables-count : (ts : List Table) (p : Plan) → WithinRules ts p → length (tables p) ≡ length ts
tables-count ts p w = sym (sum_one (tables p)) ∙ rules-sums ts p w (λ x. 1) ∙ sum_one (from 0 (length ts)) ∙ length_from 0 (length ts)

-- IN counts the rows of both
pub rows-count : (ts : List Table) (p : Plan) → WithinRules ts p → sum (shape_of ts).rows (tables p) ≡ rows_in ts
unfolding shape_of rows_in
rows-count ts p w = rules-sums ts p w (λ i. (get_or ts i no_table).rows) ∙ sum-tables (λ t. t.rows) ts

-- the plan's tables have the attributes of the file's
pub holds-file : (ts : List Table) (p : Plan) → WithinRules ts p → (a : ℕ) → holds (shape_of ts) p a ≡ any (λ t. has_bit t.mask a) ts
unfolding shape_of holds
holds-file ts p w a =
    any_sum (λ i. has_bit (get_or ts i no_table).mask a) (tables p)
    ∙ ap (λ n. not (eqb n 0)) (rules-sums ts p w (λ i. one_if (has_bit (get_or ts i no_table).mask a)) ∙ sum-tables (λ t. one_if (has_bit t.mask a)) ts)
    ∙ sym (any_sum (λ t. has_bit t.mask a) ts)

-- as many of the plan's tables have an attribute as of the file's
pub holders-file : (ts : List Table) (p : Plan) → WithinRules ts p → (a : ℕ) → length (filter (λ t. (shape_of ts).has t a) (tables p)) ≡ length (filter (λ t. has_bit t.mask a) ts)
unfolding shape_of
holders-file ts p w a =
    length-filter-sum (λ i. has_bit (get_or ts i no_table).mask a) (tables p)
    ∙ rules-sums ts p w (λ i. one_if (has_bit (get_or ts i no_table).mask a))
    ∙ sum-tables (λ t. one_if (has_bit t.mask a)) ts
    ∙ sym (length-filter-sum (λ t. has_bit t.mask a) ts)
