-- Answer 8: where it is not due the plan names each table of the file exactly once, so what is summed over the plan's tables
-- is summed over the file's.
use mathlib.Core.Path.{◌≡◌, refl, sym, ap, ap₂, ◌∙◌, fun_ext}
use mathlib.Core.Bool.{Bool, true, false, ◌&&◌, not}
use mathlib.Core.List.{List, [], ◌∷◌, ◌++◌}
use mathlib.Core.Option.{none}
use Prim.Native.Nat.{ℕ, zero, suc, ◌+◌, ◌≤◌, ◌<◌, zero-le}
use native.Mathlib.Omega.{arith}
use lib.ListN.{length}
use lib.Dec.{eqb, ltb}
use borrow.Author.Tests.{eqb-true, eqb-false, eq-eqb, ne_eqb, ltb-true}
use Rattle.theory.specs.Elements.{one_if, Each}
use Rattle.semantics.specs.Lists.{any, sum, filter, from}
use Rattle.semantics.specs.Plans.{Plan, scan, join, encode, tables, misplaced, plan_of, misnamed}
use Rattle.theory.specs.Rules.{Small, NamedOnce}
use Rattle.theory.specs.Details.{names}
use Rattle.theory.proofs.Cases.{cases, and_left, and_right, not_or}
use Rattle.theory.proofs.Lists.{filter-append, filter-true, length-filter-sum, any_sum, sum_one, length-zero}
use Rattle.theory.proofs.Numbers.{length_from, sum_from_one}
use Rattle.theory.proofs.Spelling.{spelled_out}

-- what is not yet named of the numbers from i
abbrev pub unnamed : List ℕ → ℕ → Bool
unnamed named y = not (any (eqb y) named)

-- x is taken out of those that pass
take_below : (f : ℕ → ℕ) (q : ℕ → Bool) (x i n : ℕ) → x < i → sum f (filter q (from i n)) ≡ sum f (filter (λ y. not (eqb y x) && q y) (from i n))
take_below f q x i zero h = refl
take_below f q x i (suc n) h =
    rw (ne_eqb i x (λ e. omega arith)) (cases (q i) (λ g. rw (g, take_below f q x (suc i) n (omega arith))) (λ g. rw (g, take_below f q x (suc i) n (omega arith))))

take_out : (f : ℕ → ℕ) (q : ℕ → Bool) (x i n : ℕ) → i ≤ x → x < i + n → q x ≡ true → sum f (filter q (from i n)) ≡ f x + sum f (filter (λ y. not (eqb y x) && q y) (from i n))
take_out f q x i zero a b t = absurd (omega arith)
take_out f q x i (suc n) a b t =
    cases (eqb i x)
    (λ e. rw (e, eqb-true i x e, t) (ap (λ k. f x + k) (take_below f q x (suc x) n (omega arith))))
    (λ e. let d : (i ≡ x → ⊥) = eqb-false i x e in
    cases (q i)
    (λ g. rw (e, g) (omega (arith, take_out f q x (suc i) n (omega arith) (omega arith) t)))
    (λ g. rw (e, g) (take_out f q x (suc i) n (omega arith) (omega arith) t)))

-- every name is below n and new, and at the end all n are named
abbrev Naming : ℕ → List ℕ → List ℕ → Type 0
Naming n named [] = length named ≡ n
Naming n named (t ∷ ts) = (t < n) × (unnamed named t ≡ true) × Naming n (t ∷ named) ts

-- all that is named in the end
abbrev final : List ℕ → List ℕ → List ℕ
final named [] = named
final named (t ∷ ts) = final (t ∷ named) ts

final-sum : (f : ℕ → ℕ) (named ts : List ℕ) → sum f (final named ts) ≡ sum f ts + sum f named
final-sum f named [] = omega arith
final-sum f named (t ∷ ts) = omega (arith, final-sum f (t ∷ named) ts)

final-length : (n : ℕ) (named ts : List ℕ) → Naming n named ts → length (final named ts) ≡ n
final-length n named [] m = m
final-length n named (t ∷ ts) m = final-length n (t ∷ named) ts m.2

-- named and not named together are all the n tables, each once
abbrev pub Apart : ℕ → List ℕ → Type 0
Apart n named = (f : ℕ → ℕ) → sum f named + sum f (filter (unnamed named) (from 0 n)) ≡ sum f (from 0 n)

pub apart_none : (n : ℕ) → Apart n []
apart_none n f = rw (filter-true (from 0 n)) (omega arith)

pub apart_more : (n t : ℕ) (named : List ℕ) → t < n → unnamed named t ≡ true → Apart n named → Apart n (t ∷ named)
apart_more n t named h u a f =
    rw (fun_ext (λ y. not_or (eqb y t) (any (eqb y) named))) (omega (arith, a f, take_out f (unnamed named) t 0 n zero-le (omega arith) u))

final-apart : (n : ℕ) (named ts : List ℕ) → Naming n named ts → Apart n named → Apart n (final named ts)
final-apart n named [] m a = a
final-apart n named (t ∷ ts) m a = final-apart n (t ∷ named) ts m.2 (apart_more n t named m.0 m.1 a)

naming-sum : (f : ℕ → ℕ) (n : ℕ) (ts : List ℕ) → Naming n [] ts → sum f ts ≡ sum f (from 0 n)
naming-sum f n ts m =
    let all : Apart n (final [] ts) = final-apart n [] ts m (apart_none n) in
    let rest : length (filter (unnamed (final [] ts)) (from 0 n)) ≡ 0
    = omega (arith, all (λ x. 1), sum_one (final [] ts), sum_one (filter (unnamed (final [] ts)) (from 0 n)), sum_one (from 0 n), length_from 0 n, final-length n [] ts m) in
    omega (arith, final-sum f [] ts, all f, ap (sum f) (length-zero (filter (unnamed (final [] ts)) (from 0 n)) rest))

misnamed_naming : (n : ℕ) (named : List ℕ) (i : ℕ) (bs : List ℕ) → misnamed n named i bs ≡ none → Naming n named (names bs)
misnamed_naming n named i [] e = cases (eqb (length named) n) (λ h. eqb-true (length named) n h) (λ h. let z : ◌≡◌ {A = ℕ} 0 1 = cc (rw (h, misnamed) at e) in omega arith)
misnamed_naming n named i (b ∷ bs) e =
    cases (eqb b 255) (λ h. rw h (misnamed_naming n named (suc i) bs (rw (h, misnamed) at e)))
    (λ h. cases (ltb b n && not (any (eqb b) named))
    (λ g. rw h (ltb-true b n (and_left (ltb b n) (unnamed named b) g), and_right (ltb b n) (unnamed named b) g, misnamed_naming n (b ∷ named) (suc i) bs (rw (h, g, misnamed) at e)))
    (λ g. let z : ◌≡◌ {A = ℕ} 0 1 = cc (rw (h, g, misnamed) at e) in absurd (omega arith)))

-- the bytes of a plan name its tables
pub names-encode : (p : Plan) → Small p → names (encode p) ≡ tables p
names-encode (scan t) h = rw (ne_eqb t 255 (λ e. omega arith))
names-encode (join l r) h = filter-append (λ b. not (eqb b 255)) (encode l) (encode r) ∙ ap₂ (λ a b. a ++ b) (names-encode l h.0) (names-encode r h.1)

pub plan-names : (bs : List ℕ) → misplaced 1 0 bs ≡ none → names bs ≡ tables (plan_of bs)
plan-names bs a = let (s, e) = spelled_out bs a in ap names (sym e) ∙ names-encode (plan_of bs) s

-- where answers 7 and 8 are not due, what is summed over the plan's tables is summed over the file's
pub plan-sum : (f : ℕ → ℕ) (n : ℕ) (bs : List ℕ) → misplaced 1 0 bs ≡ none → misnamed n [] 0 bs ≡ none → sum f (tables (plan_of bs)) ≡ sum f (from 0 n)
plan-sum f n bs a b = ap (sum f) (sym (plan-names bs a)) ∙ naming-sum f n (names bs) (misnamed_naming n [] 0 bs b)

naming_below : (n : ℕ) (named ts : List ℕ) → Naming n named ts → Each (λ t. t < n) ts
naming_below n named [] m = tt
naming_below n named (t ∷ ts) m = (m.0, naming_below n (t ∷ named) ts m.2)

-- where answer 8 is not due, the bytes name each table of the file exactly once, and no other
pub not-misnamed : (n : ℕ) (bs : List ℕ) → misnamed n [] 0 bs ≡ none → NamedOnce n (names bs)
not-misnamed n bs e =
    let m = misnamed_naming n [] 0 bs e in
    record {
      present = naming_below n [] (names bs) m;
      once = λ t h. length-filter-sum (eqb t) (names bs) ∙ naming-sum (λ x. one_if (eqb t x)) n (names bs) m ∙ sum_from_one t 0 n zero-le (omega arith);
    }

-- ---- each table named once: what is summed over the names is summed over the tables
none_passes : (q : ℕ → Bool) (xs : List ℕ) → length (filter q xs) ≡ 0 → any q xs ≡ false
none_passes q xs h = any_sum q xs ∙ ap (λ n. not (eqb n 0)) (sym (length-filter-sum q xs) ∙ h)

distinct_apart : (n : ℕ) (ts : List ℕ) → Each (λ t. t < n) ts → ((t : ℕ) → t < n → length (filter (eqb t) ts) ≤ 1) → Apart n ts
distinct_apart n [] e o = apart_none n
distinct_apart n (x ∷ xs) e o =
    let h : length (filter (eqb x) (x ∷ xs)) ≤ 1 = o x e.0 in
    let g : suc (length (filter (eqb x) xs)) ≤ 1 = rw (eq-eqb x x refl) at h in
    apart_more n x xs e.0 (ap not (none_passes (eqb x) xs (omega arith)))
    (distinct_apart n xs e.1 (λ t l. cases (eqb t x) (λ q. let a = o t l in let b : suc (length (filter (eqb t) xs)) ≤ 1 = rw q at a in omega arith) (λ q. let a = o t l in rw q at a)))

all_named : (n i m : ℕ) (ts : List ℕ) → i + m ≤ n → ((t : ℕ) → t < n → length (filter (eqb t) ts) ≡ 1) → filter (unnamed ts) (from i m) ≡ []
all_named n i zero ts h o = refl
all_named n i (suc m) ts h o =
    let some : any (eqb i) ts ≡ true = any_sum (eqb i) ts ∙ ap (λ k. not (eqb k 0)) (sym (length-filter-sum (eqb i) ts) ∙ o i (omega arith)) in
    rw some (all_named n (suc i) m ts (omega arith) o)

pub named-sums : (n : ℕ) (ts : List ℕ) → NamedOnce n ts → (f : ℕ → ℕ) → sum f ts ≡ sum f (from 0 n)
named-sums n ts w f =
    let a = distinct_apart n ts w.present (λ t h. omega (arith, w.once t h)) f in
    omega (arith, a, ap (sum f) (all_named n 0 n ts (omega arith) w.once))
