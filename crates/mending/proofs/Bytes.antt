-- The tables that a plan names, and the bytes that name them.
use mathlib.Core.Path.{◌≡◌, refl, sym, ap, ap₂, ◌∙◌}
use mathlib.Core.Bool.{true, false}
use mathlib.Core.List.{List, [], ◌∷◌, ◌++◌, map, map-append}
use Prim.Native.Nat.{ℕ, suc, ◌+◌, ◌≤◌, ◌<◌, zero-le}
use native.Mathlib.Omega.{arith}
use native.Mathlib.Numerals.{add-one}
use lib.ListN.{length, get_or, length-append}
use lib.Dec.{eqb, ltb}
use borrow.Author.Tests.{eqb-true, eqb-false, eq-eqb, lt-ltb, ltb-true, ltb-false}
use Rattle.semantics.specs.Lists.{filter, from}
use Rattle.semantics.specs.Plans.{Plan, scan, join, encode, tables}
use Rattle.theory.specs.Rules.{Small}
use Rattle.semantics.specs.JoinTrees.{names_table}
use Rattle.theory.proofs.Cases.{cases, or_cases, or_left, or_right}
use Rattle.theory.proofs.Lists.{any_append, filter-append}
use Rattle.theory.proofs.Numbers.{from-split}
use Rattle.mending.specs.Places.{PlanAt, Planned}
use Rattle.mending.specs.Parts.{Spanned, JoinIn}
use Rattle.mending.specs.Rooting.{Distinct, bytes_from}
use Rattle.mending.proofs.Places.{plan-end, plan_span}

-- ---- one plan stands at an index, and one at every index inside it
pub plan_unique : (s : List ℕ) (at : ℕ) (p q : Plan) (e f : ℕ) → PlanAt s at p e → PlanAt s at q f → (p ≡ q) × (e ≡ f)
plan_unique s at (scan t) (scan u) e f h g = (ap scan (sym h.1 ∙ g.1), h.3 ∙ sym g.3)
plan_unique s at (scan t) (join l r) e f h g = let a : get_or s at 0 ≡ t = h.1 in let b : t < 16 = h.2 in let d : get_or s at 0 ≡ 255 = g.1 in absurd (omega arith)
plan_unique s at (join l r) (scan t) e f h g = let a : get_or s at 0 ≡ t = g.1 in let b : t < 16 = g.2 in let d : get_or s at 0 ≡ 255 = h.1 in absurd (omega arith)
plan_unique s at (join l r) (join x y) e f h g =
    let (m, u, v) = h.2 in
    let (n, w, z) = g.2 in
    let (a, b) = plan_unique s (at + 1) l x m n u w in
    let (c, d) = plan_unique s m r y e f v (rw b z) in
    (ap₂ join a c, d)

inside : (s : List ℕ) (at : ℕ) (p : Plan) (e i : ℕ) → PlanAt s at p e → at ≤ i → i < e → Planned s i
inside s at (scan t) e i h a b = let d : i ≡ at = omega (arith, h.3) in rw d (record { plan = scan t; end = e; stands = h })
inside s at (join l r) e i h a b =
    let (m, u, v) = h.2 in
    cases (eqb i at)
    (λ d. rw (eqb-true i at d) (record { plan = join l r; end = e; stands = h }))
    (λ d. let d' : i ≡ at → ⊥ = eqb-false i at d in
    cases (ltb i m) (λ c. inside s (at + 1) l m i u (omega arith) (ltb-true i m c)) (λ c. inside s m r e i v (ltb-false i m c) b))

pub spanned_planned : (s : List ℕ) (i : ℕ) → Spanned s → i < length s → Planned s i
spanned_planned s i w h = inside s 0 w.plan (length s) i w.stands zero-le h

pub planned-join : (s : List ℕ) (at : ℕ) → get_or s at 0 ≡ 255 → Planned s at → JoinIn s at
planned-join s at k q = go q.plan q.end q.stands
  where
    go : (p : Plan) (e : ℕ) → PlanAt s at p e → JoinIn s at
    go (scan t) e h = let a : get_or s at 0 ≡ t = h.1 in let b : t < 16 = h.2 in absurd (omega arith)
    go (join l r) e h = let (m, u, v) = h.2 in record { mark = k; left = l; right = r; middle = m; end = e; lefts = u; rights = v }

pub plan_small : (s : List ℕ) (at : ℕ) (p : Plan) (e : ℕ) → PlanAt s at p e → Small p
plan_small s at (scan t) e h = h.2
plan_small s at (join l r) e h = let (m, u, v) = h.2 in (plan_small s (at + 1) l m u, plan_small s m r e v)

-- ---- a table and the byte that names it
pub found-names : (s : List ℕ) (at : ℕ) (p : Plan) (e x i : ℕ) → PlanAt s at p e → x < 16 → at ≤ i → i < e → get_or s i 0 ≡ x → names_table p x ≡ true
found-names s at (scan t) e x i h w a b q =
    let d : i ≡ at = omega (arith, h.3) in
    let y : x ≡ t = sym q ∙ ap (λ j. get_or s j 0) d ∙ h.1 in
    rw (eq-eqb x t y) refl
found-names s at (join l r) e x i h w a b q =
    let (m, u, v) = h.2 in
    let k : get_or s at 0 ≡ 255 = h.1 in
    any_append (eqb x) (tables l) (tables r)
    ∙ cases (eqb i at)
    (λ d. absurd (omega (arith, ap (λ j. get_or s j 0) (eqb-true i at d))))
    (λ d. let d' : i ≡ at → ⊥ = eqb-false i at d in
    cases (ltb i m)
    (λ c. or_left (names_table l x) (names_table r x) (found-names s (at + 1) l m x i u w (omega arith) (ltb-true i m c) q))
    (λ c. or_right (names_table l x) (names_table r x) (found-names s m r e x i v w (ltb-false i m c) b q)))

pub named_byte : (s : List ℕ) (at : ℕ) (p : Plan) (e x : ℕ) → PlanAt s at p e → names_table p x ≡ true → (i : ℕ) × (at ≤ i) × (i < e) × (get_or s i 0 ≡ x)
named_byte s at (scan t) e x h n =
    or_cases (eqb x t) false n (λ q. (at, omega arith, omega (arith, h.3), h.1 ∙ sym (eqb-true x t q))) (λ q. let z : ◌≡◌ {A = ℕ} 0 1 = cc in absurd (omega arith))
named_byte s at (join l r) e x h n =
    let (m, u, v) = h.2 in
    let a = plan_span s (at + 1) l m u in
    let b = plan_span s m r e v in
    or_cases (names_table l x) (names_table r x) (sym (any_append (eqb x) (tables l) (tables r)) ∙ n)
    (λ q. let (i, c, d, f) = named_byte s (at + 1) l m x u q in (i, omega arith, omega arith, f))
    (λ q. let (i, c, d, f) = named_byte s m r e x v q in (i, omega arith, omega arith, f))

-- the tables that a plan names are below 16
pub named_small : (s : List ℕ) (at : ℕ) (p : Plan) (e x : ℕ) → PlanAt s at p e → names_table p x ≡ true → x < 16
named_small s at (scan t) e x h n = or_cases (eqb x t) false n (λ q. omega (arith, eqb-true x t q, h.2)) (λ q. let z : ◌≡◌ {A = ℕ} 0 1 = cc in absurd (omega arith))
named_small s at (join l r) e x h n =
    let (m, u, v) = h.2 in
    or_cases (names_table l x) (names_table r x) (sym (any_append (eqb x) (tables l) (tables r)) ∙ n) (λ q. named_small s (at + 1) l m x u q) (λ q. named_small s m r e x v q)

-- where no table is named twice, a byte of a table that the plan names lies inside the plan
pub named-inside : (s : List ℕ) (at : ℕ) (p : Plan) (e i : ℕ) → Distinct s → PlanAt s at p e → i < length s → get_or s i 0 < 16 → names_table p (get_or s i 0) ≡ true → (at ≤ i) × (i < e)
named-inside s at p e i d h w t n =
    let (j, a, b, f) = named_byte s at p e (get_or s i 0) h n in
    let c = plan_span s at p e h in
    let q : i ≡ j = d i j w (omega arith) t (sym f) in
    omega arith

-- so of the two plans of a join the left one names the table exactly if the byte stands before the right one
pub named_left : (s : List ℕ) (at : ℕ) (l r : Plan) (m e i : ℕ) → Distinct s → PlanAt s (at + 1) l m → PlanAt s m r e → at < i → i < e → get_or s i 0 < 16 → names_table l (get_or s i 0) ≡ ltb i m
named_left s at l r m e i d u v a b t =
    let c = plan_span s m r e v in
    cases (ltb i m)
    (λ g. found-names s (at + 1) l m (get_or s i 0) i u t (omega arith) (ltb-true i m g) refl ∙ sym g)
    (λ g. cases (names_table l (get_or s i 0))
    (λ n. let z = named-inside s (at + 1) l m i d u (omega arith) t n in absurd (omega (arith, ltb-false i m g)))
    (λ n. n ∙ sym g))

-- ---- bytes gone through
bytes_from-encode : (s : List ℕ) (at : ℕ) (p : Plan) (e : ℕ) → PlanAt s at p e → bytes_from s at (length (encode p)) ≡ encode p
bytes_from-encode s at (scan t) e h = ap (λ x. x ∷ []) h.1
bytes_from-encode s at (join l r) e h =
    let (m, u, v) = h.2 in
    let q : suc at + length (encode l) ≡ m = omega (arith, plan-end s (at + 1) l m u) in
    ap₂ (λ x xs. x ∷ xs) h.1
    (ap (bytes_from s (suc at)) (length-append (encode l) (encode r))
    ∙ ap (map (λ j. get_or s j 0)) (from-split (suc at) (length (encode l)) (length (encode r)))
    ∙ map-append (λ j. get_or s j 0) (from (suc at) (length (encode l))) (from (suc at + length (encode l)) (length (encode r)))
    ∙ ap₂ (λ x y. x ++ y) (ap (λ i. bytes_from s i (length (encode l))) (sym (add-one at)) ∙ bytes_from-encode s (at + 1) l m u) (ap (λ i. bytes_from s i (length (encode r))) q ∙ bytes_from-encode s m r e v))

pub bytes_from-plan : (s : List ℕ) (at n : ℕ) (p : Plan) (e : ℕ) → PlanAt s at p e → e ≡ at + n → bytes_from s at n ≡ encode p
bytes_from-plan s at n p e h q = let z : n ≡ length (encode p) = omega (arith, plan-end s at p e h) in ap (bytes_from s at) z ∙ bytes_from-encode s at p e h

pub bytes_from_more : (s : List ℕ) (at n : ℕ) → bytes_from s at (n + 1) ≡ bytes_from s at n ++ (get_or s (at + n) 0 ∷ [])
bytes_from_more s at n = ap (map (λ j. get_or s j 0)) (from-split at n 1) ∙ map-append (λ j. get_or s j 0) (from at n) ((at + n) ∷ [])

-- the bytes below 16 are the tables named
pub names_small : (p : Plan) → Small p → filter (λ b. ltb b 16) (encode p) ≡ tables p
names_small (scan t) h = rw (lt-ltb t 16 h)
names_small (join l r) h = filter-append (λ b. ltb b 16) (encode l) (encode r) ∙ ap₂ (λ x y. x ++ y) (names_small l h.0) (names_small r h.1)
