-- Where a plan and its parts stand in the bytes.
use Prim.Native.Nat.{ℕ, suc, ◌+◌, ◌<◌, ◌≤◌}
use mathlib.Core.Path.{◌≡◌, refl, sym, ap, ◌∙◌}
use mathlib.Core.Bool.{Bool, true, false}
use mathlib.Core.List.{List, [], ◌∷◌, ◌++◌, append_assoc, append-nil}
use mathlib.Core.Option.{none}
use native.Mathlib.Omega.{arith}
use lib.ListN.{length, get_or, length-append}
use lib.Dec.{ltb}
use borrow.Author.Tests.{ltb-true, ltb-false}
use lib.Seq.{get_or-append_seam}
use Rattle.semantics.specs.Plans.{Plan, scan, join, encode, misplaced, plan_of}
use Rattle.theory.specs.Rules.{Small}
use Rattle.theory.proofs.Spelling.{spelled_out}
use Rattle.mending.specs.Places.{PlanAt, Planned}

-- a plan ends where its code ends
pub plan-end : (s : List ℕ) (at : ℕ) (p : Plan) (e : ℕ) → PlanAt s at p e → e ≡ at + length (encode p)
plan-end s at (scan t) e h = h.3
plan-end s at (join l r) e h =
    let (m, a, b) = h.2 in
    let x : m ≡ at + 1 + length (encode l) = plan-end s (at + 1) l m a in
    let y : e ≡ m + length (encode r) = plan-end s m r e b in
    omega (arith, length-append (encode l) (encode r))

-- it begins and ends within the bytes
pub plan_span : (s : List ℕ) (at : ℕ) (p : Plan) (e : ℕ) → PlanAt s at p e → (at < e) × (e ≤ length s) × (at < length s)
plan_span s at (scan t) e h = let a : at < length s = h.0 in let b : e ≡ at + 1 = h.3 in omega arith
plan_span s at (join l r) e h =
    let (m, a, b) = h.2 in
    let x : (at + 1 < m) × (m ≤ length s) × (at + 1 < length s) = plan_span s (at + 1) l m a in
    let y : (m < e) × (e ≤ length s) × (m < length s) = plan_span s m r e b in
    omega arith

pub starts : (s : List ℕ) (at : ℕ) → Planned s at → at < length s
starts s at q = (plan_span s at q.plan q.end q.stands).2

-- a byte that is not an FF is a table number
table_of : (s : List ℕ) (at : ℕ) → (get_or s at 0 ≡ 255 → ⊥) → (p : Plan) (e : ℕ) → PlanAt s at p e → get_or s at 0 < 16
table_of s at n (scan t) e h = rw h.1 h.2
table_of s at n (join l r) e h = absurd (n h.1)

-- so no other byte stands where a plan begins
pub no_other : (s : List ℕ) (at : ℕ) → (get_or s at 0 ≡ 255 → ⊥) → 16 ≤ get_or s at 0 → Planned s at → ⊥
no_other s at n h q = omega (arith, table_of s at n q.plan q.end q.stands)

-- the test for a table, where it passes; and where it fails, at an index where a plan begins, an FF stands there
pub tested-table : (b : ℕ) (r : Bool) → r ≡ ltb b 16 → r ≡ true → b < 16
tested-table b r q h = ltb-true b 16 (sym q ∙ h)

pub tested-large : (b : ℕ) (r : Bool) → r ≡ ltb b 16 → r ≡ false → 16 ≤ b
tested-large b r q h = ltb-false b 16 (sym q ∙ h)

pub tested-mark : (s : List ℕ) (at : ℕ) (r : Bool) → r ≡ ltb (get_or s at 0) 16 → r ≡ false → Planned s at → get_or s at 0 ≡ 255
tested-mark s at r q h p = go p.plan p.end p.stands
  where
    go : (p : Plan) (e : ℕ) → PlanAt s at p e → get_or s at 0 ≡ 255
    go (scan t) e st = let a : get_or s at 0 ≡ t = st.1 in let b : t < 16 = st.2 in absurd (omega (arith, tested-large (get_or s at 0) r q h))
    go (join l r) e st = st.1

-- the left plan of a join
left_of_lem : (s : List ℕ) (at : ℕ) → get_or s at 0 ≡ 255 → (p : Plan) (e : ℕ) → PlanAt s at p e → Planned s (at + 1)
left_of_lem s at t (scan x) e h = let a : get_or s at 0 ≡ x = h.1 in let b : x < 16 = h.2 in absurd (omega arith)
left_of_lem s at t (join l r) e h = let (m, a, b) = h.2 in record { plan = l; end = m; stands = a }

pub left : (s : List ℕ) (at : ℕ) → get_or s at 0 ≡ 255 → Planned s at → Planned s (at + 1)
left s at t q = left_of_lem s at t q.plan q.end q.stands

-- the right plan begins where the left one ends, at m
right_of_lem : (s : List ℕ) (at m : ℕ) → get_or s at 0 ≡ 255 → ((p : Plan) (e : ℕ) → PlanAt s (at + 1) p e → m ≡ e) → (p : Plan) (e : ℕ) → PlanAt s at p e → Planned s m
right_of_lem s at m t k (scan x) e h = let a : get_or s at 0 ≡ x = h.1 in let b : x < 16 = h.2 in absurd (omega arith)
right_of_lem s at m t k (join l r) e h = let (n, a, b) = h.2 in record { plan = r; end = e; stands = rw (k l n a) b }

pub right : (s : List ℕ) (at m : ℕ) → get_or s at 0 ≡ 255 → ((p : Plan) (e : ℕ) → PlanAt s (at + 1) p e → m ≡ e) → Planned s at → Planned s m
right s at m t k q = right_of_lem s at m t k q.plan q.end q.stands

-- the left plan's end lies within the bytes
left_end : (s : List ℕ) (at m : ℕ) → get_or s at 0 ≡ 255 → ((p : Plan) (e : ℕ) → PlanAt s (at + 1) p e → m ≡ e) → (p : Plan) (e : ℕ) → PlanAt s at p e → at + 1 < m
left_end s at m t k (scan x) e h = let a : get_or s at 0 ≡ x = h.1 in let b : x < 16 = h.2 in absurd (omega arith)
left_end s at m t k (join l r) e h =
    let (n, a, b) = h.2 in
    let x : (at + 1 < n) × (n ≤ length s) × (at + 1 < length s) = plan_span s (at + 1) l n a in
    let y : m ≡ n = k l n a in
    omega arith

pub left-ends : (s : List ℕ) (at m : ℕ) → get_or s at 0 ≡ 255 → ((p : Plan) (e : ℕ) → PlanAt s (at + 1) p e → m ≡ e) → Planned s at → at + 1 < m
left-ends s at m t k q = left_end s at m t k q.plan q.end q.stands

-- the code of a plan stands where it is written
pub stands : (p : Plan) → Small p → (s before after : List ℕ) (at e : ℕ) → s ≡ before ++ (encode p ++ after) → at ≡ length before → e ≡ at + length (encode p) → PlanAt s at p e
stands (scan t) h s before after at e q a b =
    let n : length s ≡ length before + suc (length after) = ap length q ∙ length-append before (t ∷ after) in
    (omega arith, rw (q, a) (get_or-append_seam before t after 0), h, b)
stands (join l r) h s before after at e q a b =
    let n : length s ≡ length before + suc (length ((encode l ++ encode r) ++ after)) = ap length q ∙ length-append before (255 ∷ ((encode l ++ encode r) ++ after)) in
    let m : ℕ = at + 1 + length (encode l) in
    let one : length (before ++ (255 ∷ [])) ≡ length before + 1 = length-append before (255 ∷ []) in
    let two : length (before ++ (255 ∷ encode l)) ≡ length before + suc (length (encode l)) = length-append before (255 ∷ encode l) in
    let three : length (encode l ++ encode r) ≡ length (encode l) + length (encode r) = length-append (encode l) (encode r) in (
      omega arith,
      rw (q, a) (get_or-append_seam before 255 ((encode l ++ encode r) ++ after) 0),
      (
        m,
        stands l h.0 s (before ++ (255 ∷ [])) (encode r ++ after) (at + 1) m (q ∙ ap (λ x. before ++ (255 ∷ x)) (append_assoc (encode l) (encode r) after) ∙ sym (append_assoc before (255 ∷ []) (encode l ++ (encode r ++ after)))) (omega arith) refl,
        stands r h.1 s (before ++ (255 ∷ encode l)) after m e (q ∙ ap (λ x. before ++ (255 ∷ x)) (append_assoc (encode l) (encode r) after) ∙ sym (append_assoc before (255 ∷ encode l) (encode r ++ after))) (omega arith) (omega arith),
      ),
    )

-- bytes that spell a plan are that plan, from the first to the last
pub spelled-stands : (code : List ℕ) → misplaced 1 0 code ≡ none → PlanAt code 0 (plan_of code) (length code)
spelled-stands code h =
    let (s, e) = spelled_out code h in
    stands (plan_of code) s code [] [] 0 (length code) (sym (append-nil (encode (plan_of code)) ∙ e)) refl (omega (arith, ap length e))
