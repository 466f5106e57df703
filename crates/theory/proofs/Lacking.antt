-- Answer 9's detail: the first FF whose join has a side where no table holds its join attributes.
use mathlib.Core.Path.{◌≡◌, refl, sym, ap, ◌∙◌}
use mathlib.Core.Logic.{◌↔◌, inl, inr}
use mathlib.Core.Bool.{Bool, true, false}
use mathlib.Core.Option.{none, some}
use mathlib.Core.List.{List, [], ◌∷◌, ◌++◌, append_assoc, append-nil}
use Prim.Native.Nat.{ℕ, suc, ◌+◌, ◌<◌}
use native.Mathlib.Omega.{arith}
use native.Mathlib.Nat.{add-zero}
use lib.ListN.{length, drop, get_or, length-append}
use lib.Seq.{drop-append-le, drop-append-add, get_or-drop}
use Rattle.theory.specs.Elements.{Each}
use Rattle.semantics.specs.Lists.{any, non_empty}
use Rattle.semantics.specs.Plans.{Plan, scan, join, encode, tables}
use Rattle.semantics.specs.Shapes.{Shape, join_attributes}
use Rattle.semantics.specs.Mending.{holds_all, holders, both_hold, unmendable}
use Rattle.theory.specs.Selections.{Mendable}
use Rattle.theory.specs.Details.{Stands, itself, in_left, in_right, NoHolder, LacksHolder, FirstLacking}
use Rattle.theory.proofs.Cases.{cases, option_cases, or-false_left, or-false_right, true-false}
use Rattle.theory.proofs.Lists.{non_empty-filter}
use Rattle.theory.proofs.Mendable.{unmendable-mendable, mendable-unmendable}

-- ---- where a plan stands
code-long : (p : Plan) → 0 < length (encode p)
code-long (scan t) = omega arith
code-long (join l r) = omega arith

stands-lt : {q p : Plan} {i : ℕ} → Stands q p i → i < length (encode p)
stands-lt {q} itself = code-long q
stands-lt (in_left {q} {l} {r} s) = omega (arith, stands-lt s, length-append (encode l) (encode r))
stands-lt (in_right {q} {l} {r} s) = omega (arith, stands-lt s, length-append (encode l) (encode r))

-- ---- a side without a holder
none_each : (q : ℕ → Bool) (ts : List ℕ) → any q ts ≡ false → Each (λ t. q t ≡ false) ts
none_each q [] e = tt
none_each q (t ∷ ts) e = (or-false_left (q t) (any q ts) e, none_each q ts (or-false_right (q t) (any q ts) e))

each_none : (q : ℕ → Bool) (ts : List ℕ) → Each (λ t. q t ≡ false) ts → any q ts ≡ false
each_none q [] e = refl
each_none q (t ∷ ts) e = rw e.0 (each_none q ts e.1)

module _ (S : Shape) where
  no-holder : (ks : List ℕ) (p : Plan) → non_empty (holders S ks p) ≡ false → NoHolder S ks p
  unfolding holders
  no-holder ks p e = none_each (holds_all S ks) (tables p) (sym (non_empty-filter (holds_all S ks) (tables p)) ∙ e)

  holder_none : (ks : List ℕ) (p : Plan) → NoHolder S ks p → non_empty (holders S ks p) ≡ false
  unfolding holders
  holder_none ks p e = non_empty-filter (holds_all S ks) (tables p) ∙ each_none (holds_all S ks) (tables p) e

  -- the test of a join says whether it has a side without a holder
  lacks-holder : (l r : Plan) → both_hold S l r ≡ false → LacksHolder S l r
  unfolding both_hold
  lacks-holder l r e =
      cases (non_empty (holders S (join_attributes S l r) l))
      (λ h. inr (no-holder (join_attributes S l r) r (rw h at e)))
      (λ h. inl (no-holder (join_attributes S l r) l h))

  holder-lacks : (l r : Plan) → LacksHolder S l r → both_hold S l r ≡ false
  unfolding both_hold
  holder-lacks l r (inl e) = rw (holder_none (join_attributes S l r) l e)
  holder-lacks l r (inr e) =
      cases (non_empty (holders S (join_attributes S l r) l)) (λ h. rw h (holder_none (join_attributes S l r) r e)) (λ h. rw h)

  -- no join of a plan that can be mended has one
  holds-lacks : (l r : Plan) → both_hold S l r ≡ true → LacksHolder S l r → ⊥
  holds-lacks l r h e = true-false (both_hold S l r) h (holder-lacks l r e)

  stands-holds : {l r p : Plan} {i : ℕ} → Stands (join l r) p i → Mendable S p → LacksHolder S l r → ⊥
  stands-holds {l} {r} itself w = holds-lacks l r w.0
  stands-holds (in_left s) w = stands-holds s w.1
  stands-holds (in_right s) w = stands-holds s w.2

-- ---- the first such join, from the plans of a join to the join
module _ (S : Shape) {l r : Plan} (h : both_hold S l r ≡ true) where
  before_left : {j : ℕ} → FirstLacking S l j → {a b : Plan} {m : ℕ} → Stands (join a b) (join l r) m → m < suc j → LacksHolder S a b → ⊥
  before_left f itself k = holds-lacks S l r h
  before_left f (in_left s) k = f.before _ _ _ s (omega arith)
  before_left f (in_right s) k = absurd (omega (arith, stands-lt f.stands))

  lacking_left : {j : ℕ} → FirstLacking S l j → FirstLacking S (join l r) (suc j)
  lacking_left f = record { left = f.left; right = f.right; stands = in_left f.stands; lacks = f.lacks; before = λ a b m s k. before_left f s k }

  before_right : {j : ℕ} → Mendable S l → FirstLacking S r j → {a b : Plan} {m : ℕ} → Stands (join a b) (join l r) m → m < suc (length (encode l) + j) → LacksHolder S a b → ⊥
  before_right w f itself k = holds-lacks S l r h
  before_right w f (in_left s) k = stands-holds S s w
  before_right w f (in_right s) k = f.before _ _ _ s (omega arith)

  lacking_right : {j : ℕ} → Mendable S l → FirstLacking S r j → FirstLacking S (join l r) (suc (length (encode l) + j))
  lacking_right w f = record { left = f.left; right = f.right; stands = in_right f.stands; lacks = f.lacks; before = λ a b m s k. before_right w f s k }

-- in a plan whose bytes begin at index i
lacking_from : (S : Shape) (p : Plan) (i k : ℕ) → unmendable S p i ≡ some k → (j : ℕ) × (k ≡ i + j) × FirstLacking S p j
lacking_from S (scan t) i k e = let z : ◌≡◌ {A = ℕ} 0 1 = cc in absurd (omega arith)
lacking_from S (join l r) i k e =
    cases (both_hold S l r)
    (λ h. option_cases (unmendable S l (suc i))
    (λ n. let (j, q, f) = lacking_from S r (suc i + length (encode l)) k (rw (h, n, unmendable) at e) in (suc (length (encode l) + j), omega arith, lacking_right S h (unmendable-mendable S l (suc i) n) f))
    (λ m n. let (j, q, f) = lacking_from S l (suc i) m n in let same : m ≡ k = cc (rw (h, n, unmendable) at e) in (suc j, omega arith, lacking_left S h f)))
    (λ h. let z : i ≡ k = cc (rw (h, unmendable) at e) in (0, omega arith, record { left = l; right = r; stands = itself; lacks = lacks-holder S l r h; before = λ a b j s lt. absurd (omega arith) }))

unmendable_first : (S : Shape) (p : Plan) (i : ℕ) → unmendable S p 0 ≡ some i → FirstLacking S p i
unmendable_first S p i e = let (j, q, f) = lacking_from S p 0 i e in let z : i ≡ j = omega arith in rw z f

lacking-once : (S : Shape) (p : Plan) (i k : ℕ) → FirstLacking S p i → FirstLacking S p k → i ≡ k
lacking-once S p i k f g =
    let a : (i < k → ⊥) = λ h. g.before f.left f.right i f.stands h f.lacks in
    let b : (k < i → ⊥) = λ h. f.before g.left g.right k g.stands h g.lacks in
    omega arith

-- 9's detail is the index of the first FF whose join has a side without a holder
pub first_lacking : (S : Shape) (p : Plan) (i : ℕ) → (unmendable S p 0 ≡ some i) ↔ FirstLacking S p i
first_lacking S p i = (
  unmendable_first S p i,
  λ f. option_cases (unmendable S p 0)
      (λ e. absurd (stands-holds S f.stands (unmendable-mendable S p 0 e) f.lacks))
      (λ k e. e ∙ ap some (lacking-once S p k i (unmendable_first S p k e) f)),
)

-- 9 is not due exactly if the plan can be mended: both sides of every join have a holder
pub mendable_exactly : (S : Shape) (p : Plan) → (unmendable S p 0 ≡ none) ↔ Mendable S p
mendable_exactly S p = (unmendable-mendable S p 0, mendable-unmendable S p 0)

-- the bytes of q stand there in those of p
pub stands-code : {q p : Plan} {i : ℕ} → Stands q p i → (rest : List ℕ) × (drop i (encode p) ≡ encode q ++ rest)
stands-code {q} itself = ([], sym (append-nil (encode q)))
stands-code (in_left {q} {l} {r} {i} s) =
    let (rest, e) = stands-code s in
    (rest ++ encode r, drop-append-le i (encode l) (encode r) (omega (arith, stands-lt s)) ∙ ap (λ x. x ++ encode r) e ∙ append_assoc (encode q) rest (encode r))
stands-code (in_right {q} {l} {r} {i} s) = let (rest, e) = stands-code s in (rest, drop-append-add (encode l) (encode r) i ∙ e)

-- so a join stands at an FF
pub stands_ff : {l r p : Plan} {i : ℕ} → Stands (join l r) p i → get_or (encode p) i 0 ≡ 0xFF
stands_ff {l} {r} {p} {i} s = let (rest, e) = stands-code s in ap (λ j. get_or (encode p) j 0) (sym (add-zero i)) ∙ sym (get_or-drop i (encode p) 0 0) ∙ ap (λ x. get_or x 0 0) e
