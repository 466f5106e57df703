-- The parts of a plan, one after the other, and the sides of a join.
use mathlib.Core.Path.{◌≡◌, refl, sym, ap, ap₂, ◌∙◌, fun_ext}
use mathlib.Core.Bool.{◌&&◌, or-false}
use mathlib.Core.List.{List}
use Prim.Native.Nat.{ℕ, ◌+◌, ◌*◌, ◌-◌, ◌≤◌, ◌<◌}
use native.Mathlib.Omega.{arith}
use lib.ListN.{length, get_or, set, length-set}
use lib.Seq.{get_or-set_same, get_or-set_other}
use lib.Dec.{eqb}
use lib.Bits.{bit_and, bit_or, and_le_l, or_lt}
use borrow.Author.Tests.{eqb-true, eqb-false}
use Rattle.semantics.specs.Lists.{all, filter}
use Rattle.semantics.specs.Files.{has_bit}
use Rattle.semantics.specs.Plans.{Plan, scan, join, tables}
use Rattle.semantics.specs.Shapes.{attributes, holds, shared, join_attributes}
use Rattle.semantics.specs.Mending.{holds_all}
use Rattle.theory.proofs.Cases.{cases}
use Rattle.words.proofs.Masks.{has_bit_and, union-any, covers}
use Rattle.mending.specs.Places.{PlanAt}
use Rattle.mending.specs.Parts.{shape_in, MaskWords, Parted, part_in, Surveyed, size_at, JoinIn, JoinAsked, side_plan, choose, slot_of, JoinKey, SideFor, SideWithin}
use Rattle.mending.specs.Hanging.{holds_key}
use Rattle.mending.specs.declared.parts.Hand.{Hand}
use Rattle.mending.specs.declared.parts.Hand.TheVariants as hand
use Rattle.mending.specs.declared.parts.Part.{Part}
use Rattle.mending.specs.declared.parts.Side.{Side}
use Rattle.mending.specs.declared.parts.Survey.{Survey}
use Rattle.mending.proofs.Places.{plan_span}

-- ---- a plan and its parts
pub one_table : (masks s : List ℕ) (at : ℕ) → MaskWords masks → (get_or s at 0 ≡ 255 → ⊥) → (x : ℕ) → x ≡ get_or s at 0 → (p : Plan) (e : ℕ) → PlanAt s at p e
    → Parted masks p e (record { attributes = get_or masks x 0; next = at + 1 })
one_table masks s at w n x q (join l r) e h = absurd (n h.1)
one_table masks s at w n x q (scan t) e h =
    record { next = sym h.3; word = w x; attributes = λ a. ap (λ k. has_bit (get_or masks k 0) a) (q ∙ h.1) ∙ sym (or-false (has_bit (get_or masks t 0) a)) }

pub two_plans : (masks s : List ℕ) (at : ℕ) → get_or s at 0 ≡ 255 → (l r : Part) → ((p : Plan) (e : ℕ) → PlanAt s (at + 1) p e → Parted masks p e l) → ((p : Plan) (e : ℕ) → PlanAt s l.next p e → Parted masks p e r)
    → (p : Plan) (e : ℕ) → PlanAt s at p e → Parted masks p e (record { attributes = bit_or l.attributes r.attributes; next = r.next })
two_plans masks s at q l r f g (scan t) e h = let x : get_or s at 0 ≡ t = h.1 in let y : t < 16 = h.2 in absurd (omega arith)
two_plans masks s at q l r f g (join a b) e h =
    let (m, u, v) = h.2 in
    let pl : Parted masks a m l = f a m u in
    let pr : Parted masks b e r = g b e (rw pl.next v) in
    record {
      next = pr.next;
      word = or_lt 32 l.attributes r.attributes pl.word pr.word;
      attributes = λ i. union-any (λ t. has_bit (get_or masks t 0) i) (tables a) (tables b) l.attributes r.attributes i (pl.attributes i) (pr.attributes i);
    }

-- ---- the survey, index by index
pub record SurveyedTo (s masks : List ℕ) (parts : List Part) (i : ℕ) : Type 0 where
  pub size : length parts ≡ 31
  pub each : (at : ℕ) (p : Plan) (e : ℕ) → at < i → PlanAt s at p e → Parted masks p e (part_in parts at)

pub survey-begun : (s masks : List ℕ) (parts : List Part) → length parts ≡ 31 → SurveyedTo s masks parts 0
survey-begun s masks parts a = record { size = a; each = λ at p e h st. absurd (omega arith) }

pub survey_more : (s masks : List ℕ) (parts : List Part) (i : ℕ) (r : Part) → i < 31 → SurveyedTo s masks parts i → ((p : Plan) (e : ℕ) → PlanAt s i p e → Parted masks p e r)
    → SurveyedTo s masks (set parts i r) (i + 1)
survey_more s masks parts i r w q f =
    record {
      size = length-set parts i r ∙ q.size;
      each = λ at p e h st.
          cases (eqb at i)
          (λ g. let z : at ≡ i = eqb-true at i g in
          rw (z, get_or-set_same parts i r (record { attributes = 0; next = 0 }) (omega (arith, q.size))) (f p e (rw z at st)))
          (λ g. let z : at ≡ i → ⊥ = eqb-false at i g in
          rw (get_or-set_other parts i at r (record { attributes = 0; next = 0 }) z) (q.each at p e (omega arith) st));
    }

pub survey_done : (s masks : List ℕ) (parts : List Part) (i : ℕ) → length s ≤ i → SurveyedTo s masks parts i → Surveyed s masks parts
survey_done s masks parts i w q at p e h = q.each at p e (omega (arith, plan_span s at p e h)) h

-- the survey gives a plan its size
pub size_is : (s masks : List ℕ) (parts : List Part) → Surveyed s masks parts → (at : ℕ) (p : Plan) (e : ℕ) → PlanAt s at p e → size_at parts at ≡ e - at
size_is s masks parts q at p e h = ap (λ n. n - at) (q at p e h).next

-- ---- a join: where its right plan begins and ends, and its key
abbrev pub middle_in : List Part → ℕ → ℕ
middle_in parts at = (part_in parts (at + 1)).next

abbrev pub end_in : List Part → ℕ → ℕ
end_in parts at = (part_in parts (middle_in parts at)).next

abbrev pub key_in : List Part → ℕ → ℕ
key_in parts at = bit_and (part_in parts (at + 1)).attributes (part_in parts (middle_in parts at)).attributes

-- the side as the code takes it from the survey
abbrev pub side_in : List Part → ℕ → Hand → Side
side_in parts at hand.Left = record { start = at + 1; end = middle_in parts at; key = key_in parts at; slot = 2 * at + 1 }
side_in parts at hand.Right = record { start = middle_in parts at; end = end_in parts at; key = key_in parts at; slot = 2 * at }

module _ (v : Survey) (at : ℕ) (q : JoinAsked v at) where
  module _ (x y : Plan) (m e : ℕ) (u : PlanAt v.code.now (at + 1) x m) (w : PlanAt v.code.now m y e) where
    middle-next : middle_in v.parts at ≡ m
    middle-next = (q.1 (at + 1) x m u).next

    end-next : end_in v.parts at ≡ e
    end-next = ap (λ i. (part_in v.parts i).next) middle-next ∙ (q.1 m y e w).next

    key_of : JoinKey v.masks.now x y (key_in v.parts at)
    key_of =
        rw middle-next
        (record {
          word = omega (arith, and_le_l (part_in v.parts (at + 1)).attributes (part_in v.parts m).attributes, (q.1 (at + 1) x m u).word);
          bits = λ a. has_bit_and (part_in v.parts (at + 1)).attributes (part_in v.parts m).attributes a ∙ ap₂ (λ x y. x && y) ((q.1 (at + 1) x m u).attributes a) ((q.1 m y e w).attributes a);
        })

  -- the right plan begins within the bytes
  pub middle_small : (at + 1 < middle_in v.parts at) × (middle_in v.parts at < 31)
  middle_small =
      let j = q.2 in
      omega (arith, middle-next j.left j.right j.middle j.end j.lefts j.rights, plan_span v.code.now (at + 1) j.left j.middle j.lefts, plan_span v.code.now j.middle j.right j.end j.rights, q.0)

  pub sided : (h : Hand) → SideFor v at h (side_in v.parts at h)
  sided hand.Right x y m e u w = record { start = middle-next x y m e u w; end = end-next x y m e u w; slot = refl; key = key_of x y m e u w }
  sided hand.Left x y m e u w = record { start = refl; end = middle-next x y m e u w; slot = refl; key = key_of x y m e u w }

-- the join is a plan
pub join_stands : {s : List ℕ} {at : ℕ} (j : JoinIn s at) → PlanAt s at (join j.left j.right) j.end
join_stands {s} {at} j = let a = plan_span s (at + 1) j.left j.middle j.lefts in (omega arith, j.mark, (j.middle, j.lefts, j.rights))

-- ---- the key's holders are those of the join attributes
pub key-holds : (masks rows : List ℕ) (x y : Plan) (key : ℕ) → JoinKey masks x y key → (t : ℕ) → holds_key key (get_or masks t 0) ≡ holds_all (shape_in masks rows) (join_attributes (shape_in masks rows) x y) t
unfolding holds_key holds_all join_attributes shared holds shape_in
key-holds masks rows x y key q t = covers key (get_or masks t 0) q.word ∙ ap (λ g. all (has_bit (get_or masks t 0)) (filter g attributes)) (fun_ext (λ a. q.bits a))

-- the plan of a side
side-stands : (s : List ℕ) (at : ℕ) (h : Hand) (x y : Plan) (m e : ℕ) → PlanAt s (at + 1) x m → PlanAt s m y e → PlanAt s (choose h m (at + 1)) (side_plan h x y) (choose h e m)
side-stands s at hand.Right x y m e u v = v
side-stands s at hand.Left x y m e u v = u

-- a side's slot, and that its bytes lie inside the join's, which ends at e
pub side_bounds : (v : Survey) (at : ℕ) (h : Hand) (side : Side) → SideFor v at h side → (q : JoinAsked v at)
    → (side.slot < 64) × (at < side.start) × (side.start < side.end) × (side.end ≤ q.2.end) × (q.2.end ≤ length v.code.now) × (length v.code.now ≤ 31)
side_bounds v at h side f q =
    let j = q.2 in
    let s = f j.left j.right j.middle j.end j.lefts j.rights in
    go h s.slot s.start s.end (plan_span v.code.now (at + 1) j.left j.middle j.lefts) (plan_span v.code.now j.middle j.right j.end j.rights) q.0
  where
    go : (h : Hand) → {m e n : ℕ} → side.slot ≡ slot_of h at → side.start ≡ choose h m (at + 1) → side.end ≡ choose h e m
        → (at + 1 < m) × (m ≤ n) × (at + 1 < n) → (m < e) × (e ≤ n) × (m < n) → n ≤ 31
        → (side.slot < 64) × (at < side.start) × (side.start < side.end) × (side.end ≤ e) × (e ≤ n) × (n ≤ 31)
    go hand.Right p q r a b c = omega arith
    go hand.Left p q r a b c = omega arith

-- its plan stands there
pub side_there : (v : Survey) (at : ℕ) (h : Hand) (side : Side) → SideFor v at h side → (x y : Plan) (m e : ℕ) → PlanAt v.code.now (at + 1) x m → PlanAt v.code.now m y e
    → PlanAt v.code.now side.start (side_plan h x y) side.end
side_there v at h side f x y m e u w = let q = f x y m e u w in rw (q.start, q.end) (side-stands v.code.now at h x y m e u w)

pub side-within : (v : Survey) (at : ℕ) (q : JoinAsked v at) (h : Hand) → SideWithin v.code.now (side_in v.parts at h)
side-within v at q h = let b = side_bounds v at h (side_in v.parts at h) (sided v at q h) q in omega (arith, b)
