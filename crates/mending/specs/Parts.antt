-- What the functions on the parts of a plan promise.
use Rattle.std.specs.Prelude.{◌≡◌, true, false, ◌&&◌, List, ℕ, ◌+◌, ◌*◌, ◌-◌, ◌<◌, ◌≤◌, ◌^◌, length, get_or, ltb}
use Rattle.semantics.specs.Lists.{any}
use Rattle.semantics.specs.Files.{has_bit}
use Rattle.semantics.specs.Plans.{Plan, tables}
use Rattle.semantics.specs.Shapes.{Shape}
use Rattle.mending.specs.Places.{PlanAt}
use Rattle.mending.specs.declared.parts.Part.{Part}
use Rattle.mending.specs.declared.parts.Hand.{Hand}
use Rattle.mending.specs.declared.parts.Hand.TheVariants as hand
use Rattle.mending.specs.declared.parts.Side.{Side}
use Rattle.mending.specs.declared.parts.Survey.{Survey}

-- the tables by number, of masks and row counts
unfoldable pub shape_in : List ℕ → List ℕ → Shape
shape_in masks rows = record { rows = λ t. get_or rows t 0; has = λ t a. has_bit (get_or masks t 0) a }

-- the masks are words
abbrev pub MaskWords : List ℕ → Type 0
MaskWords masks = (t : ℕ) → get_or masks t 0 < 2 ^ 32

-- r is what the plan p comes to, that ends at e
pub record Parted (masks : List ℕ) (p : Plan) (e : ℕ) (r : Part) : Type 0 where
  pub next : r.next ≡ e
  pub word : r.attributes < 2 ^ 32
  pub attributes : (a : ℕ) → has_bit r.attributes a ≡ any (λ t. has_bit (get_or masks t 0) a) (tables p)

-- the bytes are those of one plan, of 31 at most: answers 7 and 8 leave no more
pub record Spanned (s : List ℕ) : Type 0 where
  pub plan : Plan
  pub stands : PlanAt s 0 plan (length s)
  pub short : length s ≤ 31

-- what the survey has at an index
abbrev pub part_in : List Part → ℕ → Part
part_in parts at = get_or parts at (record { attributes = 0; next = 0 })

-- it is what the plan that begins there comes to
abbrev pub Surveyed : List ℕ → List ℕ → List Part → Type 0
Surveyed s masks parts = (at : ℕ) (p : Plan) (e : ℕ) → PlanAt s at p e → Parted masks p e (part_in parts at)

-- the size of the plan at an index: how many bytes it has
abbrev pub size_at : List Part → ℕ → ℕ
size_at parts at = (part_in parts at).next - at

-- a join stands at the index, with a left plan and a right plan behind it
pub record JoinIn (s : List ℕ) (at : ℕ) : Type 0 where
  pub mark : get_or s at 0 ≡ 0xFF
  pub left : Plan
  pub right : Plan
  pub middle : ℕ
  pub end : ℕ
  pub lefts : PlanAt s (at + 1) left middle
  pub rights : PlanAt s middle right end

-- what is asked of a plan and an index at which a join stands: the plan is short and surveyed
abbrev pub JoinAsked : Survey → ℕ → Type 0
JoinAsked v at = (length v.code.now ≤ 31) × Surveyed v.code.now v.masks.now v.parts × JoinIn v.code.now at

-- the hand across the join
abbrev pub other_hand : Hand → Hand
other_hand hand.Left = hand.Right
other_hand hand.Right = hand.Left

-- the plan of the right side, or of the left one; of two numbers the one for it
abbrev pub side_plan : Hand → Plan → Plan → Plan
side_plan hand.Right l r = r
side_plan hand.Left l r = l

abbrev pub choose : Hand → ℕ → ℕ → ℕ
choose hand.Right a b = a
choose hand.Left a b = b

-- where a side's root is remembered
abbrev pub slot_of : Hand → ℕ → ℕ
slot_of hand.Right at = 2 * at
slot_of hand.Left at = 2 * at + 1

-- the side in which a place lies, where the right one begins at m
abbrev pub hand_at : ℕ → ℕ → Hand
hand_at place m = elim (ltb place m) [ true ↦ hand.Left | false ↦ hand.Right ]

-- the key is the mask of the join attributes of l and r
pub record JoinKey (masks : List ℕ) (l r : Plan) (key : ℕ) : Type 0 where
  pub word : key < 2 ^ 32
  pub bits : (a : ℕ) → has_bit key a
      ≡ (any (λ t. has_bit (get_or masks t 0) a) (tables l) && any (λ t. has_bit (get_or masks t 0) a) (tables r))

-- the right side, or the left one, of the join of l and r at an index, which ends at e, r beginning at m
pub record Sided (masks : List ℕ) (at : ℕ) (h : Hand) (l r : Plan) (m e : ℕ) (s : Side) : Type 0 where
  pub start : s.start ≡ choose h m (at + 1)
  pub end : s.end ≡ choose h e m
  pub slot : s.slot ≡ slot_of h at
  pub key : JoinKey masks l r s.key

-- the side is that of the join at the index
abbrev pub SideFor : Survey → ℕ → Hand → Side → Type 0
SideFor v at h side =
    (x y : Plan) (m e : ℕ) → PlanAt v.code.now (at + 1) x m → PlanAt v.code.now m y e → Sided v.masks.now at h x y m e side

-- it has bytes, which lie within those of the plan, and its slot is one of the memory
abbrev pub SideWithin : List ℕ → Side → Type 0
SideWithin s side = (side.start < side.end) × (side.end ≤ length s) × (side.end ≤ 31) × (side.slot < 64)

-- the place lies in that side of the join at the index
abbrev pub HandFor : Survey → ℕ → ℕ → Hand → Type 0
HandFor v at place h = (x : Plan) (m : ℕ) → PlanAt v.code.now (at + 1) x m → h ≡ hand_at place m
