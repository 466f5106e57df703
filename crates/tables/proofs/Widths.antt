-- The attributes of several masks together, and their number in a file.
use Prim.Native.Nat.{ℕ, ◌<◌, ◌≤◌}
use mathlib.Core.Path.{◌≡◌, refl, sym, ap, ◌∙◌}
use mathlib.Core.Bool.{true, ◌||◌, or-false, or_assoc}
use mathlib.Core.List.{List, [], ◌∷◌, map}
use native.Mathlib.Omega.{arith}
use lib.ListN.{length, take, length-map}
use lib.Bits.{bit_or}
use lib.Seq.{take_at}
use Rattle.std.specs.List.{fold}
use Rattle.theory.specs.Elements.{Each}
use Rattle.theory.specs.Rules.{Fitting}
use Rattle.semantics.specs.Lists.{any, filter}
use Rattle.semantics.specs.Files.{Table, has_bit, arity, read}
use Rattle.semantics.specs.Shapes.{attributes, width}
use Rattle.theory.proofs.Lists.{each, Each-map, filter_passes, filter-fewer, filter_each, any-map}
use Rattle.theory.proofs.Reading.{tables_few}
use Rattle.words.specs.Arrays.{padded}
use Rattle.words.proofs.Masks.{no-attribute, has_bit_or, arity-count}
use Rattle.tables.specs.declared.Contents.{Contents}
use Rattle.tables.specs.Catalogs.{catalog_of, contents_of, file_width, AttributesTogether}

-- masks put together one after the other have the attributes of each, and those of the mask before them
together : (masks : List ℕ) (m a : ℕ) → has_bit (fold bit_or m masks) a ≡ (has_bit m a || any (λ n. has_bit n a) masks)
together [] m a = sym (or-false (has_bit m a))
together (n ∷ masks) m a = together masks (bit_or m n) a ∙ ap (λ b. b || any (λ n. has_bit n a) masks) (has_bit_or m n a) ∙ or_assoc (has_bit m a) (has_bit n a) _

pub all-together : (masks : List ℕ) (n m : ℕ) → m ≡ fold bit_or 0 (take n masks) → AttributesTogether masks n m
all-together masks n m e a = ap (λ m. has_bit m a) e ∙ together (take n masks) 0 a ∙ ap (λ b. b || any (λ n. has_bit n a) (take n masks)) (no-attribute a)

masks_taken : (ts : List Table) → take (length ts) (padded (map (λ t. t.mask) ts)) ≡ map (λ t. t.mask) ts
masks_taken ts = ap (λ n. take n (padded (map (λ t. t.mask) ts))) (sym (length-map ts (λ t. t.mask))) ∙ take_at (map (λ t. t.mask) ts) _ _ refl

attributes-width : (ts : List Table) (mask : ℕ) → AttributesTogether (padded (map (λ t. t.mask) ts)) (length ts) mask → arity mask ≡ width ts
unfolding width
attributes-width ts mask p =
    sym (arity-count mask)
    ∙ ap length (filter_each (has_bit mask) (λ a. any (λ t. has_bit t.mask a) ts) attributes
    (each (λ a. has_bit mask a ≡ any (λ t. has_bit t.mask a) ts) (λ a. p a ∙ ap (any (λ m. has_bit m a)) (masks_taken ts) ∙ any-map (λ m. has_bit m a) (λ t. t.mask) ts) attributes))

-- what the reading of a file gives
module _ (file : List ℕ) (r : Contents) (e : r ≡ contents_of file) where
  catalog_is : r.catalog ≡ catalog_of (read file).tables
  unfolding contents_of
  catalog_is = ap (λ c. c.catalog) e

  pub count_low : r.catalog.count ≤ 16
  unfolding catalog_of
  count_low = rw catalog_is (tables_few file)

  pub width_is : (mask : ℕ) → AttributesTogether r.catalog.masks r.catalog.count mask → arity mask ≡ file_width file
  unfolding catalog_of
  width_is mask p = attributes-width (read file).tables mask (rw catalog_is at p)

-- ---- every table has an attribute, so a result has a value
pub first_width : (n : ℕ) (ts : List Table) → Each (Fitting n) ts → 0 < length ts → 0 < width ts
unfolding width
first_width n [] e h = absurd (omega arith)
first_width n (t ∷ ts) e h =
    let f : Each (λ a. (has_bit t.mask a || any (λ u. has_bit u.mask a) ts) ≡ true) (filter (has_bit t.mask) attributes) = Each-map (λ a. has_bit t.mask a ≡ true) (λ a. (has_bit t.mask a || any (λ u. has_bit u.mask a) ts) ≡ true)
    (λ a q. ap (λ b. b || any (λ u. has_bit u.mask a) ts) q) (filter (has_bit t.mask) attributes) (filter_passes (has_bit t.mask) attributes) in
    omega (arith, e.0.some, arity-count t.mask, filter-fewer (has_bit t.mask) (λ a. has_bit t.mask a || any (λ u. has_bit u.mask a) ts) attributes f)
