-- Demand 3's bound, for the tables of a plan: entries and lookups are at most one a row and join, a walk among keys of a words
-- makes at most 32 a + 1 comparisons, and a result has at most one visit a table.
use mathlib.Core.Path.{◌≡◌, refl, ap}
use mathlib.Core.List.{List, [], ◌∷◌, map}
use Prim.Native.Nat.{ℕ, suc, ◌+◌, ◌*◌, ◌^◌, ◌≤◌, ◌<◌}
use native.Mathlib.Omega.{arith}
use native.Mathlib.Nat.{mul-add, add-mul, suc-mul, mul-suc, mul-le-mul, mul-le-mul_left, le_refl}
use lib.ListN.{length, length-map}
use Rattle.theory.proofs.Spelling.{joins-tables}
use Rattle.theory.specs.Rules.{joins}
use Rattle.theory.specs.Elements.{Each}
use Rattle.semantics.specs.Lists.{any, sum, from, up_to}
use Rattle.semantics.specs.Plans.{Plan, scan, join, tables, leftmost}
use Rattle.semantics.specs.Shapes.{join_attributes, widest_key}
use Rattle.semantics.specs.Results.{Base, pair_numbers, uses, results, participants, key, left_key, right_key, entered, walked}
use Rattle.theory.specs.Keys.{Words}
use Rattle.semantics.specs.SearchTrees.{compared}
use Rattle.semantics.specs.Counts.{visits_after, entered_keys, sought_keys, entries, lookups, comparisons, visits}
use Rattle.theory.proofs.Lists.{each, Each-of-map, sum-append, length-filter}
use Rattle.theory.proofs.Numbers.{length_from}
use Rattle.theory.proofs.KeyBits.{compared-le}

visits-le : (k : ℕ) (b : List ℕ) (cs : List (List ℕ)) → visits_after k b cs ≤ k * length cs
visits-le k b [] = omega arith
visits-le k b (c ∷ cs) = omega (arith, visits-le k c cs, mul-suc k (length cs))

spread : (m n x y : ℕ) → (x + y) + (m * x + n * y) ≤ suc (m + n) * (x + y)
spread m n x y = omega (arith, suc-mul (m + n) (x + y), add-mul m n (x + y), mul-add m x y, mul-add n x y)

wider : (m n c : ℕ) → m ≤ n → suc (32 * m) * c ≤ suc (32 * n) * c
wider m n c h = mul-le-mul (omega arith) (le_refl c)

module _ (D : Base) where
  -- the rows of the plan's tables
  unfoldable pub rows_of : Plan → ℕ
  rows_of p = sum D.shape.rows (tables p)

  rows_of-join : (l r : Plan) → rows_of (join l r) ≡ rows_of l + rows_of r
  unfolding rows_of
  rows_of-join l r = sum-append D.shape.rows (tables l) (tables r)

  first-le : (p : Plan) → D.shape.rows (leftmost p) ≤ rows_of p
  first-le (scan t) = unfold rows_of in omega arith
  first-le (join l r) = omega (arith, first-le l, rows_of-join l r)

  participants-le : (p : Plan) → length (participants D p) ≤ rows_of p
  unfolding participants up_to
  participants-le p = omega (arith, length-filter (λ y. any (uses y) (results D p)) (from 0 (D.shape.rows (leftmost p))), length_from 0 (D.shape.rows (leftmost p)), first-le p)

  -- a row that has "not recorded" in its key is not entered, and its lookup does not walk
  entered-fewer : (l r : Plan) → length (entered D l r) ≤ length (participants D r)
  unfolding entered
  entered-fewer l r = length-filter _ (participants D r)

  walked-fewer : (l r : Plan) → length (walked D l r) ≤ length (participants D l)
  unfolding walked
  walked-fewer l r = length-filter _ (participants D l)

  entered-le : (p : Plan) → entries D p + lookups D p ≤ joins p * rows_of p
  unfolding entries lookups
  entered-le (scan t) = omega arith
  entered-le (join l r) =
      omega (arith, entered-le l, entered-le r, entered-fewer l r, participants-le l, participants-le r, spread (joins l) (joins r) (rows_of l) (rows_of r), ap (λ n. suc (joins l + joins r) * n) (rows_of-join l r))

  -- values fit 32 bits
  module _ (small : (t a y : ℕ) → D.val t a y < 2 ^ 32) where
    keys-words : (ks : List ℕ) (t : ℕ) (ys : List ℕ) → Each (Words (length ks)) (map (key D ks t) ys)
    unfolding key
    keys-words ks t ys =
        Each-of-map (Words (length ks)) (key D ks t) ys
        (each (λ y. Words (length ks) (key D ks t y)) (λ y. (length-map ks (λ a. D.val t a y), Each-of-map (λ w. w < 2 ^ 32) (λ a. D.val t a y) ks (each (λ a. D.val t a y < 2 ^ 32) (λ a. small t a y) ks))) ys)

    compared-join : (l r : Plan) → compared (entered_keys D l r) (sought_keys D l r) ≤ suc (32 * length (join_attributes D.shape l r)) * (length (entered D l r) + length (walked D l r))
    unfolding entered_keys sought_keys left_key right_key
    compared-join l r =
        rw (← length-map (entered D l r) (key D (join_attributes D.shape l r) (leftmost r)), ← length-map (walked D l r) (key D (join_attributes D.shape l r) (leftmost l)))
        (compared-le (length (join_attributes D.shape l r)) (entered_keys D l r) (sought_keys D l r) (keys-words (join_attributes D.shape l r) (leftmost r) (entered D l r)) (keys-words (join_attributes D.shape l r) (leftmost l) (walked D l r)))

    fewer : (l r : Plan) → length (entered D l r) + length (walked D l r) ≤ length (entered D l r) + length (participants D l)
    fewer l r = omega (arith, walked-fewer l r)

    comparisons-join : (l r : Plan) → comparisons D (join l r) ≡ compared (entered_keys D l r) (sought_keys D l r) + (comparisons D l + comparisons D r)
    unfolding comparisons
    comparisons-join l r = refl

    comparisons-le : (a : ℕ) (p : Plan) → widest_key D.shape p ≤ a → comparisons D p ≤ suc (32 * a) * (entries D p + lookups D p)
    comparisons-le a (scan t) h = unfold comparisons in omega arith
    comparisons-le a (join l r) h =
        let x : ℕ = length (entered D l r) + length (participants D l) in
        let y : ℕ = entries D l + lookups D l in
        let z : ℕ = entries D r + lookups D r in
        let e : entries D (join l r) + lookups D (join l r) ≡ x + y + z = unfold entries lookups in omega arith in
        rw e
        (omega (arith, comparisons-join l r, compared-join l r, mul-le-mul_left (suc (32 * length (join_attributes D.shape l r))) (fewer l r), wider (length (join_attributes D.shape l r)) a x (omega arith), comparisons-le a l (omega arith), comparisons-le a r (omega arith), mul-add (suc (32 * a)) (x + y) z, mul-add (suc (32 * a)) x y))

    -- THE BOUND, of a plan's tables
    pub bound : (p : Plan) (w : ℕ)
        → entries D p + lookups D p + comparisons D p + visits D p + w * length (results D p)
        ≤ (32 * widest_key D.shape p + 2) * (length (tables p) * rows_of p) + (length (tables p) + w) * length (results D p)
    unfolding visits
    bound p w =
        let a : ℕ = widest_key D.shape p in
        let s : ℕ = entries D p + lookups D p in
        let n : ℕ = length (tables p) * rows_of p in
        let h : s ≤ n = omega (arith, entered-le p, ap (λ k. k * rows_of p) (joins-tables p), suc-mul (joins p) (rows_of p)) in
        let m : (32 * a + 2) * s ≤ (32 * a + 2) * n = mul-le-mul_left (32 * a + 2) h in
        omega (arith, comparisons-le a p (le_refl a), suc-mul (32 * a) s, add-mul (32 * a) 2 s, rw (length-map (results D p) pair_numbers) at (visits-le (length (tables p)) [] (map pair_numbers (results D p))), add-mul (length (tables p)) w (length (results D p)))
