-- Choices and results stand in document 01's order, and `choices` holds every choice exactly once.
use mathlib.Core.Path.{◌≡◌, refl, sym, ap, ap₂, ◌∙◌, fun_ext}
use mathlib.Core.Logic.{inl, inr}
use mathlib.Core.Bool.{Bool, true, ◌&&◌, and-true}
use mathlib.Core.List.{List, [], ◌∷◌, ◌++◌, map, map-append, map-map}
use Prim.Native.Nat.{ℕ, suc, ◌+◌, ◌*◌, ◌≤◌, ◌<◌, zero-le}
use native.Mathlib.Omega.{arith}
use native.Mathlib.Nat.{mul-zero}
use lib.ListN.{length}
use lib.Dec.{eqb}
use borrow.Author.Tests.{eqb-true}
use Rattle.theory.specs.Elements.{one_if, Each, Rising}
use Rattle.semantics.specs.Lists.{same, sum, filter, concat_map, from, up_to}
use Rattle.semantics.specs.Plans.{Plan, scan, join, tables}
use Rattle.semantics.specs.Results.{Base, Pick, pick_of, pair_of, pair_numbers, copies_of, choices, agrees, results}
use Rattle.theory.specs.Pairs.{row_of, copy_of, FewCopies, pairs_of}
use Rattle.theory.specs.Orders.{Before, InOrder, Inside, PairsFor}
use Rattle.theory.proofs.Cases.{cases}
use Rattle.theory.proofs.Lists.{each, Each-map, Each-append, Each-filter, Each-of-map, Each-unmap, Each-concat_map, concat_map-map, map-concat_map, sum_each, sum-const, sum-map, sum-concat_map, length-filter-sum, count-pairs, same-append, same_true, filter_passes, filter-swap}
use Rattle.theory.proofs.Numbers.{from-lt, rising_from, sum_from_one}
use Rattle.theory.proofs.Pairs.{row_of-pair, copy_of-pair, pair_eq, copies_below, rising-pairs}
use Rattle.theory.proofs.CopyResults.{pair_numbers-append}

before_left : (b c e f : List ℕ) → Before b c → Before (b ++ e) (c ++ f)
before_left [] c e f h = absurd h
before_left (x ∷ b) [] e f h = absurd h
before_left (x ∷ b) (y ∷ c) e f (inl h) = inl h
before_left (x ∷ b) (y ∷ c) e f (inr h) = inr (h.0, before_left b c e f h.1)

before_right : (b e f : List ℕ) → Before e f → Before (b ++ e) (b ++ f)
before_right [] e f h = h
before_right (x ∷ b) e f h = inr (refl, before_right b e f h)

in_order-append : (bs cs : List (List ℕ)) → InOrder bs → InOrder cs → Each (λ b. Each (Before b) cs) bs → InOrder (bs ++ cs)
in_order-append [] cs p q h = q
in_order-append (b ∷ bs) cs p q h = (Each-append (Before b) bs cs p.0 h.0, in_order-append bs cs p.1 q h.1)

in_order-map : (b : List ℕ) (cs : List (List ℕ)) → InOrder cs → InOrder (map (λ e. b ++ e) cs)
in_order-map b [] p = tt
in_order-map b (c ∷ cs) p = (Each-of-map (Before (b ++ c)) (λ e. b ++ e) cs (Each-map (Before c) (λ e. Before (b ++ c) (b ++ e)) (λ e h. before_right b c e h) cs p.0), in_order-map b cs p.1)

in_order-product : (bs cs : List (List ℕ)) → InOrder bs → InOrder cs → InOrder (concat_map (λ b. map (λ e. b ++ e) cs) bs)
in_order-product [] cs p q = tt
in_order-product (b ∷ bs) cs p q =
    in_order-append (map (λ e. b ++ e) cs) (concat_map (λ b. map (λ e. b ++ e) cs) bs) (in_order-map b cs q) (in_order-product bs cs p.1 q)
    (Each-of-map (λ d. Each (Before d) (concat_map (λ b. map (λ e. b ++ e) cs) bs)) (λ e. b ++ e) cs
    (each (λ e. Each (Before (b ++ e)) (concat_map (λ b. map (λ e. b ++ e) cs) bs))
    (λ e. Each-concat_map (Before (b ++ e)) (λ b. map (λ e. b ++ e) cs) bs
    (Each-map (Before b) (λ c. Each (Before (b ++ e)) (map (λ f. c ++ f) cs)) (λ c h. Each-of-map (Before (b ++ e)) (λ f. c ++ f) cs (each (λ f. Before (b ++ e) (c ++ f)) (λ f. before_left b c e f h) cs)) bs p.0))
    cs))

in_order-filter : {A : Type 0} (f : A → List ℕ) (q : A → Bool) (xs : List A) → InOrder (map f xs) → InOrder (map f (filter q xs))
in_order-filter f q [] s = tt
in_order-filter f q (x ∷ xs) s =
    cases (q x)
    (λ h. rw h (Each-of-map (Before (f x)) f (filter q xs) (Each-filter (λ y. Before (f x) (f y)) q xs (Each-unmap (Before (f x)) f xs s.0)), in_order-filter f q xs s.1))
    (λ h. rw h (in_order-filter f q xs s.1))

in_order-rising : (us : List ℕ) → Rising us → InOrder (map (λ u. u ∷ []) us)
in_order-rising [] r = tt
in_order-rising (u ∷ us) r = (Each-of-map (Before (u ∷ [])) (λ v. v ∷ []) us (Each-map (λ v. u < v) (λ v. Before (u ∷ []) (v ∷ [])) (λ v h. inl h) us r.0), in_order-rising us r.1)

module _ (D : Base) where
  -- the pairs of one table's choices
  pairs-scan : (t : ℕ) (ys : List ℕ) → map pair_numbers (concat_map (copies_of D t) ys) ≡ map (λ u. u ∷ []) (pairs_of D t ys)
  unfolding pair_numbers pairs_of
  pairs-scan t ys =
      map-concat_map pair_numbers (copies_of D t) ys
      ∙ ap (λ f. concat_map f ys) (fun_ext (λ y. map-map pair_numbers (pick_of t y) (up_to (D.copies t y)) ∙ sym (map-map (λ u. u ∷ []) (pair_of y) (up_to (D.copies t y)))))
      ∙ sym (map-concat_map (λ u. u ∷ []) (λ y. map (pair_of y) (up_to (D.copies t y))) ys)

  choices_in_order : FewCopies D → (p : Plan) → InOrder (map pair_numbers (choices D p))
  choices_in_order few (scan t) =
      rw (pairs-scan t (up_to (D.shape.rows t))) (unfold up_to in in_order-rising (pairs_of D t (from 0 (D.shape.rows t))) (rising-pairs D few t (from 0 (D.shape.rows t)) (rising_from 0 (D.shape.rows t))))
  choices_in_order few (join l r) =
      rw (map-concat_map pair_numbers (λ c. map (λ e. c ++ e) (choices D r)) (choices D l))
      (simp (map-map, pair_numbers-append) (simp (map-map, concat_map-map) at (in_order-product (map pair_numbers (choices D l)) (map pair_numbers (choices D r)) (choices_in_order few l) (choices_in_order few r))))

  -- results stand in the order of their pairs, none twice
  pub results_in_order : FewCopies D → (p : Plan) → InOrder (map pair_numbers (results D p))
  unfolding results
  results_in_order few p = in_order-filter pair_numbers (agrees D) (choices D p) (choices_in_order few p)

  -- a choice takes one row of each table, in plan order
  pub choices-named : (p : Plan) → Each (λ c. map (λ x. x.table) c ≡ tables p) (choices D p)
  choices-named (scan t) =
      Each-concat_map (λ c. map (λ x. x.table) c ≡ t ∷ []) (copies_of D t) (up_to (D.shape.rows t))
      (each (λ y. Each (λ c. map (λ x. x.table) c ≡ t ∷ []) (copies_of D t y))
      (λ y. Each-of-map (λ c. map (λ x. x.table) c ≡ t ∷ []) (pick_of t y) (up_to (D.copies t y)) (each (λ c. t ∷ [] ≡ t ∷ []) (λ c. refl) (up_to (D.copies t y)))) (up_to (D.shape.rows t)))
  choices-named (join l r) =
      Each-concat_map (λ c. map (λ x. x.table) c ≡ tables l ++ tables r) (λ c. map (λ e. c ++ e) (choices D r)) (choices D l)
      (Each-map (λ c. map (λ x. x.table) c ≡ tables l) (λ c. Each (λ d. map (λ x. x.table) d ≡ tables l ++ tables r) (map (λ e. c ++ e) (choices D r)))
      (λ c h. Each-of-map (λ d. map (λ x. x.table) d ≡ tables l ++ tables r) (λ e. c ++ e) (choices D r)
      (Each-map (λ e. map (λ x. x.table) e ≡ tables r) (λ e. map (λ x. x.table) (c ++ e) ≡ tables l ++ tables r) (λ e g. map-append (λ x. x.table) c e ∙ ap₂ (λ a b. a ++ b) h g) (choices D r) (choices-named r)))
      (choices D l) (choices-named l))

  -- each pick is a row of its table, and a copy of that row
  pub choices-inside : (p : Plan) → Each (λ c. Each (Inside D) c) (choices D p)
  choices-inside (scan t) =
      unfold up_to in
      Each-concat_map (λ c. Each (Inside D) c) (copies_of D t) (from 0 (D.shape.rows t))
      (Each-map (λ y. (0 ≤ y) × (y < 0 + D.shape.rows t)) (λ y. Each (λ c. Each (Inside D) c) (copies_of D t y))
      (λ y h. Each-of-map (λ c. Each (Inside D) c) (pick_of t y) (from 0 (D.copies t y)) (Each-map (λ c. (0 ≤ c) × (c < 0 + D.copies t y)) (λ c. Each (Inside D) (pick_of t y c)) (λ c g. ((omega arith, omega arith), tt)) (from 0 (D.copies t y)) (from-lt 0 (D.copies t y))))
      (from 0 (D.shape.rows t)) (from-lt 0 (D.shape.rows t)))
  choices-inside (join l r) =
      Each-concat_map (λ c. Each (Inside D) c) (λ c. map (λ e. c ++ e) (choices D r)) (choices D l)
      (Each-map (λ c. Each (Inside D) c) (λ c. Each (λ d. Each (Inside D) d) (map (λ e. c ++ e) (choices D r)))
      (λ c h. Each-of-map (λ d. Each (Inside D) d) (λ e. c ++ e) (choices D r)
      (Each-map (λ e. Each (Inside D) e) (λ e. Each (Inside D) (c ++ e)) (λ e g. Each-append (Inside D) c e h g) (choices D r) (choices-inside r)))
      (choices D l) (choices-inside l))

  -- ---- every choice, and each once
  pairs_for-length : (ts ys : List ℕ) → PairsFor D ts ys → length ys ≡ length ts
  pairs_for-length [] [] h = refl
  pairs_for-length [] (y ∷ ys) h = absurd h
  pairs_for-length (t ∷ ts) [] h = absurd h
  pairs_for-length (t ∷ ts) (y ∷ ys) h = ap suc (pairs_for-length ts ys h.1)

  pairs_for-append : (ts us ys zs : List ℕ) → PairsFor D ts ys → PairsFor D us zs → PairsFor D (ts ++ us) (ys ++ zs)
  pairs_for-append [] us [] zs h g = g
  pairs_for-append [] us (y ∷ ys) zs h g = absurd h
  pairs_for-append (t ∷ ts) us [] zs h g = absurd h
  pairs_for-append (t ∷ ts) us (y ∷ ys) zs h g = (h.0, pairs_for-append ts us ys zs h.1 g)

  record Halves (ts us ys : List ℕ) : Type 0 where
    pub left : List ℕ
    pub right : List ℕ
    pub is : ys ≡ left ++ right
    pub lefts : PairsFor D ts left
    pub rights : PairsFor D us right

  pairs_for-split : (ts us ys : List ℕ) → PairsFor D (ts ++ us) ys → Halves ts us ys
  pairs_for-split [] us ys h = record { left = []; right = ys; is = refl; lefts = tt; rights = h }
  pairs_for-split (t ∷ ts) us [] h = absurd h
  pairs_for-split (t ∷ ts) us (y ∷ ys) h =
      let s = pairs_for-split ts us ys h.1 in
      record { left = y ∷ s.left; right = s.right; is = ap (λ l. y ∷ l) s.is; lefts = (h.0, s.lefts); rights = s.rights }

  module _ (few : FewCopies D) where
    -- each has one row of each table, and a copy of it
    pub choices-rows : (p : Plan) → Each (λ c. PairsFor D (tables p) (pair_numbers c)) (choices D p)
    choices-rows (scan t) =
        unfold up_to pair_numbers in
        Each-concat_map (λ c. PairsFor D (t ∷ []) (pair_numbers c)) (copies_of D t) (from 0 (D.shape.rows t))
        (Each-map (λ y. (0 ≤ y) × (y < 0 + D.shape.rows t)) (λ y. Each (λ c. PairsFor D (t ∷ []) (pair_numbers c)) (copies_of D t y))
        (λ y h. Each-of-map (λ c. PairsFor D (t ∷ []) (pair_numbers c)) (pick_of t y) (from 0 (D.copies t y))
        (Each-map (λ c. (c < D.copies t y) × (c < 65536)) (λ c. PairsFor D (t ∷ []) (pair_of y c ∷ [])) (λ c g. ((rw (row_of-pair y c g.1) (omega arith), rw (row_of-pair y c g.1, copy_of-pair y c g.1) g.0), tt)) (from 0 (D.copies t y)) (copies_below D few t y)))
        (from 0 (D.shape.rows t)) (from-lt 0 (D.shape.rows t)))
    choices-rows (join l r) =
        Each-concat_map (λ c. PairsFor D (tables l ++ tables r) (pair_numbers c)) (λ c. map (λ e. c ++ e) (choices D r)) (choices D l)
        (Each-map (λ c. PairsFor D (tables l) (pair_numbers c)) (λ c. Each (λ d. PairsFor D (tables l ++ tables r) (pair_numbers d)) (map (λ e. c ++ e) (choices D r)))
        (λ c h. Each-of-map (λ d. PairsFor D (tables l ++ tables r) (pair_numbers d)) (λ e. c ++ e) (choices D r)
        (Each-map (λ e. PairsFor D (tables r) (pair_numbers e)) (λ e. PairsFor D (tables l ++ tables r) (pair_numbers (c ++ e)))
        (λ e g. rw (pair_numbers-append c e) (pairs_for-append (tables l) (tables r) (pair_numbers c) (pair_numbers e) h g)) (choices D r) (choices-rows r)))
        (choices D l) (choices-rows l))

    count-copies : (t u z : ℕ) → sum (λ c. one_if (same (u ∷ []) (pair_numbers c))) (copies_of D t z) ≡ sum (λ c. one_if (eqb u (pair_of z c))) (up_to (D.copies t z))
    unfolding pair_numbers
    count-copies t u z =
        sum-map (λ c. one_if (same (u ∷ []) (pair_numbers c))) (λ c. record { table = t; row = z; copy = c } ∷ []) (up_to (D.copies t z))
        ∙ ap (λ f. sum f (up_to (D.copies t z))) (fun_ext (λ c. ap one_if (and-true (eqb u (pair_of z c)))))

    -- how often a pair stands among those of one row
    pair_in_lem : (t u y : ℕ) → row_of u < D.shape.rows t → copy_of u < D.copies t (row_of u) → sum (λ c. one_if (eqb u (pair_of y c))) (up_to (D.copies t y)) ≡ one_if (eqb (row_of u) y)
    pair_in_lem t u y h g =
        sum_each (λ c. one_if (eqb u (pair_of y c))) (λ c. one_if (eqb (row_of u) y && eqb (copy_of u) c)) (up_to (D.copies t y))
        (Each-map (λ c. (c < D.copies t y) × (c < 65536)) (λ c. one_if (eqb u (pair_of y c)) ≡ one_if (eqb (row_of u) y && eqb (copy_of u) c)) (λ c b. ap one_if (pair_eq u y c b.1)) (up_to (D.copies t y)) (copies_below D few t y))
        ∙ cases (eqb (row_of u) y)
        (λ e. rw e (unfold up_to in sum_from_one (copy_of u) 0 (D.copies t y) zero-le (let g' : copy_of u < D.copies t y = rw (eqb-true (row_of u) y e) at g in omega (arith, g'))))
        (λ e. rw e (sum-const 0 (up_to (D.copies t y)) ∙ mul-zero (length (up_to (D.copies t y)))))

    -- and for any pairs, one of each table, there is exactly one choice with them
    pub choices-once : (p : Plan) (ys : List ℕ) → PairsFor D (tables p) ys → length (filter (λ c. same ys (pair_numbers c)) (choices D p)) ≡ 1
    choices-once (scan t) [] h = absurd h
    choices-once (scan t) (y ∷ (z ∷ ys)) h = absurd h.1
    choices-once (scan t) (y ∷ []) h =
        length-filter-sum (λ c. same (y ∷ []) (pair_numbers c)) (concat_map (copies_of D t) (up_to (D.shape.rows t)))
        ∙ sum-concat_map (λ c. one_if (same (y ∷ []) (pair_numbers c))) (copies_of D t) (up_to (D.shape.rows t))
        ∙ ap (λ f. sum f (up_to (D.shape.rows t))) (fun_ext (λ z. count-copies t y z ∙ pair_in_lem t y z h.0.0 h.0.1))
        ∙ (unfold up_to in sum_from_one (row_of y) 0 (D.shape.rows t) zero-le (omega (arith, h.0.0)))
    choices-once (join l r) ys h =
        let s = pairs_for-split (tables l) (tables r) ys h in
        rw s.is
        (count-pairs (λ c. same (s.left ++ s.right) (pair_numbers c)) (λ c. same s.left (pair_numbers c)) (λ e. same s.right (pair_numbers e)) (choices D l) (choices D r)
        (Each-map (λ c. PairsFor D (tables l) (pair_numbers c)) (λ c. Each (λ e. same (s.left ++ s.right) (pair_numbers (c ++ e)) ≡ (same s.left (pair_numbers c) && same s.right (pair_numbers e))) (choices D r))
        (λ c g. each (λ e. same (s.left ++ s.right) (pair_numbers (c ++ e)) ≡ (same s.left (pair_numbers c) && same s.right (pair_numbers e)))
        (λ e. ap (same (s.left ++ s.right)) (pair_numbers-append c e)
        ∙ same-append s.left s.right (pair_numbers c) (pair_numbers e) (pairs_for-length (tables l) s.left s.lefts ∙ sym (pairs_for-length (tables l) (pair_numbers c) g))) (choices D r))
        (choices D l) (choices-rows l))
        ∙ ap₂ (λ a b. a * b) (choices-once l s.left s.lefts) (choices-once r s.right s.rights))

    -- it stands in the result once if it agrees, and else not at all
    pub results-once : (p : Plan) (ys : List ℕ) → PairsFor D (tables p) ys
        → (c : List Pick) × (map (λ x. x.table) c ≡ tables p) × Each (Inside D) c × (pair_numbers c ≡ ys) × (length (filter (λ d. same ys (pair_numbers d)) (results D p)) ≡ one_if (agrees D c))
    unfolding results
    results-once p ys h =
        one (filter has (choices D p)) (choices-once p ys h) (Each-filter (λ c. map (λ x. x.table) c ≡ tables p) has (choices D p) (choices-named p)) (Each-filter (λ c. Each (Inside D) c) has (choices D p) (choices-inside p)) (filter_passes has (choices D p)) (filter-swap has (agrees D) (choices D p))
      where
        has : List Pick → Bool
        has d = same ys (pair_numbers d)

        one : (cs : List (List Pick)) → length cs ≡ 1 → Each (λ c. map (λ x. x.table) c ≡ tables p) cs → Each (λ c. Each (Inside D) c) cs → Each (λ c. same ys (pair_numbers c) ≡ true) cs → filter has (filter (agrees D) (choices D p)) ≡ filter (agrees D) cs
            → (c : List Pick) × (map (λ x. x.table) c ≡ tables p) × Each (Inside D) c × (pair_numbers c ≡ ys) × (length (filter (λ d. same ys (pair_numbers d)) (filter (agrees D) (choices D p))) ≡ one_if (agrees D c))
        one [] n t i r e = absurd (omega arith)
        one (c ∷ (d ∷ cs)) n t i r e = absurd (omega arith)
        one (c ∷ []) n t i r e = (c, t.0, i.0, sym (same_true ys (pair_numbers c) r.0), ap length e ∙ cases (agrees D c) (λ g. rw g) (λ g. rw g))
