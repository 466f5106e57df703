-- Request U9: a table with copies has the results of the same rows written out, one behind the other, and the same visits.
use mathlib.Core.Path.{◌≡◌, refl, sym, ap, ap₂, ◌∙◌, fun_ext}
use mathlib.Core.Bool.{Bool, true, false}
use mathlib.Core.List.{List, [], ◌∷◌, ◌++◌, map, map-append, map-map}
use Prim.Native.Nat.{ℕ, zero, suc, ◌+◌, ◌-◌, ◌≤◌, ◌<◌}
use native.Mathlib.Omega.{arith}
use lib.ListN.{length, get_or, take, length-map}
use lib.Dec.{eqb}
use borrow.Author.Tests.{eqb-true, eqb-false, eq-eqb, ne_eqb}
use Rattle.semantics.specs.Lists.{all, filter, concat_map, from, up_to}
use Rattle.semantics.specs.Plans.{Plan, scan, join, tables}
use Rattle.semantics.specs.Shapes.{attributes}
use Rattle.semantics.specs.Results.{Base, Pick, pick_of, pair_of, pair_numbers, copies_of, choices, values_in, values_agree, agrees, results, tuple}
use Rattle.semantics.specs.Counts.{leading, visits_after, visits}
use Rattle.theory.specs.Elements.{Each, Rising}
use Rattle.theory.specs.Pairs.{row_of, copy_of, FewCopies, pairs_of}
use Rattle.theory.specs.Orders.{Inside}
use Rattle.theory.specs.WrittenOut.{all_pairs, WrittenOut, row_per_pair}
use Rattle.theory.proofs.Cases.{cases}
use Rattle.theory.proofs.Lists.{Each-map, Each-with, Each-filter, get_d_each, filter_each, filter_map, map_each, map-singleton, map-concat_map, concat_map-map, concat_map_each}
use Rattle.theory.proofs.Numbers.{from-lt, rising_from, map_get_d}
use Rattle.theory.proofs.Pairs.{row_of-pair, copy_of-pair, pair_is, copies_below, rising-pairs}
use Rattle.theory.proofs.Choices.{choices-named, choices-inside}

-- ---- lists
-- what passes a test, mapped, where the test is one of what is mapped to
filter-through : {A B : Type 0} (f : A → B) (p : A → Bool) (q : B → Bool) (xs : List A) → Each (λ x. p x ≡ q (f x)) xs → map f (filter p xs) ≡ filter q (map f xs)
filter-through f p q xs e = ap (map f) (filter_each p (λ x. q (f x)) xs e) ∙ sym (filter_map q f xs)

map_halves : {A B : Type 0} (f : A → B) (c : List A) (es : List (List A)) → map (map f) (map (λ e. c ++ e) es) ≡ map (λ e. map f c ++ e) (map (map f) es)
map_halves f c es = map-map (map f) (λ e. c ++ e) es ∙ ap (λ g. map g es) (fun_ext (λ e. map-append f c e)) ∙ sym (map-map (λ e. map f c ++ e) (map f) es)

map-product : {A B : Type 0} (f : A → B) (cs es : List (List A)) → map (map f) (concat_map (λ c. map (λ e. c ++ e) es) cs) ≡ concat_map (λ c. map (λ e. c ++ e) (map (map f) es)) (map (map f) cs)
map-product f cs es =
    map-concat_map (map f) (λ c. map (λ e. c ++ e) es) cs ∙ ap (λ g. concat_map g cs) (fun_ext (λ c. map_halves f c es))
    ∙ sym (concat_map-map (λ c. map (λ e. c ++ e) (map (map f) es)) (map f) cs)

-- a rising list has no number at two places
rising-apart : (xs : List ℕ) (i j : ℕ) → Rising xs → i < length xs → j < length xs → get_or xs i 0 ≡ get_or xs j 0 → i ≡ j
rising-apart [] i j r h g e = absurd (omega arith)
rising-apart (x ∷ xs) zero zero r h g e = refl
rising-apart (x ∷ xs) zero (suc j) r h g e = absurd (omega (arith, e, get_d_each (λ y. x < y) xs j 0 (omega arith) r.0))
rising-apart (x ∷ xs) (suc i) zero r h g e = absurd (omega (arith, e, get_d_each (λ y. x < y) xs i 0 (omega arith) r.0))
rising-apart (x ∷ xs) (suc i) (suc j) r h g e = ap suc (rising-apart xs i j r.1 (omega arith) (omega arith) e)

eqb-alike : (a b c d : ℕ) → (a ≡ b → c ≡ d) → (c ≡ d → a ≡ b) → eqb a b ≡ eqb c d
eqb-alike a b c d f g = cases (eqb a b) (λ e. rw (e, eq-eqb c d (f (eqb-true a b e)))) (λ e. rw (e, ne_eqb c d (λ q. eqb-false a b e (g q))))

leading-alike : (x y u v : ℕ) (b c d e : List ℕ) → eqb x y ≡ eqb u v → leading b c ≡ leading d e → leading (x ∷ b) (y ∷ c) ≡ leading (u ∷ d) (v ∷ e)
leading-alike x y u v b c d e p q = ap₂ (λ (t : Bool) n. elim t [ true ↦ suc n | false ↦ 0 ]) p q

-- ---- picks
-- the pick of a table that a pair says
abbrev pick_at : ℕ → ℕ → Pick
pick_at t u = record { table = t; row = row_of u; copy = copy_of u }

-- the pick with copies for a pick of a row written out: the row is the place of its pair
abbrev put : Base → Pick → Pick
put D x = pick_at x.table (get_or (all_pairs D x.table) x.row 0)

pick_at-pair : (t y c : ℕ) → c < 65536 → pick_at t (pair_of y c) ∷ [] ≡ pick_of t y c
pick_at-pair t y c h = rw (row_of-pair y c h, copy_of-pair y c h)

module _ (D : Base) (few : FewCopies D) where
  -- the picks of the pairs of some rows are the choices of their copies
  picks-copies : (t y : ℕ) → map (λ u. pick_at t u ∷ []) (map (pair_of y) (up_to (D.copies t y))) ≡ copies_of D t y
  picks-copies t y =
      map-map (λ u. pick_at t u ∷ []) (pair_of y) (up_to (D.copies t y))
      ∙ map_each (λ c. pick_at t (pair_of y c) ∷ []) (pick_of t y) (up_to (D.copies t y))
      (Each-map (λ c. (c < D.copies t y) × (c < 65536)) (λ c. pick_at t (pair_of y c) ∷ [] ≡ pick_of t y c) (λ c h. pick_at-pair t y c h.1) (up_to (D.copies t y)) (copies_below D few t y))

  picks-pairs : (t : ℕ) (ys : List ℕ) → map (λ u. pick_at t u ∷ []) (pairs_of D t ys) ≡ concat_map (copies_of D t) ys
  unfolding pairs_of
  picks-pairs t ys =
      map-concat_map (λ u. pick_at t u ∷ []) (λ y. map (pair_of y) (up_to (D.copies t y))) ys ∙ ap (λ g. concat_map g ys) (fun_ext (λ y. picks-copies t y))

  -- by the places of the pairs
  picks-places : (t n : ℕ) → n ≡ length (all_pairs D t) → map (λ y. map (put D) (pick_of t y 0)) (up_to n) ≡ choices D (scan t)
  unfolding up_to
  picks-places t n e =
      rw e
      (sym (map-map (λ u. pick_at t u ∷ []) (λ y. get_or (all_pairs D t) y 0) (from 0 (length (all_pairs D t)))) ∙ ap (map (λ u. pick_at t u ∷ [])) (map_get_d (all_pairs D t)) ∙ picks-pairs t (up_to (D.shape.rows t)))

  rising_all : (t : ℕ) → Rising (all_pairs D t)
  unfolding up_to
  rising_all t = rising-pairs D few t (up_to (D.shape.rows t)) (rising_from 0 (D.shape.rows t))

-- every base can be written out
pub row_per_pair_lem : (D : Base) → WrittenOut D (row_per_pair D)
unfolding row_per_pair
row_per_pair_lem D = record { has = λ t a. refl; rows = λ t. refl; once = λ t y h. refl; values = λ t a y h. refl }

module _ (D E : Base) (few : FewCopies D) (w : WrittenOut D E) where
  -- ---- choices
  copies-once : (t y : ℕ) → y < E.shape.rows t → copies_of E t y ≡ pick_of t y 0 ∷ []
  unfolding up_to
  copies-once t y h = rw (w.once t y h)

  choices-scan : (t : ℕ) → choices E (scan t) ≡ map (λ y. pick_of t y 0) (up_to (E.shape.rows t))
  unfolding up_to
  choices-scan t =
      concat_map_each (copies_of E t) (λ y. pick_of t y 0 ∷ []) (from 0 (E.shape.rows t))
      (Each-map (λ y. (0 ≤ y) × (y < 0 + E.shape.rows t)) (λ y. copies_of E t y ≡ pick_of t y 0 ∷ []) (λ y h. copies-once t y (omega arith)) (from 0 (E.shape.rows t)) (from-lt 0 (E.shape.rows t)))
      ∙ sym (map-singleton (λ y. pick_of t y 0) (from 0 (E.shape.rows t)))

  choices-put : (p : Plan) → map (map (put D)) (choices E p) ≡ choices D p
  choices-put (scan t) =
      ap (map (map (put D))) (choices-scan t) ∙ map-map (map (put D)) (λ y. pick_of t y 0) (up_to (E.shape.rows t)) ∙ picks-places D few t (E.shape.rows t) (w.rows t)
  choices-put (join l r) =
      map-product (put D) (choices E l) (choices E r) ∙ ap (λ es. concat_map (λ c. map (λ e. c ++ e) es) (map (map (put D)) (choices E l))) (choices-put r)
      ∙ ap (concat_map (λ c. map (λ e. c ++ e) (choices D r))) (choices-put l)

  -- ---- values
  values-put : (a : ℕ) (c : List Pick) → Each (Inside E) c → values_in E a c ≡ values_in D a (map (put D) c)
  values-put a [] h = refl
  values-put a (x ∷ c) h = rw (w.has x.table a, w.values x.table a x.row h.0.0, values-put a c h.1)

  agrees-put : (c : List Pick) → Each (Inside E) c → agrees E c ≡ agrees D (map (put D) c)
  unfolding agrees
  agrees-put c h = ap (λ f. all f attributes) (fun_ext (λ a. ap values_agree (values-put a c h)))

  tuple-put : (c : List Pick) → Each (Inside E) c → tuple E c ≡ tuple D (map (put D) c)
  unfolding tuple
  tuple-put c h = ap (λ f. concat_map f attributes) (fun_ext (λ a. ap (take 1) (values-put a c h)))

  -- ---- results
  results-inside : (p : Plan) → Each (Each (Inside E)) (results E p)
  unfolding results
  results-inside p = Each-filter (Each (Inside E)) (agrees E) (choices E p) (choices-inside E p)

  results-put : (p : Plan) → map (map (put D)) (results E p) ≡ results D p
  unfolding results
  results-put p =
      filter-through (map (put D)) (agrees E) (agrees D) (choices E p) (Each-map (Each (Inside E)) (λ c. agrees E c ≡ agrees D (map (put D) c)) agrees-put (choices E p) (choices-inside E p))
      ∙ ap (filter (agrees D)) (choices-put p)

  -- WRITTEN OUT: the same tuples in the same order
  pub written_tuples : (p : Plan) → map (tuple E) (results E p) ≡ map (tuple D) (results D p)
  written_tuples p =
      map_each (tuple E) (λ c. tuple D (map (put D) c)) (results E p) (Each-map (Each (Inside E)) (λ c. tuple E c ≡ tuple D (map (put D) c)) tuple-put (results E p) (results-inside p))
      ∙ sym (map-map (tuple D) (map (put D)) (results E p)) ∙ ap (map (tuple D)) (results-put p)

  -- hence equally many results
  pub written-number : (p : Plan) → length (results E p) ≡ length (results D p)
  written-number p = sym (length-map (results E p) (tuple E)) ∙ ap length (written_tuples p) ∙ length-map (results D p) (tuple D)

  -- ---- visits
  -- two pairs of one table are equal written out exactly if they are with copies
  same-put : (t y z : ℕ) → y < E.shape.rows t → z < E.shape.rows t → eqb (pair_of y 0) (pair_of z 0) ≡ eqb (get_or (all_pairs D t) y 0) (get_or (all_pairs D t) z 0)
  same-put t y z h g =
      let n = w.rows t in
      eqb-alike (pair_of y 0) (pair_of z 0) (get_or (all_pairs D t) y 0) (get_or (all_pairs D t) z 0)
      (λ e. ap (λ i. get_or (all_pairs D t) i 0) (sym (row_of-pair y 0 (omega arith)) ∙ ap row_of e ∙ row_of-pair z 0 (omega arith)))
      (λ e. ap (λ i. pair_of i 0) (rising-apart (all_pairs D t) y z (rising_all D few t) (omega arith) (omega arith) e))

  -- of picks: the copy written out is 0
  pair-once : (x : Pick) → Inside E x → pair_of x.row x.copy ≡ pair_of x.row 0
  pair-once x h = let c : x.copy ≡ 0 = omega (arith, h.1, w.once x.table x.row h.0) in ap (pair_of x.row) c

  picks_same : (x y : Pick) → Inside E x → Inside E y → x.table ≡ y.table
      → eqb (pair_of x.row x.copy) (pair_of y.row y.copy) ≡ eqb (pair_of (put D x).row (put D x).copy) (pair_of (put D y).row (put D y).copy)
  picks_same x y h g e =
      ap₂ eqb (pair-once x h) (pair-once y g) ∙ same-put x.table x.row y.row h.0 (rw (← e) at g.0)
      ∙ ap (λ t. eqb (get_or (all_pairs D x.table) x.row 0) (get_or (all_pairs D t) y.row 0)) e
      ∙ sym (ap₂ eqb (pair_is (get_or (all_pairs D x.table) x.row 0)) (pair_is (get_or (all_pairs D y.table) y.row 0)))

  leading-put : (b c : List Pick) → Each (Inside E) b → Each (Inside E) c → map (λ x. x.table) b ≡ map (λ x. x.table) c
      → leading (pair_numbers b) (pair_numbers c) ≡ leading (pair_numbers (map (put D) b)) (pair_numbers (map (put D) c))
  unfolding pair_numbers
  leading-put [] c h g e = refl
  leading-put (x ∷ b) [] h g e = refl
  leading-put (x ∷ b) (y ∷ c) h g e =
      leading-alike (pair_of x.row x.copy) (pair_of y.row y.copy) (pair_of (put D x).row (put D x).copy) (pair_of (put D y).row (put D y).copy) (pair_numbers b) (pair_numbers c) (pair_numbers (map (put D) b)) (pair_numbers (map (put D) c))
      (picks_same x y h.0 g.0 (cc)) (leading-put b c h.1 g.1 (cc))

  -- a choice of the tables ts, of rows written out
  abbrev Chosen : List ℕ → List Pick → Type 0
  Chosen ts c = (map (λ x. x.table) c ≡ ts) × Each (Inside E) c

  after-put : (k : ℕ) (ts : List ℕ) (b : List Pick) (cs : List (List Pick)) → Chosen ts b → Each (Chosen ts) cs
      → visits_after k (pair_numbers b) (map pair_numbers cs) ≡ visits_after k (pair_numbers (map (put D) b)) (map pair_numbers (map (map (put D)) cs))
  after-put k ts b [] h e = refl
  after-put k ts b (c ∷ cs) h e =
      ap₂ (λ n m. (k - n) + m) (leading-put b c h.1 e.0.1 (h.0 ∙ sym e.0.0)) (after-put k ts c cs e.0 e.1)

  first-put : (k : ℕ) (ts : List ℕ) (cs : List (List Pick)) → Each (Chosen ts) cs
      → visits_after k [] (map pair_numbers cs) ≡ visits_after k [] (map pair_numbers (map (map (put D)) cs))
  first-put k ts [] e = refl
  first-put k ts (c ∷ cs) e = ap (λ m. (k - 0) + m) (after-put k ts c cs e.0 e.1)

  results-chosen : (p : Plan) → Each (Chosen (tables p)) (results E p)
  unfolding results
  results-chosen p =
      Each-filter (Chosen (tables p)) (agrees E) (choices E p)
      (Each-with (λ c. map (λ x. x.table) c ≡ tables p) (Each (Inside E)) (Chosen (tables p)) (λ c h g. (h, g)) (choices E p) (choices-named E p) (choices-inside E p))

  -- and the same visits
  pub written-visits : (p : Plan) → visits E p ≡ visits D p
  unfolding visits
  written-visits p = first-put (length (tables p)) (tables p) (results E p) (results-chosen p) ∙ ap (λ cs. visits_after (length (tables p)) [] (map pair_numbers cs)) (results-put p)
