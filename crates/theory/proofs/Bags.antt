-- Demand 2's bag meaning: each tuple stands in the result as often as the product of its repeats, and no other does.
use mathlib.Core.Path.{◌≡◌, refl, sym, ap, ap₂, subst, ◌∙◌, fun_ext}
use mathlib.Core.Bool.{Bool, true, ◌&&◌, ◌||◌, not, and-true, and-false}
use mathlib.Core.List.{List, [], ◌∷◌, ◌++◌, map}
use Prim.Native.Nat.{ℕ, ◌*◌}
use native.Mathlib.Nat.{mul-one}
use lib.ListN.{length, take, length-map}
use lib.Dec.{eqb}
use borrow.Author.Tests.{eqb-true, eq-eqb}
use Rattle.theory.specs.Elements.{Each}
use Rattle.semantics.specs.Lists.{same, all, any, filter, cons_if, non_empty, several, sum, product, concat_map, up_to, head_of}
use Rattle.semantics.specs.Plans.{Plan, scan, join, tables}
use Rattle.semantics.specs.Shapes.{attributes, holds}
use Rattle.semantics.specs.Results.{Base, Pick, pick_of, recorded, values_agree, copies_of, choices, values_in, agrees, results, tuple}
use Rattle.semantics.specs.Bags.{row_has, repeats, tuple_of, shared_recorded, multiplicity}
use Rattle.theory.proofs.Cases.{cases, and_right}
use Rattle.theory.proofs.Lists.{each, Each-map, Each-with, Each-filter, Each-of-map, filter-only_if, filter-concat_map, concat_map-filter, length-concat_map, filter_passes, same_refl, map-cons_if, all_and, all_append, true_all, filter_map, filter-filter, filter_each, filter-false, non_empty-filter, product-append, count-pairs}
use Rattle.theory.proofs.Totals.{copies_length}
use Rattle.theory.proofs.Choices.{choices-named}

-- values that agree are equal, and recorded where there are several
agree-recorded : (z : ℕ) (zs : List ℕ) → values_agree (z ∷ zs) ≡ (all (eqb z) zs && (not (non_empty zs) || recorded z))
agree-recorded z [] = refl
agree-recorded z (y ∷ zs) =
    cases (eqb z y) (λ h. cases (recorded z) (λ g. rw (h, g) (agree-recorded z zs ∙ rw g (cases (non_empty zs) (λ n. rw n) (λ n. rw n)))) (λ g. rw (h, g) (sym (and-false (all (eqb z) zs))))) (λ h. rw h)

-- the values vs of one attribute, of which v's is w: A and the tuples ks, ts stand for the attributes after it
one-attribute : (w : ℕ) (vs : List ℕ) (b A : Bool) (ks ts : List ℕ) (R : Bool) → non_empty vs ≡ b → (A && same ks ts) ≡ R
    → (values_agree vs && A && same (cons_if b w ks) (take 1 vs ++ ts)) ≡ ((all (eqb w) vs && (not (several vs) || recorded w)) && R)
one-attribute w [] b A ks ts R h e = rw (← h) e
one-attribute w (z ∷ zs) b A ks ts R h e =
    cases (eqb w z)
    (λ g. subst
    (λ u. (values_agree (z ∷ zs) && A && same (cons_if b u ks) (z ∷ ts)) ≡ ((all (eqb u) (z ∷ zs) && (not (several (z ∷ zs)) || recorded u)) && R))
    (sym (eqb-true w z g))
    (rw (← h, ← e, agree-recorded z zs, eq-eqb z z refl)
    (cases (all (eqb z) zs && (not (non_empty zs) || recorded z)) (λ x. rw x) (λ x. rw x))))
    (λ g. rw (← h, ← e, agree-recorded z zs) (rw g (and-false (all (eqb z) zs && (not (non_empty zs) || recorded z) && A))))

first-value : (vs : List ℕ) (b : Bool) (ts : List ℕ) → non_empty vs ≡ b → take 1 vs ++ ts ≡ cons_if b (head_of vs) ts
first-value [] b ts h = rw (← h)
first-value (z ∷ zs) b ts h = rw (← h)

module _ (D : Base) where
  -- an attribute has values in a choice exactly if a table of the choice has it
  non_empty-values : (a : ℕ) (c : List Pick) → non_empty (values_in D a c) ≡ any (λ t. D.shape.has t a) (map (λ x. x.table) c)
  non_empty-values a [] = refl
  non_empty-values a (x ∷ c) = cases (D.shape.has x.table a) (λ h. rw h) (λ h. rw h (non_empty-values a c))

  held-values : (a : ℕ) (p : Plan) (c : List Pick) → map (λ x. x.table) c ≡ tables p → non_empty (values_in D a c) ≡ holds D.shape p a
  unfolding holds
  held-values a p c h = non_empty-values a c ∙ ap (any (λ t. D.shape.has t a)) h

  several-values : (a : ℕ) (c : List Pick) → several (values_in D a c) ≡ several (filter (λ t. D.shape.has t a) (map (λ x. x.table) c))
  several-values a [] = refl
  several-values a (x ∷ c) =
      cases (D.shape.has x.table a) (λ h. rw h (non_empty-values a c ∙ sym (non_empty-filter (λ t. D.shape.has t a) (map (λ x. x.table) c)))) (λ h. rw h (several-values a c))

  module _ (v : ℕ → ℕ) where
    -- the choice has v's values in all tables
    abbrev choice_has : List Pick → Bool
    choice_has c = all (λ x. row_has D v x.table x.row) c

    -- the same, attribute by attribute
    values_of : (c : List Pick) → all (λ a. all (eqb (v a)) (values_in D a c)) attributes ≡ choice_has c
    unfolding row_has
    values_of [] = true_all (λ a. true) attributes (each (λ a. true ≡ true) (λ a. refl) attributes)
    values_of (x ∷ c) =
        let whole : all (λ a. not (D.shape.has x.table a) || eqb (v a) (D.val x.table a x.row)) attributes ≡ row_has D v x.table x.row = refl in
        ap (λ f. all f attributes)
        (fun_ext (λ a. cases (D.shape.has x.table a) (λ h. rw h) (λ h. rw h)))
        ∙ all_and (λ a. not (D.shape.has x.table a) || eqb (v a) (D.val x.table a x.row)) (λ a. all (eqb (v a)) (values_in D a c)) attributes
        ∙ ap₂ (λ a b. a && b) whole (values_of c)

    -- the values of an attribute, equal among themselves and to v's, one attribute at a time
    agreeing : (p : Plan) (c : List Pick) → map (λ x. x.table) c ≡ tables p → (ks : List ℕ)
        → (all (λ a. values_agree (values_in D a c)) ks && same (map v (filter (holds D.shape p) ks)) (concat_map (λ a. take 1 (values_in D a c)) ks)) ≡ all (λ a. all (eqb (v a)) (values_in D a c) && (not (several (values_in D a c)) || recorded (v a))) ks
    agreeing p c n [] = refl
    agreeing p c n (a ∷ ks) =
        rw (map-cons_if v (holds D.shape p a) a (filter (holds D.shape p) ks))
        (one-attribute (v a) (values_in D a c) (holds D.shape p a) (all (λ a. values_agree (values_in D a c)) ks) (map v (filter (holds D.shape p) ks)) (concat_map (λ a. take 1 (values_in D a c)) ks)
        (all (λ a. all (eqb (v a)) (values_in D a c) && (not (several (values_in D a c)) || recorded (v a))) ks) (held-values a p c n) (agreeing p c n ks))

    -- a choice agrees and has v's tuple exactly if all of its rows have v's values, and these are recorded where they are joined
    agrees-tuple : (p : Plan) (c : List Pick) → map (λ x. x.table) c ≡ tables p → (agrees D c && same (tuple_of D v p) (tuple D c)) ≡ (choice_has c && shared_recorded D v p)
    unfolding agrees tuple tuple_of shared_recorded
    agrees-tuple p c n =
        agreeing p c n attributes
        ∙ all_and (λ a. all (eqb (v a)) (values_in D a c)) (λ a. not (several (values_in D a c)) || recorded (v a)) attributes
        ∙ ap₂ (λ a b. a && b) (values_of c)
        (ap (λ f. all f attributes) (fun_ext (λ a. ap (λ b. not b || recorded (v a)) (several-values a c ∙ ap (λ ts. several (filter (λ t. D.shape.has t a) ts)) n))))

    -- the choices with v's values are counted table by table
    count-choices : (p : Plan) → length (filter choice_has (choices D p)) ≡ product (repeats D v) (tables p)
    unfolding repeats
    count-choices (scan t) =
        ap length
        (filter-concat_map choice_has (copies_of D t) (up_to (D.shape.rows t))
        ∙ ap (λ f. concat_map f (up_to (D.shape.rows t)))
        (fun_ext (λ y. filter-only_if choice_has (row_has D v t y) (copies_of D t y)
        (Each-of-map (λ c. choice_has c ≡ row_has D v t y) (pick_of t y) (up_to (D.copies t y)) (each (λ c. (row_has D v t y && true) ≡ row_has D v t y) (λ c. and-true (row_has D v t y)) (up_to (D.copies t y))))))
        ∙ sym (concat_map-filter (row_has D v t) (copies_of D t) (up_to (D.shape.rows t))))
        ∙ length-concat_map (copies_of D t) (filter (row_has D v t) (up_to (D.shape.rows t)))
        ∙ ap (λ f. sum f (filter (row_has D v t) (up_to (D.shape.rows t)))) (fun_ext (copies_length D t))
        ∙ sym (mul-one (sum (D.copies t) (filter (row_has D v t) (up_to (D.shape.rows t)))))
    count-choices (join l r) =
        count-pairs choice_has choice_has choice_has (choices D l) (choices D r)
        (each (λ c. Each (λ e. choice_has (c ++ e) ≡ (choice_has c && choice_has e)) (choices D r))
        (λ c. each (λ e. choice_has (c ++ e) ≡ (choice_has c && choice_has e)) (λ e. all_append (λ x. row_has D v x.table x.row) c e) (choices D r)) (choices D l))
        ∙ ap₂ (λ a b. a * b) (count-choices l) (count-choices r)
        ∙ sym (product-append (repeats D v) (tables l) (tables r))

    -- THE BAG MEANING: v's tuple stands in the result as often as the product of its repeats
    pub bag_meaning : (p : Plan) → length (filter (same (tuple_of D v p)) (map (tuple D) (results D p))) ≡ multiplicity D v p
    unfolding results multiplicity
    bag_meaning p =
        ap length (filter_map (same (tuple_of D v p)) (tuple D) (filter (agrees D) (choices D p)))
        ∙ length-map (filter (λ c. same (tuple_of D v p) (tuple D c)) (filter (agrees D) (choices D p))) (tuple D)
        ∙ ap length
        (sym (filter-filter (agrees D) (λ c. same (tuple_of D v p) (tuple D c)) (choices D p))
        ∙ filter_each (λ c. agrees D c && same (tuple_of D v p) (tuple D c)) (λ c. choice_has c && shared_recorded D v p) (choices D p)
        (Each-map (λ c. map (λ x. x.table) c ≡ tables p) (λ c. (agrees D c && same (tuple_of D v p) (tuple D c)) ≡ (choice_has c && shared_recorded D v p)) (agrees-tuple p) (choices D p) (choices-named D p)))
        ∙ cases (shared_recorded D v p)
        (λ h. rw (h, multiplicity) (ap (λ q. length (filter q (choices D p))) (fun_ext (λ c. and-true (choice_has c))) ∙ count-choices p))
        (λ h. rw (h, multiplicity) (ap (λ q. length (filter q (choices D p))) (fun_ext (λ c. and-false (choice_has c))) ∙ ap length (filter-false (choices D p))))

  -- every tuple of the result is the tuple of some values, so none is added
  abbrev pub choice_values : List Pick → ℕ → ℕ
  choice_values c a = head_of (values_in D a c)

  first-values : (p : Plan) (c : List Pick) → map (λ x. x.table) c ≡ tables p → (ks : List ℕ) → concat_map (λ a. take 1 (values_in D a c)) ks ≡ map (choice_values c) (filter (holds D.shape p) ks)
  first-values p c n [] = refl
  first-values p c n (a ∷ ks) =
      first-value (values_in D a c) (holds D.shape p a) (concat_map (λ a. take 1 (values_in D a c)) ks) (held-values a p c n)
      ∙ ap (cons_if (holds D.shape p a) (choice_values c a)) (first-values p c n ks)
      ∙ sym (map-cons_if (choice_values c) (holds D.shape p a) a (filter (holds D.shape p) ks))

  pub tuple_of-values : (p : Plan) → Each (λ c. tuple D c ≡ tuple_of D (choice_values c) p) (results D p)
  unfolding results tuple tuple_of
  tuple_of-values p =
      Each-filter (λ c. tuple D c ≡ tuple_of D (choice_values c) p) (agrees D) (choices D p)
      (Each-map (λ c. map (λ x. x.table) c ≡ tables p) (λ c. tuple D c ≡ tuple_of D (choice_values c) p) (λ c n. first-values p c n attributes) (choices D p) (choices-named D p))

  -- ---- request U1's own words: "no attribute shared by two of that plan's tables holds that word", in any result
  shared_of : (p : Plan) (c : List Pick) → agrees D c ≡ true → map (λ x. x.table) c ≡ tables p → shared_recorded D (choice_values c) p ≡ true
  unfolding tuple tuple_of
  shared_of p c e n =
      let u = tuple_of D (choice_values c) p in
      and_right (choice_has (choice_values c) c) (shared_recorded D (choice_values c) p)
      (sym (agrees-tuple (choice_values c) p c n) ∙ ap₂ (λ a b. a && b) e (ap (same u) (first-values p c n attributes) ∙ same_refl u))

  pub shared-recorded : (p : Plan) → Each (λ c. shared_recorded D (choice_values c) p ≡ true) (results D p)
  unfolding results
  shared-recorded p =
      Each-with (λ c. agrees D c ≡ true) (λ c. map (λ x. x.table) c ≡ tables p) (λ c. shared_recorded D (choice_values c) p ≡ true) (shared_of p) (results D p)
      (filter_passes (agrees D) (choices D p)) (Each-filter (λ c. map (λ x. x.table) c ≡ tables p) (agrees D) (choices D p) (choices-named D p))
