-- Request U2, "the bag that of the original joins". Plans that name the same tables have the same tuples, each as often.
use mathlib.Core.Path.{◌≡◌, sym, ap, ap₂, ◌∙◌, fun_ext}
use mathlib.Core.Bool.{Bool, true, false, ◌||◌, not}
use mathlib.Core.List.{List, [], ◌∷◌, map}
use Prim.Native.Nat.{ℕ}
use native.Mathlib.Omega.{arith}
use lib.ListN.{length}
use Rattle.theory.specs.Elements.{one_if, Each, Permutation}
use Rattle.semantics.specs.Lists.{all, any, filter, same}
use Rattle.semantics.specs.Plans.{Plan, tables}
use Rattle.semantics.specs.Shapes.{attributes}
use Rattle.semantics.specs.Results.{Base, recorded, results, tuple}
use Rattle.semantics.specs.Bags.{repeats, tuple_of, shared_recorded, multiplicity, times}
use Rattle.theory.proofs.Cases.{cases, or_cases}
use Rattle.theory.proofs.Lists.{same_true, any-map, non_empty-filter, empty-nil, length-filter-sum, several-alike}
use Rattle.theory.proofs.Bags.{bag_meaning, choice_values, tuple_of-values}
use Rattle.semantics.specs.Mending.{mend}
use Rattle.theory.proofs.Permutations.{permutation-sum, permutation-product}
use Rattle.theory.proofs.JoinTrees.{holds_permutation}
use Rattle.theory.proofs.Mending.{mend-tables}

-- an element that passes the test
found : {A : Type 0} {P : Type 0} (q : A → Bool) (Q : A → Type 0) (xs : List A) → any q xs ≡ true → Each Q xs → ((x : A) → q x ≡ true → Q x → P) → P
found q Q [] n e f = let z : ◌≡◌ {A = ℕ} 0 1 = cc in absurd (omega arith)
found q Q (x ∷ xs) n e f = or_cases (q x) (any q xs) n (λ h. f x h e.0) (λ h. found q Q xs h e.1 f)

module _ (D : Base) where
  tuple_of_permutation : (v : ℕ → ℕ) (p q : Plan) → Permutation (tables p) (tables q) → tuple_of D v p ≡ tuple_of D v q
  unfolding tuple_of
  tuple_of_permutation v p q e = ap (λ h. map v (filter h attributes)) (fun_ext (λ a. holds_permutation D.shape p q a e))

  -- an attribute of two of p's tables is one of two of q's
  recorded_permutation : (v : ℕ → ℕ) (p q : Plan) → Permutation (tables p) (tables q) → shared_recorded D v p ≡ shared_recorded D v q
  unfolding shared_recorded
  recorded_permutation v p q e =
      ap (λ f. all f attributes) (fun_ext (λ a. ap (λ b. not b || recorded (v a))
      (several-alike (filter (λ t. D.shape.has t a) (tables p)) (filter (λ t. D.shape.has t a) (tables q))
      (length-filter-sum (λ t. D.shape.has t a) (tables p) ∙ permutation-sum (λ t. one_if (D.shape.has t a)) e ∙ sym (length-filter-sum (λ t. D.shape.has t a) (tables q))))))

  multiplicity_permutation : (v : ℕ → ℕ) (p q : Plan) → Permutation (tables p) (tables q) → multiplicity D v p ≡ multiplicity D v q
  unfolding multiplicity
  multiplicity_permutation v p q e =
      ap₂ (λ b n. elim b [ true ↦ n | false ↦ 0 ]) (recorded_permutation v p q e) (permutation-product (repeats D v) e)

  -- a tuple of some values
  times-values : (v : ℕ → ℕ) (p q : Plan) → Permutation (tables p) (tables q) → times D (tuple_of D v p) p ≡ times D (tuple_of D v p) q
  unfolding times
  times-values v p q e =
      bag_meaning D v p ∙ multiplicity_permutation v p q e ∙ sym (bag_meaning D v q) ∙ ap (λ k. times D k q) (sym (tuple_of_permutation v p q e))

  -- a tuple that stands in p's result, as a tuple of values
  times-found : (k : List ℕ) (p : Plan) (P : Type 0) → any (same k) (map (tuple D) (results D p)) ≡ true → ((v : ℕ → ℕ) → k ≡ tuple_of D v p → P) → P
  times-found k p P h f =
      found (λ c. same k (tuple D c)) (λ c. tuple D c ≡ tuple_of D (choice_values D c) p) (results D p) (sym (any-map (same k) (tuple D) (results D p)) ∙ h) (tuple_of-values D p)
      (λ c g e. f (choice_values D c) (same_true k (tuple D c) g ∙ e))

  times_none : (k : List ℕ) (p : Plan) → any (same k) (map (tuple D) (results D p)) ≡ false → times D k p ≡ 0
  unfolding times
  times_none k p h = ap length (empty-nil (filter (same k) (map (tuple D) (results D p))) (non_empty-filter (same k) (map (tuple D) (results D p)) ∙ h))

  -- plans with the same tables have the same tuples, each as often
  pub bag_permutation : (k : List ℕ) (p q : Plan) → Permutation (tables p) (tables q) → times D k p ≡ times D k q
  bag_permutation k p q e =
      cases (any (same k) (map (tuple D) (results D p)))
      (λ h. times-found k p (times D k p ≡ times D k q) h (λ v g. rw g (times-values v p q e)))
      (λ h. cases (any (same k) (map (tuple D) (results D q)))
      (λ i. times-found k q (times D k p ≡ times D k q) i (λ v g. rw (g ∙ sym (tuple_of_permutation v p q e)) (times-values v p q e)))
      (λ i. times_none k p h ∙ sym (times_none k q i)))

  pub mend_bag : (k : List ℕ) (p : Plan) → times D k (mend D.shape p) ≡ times D k p
  mend_bag k p = bag_permutation k (mend D.shape p) p (mend-tables D.shape p)
