-- Answer 8 is due exactly if the tables are not named once each, and its detail is the first index where they go wrong.
use mathlib.Core.Path.{◌≡◌, refl, sym, ap, ◌∙◌}
use mathlib.Core.Logic.{◌↔◌}
use mathlib.Core.Bool.{Bool, true, false, ◌&&◌, ◌||◌, not}
use mathlib.Core.List.{List, [], ◌∷◌, ◌++◌, append-nil}
use mathlib.Core.Option.{none, some}
use Prim.Native.Nat.{ℕ, zero, suc, ◌+◌, ◌≤◌, ◌<◌}
use native.Mathlib.Omega.{arith}
use lib.ListN.{length, take, drop, get_or}
use lib.Seq.{split_at}
use lib.Dec.{eqb, ltb}
use borrow.Author.Tests.{eqb-false, eq-eqb, ltb-true, ltb-false, lt-ltb}
use Rattle.theory.specs.Elements.{Each}
use Rattle.semantics.specs.Lists.{any, filter, from}
use Rattle.semantics.specs.Plans.{tables, misplaced, plan_of, misnamed}
use Rattle.theory.specs.Details.{names, wrong_name, FirstMisnamed}
use Rattle.theory.specs.Rules.{NamedOnce}
use Rattle.theory.proofs.Cases.{cases, option_cases, not_and, and_left, and_right, not-true, true-false}
use Rattle.theory.proofs.Lists.{Each-filter, Each-split, filter_passes, filter-append, filter_none, none_filtered, length-filter-middle, any-middle, sum_one}
use Rattle.theory.proofs.Numbers.{length_from, from-lt}
use Rattle.theory.proofs.Naming.{unnamed, Apart, apart_none, apart_more, plan-names, not-misnamed}

module _ (n : ℕ) where
  -- a table that is not named, where fewer than n are
  missing_one : (named : List ℕ) → Apart n named → (length named ≡ n → ⊥) → (t : ℕ) × (t < n) × (any (eqb t) named ≡ false)
  missing_one named a h =
      go (filter (unnamed named) (from 0 n)) (omega (arith, a (λ x. 1), sum_one named, sum_one (filter (unnamed named) (from 0 n)), sum_one (from 0 n), length_from 0 n))
      (Each-filter (λ t. (0 ≤ t) × (t < 0 + n)) (unnamed named) (from 0 n) (from-lt 0 n)) (filter_passes (unnamed named) (from 0 n))
    where
      go : (ts : List ℕ) → length named + length ts ≡ n → Each (λ t. (0 ≤ t) × (t < 0 + n)) ts → Each (λ t. unnamed named t ≡ true) ts → (t : ℕ) × (t < n) × (any (eqb t) named ≡ false)
      go [] e l u = absurd (h (omega arith))
      go (t ∷ ts) e l u = (t, omega (arith, l.0), not-true (any (eqb t) named) u.0)

  -- ---- the same with some tables named before
  abbrev wrong_after : List ℕ → List ℕ → ℕ → Bool
  wrong_after named bs j = let b = get_or bs j 0 in not (eqb b 255) && (not (ltb b n) || any (eqb b) (names (take j bs) ++ named))

  record FirstAfter (named bs : List ℕ) (j : ℕ) : Type 0 where
    pub within : j ≤ length bs
    pub before : (m : ℕ) → m < j → wrong_after named bs m ≡ false
    pub wrong : j < length bs → wrong_after named bs j ≡ true
    pub missing : j ≡ length bs → (t : ℕ) × (t < n) × (any (eqb t) (names bs ++ named) ≡ false)

  -- behind a byte that is not wrong, where `more` are named
  module _ (b : ℕ) (named more : List ℕ) (alike : (t : ℕ) (xs : List ℕ) → any (eqb t) (names (b ∷ xs) ++ named) ≡ any (eqb t) (names xs ++ more)) where
    after : (bs : List ℕ) (m : ℕ) → wrong_after named (b ∷ bs) (suc m) ≡ wrong_after more bs m
    after bs m = let c = get_or bs m 0 in ap (λ x. not (eqb c 255) && (not (ltb c n) || x)) (alike c (take m bs))

    later : (bs : List ℕ) (j : ℕ) → wrong_after named (b ∷ bs) 0 ≡ false → FirstAfter more bs j → FirstAfter named (b ∷ bs) (suc j)
    later bs j h f =
        record {
          within = omega (arith, f.within);
          before = earlier;
          wrong = λ k. after bs j ∙ f.wrong (omega arith);
          missing = λ k. let (t, l, u) = f.missing (omega arith) in (t, l, alike t bs ∙ u);
        }
      where
        earlier : (m : ℕ) → m < suc j → wrong_after named (b ∷ bs) m ≡ false
        earlier zero k = h
        earlier (suc m) k = after bs m ∙ f.before m (omega arith)

  first_from : (named : List ℕ) (i : ℕ) (bs : List ℕ) (k : ℕ) → Apart n named → misnamed n named i bs ≡ some k → (j : ℕ) × (k ≡ i + j) × FirstAfter named bs j
  first_from named i [] k a e =
      cases (eqb (length named) n) (λ h. let z : ◌≡◌ {A = ℕ} 0 1 = cc (rw (h, misnamed) at e) in absurd (omega arith))
      (λ h. let z : i ≡ k = cc (rw (h, misnamed) at e) in
      (0, omega arith, record { within = omega arith; before = λ m l. absurd (omega arith); wrong = λ l. absurd (omega arith); missing = λ l. missing_one named a (eqb-false (length named) n h) }))
  first_from named i (b ∷ bs) k a e =
      cases (eqb b 255)
      (λ h. let (j, q, f) = first_from named (suc i) bs k a (rw (h, misnamed) at e) in (suc j, omega arith, later b named named (λ t xs. rw h) bs j (rw h) f))
      (λ h. cases (ltb b n && not (any (eqb b) named))
      (λ g.
      let l = and_left (ltb b n) (unnamed named b) g in
      let u = and_right (ltb b n) (unnamed named b) g in
      let (j, q, f) = first_from (b ∷ named) (suc i) bs k (apart_more n b named (ltb-true b n l) u a) (rw (h, g, misnamed) at e) in
      (suc j, omega arith, later b named (b ∷ named) (λ t xs. rw h (any-middle (eqb t) b (names xs) named)) bs j (rw (h, l, not-true (any (eqb b) named) u)) f))
      (λ g. let z : i ≡ k = cc (rw (h, g, misnamed) at e) in
      (0, omega arith, record { within = omega arith; before = λ m l. absurd (omega arith); wrong = λ l. rw h (not_and (ltb b n) (any (eqb b) named) g); missing = λ l. absurd (omega arith) })))

misnamed_first : (n : ℕ) (bs : List ℕ) (i : ℕ) → misnamed n [] 0 bs ≡ some i → FirstMisnamed n bs i
unfolding wrong_name
misnamed_first n bs i e =
    let (j, q, f) = first_from n [] 0 bs i (apart_none n) e in
    let z : i ≡ j = omega arith in
    let wrong : (m : ℕ) → wrong_name n bs m ≡ wrong_after n [] bs m = λ m. rw (append-nil (names (take m bs))) in
    rw z (record {
      within = f.within;
      before = λ m h. wrong m ∙ f.before m h;
      wrong = λ h. wrong j ∙ f.wrong h;
      missing = λ h. let (t, l, u) = f.missing h in (t, l, ap (any (eqb t)) (sym (append-nil (names bs))) ∙ u);
    })

-- ---- where a name is wrong, or none is and a table is missing, tables are not named once each
wrong-middle : (n b : ℕ) (xs ys : List ℕ) → (not (ltb b n) || any (eqb b) xs) ≡ true → NamedOnce n (xs ++ (b ∷ ys)) → ⊥
wrong-middle n b xs ys h o =
    let l : b < n = (Each-split (λ t. t < n) xs (b ∷ ys) o.present).1.0 in
    let none : any (eqb b) xs ≡ false = filter_none (eqb b) xs (omega (arith, o.once b l, length-filter-middle (eqb b) b xs ys (eq-eqb b b refl))) in
    true-false (not (ltb b n) || any (eqb b) xs) h (rw (lt-ltb b n l, none))

wrong_not-once : (n : ℕ) (bs : List ℕ) (i : ℕ) → i < length bs → wrong_name n bs i ≡ true → NamedOnce n (names bs) → ⊥
unfolding wrong_name
wrong_not-once n bs i h w o =
    let b = get_or bs i 0 in
    let ff = and_left (not (eqb b 255)) (not (ltb b n) || any (eqb b) (names (take i bs))) w in
    let parts : names bs ≡ names (take i bs) ++ (b ∷ names (drop (suc i) bs))
    = ap names (split_at bs i 0 h) ∙ filter-append (λ b. not (eqb b 255)) (take i bs) (b ∷ drop (suc i) bs) ∙ rw ff in
    wrong-middle n b (names (take i bs)) (names (drop (suc i) bs)) (and_right (not (eqb b 255)) (not (ltb b n) || any (eqb b) (names (take i bs))) w) (rw parts at o)

first_not-once : (n : ℕ) (bs : List ℕ) (i : ℕ) → FirstMisnamed n bs i → NamedOnce n (names bs) → ⊥
first_not-once n bs i f o =
    cases (ltb i (length bs)) (λ h. let l = ltb-true i (length bs) h in wrong_not-once n bs i l (f.wrong l) o)
    (λ h. let (t, l, u) = f.missing (omega (arith, f.within, ltb-false i (length bs) h)) in omega (arith, o.once t l, none_filtered (eqb t) (names bs) u))

-- 8 is not due exactly if each table of the file is named once and no other is
pub named_exactly : (n : ℕ) (bs : List ℕ) → (misnamed n [] 0 bs ≡ none) ↔ NamedOnce n (names bs)
named_exactly n bs = (
  not-misnamed n bs,
  λ o. option_cases (misnamed n [] 0 bs) (λ e. e) (λ i e. absurd (first_not-once n bs i (misnamed_first n bs i e) o)),
)

-- of bytes that spell a plan
pub plan-named_exactly : (n : ℕ) (bs : List ℕ) → misplaced 1 0 bs ≡ none → (misnamed n [] 0 bs ≡ none) ↔ NamedOnce n (tables (plan_of bs))
plan-named_exactly n bs a = rw (plan-names bs a) at (named_exactly n bs)

misnamed-once : (n : ℕ) (bs : List ℕ) (i k : ℕ) → FirstMisnamed n bs i → FirstMisnamed n bs k → i ≡ k
misnamed-once n bs i k f g =
    let a : (i < k → ⊥) = λ h. true-false (wrong_name n bs i) (f.wrong (omega (arith, g.within))) (g.before i h) in
    let b : (k < i → ⊥) = λ h. true-false (wrong_name n bs k) (g.wrong (omega (arith, f.within))) (f.before k h) in
    omega arith

-- 8's detail is the index of the first wrong name, or n where no name is wrong
pub first-misnamed : (n : ℕ) (bs : List ℕ) (i : ℕ) → (misnamed n [] 0 bs ≡ some i) ↔ FirstMisnamed n bs i
first-misnamed n bs i = (
  misnamed_first n bs i,
  λ f. option_cases (misnamed n [] 0 bs) (λ e. absurd (first_not-once n bs i f (not-misnamed n bs e))) (λ k e. e ∙ ap some (misnamed-once n bs k i (misnamed_first n bs k e) f)),
)
