-- The bytes of the plan that is found, as a writer makes them: for each table an FF for each child, its number, and its
-- children's plans in rising number.
use mathlib.Core.Path.{◌≡◌, refl, sym, ap, ap₂, ◌∙◌, subst}
use mathlib.Core.Bool.{Bool, true, false, ◌&&◌, and-false}
use mathlib.Core.List.{List, [], ◌∷◌, ◌++◌, append_assoc, append-nil}
use Prim.Native.Nat.{ℕ, zero, suc, ◌+◌, ◌-◌, ◌≤◌, ◌<◌}
use native.Mathlib.Omega.{arith}
use native.Mathlib.Nat.{zero-add, add-zero}
use lib.ListN.{length, replicate, length-append}
use lib.Dec.{eqb, ltb}
use borrow.Author.Tests.{eqb-true, eq-eqb, ne_eqb, lt-ltb, le-ltb}
use Rattle.theory.specs.Elements.{Each, only_if, member}
use Rattle.semantics.specs.Lists.{filter, cons_if, concat_map, from, up_to}
use Rattle.semantics.specs.Plans.{Plan, scan, join, encode, leftmost}
use Rattle.semantics.specs.Shapes.{Shape}
use Rattle.theory.proofs.Cases.{cases, option_cases, and_left, or_left, or_right, or_cases, true-false}
use Rattle.theory.proofs.Lists.{Each-map}
use Rattle.theory.proofs.Numbers.{filter_last, from-lt}
use Rattle.semantics.specs.JoinTrees.{hang_rising}
use Rattle.semantics.specs.Elimination.{Hanging, rooted, without, next_of, hang_all, eliminate, plan_under}
use Rattle.elimination.specs.Steps.{hung_under}
use Rattle.elimination.specs.Writing.{is_hung, HungOnce}
use Rattle.theory.proofs.TableSets.{decide, member_each}
use Rattle.theory.proofs.Hangings.{out-without, step_ear}
use Rattle.theory.proofs.Forests.{plan_under-leftmost, at-parent, elsewhere}

hung_under_lem : (hs : List Hanging) (t c : ℕ) → hung_under hs t c ≡ true → is_hung hs c ≡ true
hung_under_lem [] t c e = e
hung_under_lem (h ∷ hs) t c e =
    or_cases (eqb c h.child && eqb t h.parent) (hung_under hs t c) e
    (λ i. or_left (eqb c h.child) (is_hung hs c) (and_left (eqb c h.child) (eqb t h.parent) i))
    (λ i. or_right (eqb c h.child) (is_hung hs c) (hung_under_lem hs t c i))

-- ---- the children of a table, the highest first, and the plan that they give
abbrev falling : (ℕ → Bool) → ℕ → List ℕ
falling q zero = []
falling q (suc k) = cons_if (q k) k (falling q k)

abbrev joined : (ℕ → Plan) → ℕ → List ℕ → Plan
joined P t [] = scan t
joined P t (x ∷ xs) = join (joined P t xs) (P x)

abbrev insert_falling : ℕ → List ℕ → List ℕ
insert_falling c [] = c ∷ []
insert_falling c (x ∷ xs) = elim (ltb c x) [ true ↦ x ∷ insert_falling c xs | false ↦ c ∷ x ∷ xs ]

falling_none : (q : ℕ → Bool) (n : ℕ) → ((c : ℕ) → q c ≡ false) → falling q n ≡ []
falling_none q zero f = refl
falling_none q (suc k) f = rw (f k) (falling_none q k f)

falling_below : (q r : ℕ → Bool) (n : ℕ) → ((c : ℕ) → c < n → q c ≡ r c) → falling q n ≡ falling r n
falling_below q r zero f = refl
falling_below q r (suc k) f = ap₂ (λ b l. cons_if b k l) (f k (omega arith)) (falling_below q r k (λ c h. f c (omega arith)))

falling_passes : (q : ℕ → Bool) (n : ℕ) → Each (λ c. (c < n) × (q c ≡ true)) (falling q n)
falling_passes q zero = tt
falling_passes q (suc k) =
    let rest = Each-map (λ c. (c < k) × (q c ≡ true)) (λ c. (c < suc k) × (q c ≡ true)) (λ c h. (omega (arith, h.0), h.1)) (falling q k) (falling_passes q k) in
    cases (q k) (λ h. rw h ((omega arith, h), rest)) (λ h. rw h rest)

joined_each : (P Q : ℕ → Plan) (t : ℕ) (xs : List ℕ) → Each (λ x. P x ≡ Q x) xs → joined P t xs ≡ joined Q t xs
joined_each P Q t [] e = refl
joined_each P Q t (x ∷ xs) e = ap₂ join (joined_each P Q t xs e.1) e.0

hang-joined : (P : ℕ → Plan) (t c : ℕ) (xs : List ℕ) → ((x : ℕ) → leftmost (P x) ≡ x) → hang_rising (P c) (joined P t xs) ≡ joined P t (insert_falling c xs)
hang-joined P t c [] f = refl
hang-joined P t c (x ∷ xs) f =
    cases (ltb c x) (λ h. rw (f c, f x, h, hang_rising, insert_falling) (ap (λ p. join p (P x)) (hang-joined P t c xs f))) (λ h. rw (f c, f x, h, hang_rising, insert_falling))

insert_above : (c : ℕ) (xs : List ℕ) → Each (λ x. x < c) xs → insert_falling c xs ≡ c ∷ xs
insert_above c [] e = refl
insert_above c (x ∷ xs) e = rw (le-ltb c x (omega (arith, e.0)), insert_falling)

insert_falling_lem : (q r : ℕ → Bool) (c n : ℕ) → q c ≡ false → r c ≡ true → ((x : ℕ) → (x ≡ c → ⊥) → r x ≡ q x) → c < n → insert_falling c (falling q n) ≡ falling r n
insert_falling_lem q r c zero qc rc f l = absurd (omega arith)
insert_falling_lem q r c (suc k) qc rc f l =
    decide k c
    (λ e. rw (e, qc, rc)
    (insert_above c (falling q c) (Each-map (λ x. (x < c) × (q x ≡ true)) (λ x. x < c) (λ x h. h.0) (falling q c) (falling_passes q c))
    ∙ ap (λ l. c ∷ l) (falling_below q r c (λ x h. sym (f x (λ e. omega arith))))))
    (λ d.
    let ih = insert_falling_lem q r c k qc rc f (omega arith) in
    cases (q k) (λ h. rw (h, f k d ∙ h, lt-ltb c k (omega arith), insert_falling) (ap (λ l. k ∷ l) ih)) (λ h. rw (h, f k d ∙ h) ih))

-- a table joins its children's plans in turn, in rising number
plan-joined : (n : ℕ) (hs : List Hanging) (t : ℕ) → HungOnce n hs → plan_under hs t ≡ joined (plan_under hs) t (falling (hung_under hs t) n)
plan-joined n [] t o = ap (joined (plan_under []) t) (sym (falling_none (hung_under [] t) n (λ c. refl)))
plan-joined n (h ∷ hs) t (below, fresh, open', apart, o) =
    let P = plan_under hs in
    let Q = plan_under (h ∷ hs) in
    let c = h.child in
    let p = h.parent in
    let same : (x : ℕ) → is_hung hs x ≡ true → P x ≡ Q x = λ x i. sym (elsewhere h hs x (λ e. true-false (is_hung hs x) i (ap (is_hung hs) e ∙ open'))) in
    decide t p
    (λ e. rw e
    (at-parent h hs
    ∙ ap (hang_rising (P c)) (plan-joined n hs p o)
    ∙ hang-joined P p c (falling (hung_under hs p) n) (plan_under-leftmost hs)
    ∙ ap (joined P p)
    (insert_falling_lem (hung_under hs p) (hung_under (h ∷ hs) p) c n
    (not_under hs p c fresh)
    (rw (eq-eqb c c refl, eq-eqb p p refl))
    (λ x d. rw (ne_eqb x c d)) below)
    ∙ joined_each P Q p (falling (hung_under (h ∷ hs) p) n)
    (Each-map (λ x. (x < n) × (hung_under (h ∷ hs) p x ≡ true)) (λ x. P x ≡ Q x)
    (λ x k. or_cases (eqb x c && eqb p p) (hung_under hs p x) k.1
    (λ i. sym (elsewhere h hs x (λ e. apart (sym e ∙ eqb-true x c (and_left (eqb x c) (eqb p p) i)))))
    (λ i. same x (hung_under_lem hs p x i)))
    (falling (hung_under (h ∷ hs) p) n) (falling_passes (hung_under (h ∷ hs) p) n))))
    (λ d.
    elsewhere h hs t d
    ∙ plan-joined n hs t o
    ∙ joined_each P Q t (falling (hung_under hs t) n)
    (Each-map (λ x. (x < n) × (hung_under hs t x ≡ true)) (λ x. P x ≡ Q x) (λ x k. same x (hung_under_lem hs t x k.1)) (falling (hung_under hs t) n) (falling_passes (hung_under hs t) n))
    ∙ ap (joined Q t) (falling_below (hung_under hs t) (hung_under (h ∷ hs) t) n (λ x l. rw (ne_eqb t p d, and-false (eqb x c)))))
  where
    not_under : (hs : List Hanging) (p c : ℕ) → is_hung hs c ≡ false → hung_under hs p c ≡ false
    not_under hs p c f = cases (hung_under hs p c) (λ i. absurd (true-false (is_hung hs c) (hung_under_lem hs p c i) f)) (λ i. i)

-- ---- the bytes
pub concat_map_last : {A : Type 0} (f : ℕ → List A) (i n : ℕ) → concat_map f (from i (suc n)) ≡ concat_map f (from i n) ++ f (i + n)
concat_map_last f i zero = append-nil (f i) ∙ ap f (sym (add-zero i))
concat_map_last f i (suc n) =
    let e : suc i + n ≡ i + suc n = omega arith in
    ap (λ l. f i ++ l) (concat_map_last f (suc i) n ∙ ap (λ k. concat_map f (from (suc i) n) ++ f k) e) ∙ sym (append_assoc (f i) (concat_map f (from (suc i) n)) (f (i + suc n)))

joined_bytes : (P : ℕ → Plan) (q : ℕ → Bool) (t n : ℕ) → encode (joined P t (falling q n)) ≡ replicate (length (falling q n)) 255 ++ (t ∷ concat_map (λ c. only_if (q c) (encode (P c))) (from 0 n))
joined_bytes P q t zero = refl
joined_bytes P q t (suc k) =
    let f : ℕ → List ℕ = λ c. only_if (q c) (encode (P c)) in
    let R : List ℕ = replicate (length (falling q k)) 255 in
    let C = concat_map f (from 0 k) in
    let last : concat_map f (from 0 (suc k)) ≡ C ++ f k = concat_map_last f 0 k ∙ ap (λ j. C ++ f j) (zero-add k) in
    let ih : encode (joined P t (falling q k)) ≡ R ++ (t ∷ C) = joined_bytes P q t k in
    cases (q k)
    (λ h. rw h (ap (λ l. 255 ∷ (l ++ encode (P k))) ih ∙ ap (λ l. 255 ∷ l) (append_assoc R (t ∷ C) (encode (P k)) ∙ ap (λ l. R ++ (t ∷ l)) (sym (last ∙ ap (λ b. C ++ only_if b (encode (P k))) h)))))
    (λ h. rw h (ih ∙ ap (λ l. R ++ (t ∷ l)) (sym (last ∙ ap (λ b. C ++ only_if b (encode (P k))) h ∙ append-nil C))))

falling-count : (q : ℕ → Bool) (n : ℕ) → length (falling q n) ≡ length (filter q (from 0 n))
falling-count q zero = refl
falling-count q (suc k) =
    let e : k + 1 ≡ suc k = omega arith in
    let last : filter q (from 0 (suc k)) ≡ filter q (from 0 k) ++ filter q (k ∷ []) = rw e at (filter_last q k) in
    let ih = falling-count q k in
    cases (q k)
    (λ h. rw h (omega (arith, ih, ap length last, length-append (filter q (from 0 k)) (filter q (k ∷ [])), ap (λ b. length (cons_if b k [])) h)))
    (λ h. rw h (omega (arith, ih, ap length last, length-append (filter q (from 0 k)) (filter q (k ∷ [])), ap (λ b. length (cons_if b k [])) h)))

-- an FF for each child, the table's number, and the children's plans in rising number
pub plan-bytes : (n : ℕ) (hs : List Hanging) (t : ℕ) → HungOnce n hs
    → encode (plan_under hs t) ≡ replicate (length (filter (hung_under hs t) (from 0 n))) 255 ++ (t ∷ concat_map (λ c. only_if (hung_under hs t c) (encode (plan_under hs c))) (from 0 n))
plan-bytes n hs t o =
    ap encode (plan-joined n hs t o) ∙ joined_bytes (plan_under hs) (hung_under hs t) t n
    ∙ ap (λ k. replicate k 255 ++ (t ∷ concat_map (λ c. only_if (hung_under hs t c) (encode (plan_under hs c))) (from 0 n))) (falling-count (hung_under hs t) n)

-- ---- what is hung, table by table
module _ (S : Shape) (n : ℕ) where
  hung-once : (m z : ℕ) (rs : List ℕ) (hs gs : List Hanging) → hang_all S m rs hs ≡ rooted z gs → ((t : ℕ) → member rs t ≡ true → (t < n) × (is_hung hs t ≡ false)) → HungOnce n hs → HungOnce n gs
  hung-once zero z rs hs gs e f o = let q : hs ≡ gs = cc in subst (HungOnce n) q o
  hung-once (suc m) z rs hs gs e f o =
      option_cases (next_of S rs rs) (λ k. let q : ◌≡◌ {A = ℕ} 0 1 = cc (rw (k, hang_all) at e) in absurd (omega arith))
      (λ h s.
      let E = step_ear S rs h s in
      let (a, b) = f h.child E.inside in
      hung-once m z (without h.child rs) (h ∷ hs) gs (rw (s, hang_all) at e)
      (λ t i. let (d, j) = out-without h.child t rs i in let (x, y) = f t j in (x, rw (ne_eqb t h.child d) y))
      (a, b, (f h.parent E.parent).1, E.apart, o))

  pub rooted-once : (z : ℕ) (gs : List Hanging) → eliminate S n ≡ rooted z gs → HungOnce n gs
  unfolding eliminate up_to
  rooted-once z gs e = hung-once (n - 1) z (from 0 n) [] gs e (λ t m. (omega (arith, (member_each (λ y. (0 ≤ y) × (y < 0 + n)) (from 0 n) t (from-lt 0 n) m).1), refl)) tt
