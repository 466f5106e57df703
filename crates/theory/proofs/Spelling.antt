-- Answer 7: where it is not due the bytes are the code of exactly one plan.
use mathlib.Core.Path.{◌≡◌, refl, sym, ap, ◌∙◌}
use mathlib.Core.List.{List, [], ◌∷◌, ◌++◌, append_assoc, append-nil}
use mathlib.Core.Option.{none}
use Prim.Native.Nat.{ℕ, zero, suc, ◌+◌, ◌*◌, ◌<◌}
use native.Mathlib.Omega.{arith}
use lib.ListN.{length, get_or, length-append, get_or-append}
use lib.Dec.{eqb, ltb}
use borrow.Author.Tests.{eqb-true, ne_eqb, ltb-true, lt-ltb}
use Rattle.theory.specs.Elements.{Each}
use Rattle.semantics.specs.Lists.{concat_map}
use Rattle.semantics.specs.Plans.{Plan, scan, join, encode, tables, leftmost, misplaced, spelled, first_plan, plan_of}
use Rattle.theory.specs.Rules.{Small, joins}
use Rattle.theory.proofs.Cases.{cases}

-- a plan of k tables has k - 1 joins
pub joins-tables : (p : Plan) → length (tables p) ≡ joins p + 1
joins-tables (scan t) = refl
joins-tables (join l r) = omega (arith, length-append (tables l) (tables r), joins-tables l, joins-tables r)

-- so it names a table
pub tables_some : (p : Plan) → 0 < length (tables p)
tables_some p = omega (arith, joins-tables p)

-- the first table in plan order is the leftmost one
pub first-table : (p : Plan) → get_or (tables p) 0 0 ≡ leftmost p
first-table (scan t) = refl
first-table (join l r) = get_or-append (tables l) (tables r) 0 0 (tables_some l) ∙ first-table l

-- a plan of k tables has 2 k - 1 bytes
pub plan-length : (p : Plan) → length (encode p) + 1 ≡ 2 * length (tables p)
plan-length (scan t) = refl
plan-length (join l r) = omega (arith, plan-length l, plan-length r, length-append (encode l) (encode r), length-append (tables l) (tables r))

pub encode_some : (p : Plan) → encode p ≡ [] → ⊥
encode_some (scan t) e = let z = ap length e in omega arith
encode_some (join l r) e = let z = ap length e in omega arith

spelled-encode : (p : Plan) → Small p → (bs : List ℕ) → spelled (encode p ++ bs) ≡ p ∷ spelled bs
spelled-encode (scan t) h bs = rw (ne_eqb t 255 (λ e. omega arith), spelled)
spelled-encode (join l r) h bs =
    rw (append_assoc (encode l) (encode r) bs, spelled-encode l h.0 (encode r ++ bs), spelled-encode r h.1 bs)

-- the code of a plan is read back as that plan: no other plan has it
pub plan_of-encode : (p : Plan) → Small p → plan_of (encode p) ≡ p
unfolding plan_of
plan_of-encode p h = ap first_plan (ap spelled (sym (append-nil (encode p))) ∙ spelled-encode p h [])

-- a plan's code uses up one of the plans owed
pub misplaced-encode : (p : Plan) → Small p → (o i : ℕ) (bs : List ℕ) → misplaced (suc o) i (encode p ++ bs) ≡ misplaced o (i + length (encode p)) bs
misplaced-encode (scan t) h o i bs = rw (ne_eqb t 255 (λ e. omega arith), lt-ltb t 16 h, misplaced) (ap (λ j. misplaced o j bs) (omega arith))
misplaced-encode (join l r) h o i bs =
    rw (append_assoc (encode l) (encode r) bs)
    (misplaced-encode l h.0 (suc o) (suc i) (encode r ++ bs) ∙ misplaced-encode r h.1 o (suc i + length (encode l)) bs
    ∙ ap (λ j. misplaced o j bs) (omega (arith, length-append (encode l) (encode r))))

abbrev SpellsPlans : ℕ → List ℕ → Type 0
SpellsPlans o bs = (ps : List Plan) × (length ps ≡ o) × (bs ≡ concat_map encode ps) × Each Small ps

spells-join : (o : ℕ) (bs : List ℕ) → SpellsPlans (suc (suc o)) bs → SpellsPlans (suc o) (255 ∷ bs)
spells-join o bs s = go s.0 s.1 s.2 s.3
  where
    go : (ps : List Plan) → length ps ≡ suc (suc o) → bs ≡ concat_map encode ps → Each Small ps → SpellsPlans (suc o) (255 ∷ bs)
    go [] n e h = absurd (omega arith)
    go (l ∷ []) n e h = absurd (omega arith)
    go (l ∷ (r ∷ ps)) n e h = (join l r ∷ ps, omega arith, ap (λ x. 255 ∷ x) (e ∙ sym (append_assoc (encode l) (encode r) (concat_map encode ps))), ((h.0, h.1.0), h.1.1))

spells-scan : (o b : ℕ) (bs : List ℕ) → b < 16 → SpellsPlans o bs → SpellsPlans (suc o) (b ∷ bs)
spells-scan o b bs h s = (scan b ∷ s.0, ap suc s.1, ap (λ x. b ∷ x) s.2, (h, s.3))

not-misplaced : (o i : ℕ) (bs : List ℕ) → misplaced o i bs ≡ none → SpellsPlans o bs
not-misplaced zero i [] e = ([], refl, refl, tt)
not-misplaced (suc o) i [] e = let z : ◌≡◌ {A = ℕ} 0 1 = cc in absurd (omega arith)
not-misplaced zero i (b ∷ bs) e = let z : ◌≡◌ {A = ℕ} 0 1 = cc in absurd (omega arith)
not-misplaced (suc o) i (b ∷ bs) e =
    cases (eqb b 255)
    (λ h. rw (eqb-true b 255 h) (spells-join o bs (not-misplaced (suc (suc o)) (suc i) bs (rw (h, misplaced) at e))))
    (λ h. cases (ltb b 16)
    (λ g. spells-scan o b bs (ltb-true b 16 g) (not-misplaced o (suc i) bs (rw (h, g, misplaced) at e)))
    (λ g. let z : ◌≡◌ {A = ℕ} 0 1 = cc (rw (h, g, misplaced) at e) in absurd (omega arith)))

-- where answer 7 is not due, the bytes are the code of `plan_of` of them
pub spelled_out : (bs : List ℕ) → misplaced 1 0 bs ≡ none → Small (plan_of bs) × (encode (plan_of bs) ≡ bs)
spelled_out bs e = let (ps, n, c, s) = not-misplaced 1 0 bs e in go ps n c s
  where
    go : (ps : List Plan) → length ps ≡ 1 → bs ≡ concat_map encode ps → Each Small ps → Small (plan_of bs) × (encode (plan_of bs) ≡ bs)
    go [] n c s = absurd (omega arith)
    go (p ∷ (q ∷ ps)) n c s = absurd (omega arith)
    go (p ∷ []) n c s = let q : bs ≡ encode p = c ∙ append-nil (encode p) in rw (q, plan_of-encode p s.0) (s.0, refl)
