-- What the parts come to for the outcome of a call: when each answer is given, what the buffers hold after it, and demand
-- 3's bound.
use mathlib.Core.Path.{◌≡◌, refl}
use mathlib.Core.List.{List, ◌++◌}
use mathlib.Core.Logic.{◌⊎◌, inl, inr}
use Prim.Native.Nat.{ℕ, ◌*◌, ◌≤◌, ◌<◌, min}
use native.Mathlib.Omega.{arith}
use native.Mathlib.Nat.{div-le_self}
use lib.ListN.{length, drop, get_or}
use lib.Dec.{ltb}
use borrow.Author.Tests.{lt-ltb, le-ltb, ltb-true, ltb-false}
use Rattle.semantics.specs.Lists.{concat_map}
use Rattle.theory.specs.Rules.{Bytes, BeforeTen, ThroughTen, WithinRules}
use Rattle.semantics.specs.Files.{Table}
use Rattle.semantics.specs.Plans.{Plan}
use Rattle.semantics.specs.Shapes.{no_table, width, scratch_need, output_fits}
use Rattle.semantics.specs.Results.{Base, Pick, base_of, results, tuple}
use Rattle.semantics.specs.Totals.{held}
use Rattle.semantics.specs.Outcome.{Outcome, refusal, refused, admitted, rules_verdict, scratch_verdict, verdict, zeros, joined_answer, join_outcome, outcome, figures_of, figures, WithinBound}
use Rattle.theory.proofs.Cases.{cases}
use Rattle.theory.proofs.Reading.{value_small}
use Rattle.theory.proofs.Bound.{rows_of, bound}
use Rattle.theory.proofs.Rules.{verdict-cases, rules-number, rules-within, verdict-number, through_ten, verdict-rules, scratch-short, scratch_enough, tables-count, rows-count}

-- ---- past 10
-- an output never fits more rows than the holding limit counts
pub fits_le : (w words : ℕ) → output_fits w words ≤ 1048576
unfolding output_fits
fits_le w words = omega (arith, div-le_self (min words 1048576) w)

-- more results than the output fits: 11
pub joins_more : (D : Base) (p : Plan) (w : ℕ) (s o : List ℕ) → output_fits w (length o) < length (results D p)
    → join_outcome D p w s o ≡ record { answer = refusal 11 (held (length (results D p))); scratch = zeros s; output = o }
unfolding join_outcome
joins_more D p w s o h = rw (lt-ltb (output_fits w (length o)) (length (results D p)) h, join_outcome)

-- else they are joined
pub joins_all : (D : Base) (p : Plan) (w : ℕ) (s o : List ℕ) → length (results D p) ≤ output_fits w (length o)
    → join_outcome D p w s o ≡ record { answer = joined_answer D p; scratch = zeros s; output = concat_map (tuple D) (results D p) ++ drop (w * length (results D p)) o }
unfolding join_outcome
joins_all D p w s o h = rw (le-ltb (output_fits w (length o)) (length (results D p)) h, join_outcome)

-- ---- when each answer is given, and what it leaves
-- a file that is not within the rules: a number before 10, and no buffer changes
pub outside-rules : (bytes s o : List ℕ) (n d : ℕ) → rules_verdict bytes ≡ refused n d → (outcome bytes s o ≡ record { answer = refusal n d; scratch = s; output = o }) × BeforeTen n
unfolding outcome verdict scratch_verdict
outside-rules bytes s o n d e = (rw (e, outcome), rules-number bytes n d e)

module _ (bytes s o : List ℕ) (ts : List Table) (p : Plan) (e : rules_verdict bytes ≡ admitted ts p) where
  abbrev rs : List (List Pick)
  rs = results (base_of bytes ts) p

  -- 10: the scratch is shorter than the words needed
  pub answer_10 : length s < scratch_need ts p → outcome bytes s o ≡ record { answer = refusal 10 (scratch_need ts p); scratch = s; output = o }
  unfolding outcome
  answer_10 h = rw (scratch-short bytes (length s) ts p e h, outcome)

  -- 11: it is long enough, and there are more results than the output fits
  pub answer_11 : scratch_need ts p ≤ length s → output_fits (width ts) (length o) < length rs → outcome bytes s o ≡ record { answer = refusal 11 (held (length rs)); scratch = zeros s; output = o }
  unfolding outcome
  answer_11 h f = rw (scratch_enough bytes (length s) ts p e h, outcome) (joins_more (base_of bytes ts) p (width ts) s o f)

  -- 0: otherwise. So a file within the rules is turned away by 10 and 11 alone
  pub answer_0 : scratch_need ts p ≤ length s → length rs ≤ output_fits (width ts) (length o)
      → outcome bytes s o ≡ record { answer = joined_answer (base_of bytes ts) p; scratch = zeros s; output = concat_map (tuple (base_of bytes ts)) rs ++ drop (width ts * length rs) o }
  unfolding outcome
  answer_0 h f = rw (scratch_enough bytes (length s) ts p e h, outcome) (joins_all (base_of bytes ts) p (width ts) s o f)

-- every outcome is one of three: refused up to 10, 11, and 0
pub outcome-cases : (P : Outcome → Type 0) (bytes s o : List ℕ)
    → ((n d : ℕ) → ThroughTen n → P (record { answer = refusal n d; scratch = s; output = o }))
    → ((n : ℕ) → P (record { answer = refusal 11 n; scratch = zeros s; output = o }))
    → ((ts : List Table) (p : Plan) → rules_verdict bytes ≡ admitted ts p → (after : List ℕ) → P (record { answer = joined_answer (base_of bytes ts) p; scratch = zeros s; output = after }))
    → P (outcome bytes s o)
unfolding outcome
outcome-cases P bytes s o f g h =
    verdict-cases (verdict bytes (length s))
    (λ n d e. rw (e, outcome) (f n d (verdict-number bytes (length s) n d e)))
    (λ ts p e.
    let D = base_of bytes ts in
    cases (ltb (output_fits (width ts) (length o)) (length (results D p)))
    (λ c. rw (e, outcome) (rw (joins_more D p (width ts) s o (ltb-true (output_fits (width ts) (length o)) (length (results D p)) c)) (g (held (length (results D p))))))
    (λ c. rw (e, outcome)
    (rw (joins_all D p (width ts) s o (ltb-false (output_fits (width ts) (length o)) (length (results D p)) c))
    (h ts p (verdict-rules bytes (length s) ts p e).0 (concat_map (tuple D) (results D p) ++ drop (width ts * length (results D p)) o)))))

-- the numbers that are given: 0, 11, and those up to 10 in the order
pub number_given : (bytes s o : List ℕ) → let n = (outcome bytes s o).answer.number in (n ≡ 0) ⊎ ((n ≡ 11) ⊎ ThroughTen n)
unfolding joined_answer
number_given bytes s o =
    outcome-cases (λ r. (r.answer.number ≡ 0) ⊎ ((r.answer.number ≡ 11) ⊎ ThroughTen r.answer.number)) bytes s o
    (λ n d a. inr (inr a)) (λ n. inr (inl refl)) (λ ts p e after. inl refl)

-- a refusal returns its detail and zero counts, and the output stays untouched
pub refusal_is : (bytes s o : List ℕ) → let r = outcome bytes s o in 1 ≤ r.answer.number → (r.answer ≡ refusal r.answer.number r.answer.detail) × (r.output ≡ o)
unfolding joined_answer
refusal_is bytes s o =
    outcome-cases (λ r. 1 ≤ r.answer.number → (r.answer ≡ refusal r.answer.number r.answer.detail) × (r.output ≡ o)) bytes s o
    (λ n d a h. (refl, refl)) (λ n h. (refl, refl)) (λ ts p e after h. absurd (omega arith))

-- the scratch stays untouched after the numbers up to 10
pub scratch_kept : (bytes s o : List ℕ) → let r = outcome bytes s o in ThroughTen r.answer.number → r.scratch ≡ s
unfolding joined_answer
scratch_kept bytes s o =
    outcome-cases (λ r. ThroughTen r.answer.number → r.scratch ≡ s) bytes s o
    (λ n d a h. refl) (λ n h. absurd ((through_ten 11 h).2 refl)) (λ ts p e after h. let z = (through_ten 0 h).0 in absurd (omega arith))

-- and is all zero after the others, 0 and 11
pub scratch-zero : (bytes s o : List ℕ) → let r = outcome bytes s o in (ThroughTen r.answer.number → ⊥) → r.scratch ≡ zeros s
scratch-zero bytes s o =
    outcome-cases (λ r. (ThroughTen r.answer.number → ⊥) → r.scratch ≡ zeros s) bytes s o
    (λ n d a h. absurd (h a)) (λ n h. refl) (λ ts p e after h. refl)

-- ---- demand 3's bound
-- of a file within the rules
joined-bound : (bytes : List ℕ) (ts : List Table) (p : Plan) → Bytes bytes → WithinRules ts p → WithinBound (figures_of ts p) (joined_answer (base_of bytes ts) p)
unfolding joined_answer figures_of base_of
joined-bound bytes ts p b w =
    rw (← tables-count ts p w, ← rows-count ts p w)
    (unfold rows_of in bound (base_of bytes ts) (λ t a y. value_small bytes (get_or ts t no_table) a y b) p (width ts))

-- for every file and whatever buffers are lent
pub within-bound : (bytes s o : List ℕ) → Bytes bytes → (outcome bytes s o).answer.number ≡ 0 → WithinBound (figures bytes) (outcome bytes s o).answer
unfolding figures
within-bound bytes s o b =
    outcome-cases (λ r. r.answer.number ≡ 0 → WithinBound (figures bytes) r.answer) bytes s o
    (λ n d h e. let z = (through_ten n h).0 in absurd (omega arith)) (λ n e. absurd (omega arith))
    (λ ts p e after q. rw (e, figures) (joined-bound bytes ts p b (rules-within bytes ts p e)))
