-- Request U5's theorem of any two calls: one of the join, one of the slow engine, on the same file and on outputs that hold the same.
use mathlib.Core.Path.{◌≡◌, sym, ap, ◌∙◌}
use mathlib.Core.List.{List}
use Prim.Native.Nat.{ℕ}
use Rattle.semantics.specs.Outcome.{Outcome, retired_number, outcome}
use Rattle.semantics.specs.Exhaustive.{SlowOutcome, slow_outcome}
use Rattle.theory.specs.Engines.{shown}
use Rattle.theory.proofs.Engines.{engines-agree, never_10, never_15}
use Rattle.theory.proofs.Retired.{join-never_retired, slow-never_retired}
use Rattle.join.specs.Answers.{Given as Joined}
use Rattle.join.specs.Answers.{Joins, leaves as joinLeaves}
use Rattle.exhaustive.specs.Answers.{Given as Tried}
use Rattle.exhaustive.specs.Answers.{Tries, leaves as slowLeaves}
use Rattle.capi.specs.declared.pigrozd_answer.{pigrozd_answer as Given}
use Rattle.capi.specs.Calls.{answer_from, Calls}
use Rattle.capi_slow.specs.declared.pigrozd_slow_answer.{pigrozd_slow_answer as SlowGiven}
use Rattle.capi_slow.specs.Calls.{slow_from, SlowCalls}

-- two outcomes, whatever the code gives them as
agreed : (bytes s o : List ℕ) (r : Outcome) (t : SlowOutcome) → r ≡ outcome bytes s o → t ≡ slow_outcome bytes o
    → (r.answer.number ≡ 10 → ⊥) → (t.number ≡ 15 → ⊥) → t ≡ shown r
agreed bytes s o r t e f not10 not15 =
    f ∙ engines-agree bytes s o (λ n. not10 (ap (λ x. x.answer.number) e ∙ n)) (λ n. not15 (ap (λ x. x.number) f ∙ n)) ∙ sym (ap shown e)

-- ---- in Rattle: `join::join` and `exhaustive::join_by_choices`
module _ (bytes s o s' joined slow : List ℕ) (a : Joined) (b : Tried) (J : Joins bytes s o s' joined a) (T : Tries bytes o slow b) where
  -- "where neither engine says 10 or 15, number, detail, OUT and the output must be equal"
  pub same_outcome : ((joinLeaves a s' joined).answer.number ≡ 10 → ⊥) → ((slowLeaves b slow).number ≡ 15 → ⊥) → slowLeaves b slow ≡ shown (joinLeaves a s' joined)
  same_outcome = agreed bytes s o (joinLeaves a s' joined) (slowLeaves b slow) J.is T.is

-- ---- in C: `pigrozd_join` and `pigrozd_slow_join`
module _ {bytes s o s' joined slow : List ℕ} {a : Given} {b : SlowGiven} (J : Calls bytes s o s' joined a) (T : SlowCalls bytes o slow b) where
  -- the same, number by number
  pub same-numbers : (a.number ≡ 10 → ⊥) → (b.number ≡ 15 → ⊥) → (b.number ≡ a.number) × (b.detail ≡ a.detail) × (b.rows ≡ a.rows) × (slow ≡ joined)
  same-numbers not10 not15 =
      let e = agreed bytes s o (record { answer = answer_from a; scratch = s'; output = joined }) (slow_from b slow) J.is T.is not10 not15 in
      (ap (λ r. r.number) e, ap (λ r. r.detail) e, ap (λ r. r.out) e, ap (λ r. r.output) e)

  -- the slow engine never says 10, and the join never says 15
  pub only_theirs : (b.number ≡ 10 → ⊥) × (a.number ≡ 15 → ⊥)
  only_theirs = ((λ q. never_10 bytes o (sym (ap (λ r. r.number) T.is) ∙ q)), λ q. never_15 bytes s o (sym (ap (λ r. r.answer.number) J.is) ∙ q))

  -- and neither says the retired number
  pub neither_retired : (a.number ≡ retired_number → ⊥) × (b.number ≡ retired_number → ⊥)
  neither_retired = (
    λ q. join-never_retired bytes s o (sym (ap (λ r. r.answer.number) J.is) ∙ q),
    λ q. slow-never_retired bytes o (sym (ap (λ r. r.number) T.is) ∙ q),
  )
