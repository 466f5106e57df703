-- One step of the plan reader, case by case.
use Prim.Native.Nat.{ℕ, suc, ◌+◌, ◌<◌}
use mathlib.Core.Path.{◌≡◌, sym, ap, ◌∙◌}
use mathlib.Core.List.{List}
use mathlib.Core.Option.{some}
use native.Mathlib.Omega.{arith}
use native.Mathlib.Numerals.{add-one}
use lib.ListN.{length, drop, get_or}
use lib.Seq.{drop-cons}
use borrow.Author.Tests.{eq-eqb}
use Rattle.std.specs.Prelude.{Result, Ok, Err}
use Rattle.semantics.specs.Plans.{misplaced}
use Rattle.refusals.specs.Refusals.{refusal_of, refused_at}
use Rattle.plans.specs.Spelling.{continued, PlanRead}

-- an FF owes two plans in the place of one
module _ {s : List ℕ} {at : ℕ} (h : at < length s) (t : get_or s at 0 ≡ 255) {l : Result ℕ ℕ} (a : PlanRead s (at + 1) l) where
  owes : (owed : ℕ) → misplaced (suc owed) at (drop at s) ≡ continued s (suc owed) l
  owes owed =
      let b : misplaced (suc (suc owed)) (suc at) (drop (suc at) s) ≡ continued s (suc owed) l = rw (add-one at) at (a.spells (suc owed)) in
      rw (drop-cons s at 0 h, eq-eqb (get_or s at 0) 255 t, misplaced) b

  pub read_join : {m : ℕ} {r : Result ℕ ℕ} → l ≡ Ok m → PlanRead s m r → PlanRead s at r
  read_join {m} {r} q b =
      let lt : at + 1 < m = a.later m q in
      record {
        spells = λ owed. owes owed ∙ ap (continued s (suc owed)) q ∙ b.spells owed;
        later = λ i e. omega (arith, b.later i e);
        inside = b.inside;
      }

-- what follows the plan cannot stand there
pub whole_more : {s : List ℕ} {r : Result ℕ ℕ} → PlanRead s 0 r → {i : ℕ} → r ≡ Ok i → i < length s → Err (refusal_of 7 i) ≡ refused_at 7 (misplaced 1 0 s)
whole_more {s} {r} a {i} q h = let z : misplaced 0 i (drop i s) ≡ some i = rw (drop-cons s i 0 h) in sym (ap (refused_at 7) (a.spells 0 ∙ ap (continued s 0) q ∙ z))
