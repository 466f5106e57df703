-- Mending a whole plan: the search for the overall root, and what mending rests on and gives.
use mathlib.Core.Path.{◌≡◌, refl, sym, ap, ◌∙◌, subst}
use mathlib.Core.Option.{none, some}
use Rattle.std.specs.Prelude.{Option, None, Some, IsSome, Ok, Err}
use mathlib.Core.List.{List, [], ◌∷◌, ◌++◌, append-nil}
use Prim.Native.Nat.{ℕ, zero, suc, ◌+◌, ◌-◌, ◌≤◌, ◌<◌, zero-le}
use native.Mathlib.Omega.{arith}
use native.Mathlib.Nat.{zero-add}
use lib.ListN.{length, get_or, take, replicate}
use lib.Dec.{ltb}
use borrow.Author.Tests.{lt-ltb, le-ltb}
use Rattle.semantics.specs.Lists.{filter, non_empty}
use Rattle.semantics.specs.Plans.{Plan, encode, tables}
use Rattle.semantics.specs.Mending.{cheapest, cost, mended_root, tree_for, mend, unmendable}
use Rattle.theory.proofs.Lists.{filter-append}
use Rattle.theory.proofs.Mending.{tables-non_empty, mended_root-named}
use Rattle.theory.proofs.Mendable.{unmendable-mendable}
use Rattle.refusals.specs.Refusals.{refused_at}
use Rattle.mending.specs.Places.{PlanAt, Planned}
use Rattle.mending.specs.Parts.{shape_in, Spanned, Surveyed, slot_of}
use Rattle.mending.specs.Rooting.{better_of, RootsRemembered, Given, Buildable, bytes_from, PickedAt, Picked}
use Rattle.mending.specs.Writing.{Spelt}
use Rattle.mending.specs.Whole.{MendablePlan, Sent, RootOfWhole, WholeSearched, Mends}
use Rattle.mending.specs.Lacking.{found_of}
use Rattle.mending.specs.declared.parts.Part.{Part}
use Rattle.refusals.specs.Refusals.{refusal_of}
use Rattle.mending.specs.declared.rooting.Candidate.{Candidate}
use Rattle.mending.proofs.Bytes.{plan_small, named_small, bytes_from-plan, bytes_from_more, names_small}
use Rattle.mending.proofs.Lacks.{found_none, found_at}
use Rattle.mending.proofs.Picks.{picked_more}

-- ---- the overall root
module _ (s masks rows : List ℕ) where
  pub whole-begun : WholeSearched s masks rows 0 None
  whole-begun p h = refl

  more_is : (n : ℕ) → filter (λ b. ltb b 16) (bytes_from s 0 (n + 1)) ≡ filter (λ b. ltb b 16) (bytes_from s 0 n) ++ filter (λ b. ltb b 16) (get_or s n 0 ∷ [])
  more_is n =
      ap (filter (λ b. ltb b 16)) (bytes_from_more s 0 n ∙ ap (λ k. bytes_from s 0 n ++ (get_or s k 0 ∷ [])) (zero-add n)) ∙ filter-append (λ b. ltb b 16) (bytes_from s 0 n) (get_or s n 0 ∷ [])

  pub whole-mark : (n : ℕ) (pick : Option Candidate) → 16 ≤ get_or s n 0 → WholeSearched s masks rows n pick → WholeSearched s masks rows (n + 1) pick
  whole-mark n pick h f p st =
      rw (more_is n ∙ ap (λ l. filter (λ b. ltb b 16) (bytes_from s 0 n) ++ l) (large (get_or s n 0) h) ∙ append-nil (filter (λ b. ltb b 16) (bytes_from s 0 n))) (f p st)
    where
      large : (b : ℕ) → 16 ≤ b → filter (λ b. ltb b 16) (b ∷ []) ≡ []
      large b h = rw (le-ltb b 16 h)

  pub whole_taken : (n : ℕ) (pick : Option Candidate) (c : ℕ) → n < length s → get_or s n 0 < 16 → ((p : Plan) (e : ℕ) → PlanAt s 0 p e → c ≡ cost (shape_in masks rows) p (get_or s n 0))
      → WholeSearched s masks rows n pick → WholeSearched s masks rows (n + 1) (Some (better_of pick (record { place = n; cost = c })))
  whole_taken n pick c w h cs f p st =
      rw (more_is n ∙ ap (λ l. filter (λ b. ltb b 16) (bytes_from s 0 n) ++ l) (one (get_or s n 0) h))
      (picked_more (cost (shape_in masks rows) p) s (record { place = n; cost = c }) w (cs p (length s) st) pick (filter (λ b. ltb b 16) (bytes_from s 0 n)) (f p st))
    where
      one : (b : ℕ) → b < 16 → filter (λ b. ltb b 16) (b ∷ []) ≡ b ∷ []
      one b h = rw (lt-ltb b 16 h)

  -- all bytes gone through, some table is found, and it is the overall root
  module _ (n : ℕ) (pick : Option Candidate) (z : n ≡ length s) (w : MendablePlan s masks rows) (f : WholeSearched s masks rows n pick) where
    all-tables : (p : Plan) → PlanAt s 0 p (length s) → filter (λ b. ltb b 16) (bytes_from s 0 n) ≡ tables p
    all-tables p st = ap (filter (λ b. ltb b 16)) (bytes_from-plan s 0 n p (length s) st (omega arith)) ∙ names_small p (plan_small s 0 p (length s) st)

    pub whole_some : IsSome pick
    whole_some = some pick (f w.plan w.stands)
      where
        some : (o : Option Candidate) → Picked (cost (shape_in masks rows) w.plan) s (filter (λ b. ltb b 16) (bytes_from s 0 n)) o → IsSome o
        some (Some c) q = refl
        some None q = cc (q, ap non_empty (all-tables w.plan w.stands) ∙ tables-non_empty w.plan)

    pub whole_done : (c : Candidate) → pick ≡ Some c → RootOfWhole s masks rows c.place
    whole_done c is =
        record { within = (found w.plan w.stands).within; root = λ p st. (found p st).root ∙ ap (cheapest (cost (shape_in masks rows) p)) (all-tables p st) ∙ (unfold mended_root in refl) }
      where
        found : (p : Plan) → PlanAt s 0 p (length s) → PickedAt (cost (shape_in masks rows) p) s (filter (λ b. ltb b 16) (bytes_from s 0 n)) c
        found p st = let P : Option Candidate → Type 0 = λ o. Picked (cost (shape_in masks rows) p) s (filter (λ b. ltb b 16) (bytes_from s 0 n)) o in subst P is (f p st)

  -- nothing is remembered yet
  pub kept_none : RootsRemembered s masks rows (replicate 64 None)
  kept_none = record { slots = refl; roots = λ at h l r m e u v. rw (nothing_at 64 (slot_of h at)) tt }
    where
      nothing_at : (n i : ℕ) → get_or (replicate {A = Option Candidate} n None) i None ≡ None
      nothing_at zero i = refl
      nothing_at (suc n) zero = refl
      nothing_at (suc n) (suc i) = nothing_at n i

  pub whole_buildable : MendablePlan s masks rows → (n : ℕ) → n < length s → get_or s n 0 < 16 → Buildable s masks rows 0 n
  whole_buildable w n h b = record { plan = w.plan; end = length s; stands = w.stands; mendable = w.mendable; from = zero-le; to = h; table = b }

  -- ---- what mending rests on
  pub sent_spanned : Sent s masks rows → Spanned s
  sent_spanned m = record { plan = m.plan; stands = m.stands; short = m.short }

  pub sent_planned : Sent s masks rows → Planned s 0
  sent_planned m = record { plan = m.plan; end = length s; stands = m.stands }

  pub sent_given : (parts : List Part) → Sent s masks rows → Surveyed s masks parts → Given s masks rows parts
  sent_given parts m q = record { short = m.short; words = m.words; few = m.few; distinct = m.distinct; surveyed = q }

  -- where no join lacks a holder the plan can be mended
  pub sent_whole : (r : Option ℕ) → ((p : Plan) (e : ℕ) → PlanAt s 0 p e → r ≡ found_of (unmendable (shape_in masks rows) p 0)) → r ≡ None → Sent s masks rows → MendablePlan s masks rows
  sent_whole r f q w =
      record { plan = w.plan; stands = w.stands; mendable = unmendable-mendable (shape_in masks rows) w.plan 0 (found_none (unmendable (shape_in masks rows) w.plan 0) (sym (f w.plan (length s) w.stands) ∙ q)) }

  pub root_buildable : (place : ℕ) → MendablePlan s masks rows → RootOfWhole s masks rows place → Buildable s masks rows 0 place
  root_buildable place w r =
      whole_buildable w place r.within (rw (r.root w.plan w.stands) (named_small s 0 w.plan (length s) (mended_root (shape_in masks rows) w.plan) w.stands (mended_root-named (shape_in masks rows) w.plan)))

  -- and what it gives
  pub mends_lacking : (r : Option ℕ) (i : ℕ) (out : List ℕ) → ((p : Plan) (e : ℕ) → PlanAt s 0 p e → r ≡ found_of (unmendable (shape_in masks rows) p 0)) → r ≡ Some i → length out ≡ 31
      → (p : Plan) → PlanAt s 0 p (length s) → Mends (shape_in masks rows) p (length s) out out (Err (refusal_of 9 i))
  mends_lacking r i out f q w p h =
      let z : unmendable (shape_in masks rows) p 0 ≡ some i = found_at (unmendable (shape_in masks rows) p 0) i (sym (f p (length s) h) ∙ q) in
      record { answer = sym (ap (refused_at 9) z); size = w; bytes = λ e. let y : ◌≡◌ {A = ℕ} 0 1 = cc (sym e ∙ z) in absurd (omega arith); untouched = λ j e. refl }

  pub mends-mended : (r : Option ℕ) (place : ℕ) (before out : List ℕ) → ((p : Plan) (e : ℕ) → PlanAt s 0 p e → r ≡ found_of (unmendable (shape_in masks rows) p 0)) → r ≡ None → length out ≡ 31
      → RootOfWhole s masks rows place → Spelt s masks rows 0 place out → (p : Plan) → PlanAt s 0 p (length s) → Mends (shape_in masks rows) p (length s) before out (Ok tt)
  mends-mended r place before out f q w root sp p h =
      let z : unmendable (shape_in masks rows) p 0 ≡ none = found_none (unmendable (shape_in masks rows) p 0) (sym (f p (length s) h) ∙ q) in
      let n : length s - 0 ≡ length s = omega arith in
      record {
        answer = sym (ap (refused_at 9) z);
        size = w;
        bytes = λ e. ap (λ k. take k out) (sym n) ∙ sp p (length s) h ∙ ap (λ x. encode (tree_for (shape_in masks rows) p x)) (root.root p h) ∙ (unfold mend in refl);
        untouched = λ j e. let y : ◌≡◌ {A = ℕ} 0 1 = cc (sym e ∙ z) in absurd (omega arith);
      }
