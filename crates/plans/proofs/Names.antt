-- One step of the naming check, case by case.
use Prim.Native.Nat.{ℕ, ◌+◌, ◌<◌, ◌≤◌, zero-le}
use mathlib.Core.Path.{◌≡◌, refl, sym, ◌∙◌}
use mathlib.Core.Bool.{Bool, true, false}
use mathlib.Core.List.{List, [], ◌∷◌}
use native.Mathlib.Omega.{arith}
use native.Mathlib.Numerals.{add-one}
use lib.ListN.{length, get_or, set, replicate, length-set, length-replicate, get_or-replicate}
use lib.Seq.{drop-cons, get_or-set_same, get_or-set_other}
use lib.Dec.{eqb}
use borrow.Author.Tests.{eq-eqb, ne_eqb, eqb-true, eqb-false, lt-ltb}
use Rattle.semantics.specs.Plans.{misnamed}
use Rattle.theory.proofs.Cases.{cases}
use Rattle.plans.specs.Names.{NamedBefore}

pub begun : (n : ℕ) (code : List ℕ) → NamedBefore n code (replicate 16 false) 0 0
begun n code = record { within = zero-le; seen = []; counted = refl; few = zero-le; flags = λ t h. get_or-replicate 16 t false false h; size = length-replicate 16 false; ahead = refl }

module _ (n : ℕ) (code : List ℕ) (named : List Bool) (count i : ℕ) (r : NamedBefore n code named count i) where
  module _ (h : i < length code) where
    -- an FF names nothing
    pub passed : get_or code i 0 ≡ 255 → NamedBefore n code named count (i + 1)
    passed e =
        record {
          within = omega arith;
          seen = r.seen;
          counted = r.counted;
          few = omega (arith, r.few);
          flags = r.flags;
          size = r.size;
          ahead = r.ahead ∙ rw (drop-cons code i 0 h, eq-eqb (get_or code i 0) 255 e, misnamed, add-one i);
        }

    module _ (e : get_or code i 0 ≡ 255 → ⊥) where
      module _ (few : n ≤ 16) (g : get_or code i 0 < n) where
        -- a table named for the first time
        pub named_more : get_or named (get_or code i 0) false ≡ false → NamedBefore n code (set named (get_or code i 0) true) (count + 1) (i + 1)
        named_more q =
            record {
              within = omega arith;
              seen = get_or code i 0 ∷ r.seen;
              counted = omega (arith, r.counted);
              few = omega (arith, r.few);
              flags = λ t lt. cases (eqb t (get_or code i 0))
                  (λ k. rw (k, eqb-true t (get_or code i 0) k) (get_or-set_same named (get_or code i 0) true false (omega (arith, r.size))))
                  (λ k. rw k (get_or-set_other named (get_or code i 0) t true false (eqb-false t (get_or code i 0) k) ∙ r.flags t lt));
              size = length-set named (get_or code i 0) true ∙ r.size;
              ahead = r.ahead ∙ rw (drop-cons code i 0 h, ne_eqb (get_or code i 0) 255 e, lt-ltb (get_or code i 0) n g, sym (r.flags (get_or code i 0) (omega arith)) ∙ q, misnamed, add-one i);
            }
