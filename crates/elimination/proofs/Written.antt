-- One turn of the writing.
use mathlib.Core.Path.{◌≡◌, refl, sym, ap, ◌∙◌, subst}
use mathlib.Core.Bool.{Bool, true, false, cond}
use mathlib.Core.List.{List, [], ◌∷◌, ◌++◌, append_assoc, append-nil}
use Prim.Native.Nat.{ℕ, zero, suc, ◌+◌, ◌-◌, ◌<◌, ◌≤◌, zero-le}
use native.Mathlib.Omega.{arith}
use native.Mathlib.Numerals.{add-one}
use lib.ListN.{length, get_or, set, take, drop, replicate, length-set, length-append, length-replicate, get_or-append}
use lib.Seq.{drop-cons, get_or-set_other, get_or-append_seam, get_or-append-add}
use lib.Dec.{eqb, ltb}
use borrow.Author.Tests.{ltb-true, ltb-false}
use Rattle.semantics.specs.Lists.{filter, concat_map, from}
use Rattle.theory.specs.Elements.{only_if}
use Rattle.semantics.specs.Plans.{encode}
use Rattle.theory.proofs.Cases.{cases}
use Rattle.theory.proofs.Lists.{Each-map, filter_each, concat_map-append}
use Rattle.theory.proofs.Numbers.{from-lt, from-split}
use Rattle.semantics.specs.Elimination.{Hanging, plan_under}
use Rattle.words.proofs.Arrays.{set_more}
use Rattle.words.specs.Parts.{part}
use Rattle.words.proofs.Parts.{part_length, part_at, put-outside, part-put}
use Rattle.std.specs.Prelude.{Option, Some, None, count_by}
use Rattle.std.specs.Option.{option_eq}
use Rattle.std.proofs.lemmas.List.Sums.{sum_by-cons}
use borrow.Rule.Slice.PartMut.{mid_of, put_mid}
use Rattle.elimination.proofs.PlanBytes.{plan-bytes, concat_map_last}
use Rattle.elimination.specs.Steps.{hung_under, is_parent, ParentsAre}
use Rattle.elimination.specs.Writing.{HungOnce, child_count, Wrote, Writable, PlanWrote, plans_below, Planning}

-- ---- bytes one after the other
pub wrote_byte : {old : List ℕ} {at : ℕ} {bytes code : List ℕ} {next : ℕ} (x : ℕ) → Wrote old at bytes code next → next < length old → Wrote old at (bytes ++ (x ∷ [])) (set code next x) (next + 1)
wrote_byte {old} {at} {bytes} {code} {next} x w h =
    record {
      end = omega (arith, w.end, length-append bytes (x ∷ []));
      size = length-set code next x ∙ w.size;
      before = λ i l. get_or-set_other code next i x 0 (λ e. omega (arith, w.end)) ∙ w.before i l;
      here = λ i l. set_more (λ j v. (i : ℕ) → at + i ≡ j → v ≡ get_or (bytes ++ (x ∷ [])) i 0) code next x (omega (arith, w.size))
          (λ j below i q.
          let less : i < length bytes = omega (arith, w.end) in
          ap (λ j. get_or code j 0) (sym q) ∙ w.here i less ∙ sym (get_or-append bytes (x ∷ []) 0 i less))
          (λ i q. let e : i ≡ length bytes = omega (arith, w.end) in sym (ap (λ j. get_or (bytes ++ (x ∷ [])) j 0) e ∙ get_or-append_seam bytes x [] 0))
          (at + i) (omega (arith, w.end, length-append bytes (x ∷ []))) i refl;
    }

pub wrote_more : {old : List ℕ} {at : ℕ} {bytes mid : List ℕ} {next : ℕ} {more code : List ℕ} {last : ℕ} → Wrote old at bytes mid next → Wrote mid next more code last → Wrote old at (bytes ++ more) code last
wrote_more {old} {at} {bytes} {mid} {next} {more} {code} {last} v w =
    record {
      end = omega (arith, v.end, w.end, length-append bytes more);
      size = w.size ∙ v.size;
      before = λ i l. w.before i (omega (arith, v.end)) ∙ v.before i l;
      here = λ i l. cases (ltb i (length bytes))
          (λ e.
          let less : i < length bytes = ltb-true i (length bytes) e in
          w.before (at + i) (omega (arith, v.end)) ∙ v.here i less ∙ sym (get_or-append bytes more 0 i less))
          (λ e.
          let j : ℕ = i - length bytes in
          let ge : length bytes ≤ i = ltb-false i (length bytes) e in
          let z : at + i ≡ next + j = omega (arith, v.end) in
          let y : i ≡ length bytes + j = omega arith in
          ap (λ k. get_or code k 0) z ∙ w.here j (omega (arith, length-append bytes more)) ∙ sym (ap (λ k. get_or (bytes ++ more) k 0) y ∙ get_or-append-add bytes more j 0));
    }

-- ---- the joins
count_from : {A : Type 0} (q : A → Bool) (d : A) (xs : List A) (i n : ℕ) → i + n ≤ length xs → count_by q (take n (drop i xs)) ≡ length (filter (λ c. q (get_or xs c d)) (from i n))
count_from q d xs i zero h = refl
count_from q d xs i (suc n) h =
    let ih = count_from q d xs (suc i) n (omega arith) in
    rw (drop-cons xs i d (omega arith), sum_by-cons (λ x. cond (q x) 1 0) (get_or xs i d) (take n (drop (suc i) xs)))
    (cases (q (get_or xs i d)) (λ e. rw e (omega (arith, ih))) (λ e. rw e (omega (arith, ih))))

pub children_counted : (parents : List (Option ℕ)) (t n : ℕ) → n ≤ length parents → count_by (λ p. option_eq eqb p (Some t)) (take n parents) ≡ child_count parents t n
children_counted parents t n h = count_from (λ p. option_eq eqb p (Some t)) None parents 0 n (omega arith)

-- the part of m bytes from at on was filled with them
pub joins_written : {old ys : List ℕ} {at m : ℕ} (k : ℕ) → m ≡ k → at + k ≤ length old → ys ≡ replicate (length (mid_of at m old)) 255 → Wrote old at (replicate k 255) (put_mid at m old ys) (at + k)
unfolding part
joins_written {old} {ys} {at} {m} k q fits e =
    let part : length (mid_of at m old) ≡ k = part_length old at m (omega arith) ∙ q in
    let long : length (replicate {A = ℕ} k 255) ≡ k = length-replicate k 255 in
    let is : ys ≡ replicate k 255 = e ∙ ap (λ j. replicate j 255) part in
    let same : length ys ≡ m = ap length is ∙ long ∙ sym q in
    let out = put-outside old ys at m (omega arith) same in
    record {
      end = omega (arith, long);
      size = out.size;
      before = out.before;
      here = λ i h. sym (part_at (put_mid at m old ys) at m i (omega arith)) ∙ ap (λ l. get_or l i 0) (part-put old ys at m (omega arith) same ∙ is);
    }

-- ---- the plan
module _ (parents : List (Option ℕ)) (n t : ℕ) (few : n ≤ 16) (small : t < 16) (hs : List Hanging) (o : HungOnce n hs) (named : ParentsAre parents hs) where
  abbrev kid : ℕ → List ℕ
  kid x = only_if (hung_under hs t x) (encode (plan_under hs x))

  plan_whole : plans_below parents n t hs n ≡ encode (plan_under hs t)
  plan_whole =
      let q : filter (is_parent parents t) (from 0 n) ≡ filter (hung_under hs t) (from 0 n)
      = filter_each (is_parent parents t) (hung_under hs t) (from 0 n)
      (Each-map (λ y. (0 ≤ y) × (y < 0 + n)) (λ c. is_parent parents t c ≡ hung_under hs t c) (λ c l. named t c small (omega arith)) (from 0 n) (from-lt 0 n)) in
      ap (λ l. replicate (length l) 255 ++ (t ∷ concat_map kid (from 0 n))) q ∙ sym (plan-bytes n hs t o)

  plans_more : (c : ℕ) → plans_below parents n t hs (c + 1) ≡ plans_below parents n t hs c ++ kid c
  plans_more c =
      let R : List ℕ = replicate (child_count parents t n) 255 in
      let e : c + 1 ≡ suc c = add-one c in
      let z : 0 + c ≡ c = omega arith in
      let last : concat_map kid (from 0 (c + 1)) ≡ concat_map kid (from 0 c) ++ kid c = ap (λ k. concat_map kid (from 0 k)) e ∙ concat_map_last kid 0 c ∙ ap (λ k. concat_map kid (from 0 c) ++ kid k) z in
      ap (λ l. R ++ (t ∷ l)) last ∙ sym (append_assoc R (t ∷ concat_map kid (from 0 c)) (kid c))

  -- what is written before and with the children below c is a part of the plan
  plans-within : (c : ℕ) → c ≤ n → length (plans_below parents n t hs c) ≤ length (encode (plan_under hs t))
  plans-within c h =
      let e : c + (n - c) ≡ n = omega arith in
      let R : List ℕ = replicate (child_count parents t n) 255 in
      let C = concat_map kid (from 0 c) in
      let D = concat_map kid (from (0 + c) (n - c)) in
      let split : concat_map kid (from 0 n) ≡ C ++ D = ap (λ k. concat_map kid (from 0 k)) (sym e) ∙ ap (concat_map kid) (from-split 0 c (n - c)) ∙ concat_map-append kid (from 0 c) (from (0 + c) (n - c)) in
      omega (arith, sym (ap length plan_whole), length-append R (t ∷ concat_map kid (from 0 n)), length-append R (t ∷ C), ap length split, length-append C D)

module _ {parents : List (Option ℕ)} {n t : ℕ} {at : ℕ} (w : Writable parents n t at) where
  -- there is room for the joins, and for the table behind them
  pub joins_fit : at + child_count parents t n < 31
  joins_fit =
      let R : List ℕ = replicate (child_count parents t n) 255 in
      omega (arith, w.fits, plans-within parents n t w.few w.below w.hung w.once w.named 0 zero-le, length-append R (t ∷ []), length-replicate {A = ℕ} (child_count parents t n) 255)

  module _ {old : List ℕ} where
    pub table_fits : {code : List ℕ} {next : ℕ} → Wrote old at (replicate (child_count parents t n) 255) code next → next < 31
    table_fits j = omega (arith, j.end, joins_fit, length-replicate {A = ℕ} (child_count parents t n) 255)

    pub planning-begun : {code : List ℕ} {next : ℕ} → Wrote old at (replicate (child_count parents t n) 255) code next → length old ≡ 31 → Planning parents n t old at (set code next t) (next + 1) 0
    planning-begun {code} {next} j l =
        record {
          within = zero-le;
          wrote = λ hs o named. wrote_byte t j (omega (arith, j.end, joins_fit, length-replicate {A = ℕ} (child_count parents t n) 255, l));
        }

    module _ {code : List ℕ} {next c : ℕ} (p : Planning parents n t old at code next c) where
      pub planning-later : at < next
      planning-later = omega (arith, (p.wrote w.hung w.once w.named).end, length-append (replicate {A = ℕ} (child_count parents t n) 255) (t ∷ concat_map (kid parents n t w.few w.below w.hung w.once w.named) (from 0 c)))

      module _ (h : c < n) where
        pub planning-skip : is_parent parents t c ≡ false → Planning parents n t old at code next (c + 1)
        planning-skip d =
            record {
              within = omega arith;
              wrote = λ hs o named.
                  let none : hung_under hs t c ≡ false = sym (named t c w.below (omega (arith, w.few))) ∙ d in
                  let same : plans_below parents n t hs (c + 1) ≡ plans_below parents n t hs c
                  = plans_more parents n t w.few w.below hs o named c ∙ ap (λ b. plans_below parents n t hs c ++ only_if b (encode (plan_under hs c))) none ∙ append-nil (plans_below parents n t hs c) in
                  subst (λ l. Wrote old at l code next) (sym same) (p.wrote hs o named);
            }

        child-bytes : (e : is_parent parents t c ≡ true) (hs : List Hanging) → HungOnce n hs → ParentsAre parents hs → plans_below parents n t hs (c + 1) ≡ plans_below parents n t hs c ++ encode (plan_under hs c)
        child-bytes e hs o named =
            let one : hung_under hs t c ≡ true = sym (named t c w.below (omega (arith, w.few))) ∙ e in
            plans_more parents n t w.few w.below hs o named c ∙ ap (λ b. plans_below parents n t hs c ++ only_if b (encode (plan_under hs c))) one

        pub child_writable : is_parent parents t c ≡ true → Writable parents n c next
        child_writable e =
            record {
              few = w.few;
              below = omega (arith, w.few);
              hung = w.hung;
              once = w.once;
              named = w.named;
              fits = omega (arith, w.fits, plans-within parents n t w.few w.below w.hung w.once w.named (c + 1) (omega arith), ap length (child-bytes e w.hung w.once w.named), length-append (plans_below parents n t w.hung c) (encode (plan_under w.hung c)), (p.wrote w.hung w.once w.named).end);
            }

        pub planning_more : {code' : List ℕ} {last : ℕ} → is_parent parents t c ≡ true → PlanWrote parents n c code next code' last → Planning parents n t old at code' last (c + 1)
        planning_more {code'} {last} e k =
            record {
              within = omega arith;
              wrote = λ hs o named. subst (λ l. Wrote old at l code' last) (sym (child-bytes e hs o named)) (wrote_more (p.wrote hs o named) (k hs o named));
            }

      pub planning_all : n ≤ c → PlanWrote parents n t old at code next
      planning_all h hs o named =
          let e : c ≡ n = omega (arith, p.within) in
          subst (λ l. Wrote old at l code next) (ap (plans_below parents n t hs) e ∙ plan_whole parents n t w.few w.below hs o named) (p.wrote hs o named)
