-- Hanging in bytes.
use mathlib.Core.Path.{◌≡◌, refl, sym, ap, ap₂, ◌∙◌}
use mathlib.Core.Bool.{Bool, true, false}
use mathlib.Core.List.{List, [], ◌∷◌, ◌++◌, append_assoc, append-nil}
use Prim.Native.Nat.{ℕ, zero, suc, ◌+◌, ◌-◌, ◌≤◌, ◌<◌, zero-le}
use native.Mathlib.Omega.{arith}
use lib.ListN.{length, get_or, set, take, drop, replicate, length-append, length-replicate, length-drop, length-set, get_or-append, get_or-replicate}
use lib.Seq.{take_all, get_or-append_seam, get_or-append-add, take_at, drop_at}
use lib.Dec.{eqb, ltb}
use Rattle.std.specs.Prelude.{Option, IsSome}
use Rattle.std.specs.List.{position}
use borrow.Rule.Slice.PartMut.{put_mid, same_len_mid}
use Rattle.std.proofs.lemmas.Slice.{take-put_mid}
use Rattle.std.proofs.lemmas.List.{length-take-le}
use borrow.Author.Tests.{eqb-true, eqb-false, eq-eqb, lt-ltb, ltb-true, ltb-false}
use Rattle.semantics.specs.Lists.{any, filter, head_of}
use Rattle.semantics.specs.Plans.{Plan, scan, join, encode, leftmost}
use Rattle.theory.proofs.Cases.{cases, or_cases}
use Rattle.semantics.specs.JoinTrees.{names_table, hang_under}
use Rattle.mending.proofs.Around.{EndsInTable, Around, around}
use Rattle.words.proofs.Arrays.{take-set}
use Rattle.mending.specs.Places.{PlanAt, Planned}
use Rattle.mending.proofs.Places.{stands, plan_span}
use Rattle.mending.specs.Hanging.{holds_key, held_by, candidates, HolderAt, FirstAt, FirstHolder, RunStart, Spells, Hangable, HangsAt, TreeHung}
use Rattle.mending.proofs.Holders.{first_found, first_some}
use Rattle.mending.proofs.Bytes.{found-names, names_small, plan_small}

-- ---- the first holder
-- some byte holds the key
some_byte : (q r : ℕ → Bool) (bs : List ℕ) → any q (filter r bs) ≡ true → (k : ℕ) × (k < length bs) × (r (get_or bs k 0) ≡ true) × (q (get_or bs k 0) ≡ true)
some_byte q r [] e = let z : ◌≡◌ {A = ℕ} 0 1 = cc in absurd (omega arith)
some_byte q r (b ∷ bs) e =
    cases (r b)
    (λ h. or_cases (q b) (any q (filter r bs)) (rw h at e) (λ g. (0, omega arith, h, g)) (λ g. later (some_byte q r bs g)))
    (λ h. later (some_byte q r bs (rw h at e)))
  where
    later : ((k : ℕ) × (k < length bs) × (r (get_or bs k 0) ≡ true) × (q (get_or bs k 0) ≡ true)) → (k : ℕ) × (k < suc (length bs)) × (r (get_or (b ∷ bs) k 0) ≡ true) × (q (get_or (b ∷ bs) k 0) ≡ true)
    later (k, a, g, h) = (suc k, omega arith, g, h)

module _ (masks : List ℕ) (key : ℕ) where
  head_candidate : (bs : List ℕ) (j : ℕ) → ((k : ℕ) → k < j → HolderAt masks key bs k → ⊥) → HolderAt masks key bs j → j < length bs → head_of (candidates masks key bs) ≡ get_or bs j 0
  unfolding candidates
  head_candidate [] j n h b = absurd (omega arith)
  head_candidate (x ∷ bs) zero n h b = rw (lt-ltb x 16 h.table) (rw h.holds)
  head_candidate (x ∷ bs) (suc j) n h b =
      cases (ltb x 16)
      (λ g. cases (holds_key key (get_or masks x 0))
      (λ i. absurd (n 0 (omega arith) (record { table = ltb-true x 16 g; holds = i })))
      (λ i. rw g (rw i (head_candidate bs j (λ k w y. n (suc k) (omega arith) (record { table = y.table; holds = y.holds })) (record { table = h.table; holds = h.holds }) (omega arith)))))
      (λ g. rw g (head_candidate bs j (λ k w y. n (suc k) (omega arith) (record { table = y.table; holds = y.holds })) (record { table = h.table; holds = h.holds }) (omega arith)))

-- ---- the longest plan that begins with a table
leading : (q : Plan) → (r : ℕ) × (rest : List ℕ) × (encode q ≡ replicate r 255 ++ (leftmost q ∷ rest))
leading (scan t) = (0, [], refl)
leading (join l r) = let (n, rest, e) = leading l in (suc n, rest ++ encode r, ap (λ l. 255 ∷ (l ++ encode r)) e ∙ ap (λ l. 255 ∷ l) (append_assoc (replicate n 255) (leftmost l ∷ rest) (encode r)))

absent_at : (x : ℕ) (bs : List ℕ) (k : ℕ) → any (eqb x) bs ≡ false → k < length bs → get_or bs k 0 ≡ x → ⊥
absent_at x [] k n h e = omega arith
absent_at x (b ∷ bs) zero n h e = let z : ◌≡◌ {A = ℕ} 0 1 = cc (rw (eq-eqb x b (sym e)) at n) in omega arith
absent_at x (b ∷ bs) (suc k) n h e = absent_at x bs k (cases (eqb x b) (λ g. cc (rw g at n)) (λ g. rw g at n)) (omega arith) e

last-table : (bs : List ℕ) → EndsInTable bs → 0 < length bs → get_or bs (length bs - 1) 0 < 16
last-table [] e h = absurd (omega arith)
last-table (b ∷ []) e h = e
last-table (b ∷ (c ∷ bs)) e h = let z : suc (suc (length bs)) - 1 ≡ suc (suc (length bs) - 1) = omega arith in rw z (last-table (c ∷ bs) e (omega arith))

-- a table behind a run of FFs, in a list of bytes
module _ (own b rest behind : List ℕ) (r x : ℕ) (e : own ≡ b ++ ((replicate r 255 ++ (x ∷ rest)) ++ behind)) where
  at_before : (k : ℕ) → k < length b → get_or own k 0 ≡ get_or b k 0
  at_before k h = ap (λ l. get_or l k 0) e ∙ get_or-append b ((replicate r 255 ++ (x ∷ rest)) ++ behind) 0 k h

  at-run : (k : ℕ) → k < r → get_or own (length b + k) 0 ≡ 255
  at-run k h =
      ap (λ l. get_or l (length b + k) 0) e
      ∙ get_or-append-add b ((replicate r 255 ++ (x ∷ rest)) ++ behind) k 0
      ∙ ap (λ l. get_or l k 0) (append_assoc (replicate r 255) (x ∷ rest) behind)
      ∙ get_or-append (replicate r 255) ((x ∷ rest) ++ behind) 0 k (omega (arith, length-replicate {A = ℕ} r 255))
      ∙ get_or-replicate {A = ℕ} r k 255 0 h

  at_table : get_or own (length b + r) 0 ≡ x
  at_table =
      ap (λ l. get_or l (length b + r) 0) e
      ∙ get_or-append-add b ((replicate r 255 ++ (x ∷ rest)) ++ behind) r 0
      ∙ ap (λ l. get_or l r 0) (append_assoc (replicate r 255) (x ∷ rest) behind)
      ∙ ap (λ n. get_or (replicate r 255 ++ (x ∷ (rest ++ behind))) n 0) (sym (length-replicate {A = ℕ} r 255))
      ∙ get_or-append_seam (replicate r 255) x (rest ++ behind) 0

  module _ (masks : List ℕ) (key j i : ℕ) (z : get_or own j 0 ≡ x) (early : any (eqb x) b ≡ false) (ends : EndsInTable b) (fh : FirstAt masks key own j) (rs : RunStart own j i) where
    table_at : j ≡ length b + r
    table_at =
        let w : get_or own j 0 < 16 = fh.there.table in
        let up : j ≤ length b + r
        = cases (ltb (length b + r) j)
        (λ h. absurd (fh.early (length b + r) (ltb-true (length b + r) j h) (record { table = rw (at_table ∙ sym z) w; holds = rw (at_table ∙ sym z) fh.there.holds })))
        (λ h. ltb-false (length b + r) j h) in
        cases (ltb j (length b))
        (λ h. let h' : j < length b = ltb-true j (length b) h in absurd (absent_at x b j early h' (sym (at_before j h') ∙ z)))
        (λ h. let h' : length b ≤ j = ltb-false j (length b) h in
        cases (ltb j (length b + r))
        (λ g. let g' : j < length b + r = ltb-true j (length b + r) g in
        let n : length b + (j - length b) ≡ j = omega arith in
        absurd (omega (arith, at-run (j - length b) (omega arith), ap (λ k. get_or own k 0) n)))
        (λ g. let g' : length b + r ≤ j = ltb-false j (length b + r) g in omega arith))

    run_at : i ≡ length b
    run_at =
        let t = table_at in
        let low : i ≤ j = rs.low in
        cases (ltb (length b) i)
        (λ h. let h' : length b < i = ltb-true (length b) i h in
        let n : length b + (i - 1 - length b) ≡ i - 1 = omega arith in
        absurd (rs.first (omega arith) (ap (λ k. get_or own k 0) (sym n) ∙ at-run (i - 1 - length b) (omega arith))))
        (λ h. let h' : i ≤ length b = ltb-false (length b) i h in
        cases (ltb i (length b))
        (λ g. let g' : i < length b = ltb-true i (length b) g in
        absurd (omega (arith, rs.run (length b - 1) (omega arith) (omega arith), at_before (length b - 1) (omega arith), last-table b ends (omega arith))))
        (λ g. let g' : length b ≤ i = ltb-false i (length b) g in omega arith))

-- where the code finds the place: the run of FFs before the first holder begins the longest plan
module _ (masks own : List ℕ) (key j i : ℕ) (p : Plan) (sp : Spells masks key own p) (fh : FirstAt masks key own j) (rs : RunStart own j i) where
  own-stands : PlanAt own 0 p (length own)
  own-stands = stands p sp.small own [] [] 0 (length own) (sp.is ∙ sym (append-nil (encode p))) refl (omega (arith, ap length sp.is))

  first_is : head_of (candidates masks key own) ≡ get_or own j 0
  first_is = head_candidate masks key own j fh.early fh.there fh.within

  first-named : names_table p (get_or own j 0) ≡ true
  first-named = found-names own 0 p (length own) (get_or own j 0) j own-stands fh.there.table zero-le fh.within refl

  place : Around p (get_or own j 0)
  place = around p (get_or own j 0) sp.small first-named

  -- own in its three parts
  parts : own ≡ place.before ++ (encode place.plan ++ place.behind)
  parts = sp.is ∙ place.is

  begins : i ≡ length place.before
  begins =
      let (r, rest, e) = leading place.plan in
      run_at own place.before rest place.behind r (get_or own j 0) (parts ∙ ap (λ l. place.before ++ (l ++ place.behind)) (e ∙ ap (λ x. replicate r 255 ++ (x ∷ rest)) place.first))
      masks key j i refl place.absent place.longest fh rs

  plan-stands : PlanAt own i place.plan (i + length (encode place.plan))
  plan-stands = stands place.plan place.small own place.before place.behind i (i + length (encode place.plan)) parts begins refl

  pub planned_there : Planned own i
  planned_there = record { plan = place.plan; end = i + length (encode place.plan); stands = plan-stands }

  -- where the plan ends that is found there, a plan is hung
  hangs_at : (e : ℕ) → ((q : Plan) (f : ℕ) → PlanAt own i q f → e ≡ f) → i ≤ e → e ≤ length own → (c : Plan)
      → encode (hang_under (head_of (candidates masks key own)) c p) ≡ take i own ++ (255 ∷ (take (e - i) (drop i own) ++ (encode c ++ drop e own)))
  hangs_at e ends u w c =
      let b : List ℕ = place.before in
      let m : List ℕ = encode place.plan in
      let k : List ℕ = place.behind in
      let z : e ≡ i + length m = ends place.plan (i + length m) plan-stands in
      let n : length m ≡ e - i = omega arith in
      let front : take i own ≡ b = ap (take i) parts ∙ take_at b (m ++ k) i (sym begins) in
      let middle : take (e - i) (drop i own) ≡ m = ap (λ l. take (e - i) l) (ap (drop i) parts ∙ drop_at b (m ++ k) i (sym begins)) ∙ take_at m k (e - i) n in
      let back : drop e own ≡ k = ap (drop e) (parts ∙ sym (append_assoc b m k)) ∙ drop_at (b ++ m) k e (omega (arith, length-append b m, begins)) in
      ap (λ x. encode (hang_under x c p)) first_is
      ∙ place.hung c
      ∙ sym (ap₂ (λ f g. f ++ (255 ∷ g)) front (ap₂ (λ f g. f ++ (encode c ++ g)) middle back))

  end-inside : (e : ℕ) → ((q : Plan) (f : ℕ) → PlanAt own i q f → e ≡ f) → (i ≤ e) × (e ≤ length own)
  end-inside e ends = let s = plan_span own i place.plan (i + length (encode place.plan)) plan-stands in omega (arith, ends place.plan (i + length (encode place.plan)) plan-stands)

-- the place that the code finds
pub place_found : {masks own : List ℕ} {key j i : ℕ} (e : ℕ) → Hangable masks key own → FirstAt masks key own j → RunStart own j i
    → ((q : Plan) (f : ℕ) → PlanAt own i q f → e ≡ f) → HangsAt masks key own i e
place_found {masks} {own} {key} {j} {i} e h fh rs ends =
    let b = end-inside masks own key j i h.plan h.spells fh rs e ends in
    record { from = b.0; to = b.1; hung = λ p c sp. hangs_at masks own key j i p sp fh rs e ends b.0 b.1 c }

-- in a plan with a holder, a search for the first one finds one
pub hanger_some : (masks own : List ℕ) (key : ℕ) (r : Option ℕ) → FirstHolder masks key own r → Hangable masks key own → IsSome r
hanger_some masks own key r f h =
    let p = h.plan in
    let sp = h.spells in
    let st : PlanAt own 0 p (length own) = stands p sp.small own [] [] 0 (length own) (sp.is ∙ sym (append-nil (encode p))) refl (omega (arith, ap length sp.is)) in
    let (k, a, g, h) = some_byte (λ t. holds_key key (get_or masks t 0)) (λ b. ltb b 16) own (ap (λ l. any (λ t. holds_key key (get_or masks t 0)) l) (ap (filter (λ b. ltb b 16)) sp.is ∙ names_small p (plan_small own 0 p (length own) st)) ∙ sp.holder) in
    first_some masks own key r f k a (record { table = ltb-true (get_or own k 0) 16 g; holds = h })

-- a plan with a holder has a first one
pub hanger_found : (masks own : List ℕ) (key : ℕ) → Hangable masks key own → IsSome (position (held_by masks key) own)
hanger_found masks own key h = hanger_some masks own key _ (first_found masks own key _ refl) h

-- a run of FFs is longer by one
pub run_more : (s : List ℕ) (j i : ℕ) → ((k : ℕ) → i ≤ k → k < j → get_or s k 0 ≡ 255) → 0 < i → get_or s (i - 1) 0 ≡ 255 → (k : ℕ) → i - 1 ≤ k → k < j → get_or s k 0 ≡ 255
run_more s j i f h e k a b = cases (eqb k (i - 1)) (λ q. ap (λ n. get_or s n 0) (eqb-true k (i - 1) q) ∙ e) (λ q. let d : (k ≡ i - 1 → ⊥) = eqb-false k (i - 1) q in f k (omega arith) b)

-- a part put back with as many bytes keeps the length
put-size : (a k : ℕ) (xs ys : List ℕ) → length ys ≡ k → a + k ≤ length xs → length (put_mid a k xs ys) ≡ length xs
put-size a k xs ys e h = same_len_mid a k xs ys (e ∙ sym (length-take-le k (drop a xs) (omega (arith, length-drop a xs))))

-- the FF and the copies behind the first, each of which begins where the one before it ends
module _ (own hung first : List ℕ) (i e b k1 k2 k3 : ℕ) (u : i ≤ e) (w : e ≤ length own) (l : length own + length hung + 1 ≤ 31) (n : length first ≡ 31)
    (q : b ≡ e + 1 + length hung) (r1 : k1 ≡ e + 1 - (i + 1)) (r2 : k2 ≡ b - (e + 1)) (r3 : k3 ≡ length own + length hung + 1 - b) where
  abbrev mark : List ℕ
  mark = set first i 255

  abbrev part : List ℕ
  part = take (e - i) (drop i own)

  abbrev two : List ℕ
  two = put_mid (i + 1) k1 mark part

  abbrev three : List ℕ
  three = put_mid (e + 1) k2 two hung

  abbrev four : List ℕ
  four = put_mid b k3 three (drop e own)

  part-size : length part ≡ e - i
  part-size = length-take-le (e - i) (drop i own) (omega (arith, length-drop i own))

  two-size : length two ≡ 31
  two-size = let m : length mark ≡ 31 = length-set first i 255 ∙ n in put-size (i + 1) k1 mark part (omega (arith, part-size)) (omega arith) ∙ m

  three-size : length three ≡ 31
  three-size = let m = two-size in put-size (e + 1) k2 two hung (omega arith) (omega (arith, m)) ∙ m

  whole-size : length four ≡ 31
  whole-size = let m = three-size in put-size b k3 three (drop e own) (omega (arith, length-drop e own)) (omega (arith, m)) ∙ m

  assembled : take i first ≡ take i own → take (length own + length hung + 1) four ≡ take i own ++ (255 ∷ (part ++ (hung ++ drop e own)))
  assembled z =
      take-put_mid b k3 three (drop e own) (length own + length hung + 1) (omega (arith, length-drop e own)) (omega (arith, three-size))
      ∙ ap (λ l. l ++ drop e own)
      (take-put_mid (e + 1) k2 two hung b q (omega (arith, two-size))
      ∙ ap (λ l. l ++ hung)
      (take-put_mid (i + 1) k1 mark part (e + 1) (omega (arith, part-size)) (omega (arith, length-set first i 255, n))
      ∙ ap (λ l. l ++ part) (take-set first i 255 (omega (arith, n)) ∙ ap (λ l. l ++ (255 ∷ [])) z)))
      ∙ regrouped (take i own) part hung (drop e own)
    where
      regrouped : (a b c d : List ℕ) → (((a ++ (255 ∷ [])) ++ b) ++ c) ++ d ≡ a ++ (255 ∷ (b ++ (c ++ d)))
      regrouped a b c d = simp append_assoc

-- what the copies leave, each of which is of the bytes that it is to be
pub copies : (masks own hung : List ℕ) (key i e : ℕ) → HangsAt masks key own i e → length own + length hung + 1 ≤ 31 → (p0 p1 p2 p3 tail : List ℕ)
    → p0 ≡ take i own → p1 ≡ take (e - i) (drop i own) → p2 ≡ hung → p3 ≡ take (length own - e) (drop e own) → length tail ≡ 31 - i
    → TreeHung masks key own hung
    (put_mid (e + 1 + length hung) (length own + length hung + 1 - (e + 1 + length hung))
    (put_mid (e + 1) (e + 1 + length hung - (e + 1)) (put_mid (i + 1) (e + 1 - (i + 1)) (set (p0 ++ tail) i 255) p1) p2) p3)
copies masks own hung key i e h l p0 p1 p2 p3 tail q0 q1 q2 q3 t =
    let front : length (take i own) ≡ i = length-take-le i own (omega (arith, h.from, h.to)) in
    let n : length (take i own ++ tail) ≡ 31 = length-append (take i own) tail ∙ omega (arith, h.from, h.to) in
    let all : take (length own - e) (drop e own) ≡ drop e own = take_all (length own - e) (drop e own) (omega (arith, length-drop e own)) in
    rw (q0, q1, q2, q3 ∙ all) (
      whole-size own hung (take i own ++ tail) i e _ _ _ _ h.from h.to l n refl refl refl refl,
      λ p c sp q.
          assembled own hung (take i own ++ tail) i e _ _ _ _ h.from h.to l n refl refl refl refl (take_at (take i own) tail i front)
          ∙ ap (λ x. take i own ++ (255 ∷ (take (e - i) (drop i own) ++ (x ++ drop e own)))) q ∙ sym (h.hung p c sp),
    )
