-- Hanging in bytes: an FF and the hung plan's bytes are put before and behind the longest plan that begins with the table x.
use mathlib.Core.Path.{◌≡◌, refl, sym, ap, ap₂, ◌∙◌}
use mathlib.Core.Bool.{true, false, ◌||◌}
use mathlib.Core.List.{List, [], ◌∷◌, ◌++◌, append_assoc, append-nil}
use Prim.Native.Nat.{ℕ, ◌<◌}
use native.Mathlib.Omega.{arith}
use lib.Dec.{eqb}
use borrow.Author.Tests.{eqb-true, eqb-false, ne_eqb}
use Rattle.semantics.specs.Plans.{Plan, scan, join, encode, tables, leftmost}
use Rattle.theory.specs.Rules.{Small}
use Rattle.semantics.specs.Lists.{any}
use Rattle.theory.proofs.Cases.{cases, or_cases}
use Rattle.theory.proofs.Lists.{any_append}
use Rattle.semantics.specs.JoinTrees.{names_table, hang_under}
use Rattle.theory.proofs.Mending.{not_left}
use Rattle.theory.proofs.Spelling.{encode_some}

-- no bytes, or the last of them is a table number
abbrev pub EndsInTable : List ℕ → Type 0
EndsInTable [] = Unit {0}
EndsInTable (b ∷ []) = b < 16
EndsInTable (b ∷ (c ∷ bs)) = EndsInTable (c ∷ bs)

-- the bytes of p around the longest plan q in it whose leftmost table is x
pub record Around (p : Plan) (x : ℕ) : Type 0 where
  pub before : List ℕ
  pub plan : Plan
  pub behind : List ℕ
  pub first : leftmost plan ≡ x
  pub small : Small plan
  pub absent : any (eqb x) before ≡ false
  pub longest : EndsInTable before
  pub whole : before ≡ [] → leftmost p ≡ x
  pub is : encode p ≡ before ++ (encode plan ++ behind)
  pub hung : (c : Plan) → encode (hang_under x c p) ≡ before ++ (0xFF ∷ (encode plan ++ (encode c ++ behind)))

ends-cons : (b : ℕ) (bs : List ℕ) → (bs ≡ [] → ⊥) → EndsInTable bs → EndsInTable (b ∷ bs)
ends-cons b [] n e = absurd (n refl)
ends-cons b (c ∷ bs) n e = e

ends-append : (xs bs : List ℕ) → EndsInTable xs → EndsInTable bs → EndsInTable (xs ++ bs)
ends-append [] bs e f = f
ends-append (a ∷ []) [] e f = e
ends-append (a ∷ []) (b ∷ bs) e f = f
ends-append (a ∷ (c ∷ xs)) bs e f = ends-append (c ∷ xs) bs e f

append_some : (xs bs : List ℕ) → (xs ≡ [] → ⊥) → xs ++ bs ≡ [] → ⊥
append_some [] bs n e = n refl
append_some (a ∷ xs) bs n e = let z : ◌≡◌ {A = ℕ} 0 1 = cc in omega arith

encode-ends : (p : Plan) → Small p → EndsInTable (encode p)
encode-ends (scan t) s = s
encode-ends (join l r) s =
    ends-cons 255 (encode l ++ encode r) (append_some (encode l) (encode r) (encode_some l)) (ends-append (encode l) (encode r) (encode-ends l s.0) (encode-ends r s.1))

small-named : (p : Plan) (x : ℕ) → Small p → names_table p x ≡ true → x < 16
small-named (scan t) x s n = or_cases (eqb x t) false n (λ h. omega (arith, eqb-true x t h)) (λ h. let z : ◌≡◌ {A = ℕ} 0 1 = cc in absurd (omega arith))
small-named (join a b) x s n = or_cases (names_table a x) (names_table b x) (sym (any_append (eqb x) (tables a) (tables b)) ∙ n) (λ h. small-named a x s.0 h) (λ h. small-named b x s.1 h)

-- the bytes of a plan that does not name x hold no x
encode-absent : (p : Plan) (x : ℕ) → x < 16 → any (eqb x) (encode p) ≡ names_table p x
encode-absent (scan t) x w = refl
encode-absent (join a b) x w =
    rw (ne_eqb x 255 (λ e. omega arith))
    (any_append (eqb x) (encode a) (encode b) ∙ ap₂ (λ u v. u || v) (encode-absent a x w) (encode-absent b x w) ∙ sym (any_append (eqb x) (tables a) (tables b)))

absent_behind : (a : Plan) (x : ℕ) (bs : List ℕ) → x < 16 → names_table a x ≡ false → any (eqb x) bs ≡ false → any (eqb x) (255 ∷ (encode a ++ bs)) ≡ false
absent_behind a x bs w n h = rw (ne_eqb x 255 (λ e. omega arith)) (any_append (eqb x) (encode a) bs ∙ ap₂ (λ u v. u || v) (encode-absent a x w ∙ n) h)

absent-mark : (x : ℕ) (bs : List ℕ) → x < 16 → any (eqb x) bs ≡ false → any (eqb x) (255 ∷ bs) ≡ false
absent-mark x bs w h = rw (ne_eqb x 255 (λ e. omega arith)) h

pub around : (p : Plan) (x : ℕ) → Small p → names_table p x ≡ true → Around p x
around (scan t) x s n =
    record {
      before = [];
      plan = scan t;
      behind = [];
      first = or_cases (eqb x t) false n (λ h. sym (eqb-true x t h)) (λ h. cc);
      small = s;
      absent = refl;
      longest = tt;
      whole = λ e. or_cases (eqb x t) false n (λ h. sym (eqb-true x t h)) (λ h. cc);
      is = refl;
      hung = λ c. ap (λ l. 255 ∷ (t ∷ l)) (sym (append-nil (encode c)));
    }
around (join a b) x s n =
    cases (eqb x (leftmost a))
    (λ h. record {
      before = [];
      plan = join a b;
      behind = [];
      first = sym (eqb-true x (leftmost a) h);
      small = s;
      absent = refl;
      longest = tt;
      whole = λ e. sym (eqb-true x (leftmost a) h);
      is = sym (append-nil (encode (join a b)));
      hung = λ c. rw (h, hang_under) (ap (λ l. 255 ∷ (encode (join a b) ++ l)) (sym (append-nil (encode c))));
    })
    (λ h. let other : x ≡ leftmost a → ⊥ = eqb-false x (leftmost a) h in
    cases (names_table a x)
    (λ m. let o = around a x s.0 m in
    record {
      before = 255 ∷ o.before;
      plan = o.plan;
      behind = o.behind ++ encode b;
      first = o.first;
      small = o.small;
      absent = absent-mark x o.before (small-named a x s.0 m) o.absent;
      longest = ends-cons 255 o.before (λ e. other (sym (o.whole e))) o.longest;
      whole = λ e. cc;
      is = ap (λ l. 255 ∷ (l ++ encode b)) o.is ∙ simp append_assoc;
      hung = λ c. rw (h, hang_under) (rw m (ap (λ l. 255 ∷ (l ++ encode b)) (o.hung c) ∙ simp append_assoc));
    })
    (λ m. let o = around b x s.1 (not_left a b x m n) in
    record {
      before = 255 ∷ (encode a ++ o.before);
      plan = o.plan;
      behind = o.behind;
      first = o.first;
      small = o.small;
      absent = absent_behind a x o.before (small-named b x s.1 (not_left a b x m n)) m o.absent;
      longest = ends-cons 255 (encode a ++ o.before) (append_some (encode a) o.before (encode_some a)) (ends-append (encode a) o.before (encode-ends a s.0) o.longest);
      whole = λ e. cc;
      is = ap (λ l. 255 ∷ (encode a ++ l)) o.is ∙ simp append_assoc;
      hung = λ c. rw (h, hang_under) (rw m (ap (λ l. 255 ∷ (encode a ++ l)) (o.hung c) ∙ simp append_assoc));
    }))
