-- An ear of a set of tables is one that can hang under another. A set that can be reduced to one table by taking out ears, one after the other, can be so reduced whichever ear is
-- taken out first.
use mathlib.Core.Path.{◌≡◌, sym, ap, ◌∙◌, subst}
use mathlib.Core.Bool.{Bool, true}
use Prim.Native.Nat.{ℕ, zero, suc, ◌<◌}
use Rattle.semantics.specs.Shapes.{Shape}
use Rattle.theory.specs.Details.{Ear}
use Rattle.theory.proofs.Cases.{cases, true-false}
use Rattle.theory.proofs.TableSets.{decide, minus, in_minus, out_minus, minus-swap}

-- n ears taken out, one after the other, leave one table (or none)
abbrev pub ReducibleIn : Shape → ℕ → (ℕ → Bool) → Type 0
ReducibleIn S zero M = (z : ℕ) × ((x : ℕ) → M x ≡ true → x ≡ z)
ReducibleIn S (suc n) M = (e : ℕ) × (f : ℕ) × Ear S M e f × ReducibleIn S n (minus M e)

abbrev pub Reducible : Shape → (ℕ → Bool) → Type 0
Reducible S M = (n : ℕ) × ReducibleIn S n M

module _ (S : Shape) where
  -- one table alone has no ear
  pub alone_no_ear : (M : ℕ → Bool) (e f : ℕ) → ReducibleIn S zero M → Ear S M e f → ⊥
  alone_no_ear M e f r E = E.apart (r.1 f E.parent ∙ sym (r.1 e E.inside))

  -- ---- an ear is one still after another is taken out
  ear-stays : (M : ℕ → Bool) (e f g : ℕ) → Ear S M e f → (e ≡ g → ⊥) → (f ≡ g → ⊥) → Ear S (minus M g) e f
  ear-stays M e f g E d c =
      record {
        inside = in_minus M g e d E.inside;
        parent = in_minus M g f c E.parent;
        apart = E.apart;
        covers = λ a u l h m n k. E.covers a u l h (out_minus M g u m).1 n k;
      }

  -- its parent is an ear, and is taken out: it hangs under the parent's parent
  ear_lifted : (M : ℕ → Bool) (e f g : ℕ) → Ear S M e f → Ear S M f g → (g ≡ e → ⊥) → Ear S (minus M f) e g
  ear_lifted M e f g E F d =
      record {
        inside = in_minus M f e (λ q. E.apart (sym q)) E.inside;
        parent = in_minus M f g F.apart F.parent;
        apart = d;
        covers = λ a u l h m n k. let (c, i) = out_minus M f u m in F.covers a u l (E.covers a u l h i n k) i c k;
      }

  -- two ears: each is one after the other is taken out, but where each hangs under the other
  two_ears : {P : Type 0} (M : ℕ → Bool) (e f g h : ℕ) → Ear S M e f → Ear S M g h → (e ≡ g → ⊥)
      → (f ≡ g → h ≡ e → P) → ((v w : ℕ) → Ear S (minus M g) e v → Ear S (minus M e) g w → P) → P
  two_ears M e f g h E G d twins apart =
      decide f g
      (λ p. decide h e (λ q. twins p q) (λ q. apart h h (ear_lifted M e g h (rw p at E) G q) (ear-stays M g h e G (λ z. d (sym z)) q)))
      (λ p. decide h e
      (λ q. apart f f (ear-stays M e f g E d p) (ear_lifted M g e f (rw q at G) E p))
      (λ q. apart f h (ear-stays M e f g E d p) (ear-stays M g h e G (λ z. d (sym z)) q)))

  -- ---- twins: two tables of M that share the same attributes with each of the others
  abbrev Twins : (ℕ → Bool) → ℕ → ℕ → Type 0
  Twins M e g = (a u : ℕ) → a < 32 → M u ≡ true → (u ≡ e → ⊥) → (u ≡ g → ⊥) → S.has u a ≡ true → S.has e a ≡ S.has g a

  twin_ears : (M : ℕ → Bool) (e g : ℕ) → Ear S M e g → Ear S M g e → Twins M e g
  twin_ears M e g E G a u l m d c k =
      cases (S.has e a) (λ h. h ∙ sym (E.covers a u l h m d k))
      (λ h. cases (S.has g a) (λ i. absurd (true-false (S.has e a) (G.covers a u l i m c k) h)) (λ i. h ∙ sym i))

  -- the one that is left stands for the other
  twin_ear : (M : ℕ → Bool) (e g p q r : ℕ) → M e ≡ true → (e ≡ g → ⊥) → Twins M e g → Ear S (minus M g) p q → (p ≡ e → ⊥)
      → minus M e r ≡ true → (r ≡ p → ⊥) → ((a : ℕ) → a < 32 → S.has p a ≡ true → S.has q a ≡ true → S.has r a ≡ true) → Ear S (minus M e) p r
  twin_ear M e g p q r me d tw E c mr dr same =
      let (pg, mp) = out_minus M g p E.inside in
      record {
        inside = in_minus M e p c mp;
        parent = mr;
        apart = dr;
        covers = λ a u l h m n k.
            let (ue, mu) = out_minus M e u m in
            same a l h
            (decide u g
            (λ z. E.covers a e l h (in_minus M g e d me) (λ y. c (sym y)) (tw a p l mp c pg h ∙ rw z at k))
            (λ z. E.covers a u l h (in_minus M g u z mu) n k));
      }

  exchange : (n : ℕ) (M : ℕ → Bool) (e g : ℕ) → M e ≡ true → M g ≡ true → (e ≡ g → ⊥) → Twins M e g → ReducibleIn S n (minus M g) → ReducibleIn S n (minus M e)
  exchange zero M e g me mg d tw r =
      (g, λ x m. let (c, i) = out_minus M e x m in decide x g (λ q. q) (λ q. absurd (c (r.1 x (in_minus M g x q i) ∙ sym (r.1 e (in_minus M g e d me))))))
  exchange (suc n) M e g me mg d tw (p, q, E, R) =
      decide p e
      (λ z.
      let F : Ear S (minus M g) e q = rw z at E in
      let (qg, mq) = out_minus M g q F.parent in
      let G : Ear S (minus M e) g q
      = record {
        inside = in_minus M e g (λ y. d (sym y)) mg;
        parent = in_minus M e q F.apart mq;
        apart = qg;
        covers = λ a u l h m c k. let (ue, mu) = out_minus M e u m in F.covers a u l (tw a u l mu ue c k ∙ h) (in_minus M g u c mu) ue k;
      } in
      (g, q, G, subst (ReducibleIn S n) (ap (λ x. minus (minus M g) x) z ∙ minus-swap M g e) R))
      (λ c.
      let (pg, mp) = out_minus M g p E.inside in
      let rest : ReducibleIn S n (minus (minus M e) p)
      = subst (ReducibleIn S n) (minus-swap M p e)
      (exchange n (minus M p) e g (in_minus M p e (λ y. c (sym y)) me) (in_minus M p g (λ y. pg (sym y)) mg) d
      (λ a u l m. tw a u l (out_minus M p u m).1) (subst (ReducibleIn S n) (minus-swap M g p) R)) in
      decide q e
      (λ z. (p, g, twin_ear M e g p q g me d tw E c (in_minus M e g (λ y. d (sym y)) mg) (λ y. pg (sym y)) (λ a l h k. sym (tw a p l mp c pg h) ∙ (rw z at k)), rest))
      (λ z. (p, q, twin_ear M e g p q q me d tw E c (in_minus M e q z (out_minus M g q E.parent).1) E.apart (λ a l h k. k), rest)))

  -- ---- any ear may be taken out first
  pub take_ear : (n : ℕ) (M : ℕ → Bool) (e f : ℕ) → ReducibleIn S (suc n) M → Ear S M e f → ReducibleIn S n (minus M e)
  take_ear zero M e f (g, h, G, R) E =
      decide e g (λ q. subst (λ x. ReducibleIn S zero (minus M x)) (sym q) R)
      (λ d. two_ears M e f g h E G d
      (λ p q. exchange zero M e g E.inside G.inside d (twin_ears M e g (rw p at E) (rw q at G)) R)
      (λ v w F H. absurd (alone_no_ear (minus M g) e v R F)))
  take_ear (suc n) M e f (g, h, G, R) E =
      decide e g (λ q. subst (λ x. ReducibleIn S (suc n) (minus M x)) (sym q) R)
      (λ d. two_ears M e f g h E G d
      (λ p q. exchange (suc n) M e g E.inside G.inside d (twin_ears M e g (rw p at E) (rw q at G)) R)
      (λ v w F H. (g, w, H, subst (ReducibleIn S n) (minus-swap M g e) (take_ear n (minus M g) e v R F))))
