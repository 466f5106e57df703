-- Request U2: "all such selections", over which the penalty of the mended plan is least; plans that can be mended.
use Rattle.std.specs.Prelude.{◌≡◌, true, List, ◌∷◌, ◌++◌, ℕ, ◌+◌, ◌<◌, ◌≤◌}
use Rattle.semantics.specs.Plans.{Plan, scan, join}
use Rattle.semantics.specs.Shapes.{Shape, join_attributes}
use Rattle.semantics.specs.Mending.{holds_all, holders, hang, cost, both_hold}
use Rattle.theory.specs.Elements.{Each}

-- "the cheapest" of the tables, f saying what each costs, and "all ties go to the first named": whatever stands before it costs more
pub record FirstCheapest (f : ℕ → ℕ) (ts : List ℕ) (t : ℕ) : Type 0 where
  pub before : List ℕ
  pub behind : List ℕ
  pub named : ts ≡ before ++ (t ∷ behind)
  pub dearer : Each (λ u. f t < f u) before
  pub least : Each (λ u. f t ≤ f u) behind

module _ (S : Shape) where
  -- a selection: a root, and at each join a holder of the join attributes on the side without the root, as the
  -- root of a selection there
  pub data Selection : Plan → ℕ → Type 0 where
    only : {t : ℕ} → Selection (scan t) t
    root_left : {l r : Plan} {x : ℕ} (b : ℕ) → holds_all S (join_attributes S l r) b ≡ true
        → Selection l x → Selection r b → Selection (join l r) x
    root_right : {l r : Plan} {x : ℕ} (b : ℕ) → holds_all S (join_attributes S l r) b ≡ true
        → Selection r x → Selection l b → Selection (join l r) x

  abbrev pub selection_penalty : {p : Plan} {x : ℕ} → Selection p x → ℕ
  selection_penalty only = 0
  selection_penalty (root_left b h s u) = selection_penalty s + selection_penalty u
  selection_penalty (root_right b h s u) = selection_penalty s + (selection_penalty u + S.rows b)

  abbrev pub selection_tree : {p : Plan} {x : ℕ} → Selection p x → Plan
  selection_tree (only {t}) = scan t
  selection_tree (root_left {l} {r} b h s u) = hang S (join_attributes S l r) (selection_tree u) (selection_tree s)
  selection_tree (root_right {l} {r} b h s u) = hang S (join_attributes S l r) (selection_tree u) (selection_tree s)

  -- both sides of every join have a table that holds its join attributes
  abbrev pub Mendable : Plan → Type 0
  Mendable (scan t) = Unit {0}
  Mendable (join l r) = (both_hold S l r ≡ true) × Mendable l × Mendable r

  -- at every join "the cheapest of them becomes that side's root, any row count it adds at this join included", the first named of those
  abbrev pub ChoosesFirst : {p : Plan} {x : ℕ} → Selection p x → Type 0
  ChoosesFirst only = Unit {0}
  ChoosesFirst (root_left {l} {r} b h s u) =
      FirstCheapest (cost S r) (holders S (join_attributes S l r) r) b × ChoosesFirst s × ChoosesFirst u
  ChoosesFirst (root_right {l} {r} b h s u) =
      FirstCheapest (λ t. cost S l t + S.rows t) (holders S (join_attributes S l r) l) b × ChoosesFirst s × ChoosesFirst u
