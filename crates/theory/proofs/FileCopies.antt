-- The copies of a file's rows: never more than pairs tell apart, and each row of a file within the rules has one.
use mathlib.Core.Path.{◌≡◌}
use mathlib.Core.List.{List, [], ◌∷◌}
use Prim.Native.Nat.{ℕ, zero, suc, ◌<◌}
use native.Mathlib.Omega.{arith}
use lib.ListN.{get_or}
use Rattle.semantics.specs.Files.{Table, copies_at}
use Rattle.semantics.specs.Plans.{Plan}
use Rattle.semantics.specs.Shapes.{no_table, shape_of}
use Rattle.semantics.specs.Results.{base_of}
use Rattle.semantics.specs.Outcome.{admitted, rules_verdict}
use Rattle.theory.specs.Elements.{Each}
use Rattle.theory.specs.Rules.{Counted}
use Rattle.theory.specs.Pairs.{FewCopies, SomeCopies}
use Rattle.theory.proofs.Copies.{copies_few, tables-counted}
use Rattle.theory.proofs.Rules.{rules-tables}

pub few-copies : (bytes : List ℕ) (ts : List Table) → FewCopies (base_of bytes ts)
unfolding base_of
few-copies bytes ts t y = omega (arith, copies_few bytes (get_or ts t no_table) y)

-- the tables of a file
pub some_of : (bytes : List ℕ) (ts : List Table) → Each (Counted bytes) ts → SomeCopies (base_of bytes ts)
unfolding base_of shape_of
some_of bytes ts e t y h = at ts e t h
  where
    at : (ts : List Table) → Each (Counted bytes) ts → (t : ℕ) → y < (get_or ts t no_table).rows → 0 < copies_at bytes (get_or ts t no_table) y
    at [] e t h = absurd (omega arith)
    at (u ∷ ts) e zero h = omega (arith, e.0.some y h)
    at (u ∷ ts) e (suc t) h = at ts e.1 t h

pub some-copies : (bytes : List ℕ) (ts : List Table) (p : Plan) → rules_verdict bytes ≡ admitted ts p → SomeCopies (base_of bytes ts)
some-copies bytes ts p e = some_of bytes ts (rw (rules-tables bytes ts p e) (tables-counted bytes))
