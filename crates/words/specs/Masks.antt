-- Masks in an array, and the tables that they are of.
use Rattle.std.specs.Prelude.{◌≡◌, List, ℕ, ◌<◌, ◌^◌, get_or}
use Rattle.semantics.specs.Files.{has_bit}
use Rattle.semantics.specs.Shapes.{Shape}

-- the masks are those of the tables of the shape
pub record Masked (masks : List ℕ) (S : Shape) : Type 0 where
  pub bits : (t a : ℕ) → t < 16 → S.has t a ≡ has_bit (get_or masks t 0) a
  pub words : (t : ℕ) → t < 16 → get_or masks t 0 < 2 ^ 32
