-- What a reported call leaves: it was one call of the join.
use Rattle.std.specs.Prelude.{List, ℕ}
use Rattle.join.specs.Answers.{Given, Joins}

-- s, o: scratch and output before it; s', o': after it
pub record Called (bytes s o s' o' : List ℕ) : Type 0 where
  pub answer : Given
  pub call : Joins bytes s o s' o' answer
