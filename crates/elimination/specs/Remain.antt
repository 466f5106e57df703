-- The tables that remain, as the code holds them.
use Rattle.std.specs.Prelude.{List, ℕ}
use Rattle.elimination.specs.Parents.{remaining}
use Rattle.elimination.specs.declared.parents.Remaining.{Remaining}

-- rising
abbrev pub tables_of : Remaining → List ℕ
tables_of r = remaining r.count r.flags
