use Prim.Native.Nat.{◌-◌}
use lib.ListN.{length}
use Rattle.tables.proofs.ReadTo.{ReadTo}
use Rattle.tables.proofs.read.Given as goal

abbrev pub invariant-loop-entry : goal.invariant-loop-entry
invariant-loop-entry l = ReadTo l.file l.at l.catalog

abbrev pub decreases-loop-entry : goal.decreases-loop-entry
decreases-loop-entry l = length l.file - l.at
