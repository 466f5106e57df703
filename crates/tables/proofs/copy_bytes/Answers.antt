use Rattle.semantics.specs.Files.{copy_bytes}
use Rattle.tables.proofs.copy_bytes.Goals as goal

pub returns-then-counted : goal.returns-then-counted
unfolding copy_bytes
returns-then-counted c = rw (c.if-counted.true, copy_bytes)

pub returns-else-counted : goal.returns-else-counted
unfolding copy_bytes
returns-else-counted c = rw (c.if-counted.false, copy_bytes)
