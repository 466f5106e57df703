use Rattle.tables.proofs.CopyColumns.{none_held, copies-read}
use Rattle.tables.proofs.copies.Goals as goal

pub returns-then-counts-eq0 : goal.returns-then-counts-eq0
returns-then-counts-eq0 c = none_held _ _ _ c.if-counts-eq0.true

pub returns-else-counts-eq0 : goal.returns-else-counts-eq0
returns-else-counts-eq0 c = copies-read _ _ _ _ c.if-counts-eq0.false c.word.ensures
