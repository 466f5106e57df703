use native.Mathlib.Omega.{arith}
use mathlib.Core.Path.{sym, ap, ◌∙◌}
use Rattle.std.proofs.Common.{Err}
use Rattle.tables.proofs.Records.{limited_full, limited-rules}
use Rattle.tables.proofs.limited_table.Goals as goal

pub returns-then-count-ge-MOST_TABLES : goal.returns-then-count-ge-MOST_TABLES
returns-then-count-ge-MOST_TABLES c = ap Err c.refusal.ensures ∙ sym (limited_full _ _ _ _ (omega arith))

pub returns : goal.returns
returns c = c.table_record.ensures ∙ sym (limited-rules _ _ _ _ c.if-count-ge-MOST_TABLES.false)
