use Rattle.std.proofs.Common.{sym, ◌∙◌}
use Rattle.mending.proofs.Places.{tested-table, tested-large}
use Rattle.mending.proofs.Holders.{held-mark, tested}
use Rattle.mending.proofs.hanging.holds.Goals as goal

pub returns-then-is_table : goal.returns-then-is_table
returns-then-is_table c = tested _ _ c.args.b _ c.index.ensures.0 (tested-table _ _ c.is_table.ensures c.if-is_table.true)

pub returns-else-is_table : goal.returns-else-is_table
returns-else-is_table c = c.if-is_table.false ∙ sym (held-mark _ _ c.args.b (tested-large _ _ c.is_table.ensures c.if-is_table.false))
