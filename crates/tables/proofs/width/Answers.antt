use mathlib.Core.Path.{◌∙◌}
use native.Mathlib.Omega.{arith}
use Rattle.tables.proofs.Widths.{count_low, width_is}
use Rattle.tables.proofs.width.Goals as goal

pub attributes_of-requires : goal.attributes_of-requires
attributes_of-requires c = omega (arith, count_low _ c.read-count.result c.read-count.ensures)

pub returns : goal.returns
returns c = c.ones.ensures ∙ width_is _ c.read-count.result c.read-count.ensures _ c.attributes_of.ensures
