use native.Mathlib.Omega.{arith}
use Rattle.std.proofs.Common.{rules}
use Rattle.elimination.proofs.Written.{joins_written}
use Rattle.elimination.proofs.writing.Hung.write_joins.Goals as goal

pub slice_bounds-fill-end : goal.slice_bounds-fill-end
slice_bounds-fill-end c = omega (arith, c.children.ensures)

pub returns : goal.returns
returns c = rw (← c.children.ensures) (joins_written c.children.result (omega arith) (omega arith) (c.fill.ensures.after (λ y h. search rules)))
