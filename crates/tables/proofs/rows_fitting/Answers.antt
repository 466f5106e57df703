use mathlib.Core.Path.{ap}
use Prim.Native.Nat.{◌/◌}
use Rattle.semantics.specs.Shapes.{output_fits}
use Rattle.tables.proofs.rows_fitting.Goals as goal

pub returns : goal.returns
unfolding output_fits
returns c = ap (λ n. n / c.args.width) c.min.ensures
