use Rattle.accept.proofs.Comparisons.{compared}
use Rattle.accept.proofs.comparing.compare.Goals as goal

pub returns : goal.returns
returns c = compared _ _ c.pigrozd_join-joined.ensures (rw c.requires c.pigrozd_slow_join-slow.ensures) c.comparison_of-comparison.ensures
