use Rattle.accept.proofs.Comparisons.{triples_equal}
use Rattle.accept.proofs.comparing.same_numbers.Goals as goal

pub returns : goal.returns
returns c = triples_equal _ _ c.eq.ensures
