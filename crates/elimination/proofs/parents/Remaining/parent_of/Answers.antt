use mathlib.Core.Path.{◌∙◌}
use Rattle.elimination.proofs.Covering.{parent_test}
use Rattle.elimination.proofs.parents.Remaining.parent_of.Goals as goal

pub returns : goal.returns
returns c = λ S M. c.first_covering.ensures ∙ parent_test _ c.args.self.now.flags _ _ _ S M c.args.self.now.few c.requires c.others.ensures
