use Rattle.plans.proofs.admission.admit.Goals as goal

pub returns : goal.returns
returns c = c.rule-verdict.ensures
