use Rattle.accept.proofs.Comparisons.{join_says_10, slow_says_15, all_same, words_differ, numbers_differ}
use Rattle.accept.proofs.comparing.comparison_of.Goals as goal

pub returns-in-10-default : goal.returns-in-10-default
returns-in-10-default c = join_says_10 _ _ _ _ c.in-10-default.is-0

pub returns-in-10-default-2 : goal.returns-in-10-default-2
returns-in-10-default-2 c = slow_says_15 _ _ _ _ c.in-10-default.is-1

pub returns-in_default : goal.returns-in_default
returns-in_default c = all_same _ _ _ _ c.in_default.is-0.1 c.in_default.is-1.1 c.if-same_numbers.ensures c.if-eq.ensures

pub returns-in_default-2 : goal.returns-in_default-2
returns-in_default-2 c = words_differ _ _ _ _ c.in_default.is-0.1 c.in_default.is-1.1 c.if-same_numbers.ensures c.if-eq.ensures

pub returns-in_default-2-2 : goal.returns-in_default-2-2
returns-in_default-2-2 c = numbers_differ _ _ _ _ c.in_default.is-0.1 c.in_default.is-1.1 c.if-same_numbers.ensures
