use borrow.Author.Rules.{rules}
use Rattle.std.proofs.Common.{Err}
use mathlib.Core.Path.{◌≡◌}
use Rattle.plans.proofs.Admitting.{is-asked, is-sent, count_few, answer_7, spelled-plan, answer_8, is-behaved, is_not-behaved}
use Rattle.plans.proofs.admission.check_plan.Goals as goal

pub returns-then-asks_for_plan : goal.returns-then-asks_for_plan
returns-then-asks_for_plan c = is-asked _ _ _ c.asks_for_plan.ensures c.if-asks_for_plan.true

pub returns-in_err-check_spelling : goal.returns-in_err-check_spelling
returns-in_err-check_spelling c = let e : c.from_residual.result ≡ Err c.in_err-check_spelling.field-0.0 = search rules in
    rw e (answer_7 _ _ (is-sent _ _ _ c.asks_for_plan.ensures c.if-asks_for_plan.false) _ c.check_spelling.ensures _ c.in_err-check_spelling.was)

pub check_naming-requires : goal.check_naming-requires
check_naming-requires c = count_few _ c.requires

pub returns-in_err-check_naming : goal.returns-in_err-check_naming
returns-in_err-check_naming c = let e : c.from_residual-in_err-check_naming.result ≡ Err c.in_err-check_naming.field-0.0 = search rules in
    rw e (answer_8 _ _ (is-sent _ _ _ c.asks_for_plan.ensures c.if-asks_for_plan.false) _ c.check_spelling.ensures c.in_ok-check_spelling.was _ c.check_naming.ensures _ c.in_err-check_naming.was)

pub is_well_behaved-requires : goal.is_well_behaved-requires
is_well_behaved-requires c = spelled-plan c.args.catalog.now _ (is-sent _ _ _ c.asks_for_plan.ensures c.if-asks_for_plan.false) _ c.check_spelling.ensures c.in_ok-check_spelling.was

pub returns-then-is_well_behaved : goal.returns-then-is_well_behaved
returns-then-is_well_behaved c = is-behaved _ _ (is-sent _ _ _ c.asks_for_plan.ensures c.if-asks_for_plan.false) _ c.check_spelling.ensures c.in_ok-check_spelling.was _ c.check_naming.ensures c.in_ok-check_naming.was _ c.is_well_behaved.ensures c.if-is_well_behaved.true

pub returns-else-is_well_behaved : goal.returns-else-is_well_behaved
returns-else-is_well_behaved c = is_not-behaved _ _ (is-sent _ _ _ c.asks_for_plan.ensures c.if-asks_for_plan.false) _ c.check_spelling.ensures c.in_ok-check_spelling.was _ c.check_naming.ensures c.in_ok-check_naming.was _ c.is_well_behaved.ensures c.if-is_well_behaved.false
