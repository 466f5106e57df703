use mathlib.Core.Path.{◌≡◌, ap, ◌∙◌}
use native.Mathlib.Omega.{arith}
use borrow.Author.Rules.{rules}
use Rattle.std.proofs.Common.{Err}
use Rattle.tables.specs.declared.Record.TheVariants as kind
use Rattle.tables.specs.Catalogs.{found}
use Rattle.tables.proofs.Records.{record-cut, record-table, record-plan, record-counted, record_other}
use Rattle.tables.proofs.next_record.Goals as goal

pub returns-in-Some-TABLE_MARK : goal.returns-in-Some-TABLE_MARK
returns-in-Some-TABLE_MARK c =
    let m : c.map.result ≡ found kind.Table c.limited_table.result = search rules in
    m ∙ ap (found kind.Table) c.limited_table.ensures ∙ record-table c.args.count c.args.file.now c.args.at _ c.in-Some-TABLE_MARK.ensures.cases (omega arith) (omega arith)

pub returns-in-Some-PLAN_MARK : goal.returns-in-Some-PLAN_MARK
returns-in-Some-PLAN_MARK c =
    let m : c.map-in-Some-PLAN_MARK.result ≡ found kind.Plan c.plan_record.result = search rules in
    m ∙ ap (found kind.Plan) c.plan_record.ensures ∙ record-plan c.args.count c.args.file.now c.args.at _ c.in-Some-PLAN_MARK.ensures.cases (omega arith) (omega arith)

pub returns-in-Some-COPIES_MARK : goal.returns-in-Some-COPIES_MARK
returns-in-Some-COPIES_MARK c =
    let m : c.map-in-Some-COPIES_MARK.result ≡ found kind.Table c.limited_table-in-Some-COPIES_MARK.result = search rules in
    m ∙ ap (found kind.Table) c.limited_table-in-Some-COPIES_MARK.ensures ∙ record-counted c.args.count c.args.file.now c.args.at _ c.in-Some-COPIES_MARK.ensures.cases (omega arith) (omega arith)

pub returns-in-Some : goal.returns-in-Some
returns-in-Some c =
    ap Err c.refusal.ensures ∙ record_other c.args.count c.args.file.now c.args.at _ c.in-Some.ensures.cases (λ e f. grind arith) (λ e f. grind arith) (λ e f. grind arith)

pub returns-in-None : goal.returns-in-None
returns-in-None c = ap Err c.refusal-in-None.ensures ∙ record-cut c.args.count c.args.file.now c.args.at c.in-None.ensures.cases
