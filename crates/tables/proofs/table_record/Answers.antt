use mathlib.Core.Path.{ap, ◌∙◌}
use mathlib.Core.Logic.{⊎_elim}
use native.Mathlib.Omega.{arith}
use Rattle.std.proofs.Common.{Err}
use Rattle.tables.proofs.TableRecords.{values_few, copies-low, table-short, fields-read, table_none, table_many, table-long, table-cut, table-out, table_fit}
use mathlib.Core.Path.{◌≡◌}
use mathlib.Core.Bool.{false}
use Rattle.semantics.specs.Files.{copies_out}
use Rattle.tables.proofs.CountedTables.{copies_there, none_there, out_there, in_there}
use Rattle.tables.proofs.table_record.Goals.{else-counted-via-then-counted+else-not-copies_fit, else-counted-via-else-counted}
use Rattle.tables.proofs.table_record.Goals as goal

pub returns-then-left-lt10 : goal.returns-then-left-lt10
returns-then-left-lt10 c = ap Err c.refusal.ensures ∙ table-short _ _ _ c.if-left-lt10.true

pub returns-then-arity-eq0 : goal.returns-then-arity-eq0
returns-then-arity-eq0 c =
    let F = fields-read _ _ c.args.counted c.word-mask.ensures c.word-rows.ensures c.ones-arity.ensures c.if-left-lt10.false in
    ap Err c.refusal-then-arity-eq0.ensures ∙ ⊎_elim (table_none _ _ _ F) (λ w. table_many _ _ _ F w.1) c.then-arity-eq0.either

pub returns-then-rows-gt4096 : goal.returns-then-rows-gt4096
returns-then-rows-gt4096 c =
    let F = fields-read _ _ c.args.counted c.word-mask.ensures c.word-rows.ensures c.ones-arity.ensures c.if-left-lt10.false in
    ap Err c.refusal-then-rows-gt4096.ensures ∙ table-long _ _ _ F c.if-arity-eq0.false c.if-arity-gt8.false c.if-rows-gt4096.true

pub overflow_add-size : goal.overflow_add-size
overflow_add-size c = omega (arith, copies-low _ _ _ c.copy_bytes-copies.ensures c.if-rows-gt4096.false)

pub overflow_add-size-2 : goal.overflow_add-size-2
overflow_add-size-2 c = omega (arith, copies-low _ _ _ c.copy_bytes-copies.ensures c.if-rows-gt4096.false, values_few c.ones-arity.result c.word-rows.result c.if-arity-gt8.false c.if-rows-gt4096.false)

pub returns-then-left-size : goal.returns-then-left-size
returns-then-left-size c =
    let F = fields-read _ _ c.args.counted c.word-mask.ensures c.word-rows.ensures c.ones-arity.ensures c.if-left-lt10.false in
    ap Err c.refusal-then-left-size.ensures ∙ table-cut _ _ _ F c.if-arity-eq0.false c.if-arity-gt8.false c.if-rows-gt4096.false _ c.copy_bytes-copies.ensures c.if-left-size.true

pub returns-then-not-copies_fit : goal.returns-then-not-copies_fit
returns-then-not-copies_fit c =
    let F = fields-read _ _ c.args.counted c.word-mask.ensures c.word-rows.ensures c.ones-arity.ensures c.if-left-lt10.false in
    let o = out_there c.args.file.now c.args.at c.word-rows.result _ _ c.if-counted.true c.copies_fit.ensures c.if-not-copies_fit.true in
    ap Err c.refusal-then-not-copies_fit.ensures ∙ table-out _ _ _ F c.if-arity-eq0.false c.if-arity-gt8.false c.if-rows-gt4096.false _ c.copy_bytes-copies.ensures c.if-left-size.false o

pub returns : goal.returns
returns c =
    let F = fields-read _ _ c.args.counted c.word-mask.ensures c.word-rows.ensures c.ones-arity.ensures c.if-left-lt10.false in
    let i : copies_out c.args.counted (copies_there c.args.file.now c.args.at) c.word-rows.result ≡ false
    = elim c.else-counted.branch [
      | else-counted-via-then-counted+else-not-copies_fit w ↦ in_there c.args.file.now c.args.at c.word-rows.result _ _ w.if-counted.true w.copies_fit.ensures w.if-not-copies_fit.false
      | else-counted-via-else-counted w ↦ none_there c.args.file.now c.args.at c.word-rows.result _ w.if-counted.false
    ] in
    table_fit _ _ _ F c.if-arity-eq0.false c.if-arity-gt8.false c.if-rows-gt4096.false _ c.copy_bytes-copies.ensures c.if-left-size.false i
