use mathlib.Core.Path.{ap, sym}
use Rattle.join.specs.Answers.{answer_of}
use Rattle.capi.proofs.Numbers.{carried}
use Rattle.capi.proofs.pigrozd_join.Goals as goal

pub returns-in-Ok : goal.returns-in-Ok
returns-in-Ok c = carried c.join.result _ (ap answer_of (sym c.in-Ok.is)) c.join.ensures

pub returns-in-Err : goal.returns-in-Err
returns-in-Err c = rw (c.from.ensures, c.number.ensures) (carried c.join.result _ (ap answer_of (sym c.in-Err.is)) c.join.ensures)
