use borrow.Author.Rules.{rules}
use mathlib.Core.Path.{◌≡◌}
use native.Mathlib.Omega.{arith}
use Rattle.std.proofs.Common.{Err}
use Rattle.mending.proofs.Places.{spelled-stands}
use Rattle.plans.proofs.Sending.{sent_of, mended-refused, mended_formed}
use Rattle.plans.proofs.forming.mended_plan.Goals as goal

pub mend-requires : goal.mend-requires
mend-requires c = (sent_of _ _ c.requires, omega arith)

pub returns-in_err-mend : goal.returns-in_err-mend
returns-in_err-mend c = let e : c.from_residual.result ≡ Err c.in_err-mend.field-0.0 = search rules in
    λ ts h n. rw e (mended-refused _ ts h _ n _ _ _ (c.mend.ensures _ (spelled-stands _ n.spelled)) _ c.in_err-mend.was)

pub returns : goal.returns
returns c = λ ts h n. mended_formed _ ts h _ n _ _ _ (c.mend.ensures _ (spelled-stands _ n.spelled)) c.in_ok-mend.was
