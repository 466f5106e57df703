use Rattle.plans.specs.Names.{NamedBefore}
use Rattle.plans.proofs.naming.check_naming.Given as goal

abbrev pub invariant-loop-i : goal.invariant-loop-i
invariant-loop-i l = NamedBefore l.tables l.code l.named l.count l.i
