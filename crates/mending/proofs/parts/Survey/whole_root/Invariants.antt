use Rattle.mending.specs.Rooting.{RootsRemembered}
use Rattle.mending.specs.Whole.{WholeSearched}
use Rattle.mending.proofs.parts.Survey.whole_root.Given as goal

abbrev pub invariant-loop-place : goal.invariant-loop-place
invariant-loop-place l =
    let v = l.self in
    RootsRemembered v.code.now v.masks.now v.rows.now l.best × WholeSearched v.code.now v.masks.now v.rows.now l.place l.pick
