use Rattle.std.proofs.Common.{◌∙◌}
use Rattle.mending.specs.declared.parts.Hand.TheVariants as hand
use Rattle.mending.proofs.Sides.{side_there}
use Rattle.mending.proofs.Lacks.{both_held, left-lacks}
use Rattle.mending.proofs.parts.Survey.both_hold.Goals as goal

pub returns-then-side_holds : goal.returns-then-side_holds
returns-then-side_holds c = λ rows x y m e u w.
    let v = c.args.self.now in
    let p = c.side-left in
    let q = c.side-right in
    both_held _ rows _ x y m e p.result q.result (p.ensures.sided x y m e u w) (q.ensures.sided x y m e u w) c.side_holds.result c.side_holds-then-side_holds.result
    (c.side_holds.ensures x (side_there v _ hand.Left p.result p.ensures.sided x y m e u w))
    (c.side_holds-then-side_holds.ensures y (side_there v _ hand.Right q.result q.ensures.sided x y m e u w)) c.if-side_holds.true

pub returns-else-side_holds : goal.returns-else-side_holds
returns-else-side_holds c = λ rows x y m e u w.
    let p = c.side-left in
    let q = c.side-right in
    c.if-side_holds.false
    ∙ left-lacks _ rows _ x y m e p.result q.result (p.ensures.sided x y m e u w) (q.ensures.sided x y m e u w) c.side_holds.result
    (c.side_holds.ensures x (side_there c.args.self.now _ hand.Left p.result p.ensures.sided x y m e u w)) c.if-side_holds.false
