use Rattle.std.proofs.Common.{◌∙◌, arith}
use Rattle.mending.proofs.Places.{starts, tested-table, tested-mark, left, right}
use Rattle.mending.proofs.Bytes.{planned-join}
use Rattle.mending.proofs.Sides.{middle_small}
use Rattle.mending.proofs.Lacks.{lacks_here, lacks-inside, table-lacks}
use Rattle.mending.proofs.parts.Survey.+first_lacking.Goals as goal

pub bounds-self-at : goal.bounds-self-at
bounds-self-at t c = starts _ _ c.requires.2

pub returns-then-is_table : goal.returns-then-is_table
returns-then-is_table t c = λ rows p e h. table-lacks _ c.args.self.now.masks.now rows _ (tested-table _ _ c.is_table.ensures c.if-is_table.true) p e h

pub both_hold-requires : goal.both_hold-requires
both_hold-requires t c = (c.requires.0, c.requires.1, planned-join _ _ (tested-mark _ _ _ c.is_table.ensures c.if-is_table.false c.requires.2) c.requires.2)

pub returns-then-not-both_hold : goal.returns-then-not-both_hold
returns-then-not-both_hold t c = λ rows p e h.
    let k = tested-mark _ _ _ c.is_table.ensures c.if-is_table.false c.requires.2 in
    lacks_here _ _ rows _ k c.both_hold.result (c.both_hold.ensures rows) c.if-not-both_hold.true p e h

pub first_lacking-left-requires : goal.first_lacking-left-requires
first_lacking-left-requires t c =
    let k = tested-mark _ _ _ c.is_table.ensures c.if-is_table.false c.requires.2 in
    (omega (arith, starts _ _ c.requires.2), (c.requires.0, c.requires.1, left _ _ k c.requires.2))

pub bounds-self-at-2 : goal.bounds-self-at-2
bounds-self-at-2 t c =
    let k = tested-mark _ _ _ c.is_table.ensures c.if-is_table.false c.requires.2 in
    omega (arith, middle_small c.args.self.now c.args.at (c.requires.0, c.requires.1, planned-join _ _ k c.requires.2))

pub first_lacking-requires : goal.first_lacking-requires
first_lacking-requires t c =
    let k = tested-mark _ _ _ c.is_table.ensures c.if-is_table.false c.requires.2 in (
      omega (arith, starts _ _ c.requires.2, middle_small c.args.self.now c.args.at (c.requires.0, c.requires.1, planned-join _ _ k c.requires.2)),
      (c.requires.0, c.requires.1, right _ _ _ k (λ p e h. (c.requires.1 _ p e h).next) c.requires.2),
    )

pub returns : goal.returns
returns t c = λ rows p e h.
    let k = tested-mark _ _ _ c.is_table.ensures c.if-is_table.false c.requires.2 in
    c.or.ensures
    ∙ lacks-inside _ _ rows _ k c.both_hold.result (c.both_hold.ensures rows) c.if-not-both_hold.false _ c.first_lacking-left.result c.first_lacking.result
    (λ p e h. (c.requires.1 _ p e h).next) (c.first_lacking-left.ensures rows) (c.first_lacking.ensures rows) p e h
