use Rattle.std.proofs.Common.{refl, sym, ◌∙◌, arith}
use Rattle.std.proofs.Math.ListN.{length-set}
use Rattle.std.proofs.Math.Seq.{length-take-le}
use Rattle.mending.proofs.Places.{starts, tested-table}
use Rattle.mending.proofs.Roots.{side_smaller}
use Rattle.mending.proofs.Trees.{buildable_planned, join_there, taken, taken_known, across_known, own_buildable, taken-mendable, other_buildable}
use Rattle.mending.proofs.TreeBytes.{sizes_fit, fits, hangable, taken_spelt, table_spelt}
use Rattle.mending.proofs.parts.Survey.+write_tree.Goals as goal

pub bounds-self-at : goal.bounds-self-at
bounds-self-at t c = starts _ _ (buildable_planned c.requires.0.2)

pub returns-then-is_table : goal.returns-then-is_table
returns-then-is_table t c =
    let v = c.args.self.now in (
      c.requires.0.1,
      length-set c.args.out.now 0 _ ∙ c.requires.1,
      table_spelt v.code.now v.masks.now v.rows.now c.args.at c.args.place c.args.out.now (tested-table _ _ c.is_table.ensures c.if-is_table.true) c.requires.1,
    )

pub hand_of-near-requires : goal.hand_of-near-requires
hand_of-near-requires t c = join_there c.args.self.now c.is_table.ensures c.if-is_table.false c.requires.0.0 c.requires.0.2

pub side-own-requires : goal.side-own-requires
side-own-requires t c = join_there c.args.self.now c.is_table.ensures c.if-is_table.false c.requires.0.0 c.requires.0.2

pub side-other-requires : goal.side-other-requires
side-other-requires t c = join_there c.args.self.now c.is_table.ensures c.if-is_table.false c.requires.0.0 c.requires.0.2

pub write_tree-requires : goal.write_tree-requires
write_tree-requires t c =
    let T = taken c.args.self.now c.is_table.ensures c.if-is_table.false c.requires.0.0 c.requires.0.2 c.side-own.ensures.sided c.hand_of-near.ensures in
    (omega (arith, side_smaller (taken_known T)), ((c.requires.0.0, c.requires.0.1, own_buildable T), refl))

pub best_root-root-requires : goal.best_root-root-requires
best_root-root-requires t c =
    let T = taken c.args.self.now c.is_table.ensures c.if-is_table.false c.requires.0.0 c.requires.0.2 c.side-own.ensures.sided c.hand_of-near.ensures in
    (c.requires.0.0, c.write_tree.ensures.0, T.joins, taken-mendable T)

pub write_tree-requires-2 : goal.write_tree-requires-2
write_tree-requires-2 t c =
    let T = taken c.args.self.now c.is_table.ensures c.if-is_table.false c.requires.0.0 c.requires.0.2 c.side-own.ensures.sided c.hand_of-near.ensures in (
      omega (arith, side_smaller (across_known T _ c.side-other.result c.side-other.ensures.sided)),
      (
        (c.requires.0.0, c.best_root-root.ensures.0, other_buildable T _ c.other-far.ensures c.best_root-root.result c.best_root-root.ensures.1 c.side-other.result c.side-other.ensures.sided),
        refl,
      ),
    )

pub slice_bounds-hang-end : goal.slice_bounds-hang-end
slice_bounds-hang-end t c =
    let T = taken c.args.self.now c.is_table.ensures c.if-is_table.false c.requires.0.0 c.requires.0.2 c.side-own.ensures.sided c.hand_of-near.ensures in
    sym (length-take-le _ c.write_tree.new.out (omega (arith, sizes_fit T _ c.other-far.ensures c.side-other.result c.side-other.ensures.sided, c.write_tree.ensures.1)))

pub slice_bounds-hang-end-2 : goal.slice_bounds-hang-end-2
slice_bounds-hang-end-2 t c =
    let T = taken c.args.self.now c.is_table.ensures c.if-is_table.false c.requires.0.0 c.requires.0.2 c.side-own.ensures.sided c.hand_of-near.ensures in
    sym (length-take-le _ c.write_tree-2.new.out (omega (arith, sizes_fit T _ c.other-far.ensures c.side-other.result c.side-other.ensures.sided, c.write_tree-2.ensures.1)))

pub hang-requires : goal.hang-requires
hang-requires t c =
    let T = taken c.args.self.now c.is_table.ensures c.if-is_table.false c.requires.0.0 c.requires.0.2 c.side-own.ensures.sided c.hand_of-near.ensures in (
      c.requires.0.0.words,
      hangable T _ c.other-far.ensures c.side-other.result c.side-other.ensures.sided c.write_tree.new.out c.write_tree.ensures.2,
      fits T _ c.other-far.ensures c.side-other.result c.side-other.ensures.sided c.write_tree.new.out c.write_tree-2.new.out c.write_tree.ensures.1 c.write_tree-2.ensures.1,
      c.requires.1,
    )

pub returns : goal.returns
returns t c =
    let T = taken c.args.self.now c.is_table.ensures c.if-is_table.false c.requires.0.0 c.requires.0.2 c.side-own.ensures.sided c.hand_of-near.ensures in
    let one = c.write_tree in
    let two = c.write_tree-2 in (
      two.ensures.0,
      c.hang.ensures.0,
      taken_spelt T _ c.other-far.ensures c.side-other.result c.side-other.ensures.sided c.best_root-root.result c.best_root-root.ensures.1 one.new.out two.new.out c.hang.new.out one.ensures.1 two.ensures.1 one.ensures.2 two.ensures.2 c.hang.ensures.1,
    )
