use Rattle.mending.proofs.WholePlans.{kept_none, sent_spanned, sent_given, sent_whole, root_buildable, mends_lacking, mends-mended}
use Rattle.mending.proofs.mend.Goals as goal

pub parts_of-parts-requires : goal.parts_of-parts-requires
parts_of-parts-requires c = (c.requires.0.words, sent_spanned c.args.code.now c.args.masks.now c.args.rows.now c.requires.0)

pub returns-in-Some : goal.returns-in-Some
returns-in-Some c =
    let a = c.args in
    mends_lacking a.code.now a.masks.now a.rows.now c.first_lacking.result c.in-Some.detail a.out.now (c.first_lacking.ensures a.rows.now) c.in-Some.is c.requires.1

pub whole_root-root-requires : goal.whole_root-root-requires
whole_root-root-requires c =
    let a = c.args in (
      sent_given a.code.now a.masks.now a.rows.now _ c.requires.0 c.parts_of-parts.ensures,
      kept_none a.code.now a.masks.now a.rows.now,
      sent_whole a.code.now a.masks.now a.rows.now c.first_lacking.result (c.first_lacking.ensures a.rows.now) c.in_default.is c.requires.0,
    )

pub write_tree-requires : goal.write_tree-requires
write_tree-requires c =
    let a = c.args in
    let whole = sent_whole a.code.now a.masks.now a.rows.now c.first_lacking.result (c.first_lacking.ensures a.rows.now) c.in_default.is c.requires.0 in (
      (
        sent_given a.code.now a.masks.now a.rows.now _ c.requires.0 c.parts_of-parts.ensures,
        c.whole_root-root.ensures.0,
        root_buildable a.code.now a.masks.now a.rows.now _ whole c.whole_root-root.ensures.1,
      ),
      c.requires.1,
    )

pub returns : goal.returns
returns c =
    let a = c.args in
    mends-mended a.code.now a.masks.now a.rows.now c.first_lacking.result c.whole_root-root.result a.out.now c.write_tree.new.out (c.first_lacking.ensures a.rows.now) c.in_default.is
    c.write_tree.ensures.1 c.whole_root-root.ensures.1 c.write_tree.ensures.2
