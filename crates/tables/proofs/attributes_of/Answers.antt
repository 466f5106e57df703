use mathlib.Core.Path.{◌≡◌}
use lib.Bits.{bit_or}
use lib.ListN.{take}
use borrow.Author.Rules.{rules}
use Rattle.std.specs.List.{fold}
use Rattle.std.proofs.iter.runs.Made.{chains}
use Rattle.tables.proofs.Widths.{all-together}
use Rattle.tables.proofs.attributes_of.Goals as goal

pub returns : goal.returns
returns c =
    let e : c.fold.result ≡ fold bit_or 0 (take c.args.count c.args.masks.now) = search (rules, chains) in
    all-together c.args.masks.now c.args.count c.fold.result e
