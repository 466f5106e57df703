use mathlib.Core.Path.{◌≡◌, ◌∙◌}
use native.Mathlib.Omega.{arith}
use lib.Dec.{eqb}
use lib.ListN.{take}
use Rattle.std.proofs.Common.{rules, count_by, Some}
use Rattle.std.specs.Option.{option_eq}
use Rattle.elimination.proofs.Written.{children_counted}
use Rattle.elimination.proofs.writing.Hung.children.Goals as goal

pub returns : goal.returns
returns c = let h = c.args.self.now in
    let e : c.count.result ≡ count_by (λ p. option_eq eqb p (Some c.args.t)) (take h.count h.parents.now) = search rules in
    e ∙ children_counted h.parents.now c.args.t h.count (omega arith)
