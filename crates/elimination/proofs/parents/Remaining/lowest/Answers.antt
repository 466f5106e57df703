use Rattle.std.proofs.Common.{rules, tests, arith, ap, ◌∙◌, take, unwrap_or}
use Rattle.std.proofs.lemmas.Iterator.{YieldsList-from_slice}
use Rattle.std.proofs.lemmas.Iterator.Search.{position_from_yields_List}
use Rattle.elimination.proofs.Hanging.{lowest_is}
use Rattle.elimination.proofs.parents.Remaining.lowest.Goals as goal

pub returns : goal.returns
returns c =
    let s = c.args.self.now in
    let p = position_from_yields_List (λ b. b) _ _ c.position.result c.position.ensures.ran (YieldsList-from_slice (take s.count s.flags) (cc)) (λ x b q k. search (rules, tests)) in
    c.unwrap_or.ensures ∙ ap (λ o. unwrap_or o 0) p ∙ lowest_is s.flags s.count (omega arith)
