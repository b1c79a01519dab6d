use Rattle.std.proofs.Common.{arith, rules, tests}
use Rattle.std.proofs.lemmas.Iterator.{first_from_Range}
use Rattle.versions.proofs.Opening.{Unheld, lowest_found}
use Rattle.versions.proofs.lowest_slot.Goals as goal

pub returns : goal.returns
returns c =
    let Free = Unheld c.args.ws.now c.nodes_of-n.result in
    lowest_found c.nodes_of-n.ensures c.slots_of.ensures _
    (first_from_Range _ _ _ _ Free (λ q. Free q → ⊥) c.find.ensures.ran
    (λ q f k. grind (arith, tests))
    (λ q f k. (search rules, grind (arith, tests))))
