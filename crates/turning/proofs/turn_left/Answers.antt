use Rattle.plan.proofs.Growing.{some_kept}
use Rattle.turning.proofs.Turned.{shown, left_turn}
use Rattle.turning.proofs.turn_left.Goals as goal

pub remove_balance_node-right-requires-clause-some : goal.remove_balance_node-right-requires-clause-some
remove_balance_node-right-requires-clause-some c = some_kept c.paint-outer.ensures.grown (shown c.look.result c.look.ensures c.unwrap_or-m.ensures).right

pub returns : goal.returns
returns c =
    left_turn
    c.requires.looks
    (shown c.look.result c.look.ensures c.unwrap_or-m.ensures)
    c.paint-outer.ensures
    c.remove_balance_node-right.ensures
    c.push-left.ensures
    c.push.ensures
