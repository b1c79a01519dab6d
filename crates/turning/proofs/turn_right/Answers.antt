use Rattle.plan.proofs.Growing.{some_kept}
use Rattle.turning.proofs.Turned.{shown, right_turn}
use Rattle.turning.proofs.turn_right.Goals as goal

pub remove_balance_node-left-requires-clause-some_right : goal.remove_balance_node-left-requires-clause-some_right
remove_balance_node-left-requires-clause-some_right c = some_kept c.paint-outer.ensures.grown (shown c.look.result c.look.ensures c.unwrap_or-m.ensures).left

pub returns : goal.returns
returns c =
    right_turn
    c.requires.looks
    (shown c.look.result c.look.ensures c.unwrap_or-m.ensures)
    c.paint-outer.ensures
    c.remove_balance_node-left.ensures
    c.push-right.ensures
    c.push.ensures
