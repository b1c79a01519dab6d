use Rattle.rebalancing.proofs.Sibling.{red_left, black_right, turns_left}
use Rattle.rebalancing.proofs.remove_balance_left_node.Goals as goal

pub returns-then-is_some : goal.returns-then-is_some
returns-then-is_some c = red_left c.colored.ensures c.if-is_some.ensures c.paint-left.ensures c.push.ensures

pub returns-in_default : goal.returns-in_default
returns-in_default c = black_right c.colored.ensures c.if-is_some.ensures c.requires.leans c.in_default.ensures c.paint-right.ensures c.remove_balance_node.ensures

pub returns : goal.returns
returns c = turns_left c.colored.ensures c.if-is_some.ensures c.requires.leans c.in-Some.ensures c.turn_left.ensures
