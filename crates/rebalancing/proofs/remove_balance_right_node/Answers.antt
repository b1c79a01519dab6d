use Rattle.rebalancing.proofs.Sibling.{red_right, black_left, turns_right}
use Rattle.rebalancing.proofs.remove_balance_right_node.Goals as goal

pub returns-then-is_some : goal.returns-then-is_some
returns-then-is_some c = red_right c.colored.ensures c.if-is_some.ensures c.paint-right.ensures c.push.ensures

pub returns-in_default : goal.returns-in_default
returns-in_default c = black_left c.colored.ensures c.if-is_some.ensures c.requires.leans c.in_default.ensures c.paint-left.ensures c.remove_balance_node.ensures

pub returns : goal.returns
returns c = turns_right c.colored.ensures c.if-is_some.ensures c.requires.leans c.in-Some.ensures c.turn_right.ensures
