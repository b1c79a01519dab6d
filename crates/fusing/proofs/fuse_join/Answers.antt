use Rattle.fusing.proofs.Joining.{join_between, join_red, join_leans, join_black}
use Rattle.fusing.proofs.fuse_join.Goals as goal

pub returns-in-Some : goal.returns-in-Some
returns-in-Some c = join_between c.requires.ends c.in-Some.ensures c.push-left.ensures c.push-right.ensures c.push.ensures

pub returns-in-Red : goal.returns-in-Red
returns-in-Red c = join_red c.requires.ends c.in_default.ensures c.push-right-2.ensures c.in-Red.is c.push-in-Red.ensures

pub remove_balance_left_node-requires-clause-leans : goal.remove_balance_left_node-requires-clause-leans
remove_balance_left_node-requires-clause-leans c = join_leans c.requires.ends c.in_default.ensures c.push-right-2.ensures c.in-Black.is

pub returns-in-Black : goal.returns-in-Black
returns-in-Black c = join_black c.requires.ends c.in_default.ensures c.push-right-2.ensures c.in-Black.is c.remove_balance_left_node.ensures
