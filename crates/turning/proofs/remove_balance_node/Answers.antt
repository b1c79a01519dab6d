use Rattle.turning.proofs.Turned.{both_reds, not_left, not_right}
use Rattle.turning.proofs.remove_balance_node.Goals.{in_default-via-in-Some+in_default, in_default-via-in_default}
use Rattle.turning.proofs.remove_balance_node.Goals as goal

pub returns-in-Some-Some : goal.returns-in-Some-Some
returns-in-Some-Some c = search both_reds

pub returns-in_default : goal.returns-in_default
returns-in_default c = elim c.in_default.branch [ in_default-via-in-Some+in_default w ↦ search not_right | in_default-via-in_default w ↦ search not_left ]
