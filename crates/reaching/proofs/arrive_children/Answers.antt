use Rattle.soundness_laws.proofs.Heading.{front_inside, front_no_left, front_asks_right, front_arrived}
use Rattle.reaching.proofs.arrive_children.Goals as goal

pub left_of-left-requires : goal.left_of-left-requires
left_of-left-requires c = search front_inside

pub right_of-right-requires : goal.right_of-right-requires
right_of-right-requires c = search front_inside

pub returns-in_err-t : goal.returns-in_err-t
returns-in_err-t c = search (front_no_left, c.from_residual.ensures, c.in_err-t.ensures)

pub arrive-requires-2 : goal.arrive-requires-2
arrive-requires-2 c = search (front_asks_right, c.in_ok-t.ensures)

pub returns : goal.returns
returns c = search (front_arrived, c.in_ok-t.ensures)
