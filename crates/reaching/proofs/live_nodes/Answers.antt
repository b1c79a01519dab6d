use Rattle.soundness_laws.proofs.Telling.{live_short, live_no, live_all}
use Rattle.reaching.proofs.live_nodes.Goals as goal

pub overflow_sub-rest : goal.overflow_sub-rest
overflow_sub-rest c = search (live_short, c.in_ok-tail.ensures)

pub returns-then-not-free_list_right : goal.returns-then-not-free_list_right
returns-then-not-free_list_right c = search (live_no, c.in_ok-tail.ensures)

pub returns : goal.returns
returns c = search (live_all, c.in_ok-tail.ensures)
