use Rattle.soundness_laws.proofs.Packing.{room_kept}
use Rattle.soundness.proofs.Verdicts.{queue_whole, live_short, both_right}
use Rattle.soundness.proofs.test_on.Goals as goal

pub trees_right-requires : goal.trees_right-requires
trees_right-requires c = (queue_whole _ _ _ c.in_ok-live.ensures, search room_kept)

pub overflow_sub-free : goal.overflow_sub-free
overflow_sub-free c = live_short _ _ _ c.in_ok-live.ensures _ c.nodes_of.ensures

pub returns : goal.returns
returns c = both_right _ _ _ c.in_ok-live.ensures _ c.trees_right.ensures c.if-not-trees_right.false _ c.nodes_of.ensures
