use Rattle.writing.proofs.Committing.{commit_header, commit_countable, commit_raisable, commit_buildable, commit_inside, commit_puts}
use Rattle.writing.proofs.commit_to.Goals as goal

pub nodes_of-n-requires : goal.nodes_of-n-requires
nodes_of-n-requires c = search commit_header

pub fresh_nodes-taken-requires : goal.fresh_nodes-taken-requires
fresh_nodes-taken-requires c = search commit_countable

pub count_up_kept-requires : goal.count_up_kept-requires
count_up_kept-requires c = search commit_raisable

pub build-root-requires : goal.build-root-requires
build-root-requires c = search commit_buildable

pub put_slot-requires : goal.put_slot-requires
put_slot-requires c = commit_inside c.requires c.nodes_of-n.ensures c.count_up_kept.ensures c.build-root.ensures

pub returns : goal.returns
returns c = commit_puts c.requires c.nodes_of-n.ensures c.count_up_kept.ensures c.build-root.ensures c.fresh_nodes-taken.ensures c.put_slot.ensures
