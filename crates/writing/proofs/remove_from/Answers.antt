use Rattle.writing.proofs.Editing.{remove_scratch, remove_held, remove_some, remove_planned, remove_edits}
use Rattle.writing.proofs.remove_from.Goals as goal

pub remove-link-requires : goal.remove-link-requires
remove-link-requires c = record { room = remove_scratch c.requires.parents; red_black = remove_held c.requires.parents _ }

pub overflow_sub-p : goal.overflow_sub-p
overflow_sub-p c = search remove_some

pub commit_to-requires : goal.commit_to-requires
commit_to-requires c = search (remove_planned, remove_scratch)

pub returns : goal.returns
returns c = search remove_edits
