use Rattle.arena.specs.Nodes.{entry_of}
use Rattle.writing.proofs.Editing.{insert_scratch, insert_held, parent_small, insert_planned, insert_edits}
use Rattle.writing.proofs.insert_into.Goals as goal

pub insert-t-requires : goal.insert-t-requires
insert-t-requires c = record { room = insert_scratch c.requires.parents; held = insert_held c.requires.parents _ }

pub size_with-size-requires : goal.size_with-size-requires
size_with-size-requires c = search parent_small

pub commit_to-requires : goal.commit_to-requires
commit_to-requires c = insert_planned (entry_of c.args.e) c.requires.parents c.insert-t.ensures.turns (insert_scratch c.requires.parents) c.requires.has_free

pub returns : goal.returns
returns c = insert_edits (entry_of c.args.e) c.requires.parents c.insert-t.ensures.turns c.insert-t.ensures.news c.size_with-size.ensures c.commit_to.ensures
