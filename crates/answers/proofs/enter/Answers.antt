use Rattle.answers.proofs.Entries.{header_inside, slot_inside, enter_outside, enter_free, enter_held}
use Rattle.answers.proofs.enter.Goals as goal

pub slots_of-requires : goal.slots_of-requires
slots_of-requires c = search header_inside

pub returns-then-slots_of-s : goal.returns-then-slots_of-s
returns-then-slots_of-s c = search enter_outside

pub nodes_of-requires : goal.nodes_of-requires
nodes_of-requires c = search header_inside

pub slot_root-i-requires : goal.slot_root-i-requires
slot_root-i-requires c = search slot_inside

pub returns-then-i : goal.returns-then-i
returns-then-i c = search enter_free

pub returns : goal.returns
returns c = search enter_held
