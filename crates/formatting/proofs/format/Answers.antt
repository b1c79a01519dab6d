use Rattle.formatting.proofs.Whole.{format_refused, header_inside, nodes_inside, none_free, slots_inside, format_done}
use Rattle.formatting.proofs.format.Goals as goal

pub returns-then-not-fits : goal.returns-then-not-fits
returns-then-not-fits c = search format_refused

pub write_header-requires : goal.write_header-requires
write_header-requires c = search header_inside

pub free_nodes-requires : goal.free_nodes-requires
free_nodes-requires c = search (nodes_inside, none_free)

pub empty_slots-requires : goal.empty_slots-requires
empty_slots-requires c = search slots_inside

pub returns : goal.returns
returns c = search format_done
