use Rattle.answers.proofs.Entries.{held_inside}
use Rattle.versions.proofs.Opening.{open_full, open_refused, open_at}
use Rattle.versions.proofs.open.Goals as goal

pub returns-in_err-root : goal.returns-in_err-root
returns-in_err-root c = search (open_refused, c.in_err-root.was)

pub returns-in_err-out : goal.returns-in_err-out
returns-in_err-out c = search (open_full, c.in_ok-root.was, c.in_err-out.was)

pub slot_size-size-requires : goal.slot_size-size-requires
slot_size-size-requires c = search (held_inside, c.in_ok-root.was)

pub returns : goal.returns
returns c = search (open_at, c.in_ok-root.was, c.in_ok-out.was)
