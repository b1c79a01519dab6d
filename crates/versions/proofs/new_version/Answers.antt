use Rattle.versions.proofs.FreeNumbers.{slotted_free}
use Rattle.versions.proofs.Handing.{new_refused, new_inside, new_told}
use Rattle.versions.proofs.new_version.Goals as goal

pub returns-in_err-q-clause-outcome : goal.returns-in_err-q-clause-outcome
returns-in_err-q-clause-outcome c = search (new_refused, c.in_err-q.was)

pub put_slot-requires : goal.put_slot-requires
put_slot-requires c = search (new_inside, c.in_ok-q.was)

pub returns : goal.returns
returns c = record { outcome = search (new_told, c.in_ok-q.was); free_after = search slotted_free }
