use mathlib.Core.Path.{refl}
use Rattle.versions.proofs.Opening.{opened_refused}
use Rattle.writing.proofs.Outcomes.{opened_small, insert_no_room, insert_told}
use Rattle.writing.proofs.Taking.{edit_few, edit_free}
use Rattle.writing.proofs.insert.Goals as goal

pub returns-in_err-p-clause-outcome : goal.returns-in_err-p-clause-outcome
returns-in_err-p-clause-outcome c = opened_refused c.requires.sound c.«open».ensures _ refl refl c.in_err-p.was c.from_residual.ensures.1

pub insert_reserve-requires : goal.insert_reserve-requires
insert_reserve-requires c = search (opened_small, c.in_ok-p.ensures.is)

pub returns-then-free-insert_reserve-clause-outcome : goal.returns-then-free-insert_reserve-clause-outcome
returns-then-free-insert_reserve-clause-outcome c = search (insert_no_room, c.in_ok-p.ensures.is)

pub overflow_sub-free : goal.overflow_sub-free
overflow_sub-free c = search (edit_few, c.in_ok-p.ensures.is)

pub returns : goal.returns
returns c = record { outcome = search (insert_told, c.in_ok-p.ensures.is); free_after = search (edit_free, c.in_ok-p.ensures.is) }
