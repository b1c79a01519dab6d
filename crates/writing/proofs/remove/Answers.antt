use mathlib.Core.Path.{refl}
use Rattle.versions.proofs.Opening.{opened_refused, parents}
use Rattle.versions.proofs.Handing.{share_free}
use Rattle.writing.proofs.Outcomes.{opened_rooted, opened_small, found_present, remove_absent, remove_no_room, remove_told}
use Rattle.writing.proofs.Taking.{edit_few, edit_free}
use Rattle.writing.proofs.remove.Goals as goal

pub returns-in_err-p-clause-outcome : goal.returns-in_err-p-clause-outcome
returns-in_err-p-clause-outcome c = opened_refused c.requires.sound c.«open».ensures _ refl refl c.in_err-p.was c.from_residual.ensures.1

pub get-requires : goal.get-requires
get-requires c = search (opened_rooted, c.in_ok-p.ensures.is)

pub returns-then-is_none : goal.returns-then-is_none
returns-then-is_none c = record { outcome = search (remove_absent, c.in_ok-p.ensures.is); free_after = search (share_free, parents, c.in_ok-p.ensures.is) }

pub remove_reserve-requires : goal.remove_reserve-requires
remove_reserve-requires c = search (opened_small, c.in_ok-p.ensures.is)

pub returns-then-free-remove_reserve-clause-outcome : goal.returns-then-free-remove_reserve-clause-outcome
returns-then-free-remove_reserve-clause-outcome c = search (remove_no_room, c.in_ok-p.ensures.is)

pub remove_from-requires-clause-present : goal.remove_from-requires-clause-present
remove_from-requires-clause-present c = search (found_present, c.in_ok-p.ensures.is)

pub overflow_sub-free : goal.overflow_sub-free
overflow_sub-free c = search (edit_few, c.in_ok-p.ensures.is)

pub returns : goal.returns
returns c = record { outcome = search (remove_told, c.in_ok-p.ensures.is); free_after = search (edit_free, c.in_ok-p.ensures.is) }
