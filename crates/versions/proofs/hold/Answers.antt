use mathlib.Core.Path.{refl}
use Rattle.versions.proofs.Opening.{opened_refused, parents}
use Rattle.versions.proofs.Handing.{hold_told, share_free}
use Rattle.versions.proofs.hold.Goals as goal

pub returns-in_err-p-clause-outcome : goal.returns-in_err-p-clause-outcome
returns-in_err-p-clause-outcome c = opened_refused c.requires.sound c.«open».ensures _ refl refl c.in_err-p.was c.from_residual.ensures.1

pub share-requires : goal.share-requires
share-requires c = search (parents, c.in_ok-p.ensures.is)

pub returns : goal.returns
returns c = record { outcome = search (hold_told, c.in_ok-p.ensures.is); free_after = search (share_free, parents, c.in_ok-p.ensures.is) }
