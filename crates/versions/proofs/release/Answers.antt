use Rattle.versions.proofs.Handing.{release_holds, release_refused, release_told, release_fits, release_free}
use Rattle.versions.proofs.release.Goals as goal

pub returns-in_err-root-clause-outcome : goal.returns-in_err-root-clause-outcome
returns-in_err-root-clause-outcome c = search (release_refused, c.in_err-root.was)

pub release-requires : goal.release-requires
release-requires c = search (release_holds, c.in_ok-root.was)

pub overflow_add-free : goal.overflow_add-free
overflow_add-free c = search (release_fits, c.in_ok-root.was)

pub returns : goal.returns
returns c = record { outcome = search (release_told, c.in_ok-root.was); free_after = search (release_free, c.in_ok-root.was) }
