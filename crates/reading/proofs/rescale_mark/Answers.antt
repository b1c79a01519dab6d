use Rattle.std.proofs.Common.{refl, []}
use Rattle.calls.specs.Call.{Answer}
use Rattle.answers.proofs.Entries.{named-first, version_passed, rooted}
use Rattle.reading.proofs.Answering.{mark_told}
use Rattle.reading.proofs.rescale_mark.Goals as goal

pub returns-in_err-i : goal.returns-in_err-i
returns-in_err-i c = version_passed Answer.truth c.requires refl (named-first c.args.s []) c.in_err-i.ensures c.from_residual.result c.from_residual.ensures.1

pub get-requires : goal.get-requires
get-requires c = rooted c.requires c.enter.ensures c.in_ok-i.was

pub returns : goal.returns
returns c = rw c.is_some.ensures (mark_told c.requires c.enter.ensures c.in_ok-i.was c.get.ensures)
