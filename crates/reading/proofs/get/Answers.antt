use Rattle.std.proofs.Common.{refl, []}
use Rattle.calls.specs.Call.{Answer}
use Rattle.answers.proofs.Entries.{named-first, version_passed, rooted}
use Rattle.reading.proofs.Answering.{get_value, get_absent}
use Rattle.reading.proofs.get.Goals as goal

pub returns-in_err-i : goal.returns-in_err-i
returns-in_err-i c = version_passed Answer.value c.requires refl (named-first c.args.s []) c.in_err-i.ensures c.from_residual.result c.from_residual.ensures.1

pub get-requires : goal.get-requires
get-requires c = rooted c.requires c.enter.ensures c.in_ok-i.was

pub returns-in_default : goal.returns-in_default
returns-in_default c = get_absent c.requires c.enter.ensures c.in_ok-i.was c.get.ensures c.in_default.is

pub returns : goal.returns
returns c = get_value c.requires c.enter.ensures c.in_ok-i.was c.get.ensures c.in-Some.is
