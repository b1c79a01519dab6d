use Rattle.std.proofs.Common.{refl, []}
use Rattle.calls.specs.Call.{Answer}
use Rattle.answers.proofs.Entries.{named-first, version_passed}
use Rattle.reading.proofs.Answering.{size_told}
use Rattle.reading.proofs.size.Goals as goal

pub returns-in_err-enter : goal.returns-in_err-enter
returns-in_err-enter c = version_passed Answer.number c.requires refl (named-first c.args.s []) c.in_err-enter.ensures c.from_residual.result c.from_residual.ensures.1

pub returns : goal.returns
returns c = search (size_told c.requires c.enter.ensures c.in_ok-enter.was c.nodes_of.ensures)
