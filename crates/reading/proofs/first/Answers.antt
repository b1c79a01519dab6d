use Rattle.std.proofs.Common.{refl, []}
use Rattle.calls.specs.Call.{Answer}
use Rattle.arena.specs.Nodes.{entry_of}
use Rattle.answers.proofs.Entries.{named-first, version_passed}
use Rattle.reading.proofs.first.Goals as goal

pub returns-in_err-i : goal.returns-in_err-i
returns-in_err-i c = version_passed (λ e. Answer.entry (entry_of e)) c.requires refl (named-first c.args.s []) c.in_err-i.ensures c.from_residual.result c.from_residual.ensures.1
