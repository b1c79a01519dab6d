use Rattle.std.proofs.Common.{refl}
use Rattle.calls.specs.Call.{Answer}
use Rattle.arena.specs.Nodes.{entry_of}
use Rattle.red_black_tree_map.proofs.Tests.{unsound_passed}
use Rattle.red_black_tree_map.proofs.step_back.Goals as goal

pub returns-in_err-tested : goal.returns-in_err-tested
returns-in_err-tested c = unsound_passed (λ e. Answer.entry (entry_of e)) refl c.in_err-tested.ensures.err c.from_residual.result c.from_residual.ensures.1

pub step-requires : goal.step-requires
step-requires c = c.in_ok-tested.ensures.ok.0
