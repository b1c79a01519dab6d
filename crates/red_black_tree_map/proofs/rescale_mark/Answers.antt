use Rattle.std.proofs.Common.{refl}
use Rattle.calls.specs.Call.{Answer}
use Rattle.red_black_tree_map.proofs.Tests.{unsound_passed}
use Rattle.red_black_tree_map.proofs.rescale_mark.Goals as goal

pub returns-in_err-tested : goal.returns-in_err-tested
returns-in_err-tested c = unsound_passed Answer.truth refl c.in_err-tested.ensures.err c.from_residual.result c.from_residual.ensures.1

pub rescale_mark-requires : goal.rescale_mark-requires
rescale_mark-requires c = c.in_ok-tested.ensures.ok.0
