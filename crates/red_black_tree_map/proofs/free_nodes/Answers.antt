use Rattle.std.proofs.Common.{refl, rules}
use Rattle.std.specs.Prelude.{Ok}
use Rattle.calls.specs.Call.{Answer}
use Rattle.red_black_tree_map.proofs.Tests.{free_told, unsound_passed}
use Rattle.red_black_tree_map.proofs.free_nodes.Goals as goal

pub returns-in_err-free : goal.returns-in_err-free
returns-in_err-free c = unsound_passed Answer.number refl c.in_err-free.ensures.err c.from_residual.result c.from_residual.ensures.1

pub returns : goal.returns
returns c = free_told (Ok c.in_ok-free.free) c.in_ok-free.ensures.ok (search rules)
