use Rattle.std.proofs.Common.{refl}
use Rattle.calls.specs.Call.{Answer}
use Rattle.red_black_tree_map.proofs.Tests.{unsound_passed, tested_free}
use Rattle.red_black_tree_map.proofs.hold.Goals as goal

pub returns-in_err-free : goal.returns-in_err-free
returns-in_err-free c = unsound_passed Answer.slot refl c.in_err-free.ensures.err c.from_residual.result c.from_residual.ensures.1

pub hold-requires : goal.hold-requires
hold-requires c = record { sound = c.in_ok-free.ensures.ok.0; free_is = tested_free c.in_ok-free.ensures.ok }
