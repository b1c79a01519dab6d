use Rattle.std.proofs.Common.{refl}
use Rattle.calls.specs.Call.{Answer}
use Rattle.answers.specs.Answers.{sign_of}
use Rattle.red_black_tree_map.proofs.Tests.{unsound_passed}
use Rattle.red_black_tree_map.proofs.compare.Goals as goal

pub returns-in_err-tested : goal.returns-in_err-tested
returns-in_err-tested c = unsound_passed (λ d. Answer.sign (sign_of d)) refl c.in_err-tested.ensures.err c.from_residual.result c.from_residual.ensures.1

pub compare-requires : goal.compare-requires
compare-requires c = c.in_ok-tested.ensures.ok.0
