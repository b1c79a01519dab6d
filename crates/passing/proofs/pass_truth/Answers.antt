use Rattle.std.proofs.Common.{[], ◌∷◌, refl, arith}
use Rattle.calls.specs.Call.{Answer}
use Rattle.passing.specs.Results.{truth_word}
use Rattle.passing.proofs.AnswersPassed.{passed, one_word}
use Rattle.passing.proofs.pass_truth.Goals as goal

pub returns : goal.returns
returns c =
    passed Answer.truth (λ x. truth_word x ∷ []) (λ x. refl) (λ x. one_word c.args.out.now (truth_word x) (omega arith)) c.args.a c.map.result c.map.ensures.cases
    c.pass.ensures.ok c.pass.ensures.err
