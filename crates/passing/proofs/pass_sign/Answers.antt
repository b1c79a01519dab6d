use Rattle.std.proofs.Common.{[], ◌∷◌, refl, arith}
use Rattle.calls.specs.Call.{Answer}
use Rattle.answers.specs.Answers.{sign_of}
use Rattle.passing.specs.Results.{sign_word}
use Rattle.passing.proofs.AnswersPassed.{passed, one_word}
use Rattle.passing.proofs.pass_sign.Goals as goal

pub returns : goal.returns
returns c =
    passed (λ d. Answer.sign (sign_of d)) (λ x. sign_word (sign_of x) ∷ []) (λ x. refl) (λ x. one_word c.args.out.now (sign_word (sign_of x)) (omega arith)) c.args.a c.map.result c.map.ensures.cases
    c.pass.ensures.ok c.pass.ensures.err
