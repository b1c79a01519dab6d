use Rattle.std.proofs.Common.{[], ◌∷◌, refl, arith}
use Rattle.calls.specs.Call.{Answer}
use Rattle.passing.proofs.AnswersPassed.{passed, one_word}
use Rattle.passing.proofs.pass_number.Goals as goal

pub returns-clause-slot : goal.returns-clause-slot
returns-clause-slot c =
    passed Answer.slot (λ x. x ∷ []) (λ x. refl) (λ x. one_word c.args.out.now (x) (omega arith)) c.args.a c.map.result c.map.ensures.cases
    c.pass.ensures.ok c.pass.ensures.err

pub returns-clause-number : goal.returns-clause-number
returns-clause-number c =
    passed Answer.number (λ x. x ∷ []) (λ x. refl) (λ x. one_word c.args.out.now (x) (omega arith)) c.args.a c.map.result c.map.ensures.cases
    c.pass.ensures.ok c.pass.ensures.err

pub returns-clause-value : goal.returns-clause-value
returns-clause-value c =
    passed Answer.value (λ x. x ∷ []) (λ x. refl) (λ x. one_word c.args.out.now (x) (omega arith)) c.args.a c.map.result c.map.ensures.cases
    c.pass.ensures.ok c.pass.ensures.err
