use Rattle.std.proofs.Common.{[], ◌∷◌, refl, arith}
use Rattle.calls.specs.Call.{Answer}
use Rattle.arena.specs.Nodes.{entry_of}
use Rattle.passing.proofs.AnswersPassed.{passed, two_words}
use Rattle.passing.proofs.pass_entry.Goals as goal

pub returns : goal.returns
returns c =
    passed (λ e. Answer.entry (entry_of e)) (λ e. e.key ∷ (e.value ∷ [])) (λ x. refl) (λ x. two_words c.args.out.now x.key x.value (omega arith)) c.args.a c.map.result
    c.map.ensures.cases c.pass.ensures.ok c.pass.ensures.err
