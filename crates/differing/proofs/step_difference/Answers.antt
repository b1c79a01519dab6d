use Rattle.std.proofs.Common.{refl, [], ◌∷◌}
use Rattle.calls.specs.Call.{Answer}
use Rattle.answers.specs.Answers.{difference_of}
use Rattle.answers.proofs.Entries.{named-first, named_second, version_passed}
use Rattle.differing.proofs.Answering.{entered_ordered, difference_told}
use Rattle.differing.proofs.step_difference.Goals as goal

pub returns-in_err-i : goal.returns-in_err-i
returns-in_err-i c =
    version_passed (λ d. Answer.difference (difference_of d)) c.requires refl (named-first c.args.x.first (c.args.x.second ∷ [])) c.in_err-i.ensures c.from_residual.result c.from_residual.ensures.1

pub returns-in_err-j : goal.returns-in_err-j
returns-in_err-j c =
    version_passed (λ d. Answer.difference (difference_of d)) c.requires refl (named_second c.args.x.first c.args.x.second) c.in_err-j.ensures c.from_residual-in_err-j.result c.from_residual-in_err-j.ensures.1

pub next_difference-requires : goal.next_difference-requires
next_difference-requires c =
    record { ordered = entered_ordered c.requires c.enter.ensures c.in_ok-i.was; ordered_other = entered_ordered c.requires c.enter-2.ensures c.in_ok-j.was }

pub returns : goal.returns
returns c = difference_told c.args.x c.requires c.enter.ensures c.in_ok-i.was c.enter-2.ensures c.in_ok-j.was c.next_difference.ensures
