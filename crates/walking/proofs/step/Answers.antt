use Rattle.std.proofs.Common.{refl, []}
use Rattle.calls.specs.Call.{Answer}
use Rattle.arena.specs.Nodes.{entry_of}
use Rattle.answers.proofs.Entries.{named-first, version_passed, rooted}
use Rattle.walking.proofs.Steps.{step_bad, step_told}
use Rattle.walking.proofs.step.Goals as goal

pub returns-in_err-i : goal.returns-in_err-i
returns-in_err-i c =
    version_passed (λ e. Answer.entry (entry_of e)) c.requires refl (named-first c.args.w.slot []) c.in_err-i.ensures c.from_residual.result c.from_residual.ensures.1

pub returns-then-is_bad_range : goal.returns-then-is_bad_range
returns-then-is_bad_range c = step_bad c.args.w c.requires c.enter.ensures c.in_ok-i.was _ c.is_bad_range.ensures c.if-is_bad_range.true

pub step-requires : goal.step-requires
step-requires c = rooted c.requires c.enter.ensures c.in_ok-i.was

pub returns : goal.returns
returns c = step_told c.args.w c.requires c.enter.ensures c.in_ok-i.was _ c.is_bad_range.ensures c.if-is_bad_range.false c.step.ensures c.ok_or.ensures.value
