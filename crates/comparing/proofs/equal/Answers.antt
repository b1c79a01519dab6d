use Rattle.std.proofs.Common.{refl, [], ◌∷◌}
use native.Mathlib.Omega.{arith}
use Rattle.calls.specs.Call.{Answer}
use Rattle.answers.proofs.Entries.{named-first, named_second, version_passed, rooted}
use Rattle.comparing.proofs.Answering.{equal_told}
use Rattle.comparing.proofs.equal.Goals as goal

pub returns-in_err-i : goal.returns-in_err-i
returns-in_err-i c =
    version_passed Answer.truth c.requires refl (named-first c.args.s (c.args.t ∷ [])) c.in_err-i.ensures c.from_residual.result c.from_residual.ensures.1

pub returns-in_err-j : goal.returns-in_err-j
returns-in_err-j c =
    version_passed Answer.truth c.requires refl (named_second c.args.s c.args.t) c.in_err-j.ensures c.from_residual-in_err-j.result c.from_residual-in_err-j.ensures.1

pub compare_roots-requires : goal.compare_roots-requires
compare_roots-requires c =
    record { rooted = rooted c.requires c.enter.ensures c.in_ok-i.was; rooted_other = rooted c.requires c.enter-2.ensures c.in_ok-j.was }

pub returns : goal.returns
returns c = equal_told c.requires c.enter.ensures c.in_ok-i.was c.enter-2.ensures c.in_ok-j.was c.compare_roots.ensures _ (grind arith)
