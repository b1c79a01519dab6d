use Rattle.soundness_laws.proofs.Settling.{SettlingTo}
use Rattle.soundness.proofs.settling.settle_all.Given as goal

abbrev pub invariant-loop-k : goal.invariant-loop-k
invariant-loop-k l = SettlingTo l.ws l.queue l.tail l.initial.memo l.initial.ends l.k l.memo l.ends
