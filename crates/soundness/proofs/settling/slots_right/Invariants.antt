use Rattle.soundness_laws.proofs.Versions.{SlotsTo}
use Rattle.soundness.proofs.settling.slots_right.Given as goal

abbrev pub invariant-loop-s : goal.invariant-loop-s
invariant-loop-s l = SlotsTo l.ws l.s-end l.s
