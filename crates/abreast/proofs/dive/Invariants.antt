use Rattle.abreast.proofs.Diving.{Reaches, room}
use Rattle.abreast.proofs.dive.Given as goal

abbrev pub invariant-loop-one : goal.invariant-loop-one
invariant-loop-one l = Reaches l.ws l.initial.one l.one × Reaches l.ws l.initial.other l.other

abbrev pub decreases-loop-one : goal.decreases-loop-one
decreases-loop-one l = room l.one l.other
