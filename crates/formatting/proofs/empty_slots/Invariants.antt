use Rattle.formatting.specs.Steps.{EmptyBelow}
use Rattle.formatting.proofs.empty_slots.Given as goal

abbrev pub invariant-loop-s : goal.invariant-loop-s
invariant-loop-s l = EmptyBelow l.s l.n l.initial.ws l.ws
