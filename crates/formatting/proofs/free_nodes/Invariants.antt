use Rattle.formatting.specs.Steps.{FreeAbove}
use Rattle.formatting.proofs.free_nodes.Given as goal

abbrev pub invariant-loop-i : goal.invariant-loop-i
invariant-loop-i l = FreeAbove l.i l.n l.initial.ws l.ws
