use Prim.Native.Nat.{◌-◌}
use Rattle.soundness_laws.proofs.Sparing.{Walk}
use Rattle.reaching.proofs.free_list_right.Given as goal

abbrev pub invariant-loop-gone : goal.invariant-loop-gone
invariant-loop-gone l = Walk l.ws l.k l.i (l.k - l._gone)
