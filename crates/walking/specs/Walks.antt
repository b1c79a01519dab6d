-- The walk of RULES 7.1, from the walk that a function is given.
use Rattle.std.specs.Prelude.{ℕ}
use Rattle.std.proofs.Math.Option.{Option, none}
use Rattle.trees.specs.Range.{unbounded}
use Rattle.ranges.specs.Ranges.{range_of}
use Rattle.calls.specs.Call as call
use Rattle.walking.specs.declared.Walk.{Walk}

abbrev pub walk_of : Walk → call.Walk
walk_of w = record { slot = w.slot; range = range_of w.range }

-- RULES 9.12: "front steps over S, unbounded": the walk that has given the entries up to a last
-- key, if any.
abbrev pub walk_from : ℕ → Option ℕ → call.Walk
walk_from s last = record { slot = s; range = record { start = unbounded; end = unbounded; given_front = last; given_back = none } }
