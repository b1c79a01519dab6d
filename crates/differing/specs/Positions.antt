-- What the caller keeps of an audit (RULES 8.9), from what a function is given.
use Rattle.ranges.specs.Ranges.{last_of}
use Rattle.calls.specs.Call as call
use Rattle.differing.specs.declared.Differences.{Differences}

abbrev pub differences_of : Differences → call.Differences
differences_of x = record { first = x.first; second = x.second; given = last_of x.given }
