-- The ranges of `trees` (RULES 7.1), from those that the functions take.
use Rattle.std.specs.Prelude.{ℕ, Option, Some, None}
use Rattle.std.specs.declared.ops.Bound.{Bound}
use Rattle.std.specs.declared.ops.Bound.TheVariants.{Included, Excluded, Unbounded}
use Rattle.std.proofs.Math.Option as math
use Rattle.trees.specs.Range as range
use Rattle.ranges.specs.declared.Range.{Range}

abbrev pub bound_of : Bound ℕ → range.Bound
bound_of (Included k) = range.included k
bound_of (Excluded k) = range.excluded k
bound_of Unbounded = range.unbounded

abbrev pub last_of : Option ℕ → math.Option ℕ
last_of (Some k) = math.some k
last_of None = math.none

abbrev pub range_of : Range → range.Range
range_of w = record { start = bound_of w.start; end = bound_of w.end; given_front = last_of w.front; given_back = last_of w.back }
