-- The four pairs of bounds that can make a bad range.
use mathlib.Core.Path.{◌≡◌}
use Prim.Native.Nat.{ℕ}
use lib.Dec.{ltb, leb}
use Rattle.trees.specs.Range.{is_bad_range}
use Rattle.std.specs.declared.ops.Bound.{Bound}
use Rattle.std.specs.declared.ops.Bound.TheVariants.{Included, Excluded}
use Rattle.ranges.specs.Ranges.{bound_of}

module _ {p q : Bound ℕ} {a b : ℕ} where
  pub from_above : p ≡ Included a → q ≡ Included b → ltb b a ≡ is_bad_range (bound_of p) (bound_of q)
  from_above y z = rw (y, z)

  pub from_excluded : p ≡ Included a → q ≡ Excluded b → ltb b a ≡ is_bad_range (bound_of p) (bound_of q)
  from_excluded y z = rw (y, z)

  pub after_above : p ≡ Excluded a → q ≡ Included b → ltb b a ≡ is_bad_range (bound_of p) (bound_of q)
  after_above y z = rw (y, z)

  pub after_excluded : p ≡ Excluded a → q ≡ Excluded b → leb b a ≡ is_bad_range (bound_of p) (bound_of q)
  after_excluded y z = rw (y, z)
