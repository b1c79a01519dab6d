-- What the caller keeps from four, by what the code found.
use mathlib.Core.Path.{◌≡◌}
use mathlib.Core.List.{List}
use Prim.Native.Nat.{ℕ}
use lib.ListN.{get_or}
use Rattle.ranges.specs.Ranges.{last_of}
use Rattle.differing.specs.declared.Differences.{Differences}
use Rattle.differing.specs.Positions.{differences_of}
use Rattle.passing.specs.Walks.{last_in}
use Rattle.passing.specs.Differences.{differences_in}

pub differences_read : (words : List ℕ) (x : Differences) → x.first ≡ get_or words 0 0 → x.second ≡ get_or words 1 0 →
    last_of x.given ≡ last_in (get_or words 2 0) (get_or words 3 0) → differences_of x ≡ differences_in words
differences_read words x f s g = rw (f, s, g)
