-- Each way in which `side` returns.
use mathlib.Core.Path.{◌≡◌}
use Prim.Native.Nat.{ℕ, ◌≤◌, ◌<◌}
use lib.Dec.{ltb}
use borrow.Author.Tests.{lt-ltb, le-ltb}
use Rattle.std.specs.Prelude.{if◌then◌else◌}

module _ {k e : ℕ} (l r : ℕ) where
  pub side_left : k < e → l ≡ (if ltb k e then l else r)
  side_left h = rw (lt-ltb k e h)

  pub side_right : e ≤ k → r ≡ (if ltb k e then l else r)
  side_right h = rw (le-ltb k e h)
