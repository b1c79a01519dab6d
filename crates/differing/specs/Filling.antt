-- What a version lists above the last key given, on a stack.
use Rattle.std.specs.Prelude.{◌≡◌, List, ◌++◌, ℕ, ◌<◌, length}
use Rattle.std.proofs.Math.Option.{Option}
use Rattle.trees.specs.Tree.{Entry}
use Rattle.trees.specs.Listing.{Ascending}
use Rattle.trees.specs.Range.{keep}
use Rattle.trees.specs.Difference.{beyond}
use Rattle.words.specs.Layout.{max_height}
use Rattle.abreast.specs.declared.Side.{Side}
use Rattle.abreast.specs.Sides.{listed, waiting, ahead, Stands}

-- What of a listing is above the last key.
abbrev pub rest : Option ℕ → List Entry → List Entry
rest o xs = keep (λ e. beyond o e.key) xs

-- A side whose link is in order.
pub record Descends (ws : List ℕ) (s : Side) : Type 0 where
  pub stands : Stands ws s
  pub ordered : Ascending (listed max_height ws s.link)

-- A round of the descent passes only entries that are not above the last key, and the link has
-- fewer left.
pub record Turns (ws : List ℕ) (o : Option ℕ) (s t : Side) : Type 0 where
  pub descends : Descends ws t
  pub keeps : rest o (listed max_height ws s.link) ++ waiting ws s.stack s.depth ≡ rest o (listed max_height ws t.link) ++ waiting ws t.stack t.depth
  pub shorter : length (listed max_height ws t.link) < length (listed max_height ws s.link)

-- The side has ahead what of the link i is above the last key.
pub record Fills (ws : List ℕ) (o : Option ℕ) (i : ℕ) (s : Side) : Type 0 where
  pub at_end : s.link ≡ 0
  pub stands : Stands ws s
  pub ahead_is : ahead ws s ≡ rest o (listed max_height ws i)
