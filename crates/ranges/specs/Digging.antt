-- RULES 7.8, the descents of a walk, by the end from which they are seen.
use Rattle.std.specs.Prelude.{ℕ, Bool}
use Rattle.std.proofs.Math.Option as math
use Rattle.trees.specs.Tree as trees
use Rattle.trees.specs.Range.{Range, after_front, before_back}
use Rattle.trees.specs.Lookup.{least, greatest}
use Rattle.lookup.specs.declared.End.{End}
use Rattle.lookup.specs.declared.End.TheVariants.{Front, Back}

-- The side of RULES 7.3 that bounds that end.
abbrev pub admits : End → Range → ℕ → Bool
admits Front = after_front
admits Back = before_back

-- What the descent notes last, on the way to that end.
abbrev pub dug : End → Range → trees.Tree → math.Option trees.Entry
dug Front w = least (after_front w)
dug Back w = greatest (before_back w)
