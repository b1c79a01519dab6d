-- RULES 7.4, again and again: any mixing of front and back steps, over one listing.
use Rattle.std.specs.Prelude.{◌≡◌, List, [], ◌∷◌, ◌++◌}
use Rattle.std.proofs.Math.Option.{some}
use Rattle.trees.specs.Tree.{Entry}
use Rattle.trees.specs.Range.{Range, front, back, remains, keep, next, stepped}

-- The entries that a walk has still to give: those that remain (RULES 7.3).
abbrev pub remaining : Range → List Entry → List Entry
remaining w xs = keep (remains w) xs

-- From the range w on, front steps gave the entries fs, in this order, and back steps the entries
-- bs, the last of them first; the caller now keeps w'.
pub data Walked (xs : List Entry) (w : Range) : List Entry → List Entry → Range → Type 0 where
  no_step : Walked xs w [] [] w
  front_step : {fs bs : List Entry} {w' : Range} {e : Entry} → Walked xs w fs bs w' → next front w' xs ≡ some e →
      Walked xs w (fs ++ (e ∷ [])) bs (stepped front w' e)
  back_step : {fs bs : List Entry} {w' : Range} {e : Entry} → Walked xs w fs bs w' → next back w' xs ≡ some e →
      Walked xs w fs (e ∷ bs) (stepped back w' e)
