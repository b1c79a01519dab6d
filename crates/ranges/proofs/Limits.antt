-- The small tests: each arm of a match is what the definition says of its case.
use Rattle.std.proofs.Common.{◌≡◌, ℕ, List, Bool, true, false, ltb, leb, refl, sym, ap, ◌∙◌}
use Rattle.std.specs.Prelude.{Option, Some, None}
use Rattle.std.specs.declared.ops.Bound.{Bound}
use Rattle.std.specs.declared.ops.Bound.TheVariants.{Included, Excluded}
use Rattle.trees.specs.Tree as trees
use Rattle.trees.specs.Range as range
use Rattle.trees.specs.Range.{from_start, to_end}
use Rattle.trees.specs.Lookup.{within, step}
use Rattle.arena.specs.declared.Entry.{Entry}
use Rattle.lookup.specs.declared.End.{End}
use Rattle.lookup.specs.declared.End.TheVariants.{Front, Back}
use Rattle.lookup.specs.Ends.{end_of, opposite}
use Rattle.lookup.specs.Finding.{found_of, Finds}
use Rattle.ranges.specs.Ranges.{bound_of}
use Rattle.ranges.specs.Digging.{admits, dug}

module _ {b : Bound ℕ} (k : ℕ) where
  pub start_included : {a : ℕ} → b ≡ Included a → leb a k ≡ from_start (bound_of b) k
  start_included h = rw h

  pub start_excluded : {a : ℕ} → b ≡ Excluded a → ltb a k ≡ from_start (bound_of b) k
  start_excluded h = rw h

  pub end_included : {a : ℕ} → b ≡ Included a → leb k a ≡ to_end (bound_of b) k
  end_included h = rw h

  pub end_excluded : {a : ℕ} → b ≡ Excluded a → ltb k a ≡ to_end (bound_of b) k
  end_excluded h = rw h

-- A step is what the descent found, unless it has passed the other end.
step_within : (end : End) (w : range.Range) (t : trees.Tree) → within (admits (opposite end) w) (dug end w t) ≡ step (end_of end) w t
step_within Front w t = refl
step_within Back w t = refl

module _ {ws : List ℕ} {i : ℕ} {f : Option Entry} (end : End) (w : range.Range) (g : Finds ws i f (dug end w)) where
  stepped : (r : Option Entry) → found_of r ≡ within (admits (opposite end) w) (found_of f) → Finds ws i r (step (end_of end) w)
  stepped r e =
      record {
        says = λ n t q. e ∙ ap (within (admits (opposite end) w)) (g.says n t q) ∙ step_within end w t;
      }

  module _ {e : Entry} {b : Bool} {other : End} (is : f ≡ Some e) (o : other ≡ opposite end) (tested : b ≡ admits other w e.key) where
    pub step_yes : b ≡ true → Finds ws i (Some e) (step (end_of end) w)
    step_yes y = stepped (Some e) (rw (is, ← o, sym tested ∙ y))

    pub step_no : b ≡ false → Finds ws i None (step (end_of end) w)
    step_no y = stepped None (rw (is, ← o, sym tested ∙ y))
