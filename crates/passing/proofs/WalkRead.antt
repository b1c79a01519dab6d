-- What the nine words of a walk say, by the tests that the code makes.
use mathlib.Core.Path.{◌≡◌, refl}
use mathlib.Core.List.{List}
use Prim.Native.Nat.{ℕ}
use lib.ListN.{get_or}
use borrow.Author.Tests.{eq-eqb, ne_eqb}
use Rattle.std.specs.Prelude.{Some, None}
use Rattle.ranges.specs.Ranges.{bound_of, last_of}
use Rattle.walking.specs.declared.Walk.{Walk}
use Rattle.walking.specs.Walks.{walk_of}
use Rattle.passing.specs.Walks.{bound_in, last_in, walk_in}

module _ (given key : ℕ) where
  pub last_none : given ≡ 0 → last_of None ≡ last_in given key
  last_none e = rw (eq-eqb given 0 e) refl

  pub last_given : (given ≡ 0 → ⊥) → last_of (Some key) ≡ last_in given key
  last_given d = rw (ne_eqb given 0 d) refl

pub walk_read : (words : List ℕ) (w : Walk) → w.slot ≡ get_or words 0 0 → bound_of w.range.start ≡ bound_in (get_or words 1 0) (get_or words 2 0) →
    bound_of w.range.end ≡ bound_in (get_or words 3 0) (get_or words 4 0) → last_of w.range.front ≡ last_in (get_or words 5 0) (get_or words 6 0) →
    last_of w.range.back ≡ last_in (get_or words 7 0) (get_or words 8 0) → walk_of w ≡ walk_in words
walk_read words w s a b f g = rw s (rw a (rw b (rw f (rw g refl))))
