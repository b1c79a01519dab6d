-- RULES 7: walks over a range with two ends, as steps over a listing.
use Rattle.std.specs.Prelude.{ℕ, Bool, true, false, ◌&&◌, List, [], ◌∷◌, ltb, leb, if◌then◌else◌}
use Rattle.std.proofs.Math.Option.{Option, none, some}
use Rattle.trees.specs.Tree.{Entry}
use Rattle.trees.specs.Listing.{first_of, last_of}

-- RULES 7.1: "a start and an end, each of them included, excluded or none", by 000's names.
pub data Bound : Type 0 where
  included excluded : ℕ → Bound
  unbounded : Bound

pub data End : Type 0 where
  front back : End

-- RULES 7.1: "a start and an end ..; the last key that the front gave and the last that the back
-- gave, if any".
pub record Range : Type 0 where
  pub start : Bound
  pub end : Bound
  pub given_front : Option ℕ
  pub given_back : Option ℕ

-- RULES 7.2: "an included bound is in range itself, an excluded one is not, and none sets no
-- limit": a key is not before the start, not after the end.
abbrev pub from_start : Bound → ℕ → Bool
from_start (included a) k = leb a k
from_start (excluded a) k = ltb a k
from_start unbounded k = true

abbrev pub to_end : Bound → ℕ → Bool
to_end (included b) k = leb k b
to_end (excluded b) k = ltb k b
to_end unbounded k = true

-- RULES 7.3: "above the last key of the front and below the last key of the back, as far as these
-- were given": a last key is excluded, and none given bounds nothing.
abbrev pub past : Option ℕ → Bound
past none = unbounded
past (some a) = excluded a

-- The two sides of RULES 7.3: not before the start and above the last key of the front; not after
-- the end and below the last key of the back.
abbrev pub after_front : Range → ℕ → Bool
after_front w k = from_start w.start k && from_start (past w.given_front) k

abbrev pub before_back : Range → ℕ → Bool
before_back w k = to_end w.end k && to_end (past w.given_back) k

-- RULES 7.3: the entry remains.
abbrev pub remains : Range → Entry → Bool
remains w e = after_front w e.key && before_back w e.key

abbrev pub keep : {A : Type 0} → (A → Bool) → List A → List A
keep p [] = []
keep p (e ∷ xs) = if p e then e ∷ keep p xs else keep p xs

-- RULES 7.4: "A step at the front answers the least entry that remains, one at the back the
-- greatest."
abbrev pub next : End → Range → List Entry → Option Entry
next front w xs = first_of (keep (remains w) xs)
next back w xs = last_of (keep (remains w) xs)

-- RULES 7.4: "The caller then keeps its key as the last one of that end", after a step that gave e.
abbrev pub stepped : End → Range → Entry → Range
stepped front w e = record { start = w.start; end = w.end; given_front = some e.key; given_back = w.given_back }
stepped back w e = record { start = w.start; end = w.end; given_front = w.given_front; given_back = some e.key }

-- RULES 7.5: "A range is bad when both its bounds are given and the start is above the end, or they
-- are equal and both excluded."
abbrev pub is_bad_range : Bound → Bound → Bool
is_bad_range unbounded e = false
is_bad_range (included a) unbounded = false
is_bad_range (included a) (included b) = ltb b a
is_bad_range (included a) (excluded b) = ltb b a
is_bad_range (excluded a) unbounded = false
is_bad_range (excluded a) (included b) = ltb b a
is_bad_range (excluded a) (excluded b) = leb b a
