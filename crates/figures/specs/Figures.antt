-- RULES 10.1: the figures with a star, "as rows of one table under one claim". `tests/c/cases.c`
-- runs the others.
use Rattle.std.specs.Prelude.{◌≡◌, List, [], ◌∷◌, ℕ, ◌*◌, length}
use Rattle.std.proofs.Math.Option.{Option, none, some}
use Rattle.heights.specs.Height.{H}
use Rattle.trees.specs.Tree.{Entry, black, kept, Tree, leaf, node}
use Rattle.trees.specs.Range.{Bound, included, excluded, unbounded, End, front, back, Range, stepped}
use Rattle.trees.specs.Difference.{Difference, only_first, only_second, in_both}
use Rattle.words.specs.Layout.{arena_words}
use Rattle.calls.specs.Refusal.{Refusal}
use Rattle.calls.specs.Call.{Call, Answer}
use Rattle.calls.specs.Version.{VersionIs}
use Rattle.calls.specs.Outcome.{Outcome}

-- The tree with the numbers of its nodes forgotten: shape, colours and entries.
abbrev pub bare : Tree → Tree
bare leaf = leaf
bare (node p c l e r) = node (kept 0) c (bare l) e (bare r)

-- A step of a run: the call answers so; or slot s holds a version that is this tree, bare.
pub data Step : Type 0 where
  asks : Call → Answer → Step
  holds : (s : ℕ) → Tree → Step

-- A row: H at n is h; or these steps one after the other, on an arena formatted with n nodes and v
-- slots.
pub data Row : Type 0 where
  height : (n h : ℕ) → Row
  run : (n v : ℕ) → List Step → Row

-- RULES 10.1: each call "can answer so and cannot answer otherwise", and the further steps hold of
-- the words that it leaves.
abbrev pub Runs : List ℕ → List Step → Type 0
Runs ws [] = Unit {0}
Runs ws (asks c a ∷ xs) = ((w : List ℕ) × Outcome c ws a w) × ((b : Answer) (w : List ℕ) → Outcome c ws b w → (b ≡ a) × Runs w xs)
Runs ws (holds s t ∷ xs) = ((u : Tree) × VersionIs ws s u × (bare u ≡ t)) × Runs ws xs

-- RULES 10.1: "whatever the slice held before the format", a slice of the right length.
abbrev pub Claim : Row → Type 0
Claim (height n h) = H n ≡ h
Claim (run n v xs) = (old : List ℕ) → length old ≡ arena_words n v → Runs old (asks (Call.format n v) Answer.done ∷ xs)

abbrev pub All : (Row → Type 0) → List Row → Type 0
All P [] = Unit {0}
All P (r ∷ rs) = P r × All P rs

-- The steps of which the table is made. The value that goes with the key k is 10 × k.
abbrev e : ℕ → Entry
e k = record { key = k; value = 10 * k }

-- The empty version goes to slot 0; the version of slot s with the key k goes to slot q; m nodes are free; the call is refused.
abbrev new : Step
new = asks Call.new (Answer.slot 0)

abbrev set : (s k q : ℕ) → Step
set s k q = asks (Call.insert s (e k)) (Answer.slot q)

abbrev free : ℕ → Step
free m = asks Call.free_nodes (Answer.number m)

abbrev refuses_room : Call → Step
refuses_room c = asks c (Answer.refused Refusal.no_room)

-- A walk's step on slot s, which gives the entry of the key k, END or BAD_RANGE.
abbrev walk : (s : ℕ) → End → Range → Call
walk s d w = Call.step d (record { slot = s; range = w })

abbrev gives : Call → ℕ → Step
gives c k = asks c (Answer.entry (e k))

abbrev ends : Call → Step
ends c = asks c (Answer.refused Refusal.ended)

abbrev refuses_range : Call → Step
refuses_range c = asks c (Answer.refused Refusal.bad_range)

abbrev between : Bound → Bound → Range
between a b = record { start = a; end = b; given_front = none; given_back = none }

-- The whole range, and what the caller keeps after the front gave 1, and after the back gave 2.
abbrev whole : Range
whole = between unbounded unbounded

abbrev given1 : Range
given1 = stepped front whole (e 1)

abbrev given12 : Range
given12 = stepped back given1 (e 2)

abbrev fives : Range
fives = between (included 5) (included 5)

-- The single entry 5 in slot 1, then these steps.
abbrev on_five : List Step → Row
on_five xs = run 10 32 (new ∷ set 0 5 1 ∷ xs)

-- What differs next between the slots s and t above the last key given.
abbrev audit : (s t : ℕ) → Option ℕ → Call
audit s t o = Call.difference (record { first = s; second = t; given = o })

abbrev differs : Call → Difference → Step
differs c d = asks c (Answer.difference d)

abbrev other3 : Entry
other3 = record { key = 3; value = 31 }

-- 1, 2, 3 in slot 3 and 2, 3, 4 in slot 6, where 3 has another value, then these steps.
abbrev on_both : List Step → Row
on_both xs =
    run
    20
    32
    (new ∷ set 0 1 1 ∷ set 1 2 2 ∷ set 2 3 3 ∷ set 0 2 4 ∷ asks (Call.insert 4 other3) (Answer.slot 5) ∷ set 5 4 6 ∷ xs)

-- A black node.
abbrev B : Tree → ℕ → Tree → Tree
B l k r = node (kept 0) black l (e k) r

-- RULES 10.1: "V is 32 where no V is named, and N is 10 where no N is".
abbrev pub table : List Row
table =
    -- RULES 10.2: "H at 0, 1, 2, 3, 6, 7, 2,047: 0, 2, 2, 4, 4, 6, 22."
    height 0 0 ∷
    height 1 2 ∷
    height 2 2 ∷
    height 3 4 ∷
    height 6 4 ∷
    height 7 6 ∷
    height 2047 22 ∷
    -- RULES 10.3: "2 is the root, 1 and 3 are its children, and all three are black."
    run 10 32 (new ∷ set 0 1 1 ∷ set 1 2 2 ∷ set 2 3 3 ∷ holds 3 (B (B leaf 1 leaf) 2 (B leaf 3 leaf)) ∷ []) ∷
    -- RULES 10.4: "1 + 2 + 3 nodes are taken, 4 are free. To insert 4 needs 5, so it is NO_ROOM."
    run 10 32 (new ∷ free 10 ∷ set 0 1 1 ∷ free 9 ∷ set 1 2 2 ∷ free 7 ∷ set 2 3 3 ∷ free 4 ∷ refuses_room (Call.insert 3 (e 4)) ∷ []) ∷
    -- RULES 10.5: "N = 11: that insert is accepted; it takes 3 and leaves 2."
    run 11 32 (new ∷ set 0 1 1 ∷ set 1 2 2 ∷ set 2 3 3 ∷ free 5 ∷ set 3 4 4 ∷ free 2 ∷ []) ∷
    -- RULES 10.6: "N = 14 ..: its remove needs 14 and 13 are free, so it is NO_ROOM."
    run 14 32 (new ∷ set 0 1 1 ∷ free 13 ∷ refuses_room (Call.remove 1 1) ∷ []) ∷
    -- RULES 10.7: "N = 15: that remove is accepted, and the new version is empty."
    run 15 32 (new ∷ set 0 1 1 ∷ free 14 ∷ asks (Call.remove 1 1) (Answer.slot 2) ∷ holds 2 leaf ∷ asks (Call.size 2) (Answer.number 0) ∷ []) ∷
    -- RULES 10.9: "the front gives 1, the back 2, and then the front END."
    run 10 32 (new ∷ set 0 1 1 ∷ set 1 2 2 ∷ gives (walk 2 front whole) 1 ∷ gives (walk 2 back given1) 2 ∷ ends (walk 2 front given12) ∷ []) ∷
    -- RULES 10.10: "The single entry 5, from 5 included to 5 excluded: END at the first step."
    on_five (ends (walk 1 front (between (included 5) (excluded 5))) ∷ []) ∷
    on_five (ends (walk 1 back (between (included 5) (excluded 5))) ∷ []) ∷
    -- RULES 10.11: "from 5 excluded to 5 excluded: BAD_RANGE."
    on_five (refuses_range (walk 1 front (between (excluded 5) (excluded 5))) ∷ []) ∷
    on_five (refuses_range (walk 1 back (between (excluded 5) (excluded 5))) ∷ []) ∷
    -- RULES 10.12: "from 6 to 5: BAD_RANGE, each bound being included or excluded".
    on_five (refuses_range (walk 1 front (between (included 6) (included 5))) ∷ []) ∷
    on_five (refuses_range (walk 1 front (between (included 6) (excluded 5))) ∷ []) ∷
    on_five (refuses_range (walk 1 front (between (excluded 6) (included 5))) ∷ []) ∷
    on_five (refuses_range (walk 1 front (between (excluded 6) (excluded 5))) ∷ []) ∷
    -- RULES 10.13: "from 5 included to 5 included: the entry 5, and END after it."
    on_five (gives (walk 1 front fives) 5 ∷ ends (walk 1 front (stepped front fives (e 5))) ∷ []) ∷
    on_five (gives (walk 1 back fives) 5 ∷ ends (walk 1 back (stepped back fives (e 5))) ∷ []) ∷
    -- RULES 10.15: "1 only in the first; 3 in both, with 30 and 31; 4 only in the second; END."
    on_both
    (differs (audit 3 6 none) (only_first (e 1)) ∷
    differs (audit 3 6 (some 1)) (in_both (e 3) other3) ∷
    differs (audit 3 6 (some 3)) (only_second (e 4)) ∷
    ends (audit 3 6 (some 4)) ∷ []) ∷
    -- RULES 10.16: "the first twice: END at once; with the empty version: 3 only in the first,
    -- above 2."
    on_both (ends (audit 3 3 none) ∷ differs (audit 3 0 (some 2)) (only_first (e 3)) ∷ []) ∷
    []
