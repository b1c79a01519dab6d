-- RULES 8.7 to 8.9: in what two listings differ.
use Rattle.std.specs.Prelude.{ℕ, ◌≡◌, Bool, List, [], ◌∷◌, map, ltb, eqb, if◌then◌else◌}
use Rattle.std.proofs.Math.Option.{Option, none, some}
use Rattle.trees.specs.Tree.{Entry}
use Rattle.trees.specs.Listing.{AscendingBy, first_of}
use Rattle.trees.specs.Order.{compare_entries, is_same}
use Rattle.trees.specs.Range.{from_start, past, keep}

-- RULES 8.7: "only the first has it; only the second has it; both have it, with different values".
pub data Difference : Type 0 where
  only_first only_second : Entry → Difference
  in_both : Entry → Entry → Difference

-- Where both have the key: it goes before the differences ds that follow, unless the values are the
-- same.
abbrev pub unless_same : Entry → Entry → List Difference → List Difference
unless_same e f ds = if is_same (compare_entries e f) then ds else in_both e f ∷ ds

-- RULES 8.8: "The differences of two versions are listed by rising tag." Of two listings the lesser
-- of the next keys is in one of them only.
unfoldable pub differences : List Entry → List Entry → List Difference
differences [] ys = map only_second ys
differences (e ∷ xs) [] = only_first e ∷ differences xs []
differences (e ∷ xs) (f ∷ ys) =
    if ltb e.key f.key then only_first e ∷ differences xs (f ∷ ys)
    else (if ltb f.key e.key then only_second f ∷ differences (e ∷ xs) ys
    else unless_same e f (differences xs ys))

abbrev pub tag_of : Difference → ℕ
tag_of (only_first e) = e.key
tag_of (only_second f) = f.key
tag_of (in_both e f) = e.key

-- RULES 8.9: "A difference is left when its tag is above that key, or when no key was given."
abbrev pub beyond : Option ℕ → ℕ → Bool
beyond o k = from_start (past o) k

abbrev pub keep_tags : (ℕ → Bool) → List Difference → List Difference
keep_tags p ds = keep (λ d. p (tag_of d)) ds

-- RULES 8.9: "A difference step answers the first that is left".
abbrev pub next_difference : Option ℕ → List Entry → List Entry → Option Difference
next_difference o xs ys = first_of (keep_tags (beyond o) (differences xs ys))

-- RULES 8.8: "Each tag at which they differ stands there once, and no other": the tags ascend, and
-- the entries that the two listings have at a tag decide what stands there.
abbrev pub AscendingTags : List Difference → Type 0
AscendingTags ds = AscendingBy tag_of ds

abbrev pub find_tag : ℕ → List Difference → Option Difference
find_tag k [] = none
find_tag k (d ∷ ds) = if eqb k (tag_of d) then some d else find_tag k ds

-- RULES 8.7, of the entries that the two listings have at one tag, if any.
abbrev pub difference_at : Option Entry → Option Entry → Option Difference
difference_at none none = none
difference_at (some e) none = some (only_first e)
difference_at none (some f) = some (only_second f)
difference_at (some e) (some f) = if is_same (compare_entries e f) then none else some (in_both e f)

-- RULES 8.9, again and again: "the caller then keeps its tag as the last key". From a last key on,
-- steps give these differences and then END.
pub data Steps (xs ys : List Entry) : Option ℕ → List Difference → Type 0 where
  ended : {o : Option ℕ} → next_difference o xs ys ≡ none → Steps xs ys o []
  given : {o : Option ℕ} {d : Difference} {ds : List Difference} → next_difference o xs ys ≡ some d → Steps xs ys (some (tag_of d)) ds → Steps xs ys o (d ∷ ds)
