-- RULES 8.1 to 8.3: the order of two listings.
use Rattle.std.specs.Prelude.{ℕ, Bool, true, false, List, [], ◌∷◌, ltb, if◌then◌else◌}
use Rattle.trees.specs.Tree.{Entry}

-- RULES 8.1: −1, 0 and 1, "where the first listing is less", "the two are equal", "the first is
-- more".
pub data Sign : Type 0 where
  less same more : Sign

abbrev pub compare_numbers : ℕ → ℕ → Sign
compare_numbers a b = if ltb a b then less else (if ltb b a then more else same)

-- RULES 8.1: the first that differs decides.
infixr 25 ◌and_then◌
abbrev pub ◌and_then◌ : Sign → Sign → Sign
less and_then s = less
same and_then s = s
more and_then s = more

-- RULES 8.1: "by their keys, and by their values where the keys are equal".
abbrev pub compare_entries : Entry → Entry → Sign
compare_entries e f = compare_numbers e.key f.key and_then compare_numbers e.value f.value

-- RULES 8.1, 8.2: "the first pair of entries that differ decides"; "Where one listing ends before
-- any difference and the other goes on, the one that ends is less."
abbrev pub compare : List Entry → List Entry → Sign
compare [] [] = same
compare [] (f ∷ ys) = less
compare (e ∷ xs) [] = more
compare (e ∷ xs) (f ∷ ys) = compare_entries e f and_then compare xs ys

abbrev pub is_same : Sign → Bool
is_same less = false
is_same same = true
is_same more = false

-- RULES 8.3: "Equal is yes exactly when compare is 0."
abbrev pub equal : List Entry → List Entry → Bool
equal xs ys = is_same (compare xs ys)
