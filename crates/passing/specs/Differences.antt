-- RULES 9.21: "A difference is four words: the kind; the key; the value in the first version; the
-- value in the second." RULES 9.22: what the caller keeps, from four words.
use Rattle.std.specs.Prelude.{List, [], ◌∷◌, ℕ, get_or}
use Rattle.trees.specs.Difference.{Difference, only_first, only_second, in_both, tag_of}
use Rattle.calls.specs.Call as call
use Rattle.passing.specs.Walks.{last_in}

-- RULES 9.21: "A kind of 1 is only in the first, 2 only in the second, 3 in both."
abbrev pub kind_word : Difference → ℕ
kind_word (only_first e) = 1
kind_word (only_second f) = 2
kind_word (in_both e f) = 3

-- RULES 9.21: "A value that is not there is 0".
abbrev pub first_value : Difference → ℕ
first_value (only_first e) = e.value
first_value (only_second f) = 0
first_value (in_both e f) = e.value

abbrev pub second_value : Difference → ℕ
second_value (only_first e) = 0
second_value (only_second f) = f.value
second_value (in_both e f) = f.value

-- The four words of the difference d.
abbrev pub row_of : Difference → List ℕ
row_of d = kind_word d ∷ (tag_of d ∷ (first_value d ∷ (second_value d ∷ [])))

-- RULES 9.22: "the first slot; the second slot; whether a key was given, and which".
abbrev pub differences_in : List ℕ → call.Differences
differences_in w = record { first = get_or w 0 0; second = get_or w 1 0; given = last_in (get_or w 2 0) (get_or w 3 0) }
