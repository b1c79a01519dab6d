-- What it takes to read the words of an arena.
use Rattle.std.specs.Prelude.{List, ℕ, ◌+◌, ◌*◌, ◌≤◌, length}
use Rattle.words.specs.Layout.{nodes, slots, node_words, header_words}
use Rattle.words.specs.Sound.{Limits}

-- RULES 3.1: "The N and V in words 0 and 1 keep to 2.7, and the slice has the length that 2.8 gives
-- them."
abbrev pub Within : List ℕ → Type 0
Within ws = Limits (nodes ws) (slots ws) (length ws)

-- The words of node i are there.
abbrev pub Inside : List ℕ → ℕ → Type 0
Inside ws i = node_words * i + header_words ≤ length ws
