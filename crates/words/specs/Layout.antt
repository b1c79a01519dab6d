-- The layout: where each word of the arena is (RULES 2.7 to 2.18, docs/LAYOUT.md). RULES 2.20: "a
-- word past the end of the slice is 0".
use Rattle.std.specs.Prelude.{List, ℕ, ◌+◌, ◌*◌, get_or}
use Rattle.trees.specs.Tree.{Entry, Color, red, black}

-- RULES 2.7, 2.8: "N being 1 to 2,047", "V being 1 to 32"; "Its length is 8 + 2V + 6N words
-- exactly".
abbrev pub header_words : ℕ
header_words = 8

abbrev pub node_words : ℕ
node_words = 6

abbrev pub slot_words : ℕ
slot_words = 2

abbrev pub max_nodes : ℕ
max_nodes = 2047

abbrev pub max_slots : ℕ
max_slots = 32

-- RULES 5.8: "H(2,047) = 22 is the height that no version of any arena exceeds".
abbrev pub max_height : ℕ
max_height = 22

-- RULES 2.8
abbrev pub arena_words : ℕ → ℕ → ℕ
arena_words n v = header_words + slot_words * v + node_words * n

-- The header, RULES 2.9 to 2.11: N, V, "the head: the first free node, 0 where none is free".
abbrev pub head_word : ℕ
head_word = 2

unfoldable pub nodes : List ℕ → ℕ
nodes ws = get_or ws 0 0

unfoldable pub slots : List ℕ → ℕ
slots ws = get_or ws 1 0

unfoldable pub head : List ℕ → ℕ
head ws = get_or ws head_word 0

-- RULES 2.13: "node i, 1 to N: key, value, left link, right link, colour, count", at these words
-- from node_words * i on.
abbrev pub key_word : ℕ
key_word = 2

abbrev pub value_word : ℕ
value_word = 3

abbrev pub left_word : ℕ
left_word = 4

abbrev pub right_word : ℕ
right_word = 5

abbrev pub color_word : ℕ
color_word = 6

abbrev pub count_word : ℕ
count_word = 7

unfoldable pub entry : List ℕ → ℕ → Entry
entry ws i = record { key = get_or ws (node_words * i + key_word) 0; value = get_or ws (node_words * i + value_word) 0 }

-- RULES 2.15: "A link is 0 for none, or the number of a node." RULES 2.18: on the free list "the
-- left word of each node on it is the next one".
unfoldable pub left : List ℕ → ℕ → ℕ
left ws i = get_or ws (node_words * i + left_word) 0

unfoldable pub right : List ℕ → ℕ → ℕ
right ws i = get_or ws (node_words * i + right_word) 0

unfoldable pub color : List ℕ → ℕ → ℕ
color ws i = get_or ws (node_words * i + color_word) 0

unfoldable pub count : List ℕ → ℕ → ℕ
count ws i = get_or ws (node_words * i + count_word) 0

-- RULES 2.16: "The colour is 0 for red and 1 for black."
abbrev pub code : Color → ℕ
code red = 0
code black = 1

-- RULES 2.14: "slot s, 0 to V − 1: root, size", at these words from node_words * n + slot_words * s
-- on, of an arena of n nodes.
abbrev pub root_word : ℕ
root_word = 8

abbrev pub size_word : ℕ
size_word = 9

unfoldable pub slot_root : ℕ → List ℕ → ℕ → ℕ
slot_root n ws s = get_or ws (node_words * n + slot_words * s + root_word) 0

unfoldable pub slot_size : ℕ → List ℕ → ℕ → ℕ
slot_size n ws s = get_or ws (node_words * n + slot_words * s + size_word) 0

-- RULES 2.17: the root of a slot that is not held. Of a held slot "0 is the empty tree".
abbrev pub not_held : ℕ
not_held = 4294967295
