-- The scratch of the test: for each link a word with three numbers of its summary, and two words
-- with the keys at its ends.
use Rattle.std.specs.Prelude.{◌≡◌, List, ℕ, ◌+◌, ◌*◌, ◌/◌, ◌%◌, ◌≤◌, ◌<◌, length, get_or, set}
use Rattle.trees.specs.Tree.{red, black}
use Rattle.words.specs.Layout.{nodes, code}
use Rattle.soundness_laws.specs.Summary.{Brief, Outermost}

-- The word is `blacks` * shape + `color` * dark + `size`.
abbrev pub shape : ℕ
shape = 16777216

abbrev pub dark : ℕ
dark = 8388608

unfoldable pub packed : Brief → ℕ
packed b = b.blacks * shape + b.color * dark + b.size

unfoldable pub briefs : List ℕ → List ℕ → ℕ → Brief
briefs memo ends j =
    record {
      blacks = get_or memo j 0 / shape;
      size = get_or memo j 0 % dark;
      least = get_or ends (2 * j) 0;
      greatest = get_or ends (2 * j + 1) 0;
      color = get_or memo j 0 / dark % 2;
    }

-- The numbers fit the word.
pub record Packable (b : Brief) : Type 0 where
  pub blacks_low : b.blacks < 256
  pub size_low : b.size < dark
  pub color_low : b.color ≤ 1

-- RULES 3.2, "the colour of each node so met is red or black", and 3.5: of a colour and the words l
-- and r of the two trees below it.
pub record ShapesFit (c l r : ℕ) : Type 0 where
  pub known : c ≤ code black
  pub even : l / shape ≡ r / shape
  pub left : c ≡ code red → l / dark % 2 ≡ code red → ⊥
  pub right : c ≡ code red → r / dark % 2 ≡ code red → ⊥

-- The word of a node of colour c above the two, and what it asks.
abbrev pub word_above : ℕ → ℕ → ℕ → ℕ
word_above c l r = (l / shape + c) * shape + c * dark + (l % dark + r % dark + 1)

pub record Wordable (c l r : ℕ) : Type 0 where
  pub known : c ≤ code black
  pub blacks_low : l / shape < 255
  pub size_low : l % dark + r % dark + 1 < dark

-- RULES 3.4: "each key is above the one before it", of the trees at the links x and y to the left
-- and to the right of the key k.
pub record KeysApart (ends : List ℕ) (x k y : ℕ) : Type 0 where
  pub after : 1 ≤ x → get_or ends (2 * x + 1) 0 < k
  pub before : 1 ≤ y → k < get_or ends (2 * y) 0

-- The keys of the tree at x, to the left of the key k, are below k, and a is the least of all; and
-- those of the tree at y, to its right, are above, and a is the greatest.
pub record Least (ends : List ℕ) (x k a : ℕ) : Type 0 where
  pub after : 1 ≤ x → get_or ends (2 * x + 1) 0 < k
  pub end : Outermost x (get_or ends (2 * x) 0) k a

pub record Greatest (ends : List ℕ) (y k a : ℕ) : Type 0 where
  pub before : 1 ≤ y → k < get_or ends (2 * y) 0
  pub end : Outermost y (get_or ends (2 * y + 1) 0) k a

-- The word w and the keys a and b are stored for the link i.
pub record Put (memo ends : List ℕ) (i w a b : ℕ) (memo' ends' : List ℕ) : Type 0 where
  pub memo_is : memo' ≡ set memo i w
  pub ends_is : ends' ≡ set (set ends (2 * i) a) (2 * i + 1) b

-- The link i has its places.
pub record Places (memo ends : List ℕ) (i : ℕ) : Type 0 where
  pub memo_room : i < length memo
  pub ends_room : 2 * i + 1 < length ends

-- Every link of the arena has.
pub record Room (ws memo ends : List ℕ) : Type 0 where
  pub memo_room : nodes ws < length memo
  pub ends_room : 2 * nodes ws + 1 < length ends
