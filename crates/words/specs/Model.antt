-- A pure model of each write to the arena: the words after it, as a function of the words before.
use Rattle.std.specs.Prelude.{List, [], ◌∷◌, ℕ, zero, suc, ◌+◌, ◌-◌, ◌*◌, ltb, set, if◌then◌else◌}
use Rattle.trees.specs.Tree.{Entry, Color}
use Rattle.words.specs.Layout.{head, left, right, count, code, node_words, slot_words, head_word, key_word, left_word, count_word, root_word, not_held}

-- The words xs written one after the other, from word a + k on.
abbrev pub storing : List ℕ → ℕ → ℕ → List ℕ → List ℕ
storing ws a k [] = ws
storing ws a k (x ∷ xs) = storing (set ws (a + k) x) a (suc k) xs

unfoldable pub with_count : List ℕ → ℕ → ℕ → List ℕ
with_count ws i c = set ws (node_words * i + count_word) c

-- RULES 6.3: "Counting up gives a node one name more"; none has no count.
unfoldable pub raising : List ℕ → ℕ → List ℕ
raising ws zero = ws
raising ws (suc i) = with_count ws (suc i) (count ws (suc i) + 1)

-- Make node: the first free node is taken and written whole, with count 1. Which free node it is,
-- and where a freed one is listed, RULES 11.2 leaves open.
unfoldable pub making : List ℕ → Color → ℕ → Entry → ℕ → List ℕ
making ws c l e r =
    storing
    (set ws head_word (left ws (head ws)))
    (node_words * head ws)
    key_word
    (e.key ∷ (e.value ∷ (l ∷ (r ∷ (code c ∷ (1 ∷ []))))))

-- Node i, of which no name is left, goes to the front of the free list.
unfoldable pub freeing : List ℕ → ℕ → List ℕ
freeing ws i = set (set (set ws (node_words * i + count_word) 0) (node_words * i + left_word) (head ws)) head_word i

-- RULES 6.3: one name less for the link i. "A node that loses its last name is freed, and with it
-- each of its children loses a name in the same way." The first number bounds the height of the
-- tree at i.
unfoldable pub releasing : ℕ → List ℕ → ℕ → List ℕ
releasing zero ws i = ws
releasing (suc h) ws zero = ws
releasing (suc h) ws (suc i) =
    if ltb 1 (count ws (suc i)) then with_count ws (suc i) (count ws (suc i) - 1)
    else releasing h (releasing h (freeing ws (suc i)) (left ws (suc i))) (right ws (suc i))

-- How many nodes a release frees.
unfoldable pub freed : ℕ → List ℕ → ℕ → ℕ
freed zero ws i = 0
freed (suc h) ws zero = 0
freed (suc h) ws (suc i) =
    if ltb 1 (count ws (suc i)) then 0
    else freed h (freeing ws (suc i)) (left ws (suc i)) + freed h (releasing h (freeing ws (suc i)) (left ws (suc i))) (right ws (suc i)) + 1

-- A root and a size go into slot s (RULES 2.14), of an arena of n nodes.
unfoldable pub slotting : ℕ → List ℕ → ℕ → ℕ → ℕ → List ℕ
slotting n ws s r z = storing ws (node_words * n + slot_words * s) root_word (r ∷ (z ∷ []))

-- RULES 4.36: slot s is given up.
abbrev pub unslotting : ℕ → List ℕ → ℕ → List ℕ
unslotting n ws s = slotting n ws s not_held 0
