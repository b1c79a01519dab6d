-- A side of the walk: a link and a stack of node numbers, and what they have still to come.
use Rattle.std.specs.Prelude.{◌≡◌, false, List, [], ◌∷◌, ◌++◌, ℕ, zero, suc, ◌-◌, ◌≤◌, ◌<◌, length, get_or, Option}
use Rattle.trees.specs.Tree.{Entry, Tree, listing}
use Rattle.trees.specs.Listing.{first_of}
use Rattle.words.specs.Layout.{entry, left, right, max_height}
use Rattle.words.specs.Reads.{Reads}
use Rattle.arena.specs.Nodes.{NodeInside}
use Rattle.arena.specs.declared.Entry as arena
use Rattle.lookup.specs.Finding.{found_of, Rooted}
use Rattle.abreast.specs.declared.Side.{Side}
use Rattle.abreast.specs.declared.Heads.{Heads}
use Rattle.abreast.specs.Alike.{alike_heads}

-- RULES 13.5: "a fixed stack of no more than 23 numbers"
abbrev pub stack_numbers : ℕ
stack_numbers = suc max_height

-- The listing of the link i, to the depth h.
unfoldable pub listed : ℕ → List ℕ → ℕ → List Entry
listed zero ws i = []
listed (suc h) ws zero = []
listed (suc h) ws (suc i) = listed h ws (left ws (suc i)) ++ (entry ws (suc i) ∷ listed h ws (right ws (suc i)))

-- What the first p nodes of a stack have still to come, the last of them first: its entry, then its
-- right part.
unfoldable pub waiting : List ℕ → List ℕ → ℕ → List Entry
waiting ws a zero = []
waiting ws a (suc p) = entry ws (get_or a p 0) ∷ (listed max_height ws (right ws (get_or a p 0)) ++ waiting ws a p)

-- What a side has still to come.
unfoldable pub ahead : List ℕ → Side → List Entry
ahead ws s = listed max_height ws s.link ++ waiting ws s.stack s.depth

-- The first p numbers of a stack are nodes with right parts, the deeper the lower.
pub record Stacked (ws a : List ℕ) (p : ℕ) : Type 0 where
  pub long : length a ≡ stack_numbers
  pub low : p ≤ max_height
  pub inside : (k : ℕ) → k < p → NodeInside ws (get_or a k 0)
  pub rights : (k : ℕ) → k < p → Rooted ws (right ws (get_or a k 0)) (max_height - k)

-- A stack that has a top.
pub record Topped (ws a : List ℕ) (p : ℕ) : Type 0 where
  pub stacked : Stacked ws a p
  pub high : 1 ≤ p

-- A side can go on: its link is low enough for what is free on its stack.
pub record Stands (ws : List ℕ) (s : Side) : Type 0 where
  pub rooted : Rooted ws s.link (max_height - s.depth)
  pub stacked : Stacked ws s.stack s.depth

-- A side at the link i, with an empty stack.
pub record Starts (i : ℕ) (s : Side) : Type 0 where
  pub link_is : s.link ≡ i
  pub long : length s.stack ≡ stack_numbers
  pub empty : s.depth ≡ 0

-- A step down changes nothing of what is ahead, and at a node the stack grows.
pub record Sinks (ws : List ℕ) (s t : Side) : Type 0 where
  pub stands : Stands ws t
  pub same_ahead : ahead ws t ≡ ahead ws s
  pub deeper : s.depth ≤ t.depth
  pub grows : (s.link ≡ 0 → ⊥) → s.depth < t.depth

-- r is what comes next on a side's stack.
pub record Tops (ws : List ℕ) (s : Side) (r : Option arena.Entry) : Type 0 where
  pub first : found_of r ≡ first_of (waiting ws s.stack s.depth)

-- A side once the top's entry is passed.
pub record Pops (ws : List ℕ) (s t : Side) : Type 0 where
  pub stands : Stands ws t
  pub passed : Entry
  pub waiting_is : waiting ws s.stack s.depth ≡ passed ∷ ahead ws t

-- Both sides begin alike, and what follows is on their stacks.
pub record Meets (ws : List ℕ) (s t s' t' : Side) : Type 0 where
  pub one : Stacked ws s'.stack s'.depth
  pub other : Stacked ws t'.stack t'.depth
  pub alike : List Entry
  pub one_is : ahead ws s ≡ alike ++ waiting ws s'.stack s'.depth
  pub other_is : ahead ws t ≡ alike ++ waiting ws t'.stack t'.depth

-- Two listings that begin alike, and the first entries of what follows, which are not the same.
pub record Parts (xs ys : List Entry) (r : Heads) : Type 0 where
  pub alike : List Entry
  pub one : List Entry
  pub other : List Entry
  pub one_is : xs ≡ alike ++ one
  pub other_is : ys ≡ alike ++ other
  pub one_first : found_of r.one ≡ first_of one
  pub other_first : found_of r.other ≡ first_of other
  pub apart : alike_heads (found_of r.one) (found_of r.other) ≡ false

-- Whatever trees the links i and j hold, their listings part so.
pub record PartsBelow (ws : List ℕ) (i j : ℕ) (r : Heads) : Type 0 where
  pub says : (n : ℕ) (t u : Tree) → Reads n ws i t → Reads n ws j u → Parts (listing t) (listing u) r
