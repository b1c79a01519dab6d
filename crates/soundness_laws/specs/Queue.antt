-- The queue: a node enters it when as many names of it were met as its count says, so after all
-- that name it.
use Rattle.std.specs.Prelude.{◌≡◌, Option, List, [], map, ℕ, suc, ◌+◌, ◌≤◌, ◌<◌, length, get_or, set, take}
use Rattle.words.specs.Layout.{nodes, slots, left, right, count, slot_root}
use Rattle.words.specs.Counting.{occ, sum}
use Rattle.words.specs.Owned.{held}
use Rattle.words.specs.Reads.{Held}
use Rattle.words.specs.Sound.{Reached, Sound}
use Rattle.soundness_laws.specs.Within.{Within}
use Rattle.soundness_laws.specs.Ways.{Ways}

-- All words are 0.
pub record Blank (xs : List ℕ) : Type 0 where
  pub zeros : (x : ℕ) → get_or xs x 0 ≡ 0

-- What the test starts from: an arena within its limits, and scratch for each link in which no name
-- is noted.
pub record Fresh (ws names queue : List ℕ) : Type 0 where
  pub within : Within ws
  pub room : nodes ws < length names
  pub blank : Blank names
  pub space : nodes ws < length queue

-- One name more for x.
unfoldable pub bumping : List ℕ → ℕ → List ℕ
bumping names x = set names x (get_or names x 0 + 1)

-- The names of x that were met: by the child places of the nodes P and by the first s slots.
unfoldable pub met : List ℕ → ℕ → List ℕ → ℕ → ℕ
met ws s P x = occ x (map (left ws) P) + occ x (map (right ws) P) + sum (held (nodes ws) ws x) 0 s

-- Where f x names of each node x were met, none has more than its count, and Q has those that have
-- all of theirs, each once.
pub record Full (ws : List ℕ) (f : ℕ → ℕ) (Q : List ℕ) : Type 0 where
  pub low : (x : ℕ) → 1 ≤ x → x ≤ nodes ws → f x ≤ count ws x
  pub inside : (x : ℕ) → 1 ≤ occ x Q → (1 ≤ x) × (x ≤ nodes ws)
  pub all : (x : ℕ) → 1 ≤ x → x ≤ nodes ws → 1 ≤ count ws x → f x ≡ count ws x → occ x Q ≡ 1
  pub some : (x : ℕ) → 1 ≤ x → x ≤ nodes ws → f x < count ws x → occ x Q ≡ 0
  pub idle : (x : ℕ) → 1 ≤ x → x ≤ nodes ws → count ws x ≡ 0 → occ x Q ≡ 0
  pub reached : (x : ℕ) → 1 ≤ occ x Q → Reached ws x

-- The same of the scratch: the names met, and the queue, which ends at `tail`.
pub record Queue (ws : List ℕ) (f : ℕ → ℕ) (names queue : List ℕ) (tail : ℕ) : Type 0 where
  pub within : Within ws
  pub room : nodes ws < length names
  pub space : nodes ws < length queue
  pub short : tail ≤ nodes ws
  pub are : (x : ℕ) → 1 ≤ x → x ≤ nodes ws → get_or names x 0 ≡ f x
  pub full : Full ws f (take tail queue)

-- What one name more for a link asks.
pub record Arriving (ws names queue : List ℕ) (tail : ℕ) : Type 0 where
  pub within : Within ws
  pub room : nodes ws < length names
  pub space : nodes ws < length queue
  pub short : tail ≤ nodes ws

-- One name more for the link x: none is no node; a node enters the queue at its last name.
pub data Arrived (ws : List ℕ) (x : ℕ) (names queue : List ℕ) (tail : ℕ) : List ℕ → List ℕ → ℕ → Type 0 where
  no_node : x ≡ 0 → Arrived ws x names queue tail names queue tail
  named : 1 ≤ x → x ≤ nodes ws → get_or names x 0 + 1 < count ws x → Arrived ws x names queue tail (bumping names x) (set queue tail x) tail
  entered : 1 ≤ x → x ≤ nodes ws → get_or names x 0 + 1 ≡ count ws x → Arrived ws x names queue tail (bumping names x) (set queue tail x) (tail + 1)

-- The link x is no link, or this name is one too many.
pub record Surplus (ws names : List ℕ) (x : ℕ) : Type 0 where
  pub low : 1 ≤ x
  pub over : x ≤ nodes ws → count ws x ≤ get_or names x 0

-- The queue's new end, or none where the name is one too many.
abbrev pub Arrives : List ℕ → ℕ → List ℕ → List ℕ → ℕ → List ℕ → List ℕ → Option ℕ → Type 0
Arrives ws x names queue tail names' queue' r = Ways r (Arrived ws x names queue tail names' queue') (Surplus ws names x)

-- The roots of the first s slots have been met.
pub record Roots (ws : List ℕ) (s : ℕ) (names queue : List ℕ) (tail : ℕ) : Type 0 where
  pub queued : Queue ws (met ws s []) names queue tail
  pub high : s ≤ slots ws
  pub links : (k : ℕ) → k < s → Held ws k → slot_root (nodes ws) ws k ≤ nodes ws

-- The children of the node at place p of the queue are links, and stand after it.
pub record Past (ws queue : List ℕ) (p : ℕ) : Type 0 where
  pub left_link : left ws (get_or queue p 0) ≤ nodes ws
  pub right_link : right ws (get_or queue p 0) ≤ nodes ws
  pub left_after : occ (left ws (get_or queue p 0)) (take (suc p) queue) ≡ 0
  pub right_after : occ (right ws (get_or queue p 0)) (take (suc p) queue) ≡ 0

-- And so have the children of the first nodes of the queue, up to `front`.
pub record Heads (ws : List ℕ) (front : ℕ) (names queue : List ℕ) (tail : ℕ) : Type 0 where
  pub queued : Queue ws (met ws (slots ws) (take front queue)) names queue tail
  pub high : front ≤ tail
  pub links : (k : ℕ) → Held ws k → slot_root (nodes ws) ws k ≤ nodes ws
  pub past : (p : ℕ) → p < front → Past ws queue p

-- The whole queue has been gone through.
abbrev pub Reach : List ℕ → List ℕ → List ℕ → ℕ → Type 0
Reach ws names queue tail = Heads ws tail names queue tail

-- A step that goes on with a number of which P holds, or stops where the arena is not sound.
abbrev pub Onward : List ℕ → Option ℕ → (ℕ → Type 0) → Type 0
Onward ws r P = Ways r P (Sound ws → ⊥)
