-- What the calls that only read answer: RULES 4.5 to 4.9, 4.12 to 4.16 and 4.41. RULES 4.20: they
-- never write to the arena.
use Rattle.std.specs.Prelude.{◌≡◌, ◌⊎◌, Bool, true, false, ◌||◌, List, [], ◌∷◌, ℕ, ◌+◌, ◌*◌}
use Rattle.std.proofs.Math.Option.{Option, none, some}
use Rattle.trees.specs.Tree.{Entry, Tree, listing}
use Rattle.trees.specs.Listing.{find, is_some}
use Rattle.words.specs.Sound.{Sound, free_number}
use Rattle.calls.specs.Refusal.{Refusal}
use Rattle.calls.specs.Call.{Answer}
use Rattle.calls.specs.Version.{VersionIs}

-- The call answers by the listing of the version of slot s: f gives the answer, if there is one.
pub record Tells (ws : List ℕ) (s : ℕ) (f : List Entry → Option Answer) (a : Answer) (ws' : List ℕ) : Type 0 where
  pub before : Sound ws
  pub tree : Tree
  pub version : VersionIs ws s tree
  pub answer : f (listing tree) ≡ some a
  pub unchanged : ws' ≡ ws

-- By the listings of two versions.
pub record TellsBoth (ws : List ℕ) (s t : ℕ) (f : List Entry → List Entry → Option Answer) (a : Answer) (ws' : List ℕ) : Type 0 where
  pub before : Sound ws
  pub tree : Tree
  pub other : Tree
  pub version : VersionIs ws s tree
  pub other_version : VersionIs ws t other
  pub answer : f (listing tree) (listing other) ≡ some a
  pub unchanged : ws' ≡ ws

-- RULES 4.6: "the free number".
pub record TellsFree (ws : List ℕ) (a : Answer) (ws' : List ℕ) : Type 0 where
  pub before : Sound ws
  pub answer : a ≡ Answer.number (free_number before)
  pub unchanged : ws' ≡ ws

-- RULES 4.40: "yes is its answer exactly for a sound arena, and no for any other. It writes
-- nothing."
pub record TellsSound (ws : List ℕ) (a : Answer) (ws' : List ℕ) : Type 0 where
  pub answer : (Sound ws × (a ≡ Answer.truth true)) ⊎ ((Sound ws → ⊥) × (a ≡ Answer.truth false))
  pub unchanged : ws' ≡ ws

-- The answer made of what was found, if anything was. RULES 4.7: `get` answers an entry's value;
-- RULES 4.8, 4.9, 4.14: `first`, `last` and a walk step the entry itself; RULES 4.41: a difference
-- step the difference.
abbrev pub answer_by : {A : Type 0} → (A → Answer) → Option A → Option Answer
answer_by f none = none
answer_by f (some e) = some (f e)

-- The answer to a call that looks for something: by what it found, or the refusal.
abbrev pub or_refused : {A : Type 0} → Refusal → (A → Answer) → Option A → Answer
or_refused r f none = Answer.refused r
or_refused r f (some e) = f e

abbrev pub value_of : Entry → Answer
value_of e = Answer.value e.value

-- RULES 2.1: "65,536 times the group, plus the element".
abbrev pub tag : ℕ → ℕ → ℕ
tag group element = group * 65536 + element

-- RULES 2.2: "Rescale Slope, (0028,1053)"; hexadecimal 28 is 40, 1053 is 4,179.
abbrev pub rescale_slope : ℕ
rescale_slope = tag 40 4179

abbrev pub mark_tags : List ℕ
mark_tags = rescale_slope ∷ []

abbrev pub holds_any : List ℕ → List Entry → Bool
holds_any [] xs = false
holds_any (k ∷ ks) xs = is_some (find k xs) || holds_any ks xs

-- RULES 8.4: "The rescale mark is yes exactly when the version holds (0028,1053)."
abbrev pub marked : List Entry → Bool
marked xs = holds_any mark_tags xs
