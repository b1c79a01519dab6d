-- What differs next between two versions, from where their listings above the last key part.
use Rattle.std.specs.Prelude.{◌≡◌, List, ℕ, ltb, if◌then◌else◌, Result}
use Rattle.std.proofs.Math.Option.{Option, none, some}
use Rattle.trees.specs.Tree.{Entry, Tree, listing}
use Rattle.trees.specs.Listing.{Ascending}
use Rattle.trees.specs.Difference.{Difference, only_first, only_second, in_both, next_difference}
use Rattle.words.specs.Layout.{max_height}
use Rattle.words.specs.Reads.{Reads}
use Rattle.lookup.specs.Finding.{Rooted}
use Rattle.calls.specs.Refusal.{Refusal}
use Rattle.calls.specs.Call as call
use Rattle.calls.specs.Reading.{or_refused}
use Rattle.answers.specs.declared.Refusal as refusals
use Rattle.answers.specs.declared.Difference as answers
use Rattle.answers.specs.Answers.{difference_answer}

-- Two next entries that are not the same: the lesser key is missing on the other side.
abbrev pub entries_differ : Entry → Entry → Difference
entries_differ e f =
    if ltb e.key f.key then only_first e
    else (if ltb f.key e.key then only_second f
    else in_both e f)

abbrev pub heads_differ : Option Entry → Option Entry → Option Difference
heads_differ none none = none
heads_differ none (some f) = some (only_second f)
heads_differ (some e) none = some (only_first e)
heads_differ (some e) (some f) = some (entries_differ e f)

-- A step's answer by what it found: the difference, or END (RULES 8.9, 4.29).
abbrev pub or_ended : Option Difference → call.Answer
or_ended o = or_refused Refusal.ended call.Answer.difference o

-- The link i holds a version: a tree in order, that can be looked up in.
pub record Ordered (ws : List ℕ) (i : ℕ) : Type 0 where
  pub rooted : Rooted ws i max_height
  pub ordered : Ascending (listing rooted.tree)

-- Whatever trees the links i and j hold, r tells what differs next between their listings.
pub record Differs (ws : List ℕ) (i j : ℕ) (o : Option ℕ) (r : Result answers.Difference refusals.Refusal) : Type 0 where
  pub says : (n : ℕ) (t u : Tree) → Reads n ws i t → Reads n ws j u → difference_answer r ≡ or_ended (next_difference o (listing t) (listing u))
