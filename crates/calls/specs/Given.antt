-- RULES 4.22 to 4.29, "given exactly when": when each refusal is due. `Table.antt` says which calls
-- test it, and in which order.
use Rattle.std.specs.Prelude.{◌≡◌, true, List, ℕ, ◌≤◌, ◌<◌, length}
use Rattle.std.proofs.Math.Option.{none, some}
use Rattle.heights.specs.Height.{insert_reserve, remove_reserve}
use Rattle.trees.specs.Tree.{Entry, Tree, listing, size}
use Rattle.trees.specs.Listing.{find, first_of, last_of}
use Rattle.trees.specs.Range.{End, next, is_bad_range}
use Rattle.trees.specs.Difference.{next_difference}
use Rattle.words.specs.Layout.{slots}
use Rattle.words.specs.Counting.{occ}
use Rattle.words.specs.Reads.{Held}
use Rattle.words.specs.Sound.{Limits, Sound, free_number}
use Rattle.calls.specs.Refusal.{Refusal}
use Rattle.calls.specs.Call.{Walk, Differences, Call}
use Rattle.calls.specs.Table.{slots_of}
use Rattle.calls.specs.Version.{VersionIs}

pub data Given (ws : List ℕ) : Refusal → Call → Type 0 where
  -- RULES 4.22: "format: N or V breaks 2.7, or the slice's length is not that of 2.8"
  bad_shape : {n v : ℕ} → (Limits n v (length ws) → ⊥) → Given ws Refusal.bad_shape (Call.format n v)
  -- RULES 4.23: "all calls but format and the soundness test: the arena is not sound"
  unsound : {c : Call} → (Sound ws → ⊥) → Given ws Refusal.unsound c
  -- RULES 4.24: "a slot that the call names is not below V, or is not held"
  no_version : {c : Call} (s : ℕ) → 1 ≤ occ s (slots_of c) → (Held ws s → ⊥) → Given ws Refusal.no_version c
  -- RULES 4.25: "a walk step: the range is bad"
  bad_range : {d : End} {w : Walk} → is_bad_range w.range.start w.range.end ≡ true → Given ws Refusal.bad_range (Call.step d w)
  -- RULES 4.26: "get: no such key in the version; first, last: the version is empty"
  no_key : {s k : ℕ} {t : Tree} → VersionIs ws s t → find k (listing t) ≡ none → Given ws Refusal.absent (Call.get s k)
  no_first : {s : ℕ} {t : Tree} → VersionIs ws s t → first_of (listing t) ≡ none → Given ws Refusal.absent (Call.first s)
  no_last : {s : ℕ} {t : Tree} → VersionIs ws s t → last_of (listing t) ≡ none → Given ws Refusal.absent (Call.last s)
  -- RULES 4.27: "new, hold, insert, remove: each of the V slots is held"
  no_slot : {c : Call} → ((s : ℕ) → s < slots ws → Held ws s) → Given ws Refusal.no_slot c
  -- RULES 4.28: "insert, remove: the free number is below the reserve"; RULES 5.3: "An insert needs
  -- H(n) + 1 free nodes, be its key new or not."
  insert_room : {s : ℕ} {e : Entry} {t : Tree} (S : Sound ws) → VersionIs ws s t → free_number S < insert_reserve (size t) →
      Given ws Refusal.no_room (Call.insert s e)
  -- RULES 5.4, 5.5: "6 × H(n) + 2 free nodes where the version has the key", "no free node where
  -- the version does not have the key"
  remove_room : {s k : ℕ} {t : Tree} {e : Entry} (S : Sound ws) → VersionIs ws s t → find k (listing t) ≡ some e →
      free_number S < remove_reserve (size t) → Given ws Refusal.no_room (Call.remove s k)
  -- RULES 4.29: "a walk step: no entry remains", "a difference step: no difference is left"
  ended : {d : End} {w : Walk} {t : Tree} → VersionIs ws w.slot t → next d w.range (listing t) ≡ none →
      Given ws Refusal.ended (Call.step d w)
  no_difference : {x : Differences} {t u : Tree} → VersionIs ws x.first t → VersionIs ws x.second u →
      next_difference x.given (listing t) (listing u) ≡ none → Given ws Refusal.ended (Call.difference x)
