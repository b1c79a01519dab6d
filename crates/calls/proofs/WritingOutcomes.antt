-- For the functions that write: the words that they leave, as the pure model of each write, make the call's outcome. One lemma a call.
use mathlib.Core.Path.{◌≡◌, refl}
use mathlib.Core.List.{List, [], ◌∷◌}
use mathlib.Core.Option.{none, some}
use Prim.Native.Nat.{ℕ, ◌≤◌, ◌<◌}
use native.Mathlib.Omega.{arith}
use lib.ListN.{length}
use Rattle.heights.specs.Height.{insert_reserve, remove_reserve}
use Rattle.trees.specs.Tree.{Entry, Tree, listing, size}
use Rattle.trees.specs.Listing.{find}
use Rattle.trees.specs.Edit.{Edit, setting, cutting, edit}
use Rattle.trees.proofs.Edits.{fine_edit}
use Rattle.words.specs.Layout.{nodes, slots, slot_root, slot_size, max_height}
use Rattle.words.specs.Reads.{Held}
use Rattle.words.specs.Sound.{Limits, Sound, free_number}
use Rattle.words.specs.Owned.{Sized}
use Rattle.words.specs.Model.{raising, releasing, slotting, unslotting}
use Rattle.words.specs.Commit.{Built}
use Rattle.words.proofs.Committing.{Commits}
use Rattle.calls.specs.Refusal.{Refusal}
use Rattle.calls.specs.Call.{Call, Answer}
use Rattle.calls.specs.Table.{slots_of, tests}
use Rattle.calls.specs.Version.{VersionIs, Lowest}
use Rattle.calls.specs.Given.{Given}
use Rattle.calls.specs.Writing.{Formatted, HandsOutAgain, Edited, Removed}
use Rattle.calls.specs.Outcome.{Outcome}
use Rattle.calls.proofs.Versions.{version_fine}
use Rattle.calls.proofs.Decisions.{First, refused_outcome, accepted_outcome}
use Rattle.calls.proofs.Committed.{committed}
use Rattle.calls.proofs.GivingUp.{released}
use Rattle.calls.proofs.Passing.{one_held, not_unsound, not_no_slot, past_version}
use Rattle.calls.proofs.NoneGiven.{format_passed, new_passed, hold_passed, release_passed, insert_passed, remove_passed}

-- Format, by what it leaves.
pub format_outcome : {n v : ℕ} {ws ws' : List ℕ} → Formatted n v ws Answer.done ws' → Outcome (Call.format n v) ws Answer.done ws'
format_outcome {n} {v} {ws} {ws'} f = accepted_outcome (Call.format n v) ws Answer.done ws' (format_passed f.limits) f

pub bad_shape_outcome : {n v : ℕ} {ws : List ℕ} → (Limits n v (length ws) → ⊥) → Outcome (Call.format n v) ws (Answer.refused Refusal.bad_shape) ws
bad_shape_outcome f = refused_outcome (First.here (Given.bad_shape f))

-- A slot is given up.
pub release_outcome : {ws : List ℕ} {s : ℕ} {t : Tree} → Sound ws → VersionIs ws s t →
    Outcome (Call.release s) ws Answer.done (releasing max_height (unslotting (nodes ws) ws s) (slot_root (nodes ws) ws s))
release_outcome {ws} {s} S x =
    accepted_outcome
    (Call.release s)
    ws
    Answer.done
    (releasing max_height (unslotting (nodes ws) ws s) (slot_root (nodes ws) ws s))
    (release_passed S x.held)
    (released S x)

-- All V slots held.
module _ {ws : List ℕ} (S : Sound ws) (full : (s : ℕ) → s < slots ws → Held ws s) where
  pub new_full : Outcome Call.new ws (Answer.refused Refusal.no_slot) ws
  new_full = refused_outcome (First.later (not_unsound S) (First.here (Given.no_slot full)))

  pub slots_full : {c : Call} {rs : List Refusal} {s : ℕ} → tests c ≡ Refusal.unsound ∷ (Refusal.no_version ∷ (Refusal.no_slot ∷ rs)) →
      slots_of c ≡ s ∷ [] → Held ws s → Outcome c ws (Answer.refused Refusal.no_slot) ws
  slots_full starts names h = refused_outcome (past_version starts S (rw names (one_held h)) (First.here (Given.no_slot full)))

-- There is a slot to hand out.
module _ {ws : List ℕ} {q : ℕ} (S : Sound ws) (low : Lowest ws q) where
  pub new_outcome : Outcome Call.new ws (Answer.slot q) (slotting (nodes ws) ws q 0 0)
  unfolding raising
  new_outcome =
      accepted_outcome
      Call.new
      ws
      (Answer.slot q)
      (slotting (nodes ws) ws q 0 0)
      (new_passed S low)
      (record { before = S; out = q; lowest = low; answer = refl; words_are = refl })

  module _ {s : ℕ} {t : Tree} (x : VersionIs ws s t) where
    abbrev doubled : List ℕ
    doubled = slotting (nodes ws) (raising ws (slot_root (nodes ws) ws s)) q (slot_root (nodes ws) ws s) (slot_size (nodes ws) ws s)

    holds : HandsOutAgain ws s (Answer.slot q) doubled
    holds = record { held = x.held; hands_out = record { before = S; out = q; lowest = low; answer = refl; words_are = refl } }

    pub hold_outcome : Outcome (Call.hold s) ws (Answer.slot q) doubled
    hold_outcome =
        accepted_outcome
        (Call.hold s)
        ws
        (Answer.slot q)
        doubled
        (hold_passed S x.held low)
        holds

    -- "fewer free nodes than the reserve"
    pub insert_full : (e : Entry) → free_number S < insert_reserve (size t) → Outcome (Call.insert s e) ws (Answer.refused Refusal.no_room) ws
    insert_full e h =
        refused_outcome (past_version refl S (one_held x.held) (First.later (not_no_slot low) (First.here (Given.insert_room S x h))))

    pub remove_full : (k : ℕ) {e : Entry} → find k (listing t) ≡ some e → free_number S < remove_reserve (size t) →
        Outcome (Call.remove s k) ws (Answer.refused Refusal.no_room) ws
    remove_full k f h =
        refused_outcome (past_version refl S (one_held x.held) (First.later (not_no_slot low) (First.here (Given.remove_room S x f h))))

    -- The planned tree is put into the arena and into the slot, with its size z.
    module _ (z : ℕ) (b : Built) where
      abbrev left_by : List ℕ
      left_by = slotting (nodes ws) b.words q b.link z

      edited : {d : Edit} → Commits Sized (nodes ws) (slots ws) [] ws (edit d t) b → z ≡ size (edit d t) → Edited ws s d (Answer.slot q) left_by
      edited {d} C e = record { parent = t; version = x; hands_out = committed S low C (fine_edit d t (version_fine S x)) e }

      pub insert_outcome : (e : Entry) → insert_reserve (size t) ≤ free_number S →
          Commits Sized (nodes ws) (slots ws) [] ws (edit (setting e) t) b → z ≡ size (edit (setting e) t) →
          Outcome (Call.insert s e) ws (Answer.slot q) left_by
      insert_outcome e h C z-is =
          accepted_outcome
          (Call.insert s e)
          ws
          (Answer.slot q)
          left_by
          (insert_passed S x low e h)
          (edited C z-is)

      pub remove_outcome : (k : ℕ) {e : Entry} → find k (listing t) ≡ some e → remove_reserve (size t) ≤ free_number S →
          Commits Sized (nodes ws) (slots ws) [] ws (edit (cutting k) t) b → z ≡ size (edit (cutting k) t) →
          Outcome (Call.remove s k) ws (Answer.slot q) left_by
      unfolding edited
      remove_outcome k f h C z-is =
          accepted_outcome
          (Call.remove s k)
          ws
          (Answer.slot q)
          left_by
          (remove_passed S x low k (λ e i. h))
          (Removed.present (edited C z-is) f)

    -- "remove of an absent key needs none": it is like hold.
    pub remove_absent_outcome : (k : ℕ) → find k (listing t) ≡ none → Outcome (Call.remove s k) ws (Answer.slot q) doubled
    remove_absent_outcome k f =
        accepted_outcome
        (Call.remove s k)
        ws
        (Answer.slot q)
        doubled
        (remove_passed S x low k needs_none)
        (Removed.absent x f holds)
      where
        needs_none : (e : Entry) → find k (listing t) ≡ some e → remove_reserve (size t) ≤ free_number S
        needs_none e i =
            absurd
            (let z : ◌≡◌ {A = ℕ} 0 1 = cc in
            omega arith)
