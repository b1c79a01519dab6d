-- Histories exist: for all lawful N and V of three or more slots, on any old contents, with any entry, here is one with six calls after the format,
-- one of them refused.
use mathlib.Core.Path.{◌≡◌, refl, ap, ◌∙◌, subst}
use mathlib.Core.List.{List, [], ◌∷◌, ◌++◌}
use mathlib.Core.Option.{none, some}
use Prim.Native.Nat.{ℕ, zero, suc, ◌≤◌, ◌<◌}
use native.Mathlib.Omega.{arith}
use lib.ListN.{length}
use borrow.Author.Tests.{eq-eqb}
use Rattle.heights.specs.Height.{H}
use Rattle.trees.specs.Tree.{Entry, Tree, leaf, node, listing}
use Rattle.trees.specs.Listing.{find}
use Rattle.trees.specs.Edit.{setting, edit}
use Rattle.trees.specs.Insert.{ins, insert}
use Rattle.trees.specs.Lookup.{get}
use Rattle.trees.proofs.Lookups.{get_find}
use Rattle.words.specs.Layout.{nodes, slots}
use Rattle.words.specs.Reads.{Held}
use Rattle.words.specs.Sound.{Limits, Sound, free_number}
use Rattle.words.specs.Owned.{Sized}
use Rattle.words.specs.Commit.{Built, raising_all, building}
use Rattle.words.proofs.Counts.{occ-first}
use Rattle.words.proofs.Committing.{Commits, commits}
use Rattle.words.proofs.SoundOwned.{sound_owned}
use Rattle.words.proofs.FreeNumber.{sound_idles}
use Rattle.calls.specs.Refusal.{Refusal}
use Rattle.calls.specs.Call.{Call, Answer}
use Rattle.calls.specs.Reading.{value_of, or_refused}
use Rattle.calls.specs.Version.{VersionIs, Lowest}
use Rattle.calls.specs.Outcome.{Outcome}
use Rattle.calls.specs.History.{Model, no_versions, after, Calls, History, Lists, SlotAs, Keeps}
use Rattle.calls.proofs.Versions.{version_fine}
use Rattle.calls.proofs.Histories.{history}
use Rattle.calls.proofs.Passing.{no_version_outcome}
use Rattle.calls.proofs.Sharing.{no_root, shared_free}
use Rattle.calls.proofs.Formatting.{format_free}
use Rattle.calls.proofs.ReadingOutcomes.{get_outcome}
use Rattle.calls.proofs.WritingOutcomes.{new_outcome, hold_outcome, insert_outcome, release_outcome}
use Rattle.calls.proofs.FormatExists.{formatting, is_formatted, format_exists}

-- What the model says of the arena.
module _ {ws : List ℕ} {m : Model} (K : Keeps ws m) where
  model_held : (s : ℕ) (xs : List Entry) → m.lists s ≡ some xs → Lists ws s xs
  model_held s xs e = subst (SlotAs ws s) e (K.slot_as s)

  model_free : (s : ℕ) → m.lists s ≡ none → Held ws s → ⊥
  model_free s e = subst (SlotAs ws s) e (K.slot_as s)

  model_lowest : (q : ℕ) → q < m.v → m.lists q ≡ none → ((s : ℕ) → s < q → (xs : List Entry) × (m.lists s ≡ some xs)) → Lowest ws q
  model_lowest q b e f =
      record {
        below = omega (arith, K.v_is);
        unheld = model_free q e;
        lower_held = λ s p. (model_held s (f s p).0 (f s p).1).version.held;
      }

no_entries : (t : Tree) → listing t ≡ [] → t ≡ leaf
no_entries leaf e = refl
no_entries (node p c l x r) e = absurd (never (listing l) e)
  where
    never : (xs : List Entry) → xs ++ (x ∷ listing r) ≡ [] → ⊥
    never [] e = let z : ◌≡◌ {A = ℕ} 0 1 = cc in omega arith
    never (y ∷ ys) e = let z : ◌≡◌ {A = ℕ} 0 1 = cc in omega arith

-- An entry into an empty version: one node is made.
module _ {ws : List ℕ} (S : Sound ws) (some-free : 1 ≤ free_number S) (e : Entry) where
  abbrev built : Built
  built = building (raising_all ws (edit (setting e) leaf)) (edit (setting e) leaf)

  first_commits : Commits Sized (nodes ws) (slots ws) [] ws (edit (setting e) leaf) built
  unfolding insert ins
  first_commits =
      commits Sized (nodes ws) (slots ws) (edit (setting e) leaf) ws [] (sound_owned ws S) (tt, tt, tt) (tt, tt) (omega (arith, sound_idles ws S))

-- One call more.
further : {ws ws' : List ℕ} {m : Model} {c : Call} {a : Answer} → History ws m → Outcome c ws a ws' → History ws' (after c a m)
further h o =
    record { n = h.n; v = h.v; old = h.old; start = h.start; formats = h.formats; calls = Calls.call h.calls o }

-- A history in which the slots hold what the model m has.
abbrev Reaches : Model → Type 0
Reaches m = (ws : List ℕ) × History ws m

module _ (n v : ℕ) (old : List ℕ) (l : Limits n v (length old)) (three : 3 ≤ v) (e : Entry) where
  abbrev formatted : Model
  formatted = no_versions n v

  abbrev made_empty : Model
  made_empty = after Call.new (Answer.slot 0) formatted

  abbrev inserted : Model
  inserted = after (Call.insert 0 e) (Answer.slot 1) made_empty

  abbrev held : Model
  held = after (Call.hold 1) (Answer.slot 2) inserted

  abbrev released : Model
  released = after (Call.release 0) Answer.done held

  starts : History (formatting n v old) formatted
  starts = record { n = n; v = v; old = old; start = formatting n v old; formats = format_exists n v old l; calls = Calls.no_call }

  lowest_0 : Lowest (formatting n v old) 0
  lowest_0 = model_lowest (history starts) 0 (omega arith) refl (λ s p. absurd (omega arith))

  with_empty : (ws : List ℕ) × History ws made_empty × ((S : Sound ws) → 1 ≤ free_number S)
  unfolding Rattle.words.specs.Model.raising
  with_empty =
      let S = (history starts).sound in
      let o = new_outcome S lowest_0 in
      (_, further starts o, λ Q. omega (arith, shared_free _ 0 0 0 leaf S lowest_0 (no_root _) Q, format_free (is_formatted n v old l) S, l.n_low))

  with_entry : Reaches inserted
  unfolding H insert ins
  with_entry =
      let h = with_empty.1 in
      let K = history h in
      let S = K.sound in
      let x = model_held K 0 [] refl in
      let y : VersionIs with_empty.0 0 leaf = subst (VersionIs with_empty.0 0) (no_entries x.tree x.listing_is) x.version in
      let low = model_lowest K 1 (omega arith) refl below in
      let f = with_empty.2 S in
      (_, further h (insert_outcome S low y 1 (built S f e) e (omega arith) (first_commits S f e) refl))
    where
      below : (s : ℕ) → s < 1 → (xs : List Entry) × (made_empty.lists s ≡ some xs)
      below zero p = ([], refl)
      below (suc s) p = absurd (omega arith)

  with_second : Reaches held
  with_second =
      let h = with_entry.1 in
      let K = history h in
      (_, further h (hold_outcome K.sound (model_lowest K 2 (omega arith) refl below) (model_held K 1 (e ∷ []) refl).version))
    where
      below : (s : ℕ) → s < 2 → (xs : List Entry) × (inserted.lists s ≡ some xs)
      below zero p = ([], refl)
      below (suc zero) p = (e ∷ [], refl)
      below (suc (suc s)) p = absurd (omega arith)

  with_release : Reaches released
  with_release =
      let h = with_second.1 in
      let K = history h in
      (_, further h (release_outcome K.sound (model_held K 0 [] refl).version))

  -- The entry is found in slot 2, and slot 0, given up, is refused.
  found : (ws : List ℕ) → History ws released → Outcome (Call.get 2 e.key) ws (value_of e) ws
  found ws h =
      let K = history h in
      let x = model_held K 2 (e ∷ []) refl in
      let g = get_find e.key x.tree (version_fine K.sound x.version).ordered ∙ ap (find e.key) x.listing_is in
      let f : get e.key x.tree ≡ some e = g ∙ rw (eq-eqb e.key e.key refl) in
      subst (λ (a : Answer). Outcome (Call.get 2 e.key) ws a ws) (ap (or_refused Refusal.absent value_of) f) (get_outcome K.sound x.version e.key)

  refused : (ws : List ℕ) → History ws released → Outcome (Call.get 0 e.key) ws (Answer.refused Refusal.no_version) ws
  refused ws h = let K = history h in no_version_outcome refl K.sound 0 (omega (arith, occ-first 0 [])) (model_free K 0 refl)

  pub some_history : (ws : List ℕ) × (m : Model) × History ws m × (m.lists 0 ≡ none) × (m.lists 1 ≡ some (e ∷ [])) × (m.lists 2 ≡ some (e ∷ []))
  some_history =
      let ws = with_release.0 in
      let h = with_release.1 in
      let h' = further h (found ws h) in
      (ws, released, further h' (refused ws h), refl, refl, refl)
