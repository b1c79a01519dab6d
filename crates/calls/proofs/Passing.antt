-- A test that is passed: facts about the arena that shut each refusal out. And the refusals that calls have in common, where they are due.
use mathlib.Core.Path.{◌≡◌, sym, ◌∙◌, subst}
use mathlib.Core.Logic.{◌⊎◌, inl, inr, ⊎_elim}
use mathlib.Core.Bool.{false, true≢false}
use mathlib.Core.List.{List, [], ◌∷◌}
use mathlib.Core.Option.{some}
use Prim.Native.Nat.{ℕ, zero, suc, ◌+◌, ◌≤◌, ◌<◌}
use native.Mathlib.Omega.{arith}
use native.Mathlib.Decide.{ℕ_discrete}
use Rattle.heights.specs.Height.{insert_reserve, remove_reserve}
use Rattle.trees.specs.Tree.{Entry, Tree, listing, size}
use Rattle.trees.specs.Listing.{find}
use Rattle.trees.specs.Range.{End, is_bad_range}
use Rattle.words.specs.Layout.{nodes, slots, slot_root, not_held}
use Rattle.words.specs.Counting.{occ}
use Rattle.words.specs.Reads.{Held}
use Rattle.words.specs.Sound.{Sound, free_number}
use Rattle.words.proofs.Counts.{same_ne}
use Rattle.words.proofs.FreeNumber.{same_free}
use Rattle.calls.specs.Refusal.{Refusal}
use Rattle.calls.specs.Call.{Walk, Call, Answer}
use Rattle.calls.specs.Table.{slots_of, tests}
use Rattle.calls.specs.Version.{VersionIs, Lowest}
use Rattle.calls.specs.Given.{Given}
use Rattle.calls.specs.Outcome.{Outcome}
use Rattle.calls.proofs.Versions.{version_one, held_or_not}
use Rattle.calls.proofs.Decisions.{First, Passed, refused_outcome}

-- Every slot that the call names is held.
abbrev pub AllHeld : List ℕ → List ℕ → Type 0
AllHeld ws xs = (s : ℕ) → 1 ≤ occ s xs → Held ws s

module _ {ws : List ℕ} where
  none_held : AllHeld ws []
  unfolding occ
  none_held x h = absurd (omega arith)

  next_held : {s : ℕ} (xs : List ℕ) → Held ws s → AllHeld ws xs → AllHeld ws (s ∷ xs)
  unfolding occ
  next_held {s} xs h f x o = go (ℕ_discrete s x)
    where
      go : Dec (s ≡ x) → Held ws x
      go (yes e) = subst (Held ws) e h
      go (no d) = f x (omega (arith, same_ne s x d))

  pub one_held : {s : ℕ} → Held ws s → AllHeld ws (s ∷ [])
  one_held h = next_held [] h none_held

  pub two_held : {s t : ℕ} → Held ws s → Held ws t → AllHeld ws (s ∷ (t ∷ []))
  two_held {t = t} h k = next_held (t ∷ []) h (one_held k)

  pub not_unsound : {c : Call} → Sound ws → Given ws Refusal.unsound c → ⊥
  not_unsound S (Given.unsound f) = f S

  pub not_no_version : {c : Call} → AllHeld ws (slots_of c) → Given ws Refusal.no_version c → ⊥
  not_no_version h (Given.no_version s o f) = f (h s o)

  pub not_bad_range : {d : End} {w : Walk} → is_bad_range w.range.start w.range.end ≡ false → Given ws Refusal.bad_range (Call.step d w) → ⊥
  not_bad_range h (Given.bad_range e) = true≢false (sym e ∙ h)

  pub not_no_slot : {c : Call} {q : ℕ} → Lowest ws q → Given ws Refusal.no_slot c → ⊥
  not_no_slot {q = q} l (Given.no_slot f) = l.unheld (f q l.below)

module _ {ws : List ℕ} {s : ℕ} {t : Tree} (S : Sound ws) (x : VersionIs ws s t) where
  pub not_insert_room : {e : Entry} → insert_reserve (size t) ≤ free_number S → Given ws Refusal.no_room (Call.insert s e) → ⊥
  not_insert_room h (Given.insert_room {t = u} Q y l) =
      let z = version_one y x in
      omega (arith, same_free ws S Q, subst (λ (v : Tree). free_number Q < insert_reserve (size v)) z l)

  pub not_remove_room : {k : ℕ} → ((e : Entry) → find k (listing t) ≡ some e → remove_reserve (size t) ≤ free_number S) →
      Given ws Refusal.no_room (Call.remove s k) → ⊥
  not_remove_room {k} h (Given.remove_room {t = u} {e = e} Q y f l) =
      let z = version_one y x in
      omega (
        arith,
        h e (subst (λ (v : Tree). find k (listing v) ≡ some e) z f),
        same_free ws S Q,
        subst (λ (v : Tree). free_number Q < remove_reserve (size v)) z l,
      )

-- The tests with which all calls begin but format, new, free nodes and the soundness test.
module _ {ws : List ℕ} {c : Call} {rs : List Refusal} (starts : tests c ≡ Refusal.unsound ∷ rs) where
  pub unsound_outcome : (Sound ws → ⊥) → Outcome c ws (Answer.refused Refusal.unsound) ws
  unsound_outcome f = refused_outcome (rw starts (First.here (Given.unsound f)))

module _ {ws : List ℕ} {c : Call} {rs : List Refusal} (starts : tests c ≡ Refusal.unsound ∷ (Refusal.no_version ∷ rs)) (S : Sound ws) where
  pub no_version_outcome : (s : ℕ) → 1 ≤ occ s (slots_of c) → (Held ws s → ⊥) → Outcome c ws (Answer.refused Refusal.no_version) ws
  no_version_outcome s o f = refused_outcome (rw starts (First.later (not_unsound S) (First.here (Given.no_version s o f))))

  -- Past both.
  pub past_version : {r : Refusal} → AllHeld ws (slots_of c) → First ws c r rs → First ws c r (tests c)
  past_version h f = rw starts (First.later (not_unsound S) (First.later (not_no_version h) f))

  pub passed_version : AllHeld ws (slots_of c) → Passed ws c rs → Passed ws c (tests c)
  passed_version h p = rw starts (Passed.and (not_unsound S) (Passed.and (not_no_version h) p))

-- There is a slot to hand out, the lowest not held, or all are held.
pub lowest_or_full : (ws : List ℕ) → ((q : ℕ) × Lowest ws q) ⊎ ((s : ℕ) → s < slots ws → Held ws s)
lowest_or_full ws = search_from (slots ws) 0 (omega arith) (λ s p. absurd (omega arith))
  where
    search_from : (k q : ℕ) → q + k ≡ slots ws → ((s : ℕ) → s < q → Held ws s) → ((q : ℕ) × Lowest ws q) ⊎ ((s : ℕ) → s < slots ws → Held ws s)
    search_from zero q e f = inr (λ s p. f s (omega arith))
    search_from (suc k) q e f = ⊎_elim (λ h. search_from k (suc q) (omega arith) (more h)) found (held_or_not ws q (omega arith))
      where
        more : Held ws q → (s : ℕ) → s < suc q → Held ws s
        more h s p = pick (ℕ_discrete s q)
          where
            pick : Dec (s ≡ q) → Held ws s
            pick (yes z) = subst (Held ws) (sym z) h
            pick (no d) = f s (omega arith)

        found : slot_root (nodes ws) ws q ≡ not_held → ((q : ℕ) × Lowest ws q) ⊎ ((s : ℕ) → s < slots ws → Held ws s)
        found z = inl (q, record { below = omega arith; unheld = λ h. h.held z; lower_held = f })
