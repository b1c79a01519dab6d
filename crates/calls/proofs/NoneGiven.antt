-- No refusal is given: for each call the facts that shut all of its refusals out. The call shows its outcome by it, and a caller, by `passed_accepts`,
-- that the call was accepted.
use mathlib.Core.Path.{◌≡◌, refl, ap}
use mathlib.Core.Bool.{false}
use mathlib.Core.List.{List}
use mathlib.Core.Option.{Option, none, some}
use Prim.Native.Nat.{ℕ, ◌≤◌}
use native.Mathlib.Omega.{arith}
use lib.ListN.{length}
use Rattle.heights.specs.Height.{insert_reserve, remove_reserve}
use Rattle.trees.specs.Tree.{Entry, Tree, listing, size}
use Rattle.trees.specs.Listing.{find, first_of, last_of}
use Rattle.trees.specs.Range.{End, next, is_bad_range}
use Rattle.trees.specs.Difference.{Difference, next_difference}
use Rattle.words.specs.Reads.{Held}
use Rattle.words.specs.Sound.{Limits, Sound, free_number}
use Rattle.calls.specs.Refusal.{Refusal}
use Rattle.calls.specs.Call.{Walk, Differences, Call}
use Rattle.calls.specs.Table.{tests}
use Rattle.calls.specs.Version.{VersionIs, Lowest}
use Rattle.calls.specs.Given.{Given}
use Rattle.calls.proofs.Versions.{version_one}
use Rattle.calls.proofs.Decisions.{Passed}
use Rattle.calls.proofs.Passing.{one_held, two_held, not_unsound, not_bad_range, not_no_slot, not_insert_room, not_remove_room, passed_version}

abbrev pub NoneGiven : List ℕ → Call → Type 0
NoneGiven ws c = Passed ws c (tests c)

pub format_passed : {n v : ℕ} {ws : List ℕ} → Limits n v (length ws) → NoneGiven ws (Call.format n v)
format_passed {n} {v} {ws} l = Passed.and no Passed.all
  where
    no : Given ws Refusal.bad_shape (Call.format n v) → ⊥
    no (Given.bad_shape f) = f l

pub soundness_test_passed : {ws : List ℕ} → NoneGiven ws Call.soundness_test
soundness_test_passed = Passed.all

module _ {ws : List ℕ} (S : Sound ws) where
  pub free_nodes_passed : NoneGiven ws Call.free_nodes
  free_nodes_passed = Passed.and (not_unsound S) Passed.all

  pub new_passed : {q : ℕ} → Lowest ws q → NoneGiven ws Call.new
  new_passed l = Passed.and (not_unsound S) (Passed.and (not_no_slot l) Passed.all)

  module _ {s : ℕ} (h : Held ws s) where
    pub release_passed : NoneGiven ws (Call.release s)
    release_passed = passed_version refl S (one_held h) Passed.all

    pub size_passed : NoneGiven ws (Call.size s)
    size_passed = passed_version refl S (one_held h) Passed.all

    pub rescale_mark_passed : NoneGiven ws (Call.rescale_mark s)
    rescale_mark_passed = passed_version refl S (one_held h) Passed.all

    pub hold_passed : {q : ℕ} → Lowest ws q → NoneGiven ws (Call.hold s)
    hold_passed l = passed_version refl S (one_held h) (Passed.and (not_no_slot l) Passed.all)

    pub compare_passed : {t : ℕ} → Held ws t → NoneGiven ws (Call.compare s t)
    compare_passed k = passed_version refl S (two_held h k) Passed.all

    pub equal_passed : {t : ℕ} → Held ws t → NoneGiven ws (Call.equal s t)
    equal_passed k = passed_version refl S (two_held h k) Passed.all

-- What is found in a version is not missing from it.
found_once : {ws : List ℕ} {s : ℕ} {t u : Tree} {e : Entry} (look : List Entry → Option Entry) → VersionIs ws s t → look (listing t) ≡ some e →
    VersionIs ws s u → look (listing u) ≡ none → ⊥
found_once look x f v n =
    let z = ap (λ (u : Tree). look (listing u)) (version_one v x) in
    let i : ◌≡◌ {A = ℕ} 0 1 = cc in
    omega arith

module _ {ws : List ℕ} {s : ℕ} {t : Tree} (S : Sound ws) (x : VersionIs ws s t) where
  pub get_passed : (k : ℕ) {e : Entry} → find k (listing t) ≡ some e → NoneGiven ws (Call.get s k)
  get_passed k f = passed_version refl S (one_held x.held) (Passed.and no Passed.all)
    where
      no : Given ws Refusal.absent (Call.get s k) → ⊥
      no (Given.no_key v n) = found_once (find k) x f v n

  pub first_passed : (e : Entry) → first_of (listing t) ≡ some e → NoneGiven ws (Call.first s)
  first_passed e f = passed_version refl S (one_held x.held) (Passed.and no Passed.all)
    where
      no : Given ws Refusal.absent (Call.first s) → ⊥
      no (Given.no_first v n) = found_once first_of x f v n

  pub last_passed : (e : Entry) → last_of (listing t) ≡ some e → NoneGiven ws (Call.last s)
  last_passed e f = passed_version refl S (one_held x.held) (Passed.and no Passed.all)
    where
      no : Given ws Refusal.absent (Call.last s) → ⊥
      no (Given.no_last v n) = found_once last_of x f v n

  module _ {q : ℕ} (l : Lowest ws q) where
    pub insert_passed : (e : Entry) → insert_reserve (size t) ≤ free_number S → NoneGiven ws (Call.insert s e)
    insert_passed e h =
        passed_version refl S (one_held x.held) (Passed.and (not_no_slot l) (Passed.and (not_insert_room S x h) Passed.all))

    pub remove_passed : (k : ℕ) → ((e : Entry) → find k (listing t) ≡ some e → remove_reserve (size t) ≤ free_number S) → NoneGiven ws (Call.remove s k)
    remove_passed k h =
        passed_version refl S (one_held x.held) (Passed.and (not_no_slot l) (Passed.and (not_remove_room S x h) Passed.all))

pub step_passed : {ws : List ℕ} {w : Walk} {t : Tree} (S : Sound ws) → VersionIs ws w.slot t → (d : End) →
    is_bad_range w.range.start w.range.end ≡ false → (e : Entry) → next d w.range (listing t) ≡ some e → NoneGiven ws (Call.step d w)
step_passed {ws} {w} S x d h e f = passed_version refl S (one_held x.held) (Passed.and (not_bad_range h) (Passed.and no Passed.all))
  where
    no : Given ws Refusal.ended (Call.step d w) → ⊥
    no (Given.ended v n) = found_once (next d w.range) x f v n

pub difference_passed : {ws : List ℕ} {x : Differences} {t u : Tree} (S : Sound ws) → VersionIs ws x.first t → VersionIs ws x.second u →
    {d : Difference} → next_difference x.given (listing t) (listing u) ≡ some d → NoneGiven ws (Call.difference x)
difference_passed {ws} {x} {t} {u} S v w {d} f = passed_version refl S (two_held v.held w.held) (Passed.and no Passed.all)
  where
    no : Given ws Refusal.ended (Call.difference x) → ⊥
    no (Given.no_difference v' w' n) =
        let y = ap listing (version_one v' v) in
        let z = ap listing (version_one w' w) in
        let o : next_difference x.given (listing t) (listing u) ≡ none = rw (← y, ← z) n in
        let i : ◌≡◌ {A = ℕ} 0 1 = cc in
        omega arith
