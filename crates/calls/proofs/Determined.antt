-- "Answer and every arena word afterwards follow from the inputs, for refusals too; a pair of outcomes allowed for the same input is proved equal":
-- the words too, but for the exceptions of insert, remove and release.
use mathlib.Core.Path.{◌≡◌, refl, ap, sym, ◌∙◌, subst}
use mathlib.Core.Logic.{◌⊎◌, inl, inr}
use mathlib.Core.Bool.{Bool}
use mathlib.Core.List.{List}
use mathlib.Core.Option.{Option, none, some}
use Prim.Native.Nat.{ℕ}
use native.Mathlib.Omega.{arith}
use Rattle.trees.specs.Tree.{Entry, Tree, listing}
use Rattle.trees.specs.Listing.{find}
use Rattle.trees.specs.Edit.{Edit, edit}
use Rattle.words.specs.Fresh.{was_free}
use Rattle.words.proofs.FreeNumber.{same_free}
use Rattle.calls.specs.Call.{Call, Answer}
use Rattle.calls.specs.Effect.{effect}
use Rattle.calls.specs.Table.{tests}
use Rattle.calls.specs.Writing.{HandsOutRoot, HandsOutTree, Edited, Removed}
use Rattle.calls.specs.Outcome.{Accepted, Outcome}
use Rattle.calls.specs.Alike.{Alike, renamed_by, SameBut}
use Rattle.calls.proofs.Versions.{version_one, lowest_one}
use Rattle.calls.proofs.Decisions.{Either, either, first_or_passed}
use Rattle.calls.proofs.Seeing.{Sees, seen_same}
use Rattle.calls.proofs.SameFormat.{same_format}
use Rattle.calls.proofs.AlikeAfter.{hands_out_alike, released_alike}

found_or_not : (k : ℕ) {t u : Tree} {e : Entry} → t ≡ u → find k (listing t) ≡ some e → find k (listing u) ≡ none → ⊥
found_or_not k p f n =
    let q = ap (λ (x : Tree). find k (listing x)) p in
    let z : ◌≡◌ {A = ℕ} 0 1 = cc in
    omega arith

module _ {ws : List ℕ} {a b : Answer} {w w' : List ℕ} where
  root_words : {r z : ℕ} → HandsOutRoot ws r z a w → HandsOutRoot ws r z b w' → w ≡ w'
  root_words g h = g.words_are ∙ rw (lowest_one g.lowest h.lowest) (sym h.words_are)

  edited_words : {s : ℕ} {d : Edit} → Edited ws s d a w → Edited ws s d b w' → Alike (was_free ws) w w'
  edited_words {s} {d} g h =
      hands_out_alike (subst (λ (t : Tree). HandsOutTree ws (edit d t) a w) (version_one g.version h.version) g.hands_out) h.hands_out

  removed_words : {s k : ℕ} → Removed ws s k a w → Removed ws s k b w' → (w ≡ w') ⊎ Alike (was_free ws) w w'
  removed_words {k = k} (Removed.present g e) (Removed.present h f) = inr (edited_words g h)
  removed_words {k = k} (Removed.present g e) (Removed.absent y f h) = absurd (found_or_not k (version_one g.version y) e f)
  removed_words {k = k} (Removed.absent x e g) (Removed.present h f) = absurd (found_or_not k (version_one h.version x) f e)
  removed_words {k = k} (Removed.absent x e g) (Removed.absent y f h) = inl (root_words g.hands_out h.hands_out)

-- Two accepted calls.
accepted_words : (c : Call) (ws : List ℕ) (a b : Answer) (w w' : List ℕ) → Accepted c ws a w → Accepted c ws b w' →
    SameBut (renamed_by (effect c) ws) w w'
accepted_words (Call.format n v) ws a b w w' g h = same_format g h
accepted_words Call.new ws a b w w' g h = root_words g h
accepted_words (Call.hold s) ws a b w w' g h = root_words g.hands_out h.hands_out
accepted_words (Call.release s) ws a b w w' g h = inr (released_alike g h)
accepted_words (Call.size s) ws a b w w' g h = g.unchanged ∙ sym h.unchanged
accepted_words Call.free_nodes ws a b w w' g h = g.unchanged ∙ sym h.unchanged
accepted_words (Call.get s k) ws a b w w' g h = g.unchanged ∙ sym h.unchanged
accepted_words (Call.first s) ws a b w w' g h = g.unchanged ∙ sym h.unchanged
accepted_words (Call.last s) ws a b w w' g h = g.unchanged ∙ sym h.unchanged
accepted_words (Call.insert s e) ws a b w w' g h = inr (edited_words g h)
accepted_words (Call.remove s k) ws a b w w' g h = removed_words g h
accepted_words (Call.compare s t) ws a b w w' g h = g.unchanged ∙ sym h.unchanged
accepted_words (Call.equal s t) ws a b w w' g h = g.unchanged ∙ sym h.unchanged
accepted_words (Call.step d x) ws a b w w' g h = g.unchanged ∙ sym h.unchanged
accepted_words (Call.rescale_mark s) ws a b w w' g h = g.unchanged ∙ sym h.unchanged
accepted_words Call.soundness_test ws a b w w' g h = g.unchanged ∙ sym h.unchanged
accepted_words (Call.difference x) ws a b w w' g h = g.unchanged ∙ sym h.unchanged

-- A refused call changes no word, so nothing is renamed.
same_words : (x : Option (ℕ → Bool)) {w w' : List ℕ} → w ≡ w' → SameBut x w w'
same_words none e = e
same_words (some f) e = inl e

-- An arena sees itself.
sees_itself : (ws : List ℕ) → Sees ws ws
sees_itself ws =
    record { long = refl; slots_is = refl; sound = λ S. S; held = λ s h. h; version = λ s t x. (t, x, refl); free = λ S S'. same_free ws S' S }

pub determined : {c : Call} {ws : List ℕ} {a b : Answer} {w w' : List ℕ} → Outcome c ws a w → Outcome c ws b w' →
    (a ≡ b) × SameBut (renamed_by (effect c) ws) w w'
determined {c} {ws} {a} {b} {w} {w'} g h = (seen_same (sees_itself ws) (sees_itself ws) g h, go (either g) (either h))
  where
    go : Either c (tests c) ws a w → Either c (tests c) ws b w' → SameBut (renamed_by (effect c) ws) w w'
    go (Either.refuses f e x) (Either.refuses f' e' x') = same_words (renamed_by (effect c) ws) (x ∙ sym x')
    go (Either.refuses f e x) (Either.accepts p k) = absurd (first_or_passed f p)
    go (Either.accepts p k) (Either.refuses f e x) = absurd (first_or_passed f p)
    go (Either.accepts p k) (Either.accepts p' k') = accepted_words c ws a b w w' k k'
