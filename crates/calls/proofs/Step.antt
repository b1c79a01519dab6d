-- Demand 3, one call: whatever it is and however it goes, the arena stays sound and each slot as the model has it.
use mathlib.Core.Path.{◌≡◌, refl, ap, sym, ◌∙◌}
use mathlib.Core.Logic.{⊎_elim}
use mathlib.Core.Bool.{Bool, true, false}
use mathlib.Core.List.{List, [], ◌∷◌}
use mathlib.Core.Option.{Option, none, some}
use Prim.Native.Nat.{ℕ}
use native.Mathlib.Omega.{arith}
use lib.Dec.{eqb}
use borrow.Author.Tests.{eqb-true, eqb-false}
use Rattle.std.specs.Prelude.{if◌then◌else◌}
use Rattle.trees.specs.Tree.{Entry, Tree, leaf, listing}
use Rattle.trees.specs.Listing.{find, first_of, last_of, cut}
use Rattle.trees.specs.Edit.{Edit, setting, cutting, edited}
use Rattle.trees.specs.Range.{next}
use Rattle.trees.specs.Difference.{next_difference}
use Rattle.trees.proofs.Edits.{listing-edit}
use Rattle.words.specs.Layout.{slot_root}
use Rattle.words.specs.Sound.{Sound}
use Rattle.words.proofs.FreeNumber.{free_number_is}
use Rattle.calls.specs.Call.{Call, Answer}
use Rattle.calls.specs.Table.{tests}
use Rattle.calls.specs.Effect.{effect}
use Rattle.calls.specs.Version.{VersionIs}
use Rattle.words.specs.Fresh.{was_free}
use Rattle.calls.specs.Reading.{answer_by, value_of}
use Rattle.calls.specs.Writing.{Formatted, HandsOutRoot, HandsOutAgain, Edited, Removed}
use Rattle.calls.specs.Outcome.{Accepted, Outcome}
use Rattle.calls.specs.History.{Model, no_versions, with_slot, edited_at, handed, after, Lists, SlotAs, Keeps}
use Rattle.calls.proofs.Versions.{version_one, version_of, version_fine, version_low}
use Rattle.calls.proofs.OneSlot.{OneSlot, same_nodes, same_slots, held_before, carried, hands_out_one, released_one}
use Rattle.calls.proofs.Sharing.{Root, no_root, version_is_root, shared_one, shared_version}
use Rattle.calls.proofs.Formatting.{format_sound, format_not_held}
use Rattle.calls.proofs.Relabelling.{relabel_listing}
use Rattle.calls.proofs.Decisions.{Either, either}

pub lists_version : {ws : List ℕ} {s : ℕ} {t : Tree} → Sound ws → VersionIs ws s t → Lists ws s (listing t)
lists_version {t = t} S x = record { tree = t; version = x; listing_is = refl; low = version_low S x }

-- One slot changes, to what the model now has for it.
module _ {q : ℕ} {ws ws' : List ℕ} (d : OneSlot q ws ws') {m : Model} (K : Keeps ws m) where
  other_as : (x : Option (List Entry)) (s : ℕ) → (s ≡ q → ⊥) → SlotAs ws s x → SlotAs ws' s x
  other_as none s f a = λ h. a (held_before d.others s f h)
  other_as (some xs) s f a = record { tree = a.tree; version = carried d f a.version; listing_is = a.listing_is; low = a.low }

  pub slot_keeps : (x : Option (List Entry)) → SlotAs ws' q x → Keeps ws' (with_slot m q x)
  slot_keeps x h =
      record {
        sound = d.sound;
        n_is = same_nodes d.others ∙ K.n_is;
        v_is = same_slots d.others ∙ K.v_is;
        slot_as = λ s. go s (eqb s q) refl;
        free_is = λ S xs r. free_number_is ws' S xs r ∙ same_nodes d.others ∙ K.n_is;
      }
    where
      go : (s : ℕ) (b : Bool) → eqb s q ≡ b → SlotAs ws' s (if b then x else m.lists s)
      go s true e = rw (eqb-true s q e) h
      go s false e = other_as (m.lists s) s (eqb-false s q e) (K.slot_as s)

  -- The slot holds a version: the model now has its listing.
  pub version_keeps : (t : Tree) (x : Option (List Entry)) → VersionIs ws' q t → x ≡ some (listing t) → Keeps ws' (with_slot m q x)
  version_keeps t x h e = slot_keeps x (rw e (lists_version d.sound h))

-- The model has the listing of each version.
pub model_has : {ws : List ℕ} {m : Model} {s : ℕ} {t : Tree} → Keeps ws m → VersionIs ws s t → m.lists s ≡ some (listing t)
model_has {ws} {m} {s} {t} K x = go (m.lists s) (K.slot_as s)
  where
    go : (y : Option (List Entry)) → SlotAs ws s y → y ≡ some (listing t)
    go none a = absurd (a x.held)
    go (some xs) a = ap some (sym a.listing_is ∙ ap listing (version_one a.version x))

cut_absent : (k : ℕ) (xs : List Entry) → find k xs ≡ none → cut k xs ≡ xs
cut_absent k [] h = refl
cut_absent k (e ∷ xs) h = go (eqb k e.key) h (cut_absent k xs)
  where
    go : (b : Bool) → (if b then some e else find k xs) ≡ none → (find k xs ≡ none → cut k xs ≡ xs) →
        (if b then xs else e ∷ cut k xs) ≡ e ∷ xs
    go true h ih = absurd (let z : ◌≡◌ {A = ℕ} 0 1 = cc in omega arith)
    go false h ih = ap (λ (ys : List Entry). e ∷ ys) (ih h)

module _ {ws ws' : List ℕ} {m : Model} {a : Answer} (K : Keeps ws m) where
  shares_keeps : (c : Call) {r z : ℕ} (t : Tree) → Root ws r z t → handed (effect c) m ≡ some (listing t) → HandsOutRoot ws r z a ws' →
      Keeps ws' (after c a m)
  shares_keeps c {r} {z} t R e g =
      rw
      (g.answer, g.words_are)
      (version_keeps
      (shared_one ws r z g.out t g.before g.lowest R)
      K
      t
      (handed (effect c) m)
      (shared_version ws r z g.out t g.before g.lowest R)
      e)

  holds_keeps : (c : Call) {s : ℕ} {t : Tree} → VersionIs ws s t → handed (effect c) m ≡ some (listing t) → HandsOutAgain ws s a ws' →
      Keeps ws' (after c a m)
  holds_keeps c {t = t} x e g = shares_keeps c t (version_is_root g.hands_out.before x) e g.hands_out

  edited_keeps : (c : Call) {s : ℕ} {d : Edit} → handed (effect c) m ≡ edited_at d (m.lists s) → Edited ws s d a ws' → Keeps ws' (after c a m)
  edited_keeps c {s} {d} e g =
      let o = g.hands_out in
      let l : listing o.tree ≡ edited d (listing g.parent) =
      sym (relabel_listing (was_free ws) o.tree) ∙ ap listing o.tree_is ∙
      listing-edit d g.parent (version_fine o.before g.version).ordered in
      rw
      o.answer
      (version_keeps
      (hands_out_one o)
      K
      o.tree
      (handed (effect c) m)
      o.version
      (e ∙ ap (edited_at d) (model_has K g.version) ∙ ap some (sym l)))

  removed_keeps : {s k : ℕ} → Removed ws s k a ws' → Keeps ws' (after (Call.remove s k) a m)
  removed_keeps {s} {k} (Removed.present g h) = edited_keeps (Call.remove s k) {s = s} {d = cutting k} refl g
  removed_keeps {s} {k} (Removed.absent {t = t} x h g) =
      holds_keeps (Call.remove s k) x (ap (edited_at (cutting k)) (model_has K x) ∙ ap some (cut_absent k (listing t) h)) g

  -- A call that writes nothing.
  still : (c : Call) (b : Answer) → after c b m ≡ m → a ≡ b → ws' ≡ ws → Keeps ws' (after c a m)
  still c b p e w = rw (w, e, p) K

  found_keeps : {A : Type 0} (c : Call) (f : A → Answer) → ((e : A) → after c (f e) m ≡ m) → (o : Option A) → answer_by f o ≡ some a → ws' ≡ ws →
      Keeps ws' (after c a m)
  found_keeps c f p none e w = absurd (let z : ◌≡◌ {A = ℕ} 0 1 = cc in omega arith)
  found_keeps c f p (some x) e w = still c (f x) (p x) (cc) w

  told_keeps : (c : Call) (b : Answer) → after c b m ≡ m → some b ≡ some a → ws' ≡ ws → Keeps ws' (after c a m)
  told_keeps c b p e w = still c b p (cc) w

pub formatted_keeps : {n v : ℕ} {ws ws' : List ℕ} {a : Answer} → Formatted n v ws a ws' → Keeps ws' (no_versions n v)
formatted_keeps {ws' = ws'} f =
    record {
      sound = format_sound f;
      n_is = f.n_is;
      v_is = f.v_is;
      slot_as = λ s h. format_not_held f s h;
      free_is = λ S xs r. free_number_is ws' S xs r ∙ f.n_is;
    }

accepted_keeps : (c : Call) (ws ws' : List ℕ) (m : Model) (a : Answer) → Keeps ws m → Accepted c ws a ws' → Keeps ws' (after c a m)
accepted_keeps (Call.format n v) ws ws' m a K g = rw g.answer (formatted_keeps g)
accepted_keeps Call.new ws ws' m a K g = shares_keeps K Call.new leaf (no_root ws) refl g
accepted_keeps (Call.hold s) ws ws' m a K g =
    let x = version_of g.hands_out.before s g.held in
    holds_keeps K (Call.hold s) x (model_has K x) g
accepted_keeps (Call.release s) ws ws' m a K g =
    rw g.answer (slot_keeps (released_one g) K none λ h. h.held (ap (λ (n : ℕ). slot_root n ws' s) (same_nodes g.others) ∙ g.root_is))
accepted_keeps (Call.size s) ws ws' m a K g = told_keeps K (Call.size s) _ refl g.answer g.unchanged
accepted_keeps Call.free_nodes ws ws' m a K g = still K Call.free_nodes _ refl g.answer g.unchanged
accepted_keeps (Call.get s k) ws ws' m a K g = found_keeps K (Call.get s k) value_of (λ e. refl) (find k (listing g.tree)) g.answer g.unchanged
accepted_keeps (Call.first s) ws ws' m a K g = found_keeps K (Call.first s) Answer.entry (λ e. refl) (first_of (listing g.tree)) g.answer g.unchanged
accepted_keeps (Call.last s) ws ws' m a K g = found_keeps K (Call.last s) Answer.entry (λ e. refl) (last_of (listing g.tree)) g.answer g.unchanged
accepted_keeps (Call.insert s e) ws ws' m a K g = edited_keeps K (Call.insert s e) {s = s} {d = setting e} refl g
accepted_keeps (Call.remove s k) ws ws' m a K g = removed_keeps K g
accepted_keeps (Call.compare s t) ws ws' m a K g = told_keeps K (Call.compare s t) _ refl g.answer g.unchanged
accepted_keeps (Call.equal s t) ws ws' m a K g = told_keeps K (Call.equal s t) _ refl g.answer g.unchanged
accepted_keeps (Call.step d w) ws ws' m a K g = found_keeps K (Call.step d w) Answer.entry (λ e. refl) (next d w.range (listing g.tree)) g.answer g.unchanged
accepted_keeps (Call.rescale_mark s) ws ws' m a K g = told_keeps K (Call.rescale_mark s) _ refl g.answer g.unchanged
accepted_keeps Call.soundness_test ws ws' m a K g =
    ⊎_elim
    (λ x. still K Call.soundness_test (Answer.truth true) refl x.1 g.unchanged)
    (λ x. still K Call.soundness_test (Answer.truth false) refl x.1 g.unchanged)
    g.answer
accepted_keeps (Call.difference x) ws ws' m a K g =
    found_keeps
    K
    (Call.difference x)
    Answer.difference
    (λ d. refl)
    (next_difference x.given (listing g.tree) (listing g.other))
    g.answer
    g.unchanged

-- Accepted or refused.
pub step_keeps : {c : Call} {ws ws' : List ℕ} {m : Model} {a : Answer} → Keeps ws m → Outcome c ws a ws' → Keeps ws' (after c a m)
step_keeps {c} {ws} {ws'} {m} {a} K o = go (either o)
  where
    go : Either c (tests c) ws a ws' → Keeps ws' (after c a m)
    go (Either.refuses {r = r} f e w) = still K c (Answer.refused r) refl e w
    go (Either.accepts p h) = accepted_keeps c ws ws' m a K h
