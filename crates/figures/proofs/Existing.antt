-- Insert and remove have an outcome wherever their reserve is there: the edited tree can be put into the arena.
use mathlib.Core.Path.{◌≡◌, refl, sym, subst}
use mathlib.Core.Logic.{◌⊎◌, inl, inr}
use mathlib.Core.List.{List, []}
use mathlib.Core.Option.{some}
use Prim.Native.Nat.{ℕ, ◌≤◌}
use native.Mathlib.Omega.{arith}
use Rattle.heights.specs.Height.{insert_reserve, remove_reserve}
use Rattle.trees.specs.Tree.{Entry, Place, kept, fresh, Tree, leaf, node, listing, size, made}
use Rattle.trees.specs.Listing.{find}
use Rattle.trees.specs.Edit.{Edit, setting, cutting, edit}
use Rattle.trees.proofs.Sharing.{AtPart, AllParts, parts_edit, AllKept}
use Rattle.words.specs.Layout.{nodes, slots, left, right, slot_root}
use Rattle.words.specs.Reads.{Reads}
use Rattle.words.specs.Sound.{Sound, free_number}
use Rattle.words.specs.Owned.{Live, Owned, Sized, idles}
use Rattle.words.specs.Commit.{Built, raising_all, building}
use Rattle.words.proofs.OwnedLaws.{live_left, live_right}
use Rattle.words.proofs.Countups.{Shares}
use Rattle.words.proofs.Committing.{Commits, commits}
use Rattle.words.proofs.SoundOwned.{sound_owned}
use Rattle.calls.specs.Call.{Call, Answer}
use Rattle.calls.specs.Version.{VersionIs, Lowest}
use Rattle.calls.specs.Outcome.{Outcome}
use Rattle.calls.proofs.Versions.{version_root}
use Rattle.calls.proofs.Rooms.{insert_fits, remove_fits}
use Rattle.calls.proofs.WritingOutcomes.{insert_outcome, remove_outcome}

-- The tree is in the arena at the number of its root, which is live.
abbrev InArena : ℕ → List ℕ → Tree → Type 0
InArena n ws leaf = Unit {0}
InArena n ws (node (kept i) c l e r) = Reads n ws i (node (kept i) c l e r) × Live n ws i
InArena n ws (node fresh c l e r) = Unit {0}

-- So is every part of a tree that is read at a live link.
module _ (Valid : ℕ → Tree → ℕ → Type 0) (n v : ℕ) (ws P : List ℕ) (o : Owned Valid n v ws P) where
  reads_parts : (i : ℕ) (t : Tree) → (i ≡ 0) ⊎ Live n ws i → Reads n ws i t → AllParts (InArena n ws) t
  reads_parts i leaf m h = tt
  reads_parts i (node p c l e r) (inl z) h = absurd (omega (arith, h.1.low))
  reads_parts i (node p c l e r) (inr m) h = (
    subst (λ (q : Place). AtPart (InArena n ws) (node q c l e r)) (sym h.0) ((refl, h.1, h.2, h.3), m),
    reads_parts (left ws i) l (live_left Valid n v ws P o i m) h.2,
    reads_parts (right ws i) r (live_right Valid n v ws P o i m) h.3,
  )

-- Which is what a commit asks of the kept parts of a planned tree.
parts_live : (n : ℕ) (ws : List ℕ) (t : Tree) → AllParts (InArena n ws) t → AllKept (Live n ws) t
parts_live n ws leaf a = tt
parts_live n ws (node (kept i) c l e r) a = (a.0.1, parts_live n ws l a.1, parts_live n ws r a.2)
parts_live n ws (node fresh c l e r) a = (tt, parts_live n ws l a.1, parts_live n ws r a.2)

parts_shared : (n : ℕ) (ws : List ℕ) (t : Tree) → AllParts (InArena n ws) t → Shares n ws t
parts_shared n ws leaf a = tt
parts_shared n ws (node (kept i) c l e r) a = a.0.0
parts_shared n ws (node fresh c l e r) a = (parts_shared n ws l a.1, parts_shared n ws r a.2)

module _ {ws : List ℕ} {s : ℕ} {t : Tree} (S : Sound ws) (x : VersionIs ws s t) where
  abbrev put : Edit → Built
  put d = building (raising_all ws (edit d t)) (edit d t)

  edit_commits : (d : Edit) → made (edit d t) ≤ idles (nodes ws) ws → Commits Sized (nodes ws) (slots ws) [] ws (edit d t) (put d)
  edit_commits d m =
      let o = sound_owned ws S in
      let p = reads_parts Sized (nodes ws) (slots ws) ws [] o (slot_root (nodes ws) ws s) t (version_root S x) x.reads in
      let q = parts_edit (InArena (nodes ws) ws) d t p in
      commits Sized (nodes ws) (slots ws) (edit d t) ws [] o (parts_live (nodes ws) ws (edit d t) q) (parts_shared (nodes ws) ws (edit d t) q) m

  module _ {q : ℕ} (low : Lowest ws q) where
    pub insert_exists : (e : Entry) → insert_reserve (size t) ≤ free_number S → (w : List ℕ) × Outcome (Call.insert s e) ws (Answer.slot q) w
    insert_exists e h =
        let d = setting e in
        (_, insert_outcome S low x (size (edit d t)) (put d) e h (edit_commits d (insert_fits S x e h)) refl)

    pub remove_exists : (k : ℕ) {e : Entry} → find k (listing t) ≡ some e → remove_reserve (size t) ≤ free_number S →
        (w : List ℕ) × Outcome (Call.remove s k) ws (Answer.slot q) w
    remove_exists k f h =
        let d = cutting k in
        (_, remove_outcome S low x (size (edit d t)) (put d) k f h (edit_commits d (remove_fits S x k f h)) refl)
