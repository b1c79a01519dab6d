-- Insert and remove: what the parent gives the plan, what the plan gives the commit, and the call's outcome.
use mathlib.Core.Path.{◌≡◌, ap, sym, ◌∙◌, subst}
use mathlib.Core.Bool.{Bool, true, false, not}
use mathlib.Core.List.{List, []}
use Prim.Native.Nat.{ℕ, ◌+◌, ◌-◌, ◌*◌, ◌≤◌, ◌<◌}
use native.Mathlib.Omega.{arith}
use lib.ListN.{replicate}
use mir.Syntax.{w32}
use mir.Val.{Fits}
use Rattle.std.specs.Prelude.{if◌then◌else◌}
use Rattle.heights.specs.Height.{H, insert_reserve, remove_reserve}
use Rattle.heights.proofs.Logs.{H-below}
use Rattle.trees.specs.Tree.{Entry, Tree, size, height, made}
use Rattle.trees.specs.Shape.{Fine}
use Rattle.trees.specs.Edit.{Edit, setting, cutting, edit}
use Rattle.trees.specs.Lookup.{has}
use Rattle.trees.proofs.Edits.{fine_edit, size-insert, size-remove}
use Rattle.trees.proofs.Low.{height-H}
use Rattle.trees.proofs.Sharing.{AllKept, kept_edit}
use Rattle.trees.proofs.Reserves.{reserve_insert, reserve_remove}
use Rattle.words.specs.Layout.{nodes, slots, slot_root, max_height}
use Rattle.words.specs.Reads.{Reads}
use Rattle.words.specs.Sound.{Sound}
use Rattle.words.specs.Owned.{Live, Sized, idles}
use Rattle.words.proofs.Holding.{reads_same}
use Rattle.words.proofs.SoundOwned.{sound_owned}
use Rattle.words.proofs.FreeNumber.{sound_idles}
use Rattle.words.proofs.Bounds.{version_small}
use Rattle.words.proofs.Committing.{reads_made}
use Rattle.plan.specs.Held.{Holds, Held, Room}
use Rattle.plan.specs.Steps.{Grown, Turns}
use Rattle.plan.proofs.Holdings.{reads_holds}
use Rattle.plan.proofs.Sounding.{sound_held, sound_room}
use Rattle.insertion.specs.Promises.{insert_room, News}
use Rattle.removal.specs.Promises.{remove_room, RedBlack, Removes}
use Rattle.removal.proofs.Present.{sound_red_black}
use Rattle.commit.proofs.Planning.{reads_live}
use Rattle.calls.specs.Version.{VersionIs}
use Rattle.calls.proofs.Versions.{version_of, version_fine, version_size, version_root}
use Rattle.versions.specs.declared.Parent.{Parent}
use Rattle.versions.specs.Slots.{Parents}
use Rattle.versions.specs.Free.{HasFree}
use Rattle.writing.specs.Planned.{Planned, PutInSlot, Puts, Edits, Present}

module _ {ws : List ℕ} {p : Parent} (k : Parents ws p) where
  abbrev pub S : Sound ws
  S = k.sound

  abbrev pub t : Tree
  t = S.trees.tree k.slot k.of.held

  pub version : VersionIs ws k.slot t
  version = version_of S k.slot k.of.held

  pub fine : Fine t
  fine = version_fine S version

  pub reads : Reads (nodes ws) ws p.root t
  unfolding version
  reads = subst (λ (i : ℕ). Reads (nodes ws) ws i t) (sym k.of.root_is) version.reads

  pub only : (u : Tree) → Reads (nodes ws) ws p.root u → u ≡ t
  only u r = reads_same (nodes ws) ws p.root u t r reads

  pub parent_size : p.size ≡ size t
  parent_size = k.of.size_is ∙ version_size S version

  small : size t ≤ 2047
  small = omega (arith, version_small ws S k.slot k.of.held, S.trees.limits.n_high)

  pub parent_small : p.size < 4294967295
  parent_small = omega (arith, parent_size, small)

  live : AllKept (Live (nodes ws) ws) t
  live =
      reads_live Sized (nodes ws) (slots ws) ws [] (sound_owned ws S) (slot_root (nodes ws) ws k.slot) t (version_root S version) version.reads

  none_made : made t ≡ 0
  none_made = reads_made (nodes ws) ws p.root t reads

  -- The edited tree has one entry more at most.
  edit_low : (d : Edit) → size (edit d t) ≤ 2048 → height (edit d t) ≤ max_height
  edit_low d b =
      omega (arith, height-H (edit d t) (fine_edit d t fine) (omega arith), H-below (size (edit d t)) 11 (omega arith) (omega arith))

  has_idles : {m : ℕ} → HasFree ws m → m ≤ idles (nodes ws) ws
  has_idles f = omega (arith, f.has S, sound_idles ws S)

  pub planned_edit : {plan : List ℕ} {link : ℕ} (d : Edit) → Holds ws plan link (edit d t) → Room ws plan 0 → size (edit d t) ≤ 2048 →
      made (edit d t) ≤ idles (nodes ws) ws → Planned ws plan link p.out
  planned_edit d h r b m =
      record {
        sound = S;
        tree = edit d t;
        holds = h;
        room = r;
        live = kept_edit (Live (nodes ws) ws) d t live;
        low = edit_low d b;
        fits = m;
        below = k.of.lowest.below;
      }

-- The reserves fit a word.
module _ {n r : ℕ} (e : r ≡ H n) (b : n < 4294967295) where
  height_small : r ≤ 62
  height_small = omega (arith, H-below n 31 (omega arith) (omega arith))

  pub insert_fits : Fits w32 (r + 1)
  insert_fits = record { fits = omega (arith, height_small) }

  pub remove_fits : Fits w32 (6 * r)
  remove_fits = record { fits = omega (arith, height_small) }

  pub remove_fits_more : Fits w32 (6 * r + 2)
  remove_fits_more = record { fits = omega (arith, height_small) }

-- Room that is left.
room_left : {ws plan plan' : List ℕ} {m : ℕ} → Room ws plan m → Grown ws plan plan' m → Room ws plan' 0
room_left r g =
    record {
      arena = r.arena;
      room = omega (arith, r.room, g.grows, g.same);
      links = omega (arith, r.links, g.grows);
    }

one_more : (b : Bool) → (if b then 0 else 1) ≤ 1
one_more true = omega arith
one_more false = omega arith

pub size-new : (z : ℕ) {new : Bool} → new ≡ true → z + 1 ≡ z + (if new then 1 else 0)
size-new z h = rw h

pub size_old : (z : ℕ) {new : Bool} → new ≡ false → z ≡ z + (if new then 1 else 0)
size_old z h = rw h (omega arith)

-- What a parent gives the plan.
module _ {ws : List ℕ} {p : Parent} (k : Parents ws p) where
  pub insert_scratch : Room ws (replicate 341 0) (insert_room 22)
  insert_scratch = sound_room ws 341 68 k.sound (omega arith) (omega arith)

  pub insert_held : (plan : List ℕ) → Held ws plan p.root 22
  insert_held plan = subst (λ (i : ℕ). Held ws plan i 22) (sym k.of.root_is) (sound_held ws plan k.sound k.slot k.of.held)

  pub remove_scratch : Room ws (replicate 886 0) (remove_room 22)
  remove_scratch = sound_room ws 886 177 k.sound (omega arith) (omega arith)

  pub remove_held : (plan : List ℕ) → RedBlack ws plan p.root 22
  remove_held plan = subst (λ (i : ℕ). RedBlack ws plan i 22) (sym k.of.root_is) (sound_red_black ws plan k.sound k.slot k.of.held)

-- An insertion: the plan holds the tree with the entry set, of this size.
module _ {ws plan plan' : List ℕ} {link : ℕ} {p : Parent} (e : Entry) (k : Parents ws p)
    (T : Turns ws plan plan' (insert_room 22) p.root link (edit (setting e))) where
  insert_holds : (u : Tree) → Reads (nodes ws) ws p.root u → Holds ws plan' link (edit (setting e) u)
  insert_holds u r = T.holds (reads_holds plan p.root u r)

  pub insert_planned : Room ws plan (insert_room 22) → HasFree ws (insert_reserve p.size) → Planned ws plan' link p.out
  insert_planned r f =
      planned_edit
      k
      (setting e)
      (insert_holds (t k) (reads k))
      (room_left r T.grown)
      (omega (arith, size-insert e (t k) (fine k).ordered, small k, one_more (has e.key (t k))))
      (omega (
        arith,
        reserve_insert (t k) (fine k) (none_made k) (omega (arith, small k)) e,
        has_idles k f,
        ap insert_reserve (parent_size k),
      ))

  module _ {new : Bool} {z : ℕ} (N : News ws plan p.root e.key new) (z-is : z ≡ p.size + (if new then 1 else 0)) where
    size_after : (u : Tree) → Reads (nodes ws) ws p.root u → z ≡ size (edit (setting e) u)
    size_after u r =
        z-is ∙ ap (λ (m : ℕ). m + (if new then 1 else 0)) (parent_size k) ∙
        go (has e.key (t k)) (N.says (reads_holds plan p.root (t k) (reads k))) ∙ sym (size-insert e (t k) (fine k).ordered) ∙
        ap (λ (y : Tree). size (edit (setting e) y)) (sym (only k u r))
      where
        go : (b : Bool) → new ≡ not b → size (t k) + (if new then 1 else 0) ≡ size (t k) + (if b then 0 else 1)
        go true h = rw h
        go false h = rw h

    pub insert_edits : {w : List ℕ} {m : ℕ} → Puts ws w plan' link p.out z m → Edits ws w p (setting e) m
    insert_edits {w} {m} P =
        record {
          edits = λ u r. subst (λ (y : ℕ). PutInSlot ws w (edit (setting e) u) p.out y m) (size_after u r) (P.puts (edit (setting e) u) (insert_holds u r));
        }

-- A removal of a key that is there.
module _ {ws plan plan' : List ℕ} {link : ℕ} {p : Parent} {key : ℕ} (k : Parents ws p)
    (T : Removes ws plan plan' (remove_room 22) p.root link key) (there : Present ws p key) where
  remove_holds : (u : Tree) → Reads (nodes ws) ws p.root u → Holds ws plan' link (edit (cutting key) u)
  remove_holds u r = T.holds (there.present u r) (reads_holds plan p.root u r)

  one_less : size (edit (cutting key) (t k)) + 1 ≡ size (t k)
  one_less =
      let h = there.present (t k) (reads k) in
      let s = size-remove key (t k) (fine k).ordered in
      rw h at s

  pub remove_some : 1 ≤ p.size
  remove_some = omega (arith, one_less, parent_size k)

  pub remove_planned : Room ws plan (remove_room 22) → HasFree ws (remove_reserve p.size) → Planned ws plan' link p.out
  remove_planned r f =
      planned_edit
      k
      (cutting key)
      (remove_holds (t k) (reads k))
      (room_left r T.grown)
      (omega (arith, one_less, small k))
      (omega (
        arith,
        reserve_remove (t k) (fine k) (none_made k) (omega (arith, small k)) key (there.present (t k) (reads k)),
        has_idles k f,
        ap remove_reserve (parent_size k),
      ))

  pub remove_edits : {w : List ℕ} {m : ℕ} → Puts ws w plan' link p.out (p.size - 1) m → Edits ws w p (cutting key) m
  remove_edits {w} {m} P =
      record {
        edits = λ u r.
            let q : p.size - 1 ≡ size (edit (cutting key) (t k)) = omega (arith, one_less, parent_size k) in
            let z : p.size - 1 ≡ size (edit (cutting key) u) = q ∙ ap (λ (y : Tree). size (edit (cutting key) y)) (sym (only k u r)) in
            subst (λ (y : ℕ). PutInSlot ws w (edit (cutting key) u) p.out y m) z (P.puts (edit (cutting key) u) (remove_holds u r));
      }
