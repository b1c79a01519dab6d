-- The reserves suffice, over versions of an arena, and how many nodes an insert takes.
use mathlib.Core.Path.{◌≡◌, ap, ◌∙◌, subst}
use mathlib.Core.Bool.{true}
use mathlib.Core.List.{List}
use mathlib.Core.Option.{some}
use Prim.Native.Nat.{ℕ, ◌+◌, ◌-◌, ◌^◌, ◌≤◌, ◌<◌}
use native.Mathlib.Omega.{arith}
use Rattle.std.specs.Prelude.{if◌then◌else◌}
use Rattle.heights.specs.Height.{insert_reserve, remove_reserve}
use Rattle.trees.specs.Tree.{Entry, Tree, listing, size, made}
use Rattle.trees.specs.Listing.{find, is_some}
use Rattle.trees.specs.Lookup.{has, path}
use Rattle.trees.specs.Insert.{insert}
use Rattle.trees.specs.Remove.{remove}
use Rattle.trees.specs.Edit.{setting}
use Rattle.trees.proofs.Lookups.{has_find}
use Rattle.trees.proofs.InsertMade.{made-insert}
use Rattle.trees.proofs.Reserves.{reserve_insert, reserve_remove}
use Rattle.words.specs.Layout.{nodes, slot_root}
use Rattle.words.specs.Sound.{Sound, free_number}
use Rattle.words.specs.Owned.{idles}
use Rattle.words.proofs.Bounds.{size-nodes}
use Rattle.words.proofs.Committing.{reads_made}
use Rattle.words.proofs.FreeNumber.{sound_idles}
use Rattle.calls.specs.Call.{Answer}
use Rattle.calls.specs.Version.{VersionIs}
use Rattle.calls.specs.Writing.{HandsOutTree, Edited}
use Rattle.calls.proofs.Versions.{version_one, version_fine}
use Rattle.calls.proofs.Taken.{takes}

module _ {ws : List ℕ} {s : ℕ} {t : Tree} (S : Sound ws) (x : VersionIs ws s t) where
  all_kept : made t ≡ 0
  all_kept = reads_made (nodes ws) ws (slot_root (nodes ws) ws s) t x.reads

  small : size t < 2 ^ 32 - 1
  small =
      omega (arith, size-nodes (nodes ws) ws (slot_root (nodes ws) ws s) t x.reads (version_fine S x).ordered, S.trees.limits.n_high)

  -- "That these suffice is to be proved": where no NO_ROOM is given there are enough free nodes for the commit.
  pub insert_fits : (e : Entry) → insert_reserve (size t) ≤ free_number S → made (insert e t) ≤ idles (nodes ws) ws
  insert_fits e h = omega (arith, reserve_insert t (version_fine S x) all_kept small e, sound_idles ws S)

  pub remove_fits : (k : ℕ) {e : Entry} → find k (listing t) ≡ some e → remove_reserve (size t) ≤ free_number S → made (remove k t) ≤ idles (nodes ws) ws
  remove_fits k f h =
      let i : has k t ≡ true = has_find k t (version_fine S x).ordered ∙ ap is_some f in
      omega (arith, reserve_remove t (version_fine S x) all_kept small k i, sound_idles ws S)

  -- "Insert thus takes as many nodes as its search path has, one more for a new key."
  pub insert_takes : {e : Entry} {a : Answer} {ws' : List ℕ} → Edited ws s (setting e) a ws' → (S' : Sound ws') →
      free_number S' + (path e.key t + (if has e.key t then 0 else 1)) ≡ free_number S
  insert_takes {e} {a} {ws'} g S' =
      let h = subst (λ (u : Tree). HandsOutTree ws (insert e u) a ws') (version_one g.version x) g.hands_out in
      omega (arith, takes h S S', made-insert e t (version_fine S x).shape all_kept)
