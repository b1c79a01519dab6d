-- One law for each way in which insert and remove return.
use mathlib.Core.Path.{◌≡◌, refl, ap, sym, ◌∙◌, subst}
use mathlib.Core.Bool.{Bool, true, false, not}
use mathlib.Core.List.{List}
use mathlib.Core.Option.{some, none}
use Prim.Native.Nat.{ℕ, ◌≤◌, ◌<◌}
use native.Mathlib.Omega.{arith}
use Rattle.std.specs.Prelude.{Option, Some, None}
use Rattle.std.specs.Option.{is_some}
use Rattle.heights.specs.Height.{insert_reserve, remove_reserve}
use Rattle.trees.specs.Tree as trees
use Rattle.trees.specs.Edit.{setting, cutting, edit}
use Rattle.trees.specs.Listing.{find}
use Rattle.trees.specs.Listing as listing
use Rattle.trees.specs.Lookup.{get, has}
use Rattle.trees.proofs.Lookups.{get_find, has_find}
use Rattle.words.specs.Layout.{nodes, max_height}
use Rattle.words.specs.Sound.{Sound}
use Rattle.words.specs.Model.{raising, slotting}
use Rattle.arena.specs.Nodes.{entry_of}
use Rattle.arena.specs.declared.Entry.{Entry}
use Rattle.lookup.specs.Finding.{Rooted, Finds, found_of}
use Rattle.lookup.proofs.Versions.{version_rooted}
use Rattle.calls.specs.Refusal as calls
use Rattle.calls.specs.Call as call
use Rattle.calls.specs.Outcome.{Outcome}
use Rattle.calls.proofs.WritingOutcomes.{insert_full, insert_outcome, remove_full, remove_outcome, remove_absent_outcome}
use Rattle.versions.specs.declared.Parent.{Parent}
use Rattle.versions.specs.Slots.{ParentOf, Parents}
use Rattle.versions.specs.Free.{FreeIs}
use Rattle.writing.specs.Planned.{Edits, Present}
use Rattle.versions.proofs.Opening.{parents}
use Rattle.writing.proofs.Editing.{t, version, fine, reads, only, parent_size, parent_small}

-- What `is_none` says of what was found.
some_of : (o : Option Entry) {b : Bool} → is_some o ≡ not b → b ≡ false → (y : trees.Entry) × (found_of o ≡ some y)
some_of (Some y) i z = (entry_of y, refl)
some_of None i z = cc

none_of : (o : Option Entry) {b : Bool} → is_some o ≡ not b → b ≡ true → found_of o ≡ none
none_of (Some y) i z = cc
none_of None i z = refl

module _ {ws : List ℕ} {s : ℕ} {p : Parent} (S : Sound ws) (h : ParentOf ws s p) where
  abbrev k : Parents ws p
  k = parents S h

  pub opened_small : p.size < 4294967295
  opened_small = parent_small k

  pub opened_rooted : Rooted ws p.root max_height
  opened_rooted = subst (λ (i : ℕ). Rooted ws i max_height) (sym h.root_is) (version_rooted ws S s h.held)

  module _ {f r : ℕ} (F : FreeIs ws f) (e : trees.Entry) (q : r ≡ insert_reserve p.size) where
    pub insert_no_room : f < r → Outcome (call.Call.insert s e) ws (call.Answer.refused calls.Refusal.no_room) ws
    insert_no_room l = insert_full S h.lowest (version k) e (omega (arith, F.is S, ap insert_reserve (parent_size k)))

    pub insert_told : {w : List ℕ} {m : ℕ} → r ≤ f → Edits ws w p (setting e) m → Outcome (call.Call.insert s e) ws (call.Answer.slot p.out) w
    insert_told {w} l E =
        let P = E.edits (t k) (reads k) in
        rw
        P.words_are
        (insert_outcome
        S
        h.lowest
        (version k)
        (trees.size (edit (setting e) (t k)))
        P.built
        e
        (omega (arith, F.is S, ap insert_reserve (parent_size k)))
        P.commits
        refl)

  module _ {o : Option Entry} (key : ℕ) (m : Finds ws p.root o (get key)) where
    found_is : find key (trees.listing (t k)) ≡ found_of o
    found_is = sym (m.says (nodes ws) (t k) (reads k) ∙ get_find key (t k) (fine k).ordered)

    module _ {b : Bool} (i : is_some o ≡ not b) where
      pub remove_absent : {w : List ℕ} → b ≡ true → w ≡ slotting (nodes ws) (raising ws p.root) p.out p.root p.size →
          Outcome (call.Call.remove s key) ws (call.Answer.slot p.out) w
      remove_absent {w} z e =
          rw (e, h.root_is, h.size_is) (remove_absent_outcome S h.lowest (version k) key (found_is ∙ none_of o i z))

      module _ (z : b ≡ false) where
        there : (y : trees.Entry) × (find key (trees.listing (t k)) ≡ some y)
        there = let y = some_of o i z in (y.0, found_is ∙ y.1)

        pub found_present : Present ws p key
        found_present =
            record {
              present = λ u r.
                  let here : has key (t k) ≡ true = has_find key (t k) (fine k).ordered ∙ ap listing.is_some there.1 in
                  rw (only k u r) here;
            }

        module _ {f r : ℕ} (F : FreeIs ws f) (q : r ≡ remove_reserve p.size) where
          pub remove_no_room : f < r → Outcome (call.Call.remove s key) ws (call.Answer.refused calls.Refusal.no_room) ws
          remove_no_room l = remove_full S h.lowest (version k) key there.1 (omega (arith, F.is S, ap remove_reserve (parent_size k)))

          pub remove_told : {w : List ℕ} {m : ℕ} → r ≤ f → Edits ws w p (cutting key) m → Outcome (call.Call.remove s key) ws (call.Answer.slot p.out) w
          remove_told {w} l E =
              let P = E.edits (t k) (reads k) in
              rw
              P.words_are
              (remove_outcome
              S
              h.lowest
              (version k)
              (trees.size (edit (cutting key) (t k)))
              P.built
              key
              there.1
              (omega (arith, F.is S, ap remove_reserve (parent_size k)))
              P.commits
              refl)
