-- The free number after an edit: the nodes that it took are gone from it.
use mathlib.Core.Path.{◌≡◌, ap, ◌∙◌}
use mathlib.Core.List.{List}
use Prim.Native.Nat.{ℕ, ◌+◌, ◌-◌, ◌≤◌}
use native.Mathlib.Omega.{arith}
use Rattle.trees.specs.Tree.{size}
use Rattle.trees.specs.Edit.{Edit, edit}
use Rattle.words.specs.Layout.{nodes}
use Rattle.words.specs.Sound.{Sound}
use Rattle.words.specs.Owned.{idles}
use Rattle.words.proofs.FreeNumber.{sound_idles}
use Rattle.versions.specs.declared.Parent.{Parent}
use Rattle.versions.specs.Free.{FreeIs}
use Rattle.versions.specs.Slots.{ParentOf, Parents}
use Rattle.versions.proofs.Opening.{parents}
use Rattle.versions.proofs.FreeNumbers.{balanced, slotted_nodes, slotted_idles}
use Rattle.writing.specs.Planned.{PutInSlot, Edits}
use Rattle.writing.proofs.Editing.{t, reads}

module _ {ws : List ℕ} {s : ℕ} {p : Parent} (S : Sound ws) (h : ParentOf ws s p) {f : ℕ} (F : FreeIs ws f) where
  abbrev k : Parents ws p
  k = parents S h

  module _ {w : List ℕ} {d : Edit} {m : ℕ} (E : Edits ws w p d m) where
    put : PutInSlot ws w (edit d (t k)) p.out (size (edit d (t k))) m
    put = E.edits (t k) (reads k)

    put_nodes : nodes w ≡ nodes ws
    put_nodes =
        rw
        put.words_are
        (slotted_nodes (nodes ws) put.built.words p.out put.built.link (size (edit d (t k))) ∙ put.commits.owned.shaped.n_is)

    put_idles : idles (nodes ws) w + m ≡ idles (nodes ws) ws
    put_idles =
        let a = slotted_idles (nodes ws) put.built.words p.out put.built.link (size (edit d (t k))) in
        let z = ap (idles (nodes ws)) put.words_are in
        omega (arith, put.takes, put.commits.taken)

    pub edit_few : m ≤ f
    edit_few = omega (arith, put_idles, F.is S, sound_idles ws S)

    pub edit_free : FreeIs w (f - m)
    edit_free = balanced m 0 S F put_nodes (omega (arith, put_idles)) (omega (arith, edit_few))
