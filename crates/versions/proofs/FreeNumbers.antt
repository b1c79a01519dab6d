-- The free number after a call: nodes taken are gone from it, and nodes freed are in it.
use mathlib.Core.Path.{◌≡◌, ap, sym, ◌∙◌}
use mathlib.Core.List.{List}
use Prim.Native.Nat.{ℕ, ◌+◌}
use native.Mathlib.Omega.{arith}
use mir.Syntax.{w32}
use mir.Val.{Fits}
use Rattle.words.specs.Layout.{nodes}
use Rattle.words.specs.Sound.{Sound}
use Rattle.words.specs.Owned.{idles}
use Rattle.words.specs.Model.{slotting, releasing, freed}
use Rattle.words.proofs.Changes.{outside_nodes}
use Rattle.words.proofs.Recounting.{idles_few}
use Rattle.words.proofs.Releasing.{Released, releasing_released}
use Rattle.words.proofs.Slotting.{slotting_in, slot_idles, slot_header}
use Rattle.words.proofs.FreeNumber.{sound_idles}
use Rattle.nodes.specs.Promises.{Any, Holds, Releases}
use Rattle.versions.specs.Free.{FreeIs}

-- a nodes were taken and b were freed.
pub balanced : {ws w : List ℕ} {f f' : ℕ} (a b : ℕ) → Sound ws → FreeIs ws f → nodes w ≡ nodes ws → idles (nodes ws) w + a ≡ idles (nodes ws) ws + b →
    f' + a ≡ f + b → FreeIs w f'
balanced {ws = ws} {w = w} a b S F e i j =
    record {
      is = λ S'. let z = ap (λ (m : ℕ). idles m w) e in omega (arith, sound_idles w S', sound_idles ws S, F.is S);
    }

-- A slot's words are no node's.
module _ (n : ℕ) (ws : List ℕ) (q root size : ℕ) where
  pub slotted_nodes : nodes (slotting n ws q root size) ≡ nodes ws
  unfolding nodes
  slotted_nodes = slot_header n q ws _ (slotting_in n ws q root size) 0 (omega arith)

  pub slotted_idles : idles n (slotting n ws q root size) ≡ idles n ws
  slotted_idles = slot_idles n q ws _ (slotting_in n ws q root size)

pub slotted_free : {ws w : List ℕ} {f n : ℕ} (q root size : ℕ) → Sound ws → FreeIs ws f → n ≡ nodes ws → w ≡ slotting n ws q root size → FreeIs w f
slotted_free {ws = ws} q root size S F e z =
    rw (z, e) (balanced 0 0 S F (slotted_nodes (nodes ws) ws q root size) (omega (arith, slotted_idles (nodes ws) ws q root size)) (omega arith))

-- A release frees as many nodes as it answers.
module _ {ws w w' : List ℕ} {i h r : ℕ} (S : Sound ws) (e : nodes w ≡ nodes ws) (k : Holds w i h) (x : Releases h w w' i r) where
  left : Released Any k.n k.v k.others (freed h w i) w (releasing h w i)
  left = releasing_released Any k.n k.v h w k.others i k.tree k.owned k.reads k.low

  same : k.n ≡ nodes ws
  same = sym k.owned.shaped.n_is ∙ e

  left_idles : idles (nodes ws) w' ≡ r + idles (nodes ws) w
  left_idles =
      let a = left.more in
      rw (x.words_are, x.freed_is) (rw same at a)

  pub released_nodes : nodes w' ≡ nodes ws
  released_nodes = rw x.words_are (outside_nodes k.n w (releasing h w i) left.outside ∙ e)

  module _ (j : idles (nodes ws) w ≡ idles (nodes ws) ws) {f : ℕ} (F : FreeIs ws f) where
    pub released_free : FreeIs w' (f + r)
    released_free = balanced 0 r S F released_nodes (omega (arith, left_idles)) (omega arith)

    pub released_fits : Fits w32 (f + r)
    released_fits =
        record {
          fits = omega (arith, left_idles, idles_few (nodes ws) w', sound_idles ws S, F.is S, S.trees.limits.n_high);
        }
