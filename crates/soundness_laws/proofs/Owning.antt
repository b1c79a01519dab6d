-- The queue, the free list, the summaries and the slots make `Sound`, and no less.
use mathlib.Core.Path.{refl}
use mathlib.Core.Bool.{Bool}
use mathlib.Core.List.{List, []}
use Prim.Native.Nat.{ℕ, ◌-◌, ◌≤◌}
use native.Mathlib.Omega.{arith}
use Rattle.trees.specs.Tree.{Tree, leaf, node, size, height}
use Rattle.words.specs.Layout.{nodes, slots}
use Rattle.words.specs.Counting.{occ}
use Rattle.words.specs.Reads.{Reads}
use Rattle.words.specs.Sound.{Sound}
use Rattle.words.specs.Owned.{Live, Owned, Sized}
use Rattle.words.proofs.Bounds.{size-nodes}
use Rattle.words.proofs.OwnedSound.{owned_sound}
use Rattle.words.proofs.SoundOwned.{sound_owned}
use Rattle.words.proofs.FreeNumber.{free-idles, sound_idles}
use Rattle.soundness_laws.specs.Answer.{Answers, Decides}
use Rattle.soundness_laws.specs.Summary.{Brief}
use Rattle.soundness_laws.specs.Whole.{Whole, SlotsRight, SoundWith}
use Rattle.soundness_laws.specs.Known.{AllKnown}

height-size : (t : Tree) → height t ≤ size t
height-size leaf = omega arith
height-size (node p c l e r) = omega (arith, height-size l, height-size r)

sound_slots : (ws : List ℕ) → Sound ws → SlotsRight ws
sound_slots ws S = record { are = λ s l. record { version = (sound_owned ws S).versions s l } }

module _ (ws queue : List ℕ) (tail : ℕ) (W : Whole ws queue tail) (B : ℕ → Brief) (A : AllKnown ws B) where
  tree_of : (x : ℕ) → Live (nodes ws) ws x → (t : Tree) × Reads (nodes ws) ws x t × (height t ≤ nodes ws)
  tree_of x l =
      let K = A.live x l in
      (K.tree, K.holds, omega (arith, height-size K.tree, size-nodes (nodes ws) ws x K.tree K.holds K.tells.good.ordered))

  owned : SlotsRight ws → Owned Sized (nodes ws) (slots ws) ws []
  unfolding occ
  owned R =
      record {
        shaped = record { limits = W.within; n_is = refl; v_is = refl };
        bound = nodes ws;
        trees = tree_of;
        counts = W.counts;
        pending = λ p h. absurd (omega arith);
        free = W.free;
        chain = W.chain;
        frees = W.frees;
        versions = λ s h. (R.are s h).version;
      }

  whole_sound : SlotsRight ws → SoundWith ws (nodes ws - tail)
  unfolding owned
  whole_sound R =
      let S = owned_sound (nodes ws) (slots ws) ws (owned R) in
      (S, omega (arith, sound_idles ws S, free-idles Sized (nodes ws) (slots ws) ws [] (owned R), W.rest))

  -- The slots decide.
  pub all_right : (b : Bool) → Decides b (SlotsRight ws) → Answers b (SoundWith ws (nodes ws - tail)) (Sound ws → ⊥)
  all_right b d = record { yes = λ e. whole_sound (d.yes e); no = λ e S. d.no e (sound_slots ws S) }
