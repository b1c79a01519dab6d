-- Release: the slot is given up, and its root released.
use mathlib.Core.Path.{refl, ◌∙◌}
use mathlib.Core.List.{List, []}
use Prim.Native.Nat.{ℕ, ◌+◌, ◌*◌, ◌≤◌}
use native.Mathlib.Omega.{arith}
use lib.ListN.{length}
use Rattle.trees.specs.Tree.{Tree}
use Rattle.words.specs.Layout.{nodes, slots, slot_root, not_held, max_height, node_words, slot_words, root_word}
use Rattle.words.specs.Sound.{Sound}
use Rattle.words.specs.Owned.{Sized}
use Rattle.words.specs.Model.{releasing, freed, unslotting}
use Rattle.words.proofs.Changes.{outside_root, outside_size}
use Rattle.words.proofs.Slotting.{InSlot, slotting_in, slotting_root, slotting_size, slot_count, slot_agree, slot_reads, take_owned}
use Rattle.words.proofs.Releasing as releasing
use Rattle.words.proofs.SoundOwned.{sound_owned}
use Rattle.words.proofs.OwnedSound.{owned_sound}
use Rattle.words.proofs.Bounds.{reads_low}
use Rattle.calls.specs.Call.{Answer}
use Rattle.calls.specs.Version.{VersionIs}
use Rattle.calls.specs.Writing.{GivenUp}
use Rattle.calls.proofs.Versions.{version_fine}
use Rattle.calls.proofs.OneSlot.{same_nodes, in_slot_others, outside_others, others_trans}

module _ {ws : List ℕ} {s : ℕ} {t : Tree} (S : Sound ws) (x : VersionIs ws s t) where
  abbrev n : ℕ
  n = nodes ws

  abbrev root : ℕ
  root = slot_root n ws s

  abbrev given_up : List ℕ
  given_up = unslotting n ws s

  abbrev left : List ℕ
  left = releasing max_height given_up root

  take : InSlot n s ws given_up
  take = slotting_in n ws s not_held 0

  inside : node_words * n + slot_words * s + root_word + slot_words ≤ length ws
  inside = omega (arith, x.held.inside, S.trees.limits.long_is)

  gone : releasing.Released Sized n (slots ws) [] (freed max_height given_up root) given_up left
  gone =
      releasing.releasing_released
      Sized
      n
      (slots ws)
      max_height
      given_up
      []
      root
      t
      (take_owned Sized n (slots ws) s ws [] x.held.inside t (sound_owned ws S) x.reads)
      (slot_reads n s ws given_up take root t x.reads)
      (reads_low n ws root t S.trees.limits.n_high x.reads (version_fine S x))

  pub released : GivenUp ws s Answer.done left
  released =
      record {
        before = S;
        after = owned_sound n (slots ws) left gone.owned;
        held = x.held;
        answer = refl;
        root_is = outside_root n given_up left gone.outside s ∙ slotting_root n ws s not_held 0 inside;
        size_is = outside_size n given_up left gone.outside s ∙ slotting_size n ws s not_held 0 inside;
        others = others_trans (in_slot_others take) (outside_others (rw (same_nodes (in_slot_others take)) gone.outside));
        live_kept = λ j l.
            let k = gone.kept j l in (
              (k.0.0, k.0.1, omega (arith, slot_count n s ws given_up take j k.0.1, k.0.2)),
              λ c p r. k.1 c p r ∙ slot_agree n s ws given_up take j k.0.0 k.0.1 c p r,
            );
      }
