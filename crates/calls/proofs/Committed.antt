-- Insert and remove of a present key: the planned tree is put into the arena and into the lowest slot not held.
use mathlib.Core.Path.{◌≡◌, refl, ap, sym, ◌∙◌}
use mathlib.Core.Logic.{⊎_elim}
use mathlib.Core.List.{List, []}
use Prim.Native.Nat.{ℕ, ◌+◌, ◌*◌, ◌≤◌}
use native.Mathlib.Omega.{arith}
use lib.ListN.{length}
use Rattle.trees.specs.Tree.{Tree, size}
use Rattle.trees.specs.Shape.{Fine}
use Rattle.words.specs.Layout.{nodes, slots, slot_root, node_words, slot_words, root_word}
use Rattle.words.specs.Sound.{Sound}
use Rattle.words.specs.Owned.{Sized}
use Rattle.words.specs.Model.{slotting}
use Rattle.words.specs.Fresh.{was_free}
use Rattle.words.specs.Commit.{Built}
use Rattle.words.proofs.Holding.{reads_link}
use Rattle.words.proofs.Changes.{outside_nodes, outside_root}
use Rattle.words.proofs.Slotting.{InSlot, slotting_in, slotting_root, slotting_size, slot_agree, slot_reads, put_owned}
use Rattle.words.proofs.Committing.{Commits}
use Rattle.words.proofs.OwnedSound.{owned_sound}
use Rattle.calls.specs.Call.{Answer}
use Rattle.calls.specs.Version.{VersionIs, Lowest}
use Rattle.calls.specs.Writing.{AllButSlot, HandsOutTree}
use Rattle.calls.proofs.Versions.{lowest_root}
use Rattle.calls.proofs.OneSlot.{same_nodes, same_slots, in_slot_others, outside_others, others_trans}
use Rattle.calls.proofs.Relabelling.{relabel_size, relabel_fine}

module _ {ws : List ℕ} {q z : ℕ} {u : Tree} {b : Built} (S : Sound ws) (low : Lowest ws q) (C : Commits Sized (nodes ws) (slots ws) [] ws u b)
    (fine : Fine u) (z-is : z ≡ size u) where
  abbrev n : ℕ
  n = nodes ws

  abbrev ws' : List ℕ
  ws' = slotting n b.words q b.link z

  put : InSlot n q b.words ws'
  put = slotting_in n b.words q b.link z

  inside : node_words * n + slot_words * q + root_word + slot_words ≤ length b.words
  inside = omega (arith, low.below, C.owned.shaped.limits.long_is)

  committed_others : AllButSlot q ws ws'
  committed_others = others_trans (outside_others C.grows.outside) (in_slot_others (rw (outside_nodes n ws b.words C.grows.outside) put))

  committed_version : VersionIs ws' q C.tree
  committed_version =
      let n_is = same_nodes committed_others in
      let e : slot_root (nodes ws') ws' q ≡ b.link = ap (λ (m : ℕ). slot_root m ws' q) n_is ∙ slotting_root n b.words q b.link z inside in
      record {
        held = record {
          inside = omega (arith, low.below, same_slots committed_others);
          held = λ f.
              ⊎_elim
              (λ l. omega (arith, e, f, l))
              (λ l. omega (arith, e, f, l.1, S.trees.limits.n_high))
              (reads_link n b.words b.link C.tree C.reads);
        };
        reads = rw (e, n_is) (slot_reads n q b.words ws' put b.link C.tree C.reads);
      }

  pub committed : HandsOutTree ws u (Answer.slot q) ws'
  committed =
      let e = outside_root n ws b.words C.grows.outside q ∙ lowest_root low in
      let s : z ≡ size C.tree = z-is ∙ ap size (sym C.planned) ∙ relabel_size (was_free ws) C.tree in
      record {
        before = S;
        after = owned_sound n (slots ws) ws' (put_owned Sized n (slots ws) q b.words [] low.below b.link z C.tree C.owned e C.reads (relabel_fine (was_free ws) C.planned fine, s));
        out = q;
        lowest = low;
        answer = refl;
        tree = C.tree;
        version = committed_version;
        tree_is = C.planned;
        size_is = slotting_size n b.words q b.link z inside ∙ z-is;
        others = committed_others;
        live_kept = λ j l k p r. slot_agree n q b.words ws' put j l.0 l.1 k p r ∙ C.grows.agree j l k p r;
      }
