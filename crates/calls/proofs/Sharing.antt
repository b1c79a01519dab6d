-- New, hold and remove of an absent key: a slot for a root that is there already. Their words are an equation; what it keeps.
use mathlib.Core.Path.{◌≡◌, refl, ap, sym, ◌∙◌}
use mathlib.Core.Logic.{◌⊎◌, inl}
use mathlib.Core.List.{List, [], ◌∷◌}
use Prim.Native.Nat.{ℕ, ◌+◌, ◌*◌, ◌≤◌}
use native.Mathlib.Omega.{arith}
use lib.ListN.{length}
use Rattle.trees.specs.Tree.{Tree, leaf, size}
use Rattle.trees.specs.Shape.{Fine, rb_leaf}
use Rattle.words.specs.Layout.{nodes, slots, slot_root, slot_size, node_words, slot_words, root_word, header_words}
use Rattle.words.specs.Reads.{Reads}
use Rattle.words.specs.Sound.{Sound, free_number}
use Rattle.words.specs.Owned.{Live, Owned, Sized, Agree, idles}
use Rattle.words.specs.Model.{raising, slotting}
use Rattle.words.proofs.Holding.{frame_all}
use Rattle.words.proofs.Changes.{Outside, outside_nodes, outside_root}
use Rattle.words.proofs.Recounting.{owned_long, raising_owned, raising_idles, raising_outside, raising_agree}
use Rattle.words.proofs.Slotting.{InSlot, slotting_in, slotting_root, slot_agree, slot_idles, put_owned}
use Rattle.words.proofs.SoundOwned.{sound_owned}
use Rattle.words.proofs.OwnedSound.{owned_sound}
use Rattle.words.proofs.FreeNumber.{sound_idles}
use Rattle.calls.specs.Version.{VersionIs, Lowest}
use Rattle.calls.specs.Writing.{AllButSlot}
use Rattle.calls.proofs.Versions.{version_fine, version_size, version_root, version_link, lowest_root}
use Rattle.calls.proofs.OneSlot.{OneSlot, same_nodes, same_slots, in_slot_others, outside_others, others_trans}

-- A root of a sound arena that a slot may hold: none, or a live node, with a fine tree and its size.
pub record Root (ws : List ℕ) (r z : ℕ) (t : Tree) : Type 0 where
  pub live : (r ≡ 0) ⊎ Live (nodes ws) ws r
  pub low : r ≤ nodes ws
  pub reads : Reads (nodes ws) ws r t
  pub fine : Fine t
  pub size_is : z ≡ size t

pub no_root : (ws : List ℕ) → Root ws 0 0 leaf
no_root ws = record { live = inl refl; low = omega arith; reads = refl; fine = record { ordered = tt; root = refl; blacks = 0; shape = rb_leaf }; size_is = refl }

pub version_is_root : {ws : List ℕ} {s : ℕ} {t : Tree} → Sound ws → VersionIs ws s t →
    Root ws (slot_root (nodes ws) ws s) (slot_size (nodes ws) ws s) t
version_is_root S x =
    record { live = version_root S x; low = version_link S x; reads = x.reads; fine = version_fine S x; size_is = version_size S x }

module _ (ws : List ℕ) (r z q : ℕ) (t : Tree) (S : Sound ws) (low : Lowest ws q) (R : Root ws r z t) where
  abbrev n : ℕ
  n = nodes ws

  abbrev v : ℕ
  v = slots ws

  abbrev raised : List ℕ
  raised = raising ws r

  abbrev shared : List ℕ
  shared = slotting n raised q r z

  raised_owned : Owned Sized n v raised (r ∷ [])
  raised_owned = raising_owned Sized n v ws [] r (sound_owned ws S) R.live

  long : node_words * n + header_words ≤ length ws
  long = owned_long Sized n v ws [] (sound_owned ws S)

  out : Outside n ws raised
  out = raising_outside n ws long r R.low

  in_slot : InSlot n q raised shared
  in_slot = slotting_in n raised q r z

  pub shared_agree : (j : ℕ) → 1 ≤ j → j ≤ n → Agree ws shared j
  shared_agree j p b k a c = slot_agree n q raised shared in_slot j p b k a c ∙ raising_agree n ws long r R.low j p b k a c

  pub shared_others : AllButSlot q ws shared
  shared_others = others_trans (outside_others out) (in_slot_others (rw (outside_nodes n ws raised out) in_slot))

  pub shared_sound : Sound shared
  shared_sound =
      let e = outside_root n ws raised out q ∙ lowest_root low in
      let h = frame_all n ws raised (raising_agree n ws long r R.low) r t R.reads in
      owned_sound n v shared (put_owned Sized n v q raised [] low.below r z t raised_owned e h (R.fine, R.size_is))

  pub shared_one : OneSlot q ws shared
  shared_one =
      record {
        sound = shared_sound;
        others = shared_others;
        reads_kept = λ s u f x. frame_all n ws shared shared_agree (slot_root n ws s) u x.reads;
      }

  -- The slot handed out holds the tree at the root.
  pub shared_version : VersionIs shared q t
  shared_version =
      let b : node_words * n + slot_words * q + root_word + slot_words ≤ length raised = omega (arith, low.below, raised_owned.shaped.limits.long_is) in
      let n_is = same_nodes shared_others in
      let e : slot_root (nodes shared) shared q ≡ r = ap (λ (m : ℕ). slot_root m shared q) n_is ∙ slotting_root n raised q r z b in
      record {
        held = record {
          inside = omega (arith, low.below, same_slots shared_others);
          held = λ f. omega (arith, e, f, R.low, S.trees.limits.n_high);
        };
        reads = rw (e, n_is) (frame_all n ws shared shared_agree r t R.reads);
      }

  -- No node is taken and none is freed.
  pub shared_free : (S' : Sound shared) → free_number S' ≡ free_number S
  shared_free S' =
      sound_idles shared S' ∙ ap (λ (m : ℕ). idles m shared) (same_nodes shared_others) ∙ slot_idles n q raised shared in_slot ∙
      raising_idles n ws long r R.live ∙ sym (sound_idles ws S)
