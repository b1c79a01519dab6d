-- Nodes that stand at the same place have the same count, as their names stand in pairs; so the two arenas are alike.
use mathlib.Core.Path.{◌≡◌, ap, sym, ◌∙◌, subst}
use mathlib.Core.Logic.{◌⊎◌, inl, inr, ⊎_elim}
use mathlib.Core.Bool.{Bool}
use mathlib.Core.List.{List}
use Prim.Native.Nat.{ℕ, ◌≤◌, ◌<◌}
use native.Mathlib.Omega.{arith}
use native.Mathlib.Decide.{ℕ_discrete}
use lib.ListN.{length, get_or}
use Rattle.words.specs.Layout.{nodes, slots, left, right, count, slot_root, slot_size, max_nodes, header_words, head_word}
use Rattle.words.specs.Counting.{same, run}
use Rattle.words.specs.Sound.{named, Sound}
use Rattle.words.proofs.Counts.{same_eq, same_ne}
use Rattle.words.proofs.SoundOwned.{reached_in}
use Rattle.calls.specs.Alike.{Twins, at_slot, at_left, at_right, Match, Alike}
use Rattle.calls.proofs.Versions.{held_or_not}
use Rattle.calls.proofs.Pairing.{over, occ_over, over_run}
use Rattle.calls.proofs.Facing.{swap, twin_reached, pairs_sum}
use Rattle.calls.proofs.Beside.{Towards, twin_nodes, twin_one, facing}

-- Two numbers are equal exactly where two others are.
same_both : (a b i j : ℕ) → (a ≡ i → b ≡ j) → (b ≡ j → a ≡ i) → same a i ≡ same b j
same_both a b i j f g = go (ℕ_discrete a i)
  where
    go : Dec (a ≡ i) → same a i ≡ same b j
    go (yes e) = same_eq a i e ∙ sym (same_eq b j (f e))
    go (no d) = same_ne a i d ∙ sym (same_ne b j (λ e. d (g e)))

module _ {isNew : ℕ → Bool} {q : ℕ} {ws ws' : List ℕ} (T : Towards isNew q ws ws') (T' : Towards isNew q ws' ws) (v_is : slots ws' ≡ slots ws) where
  S : Sound ws
  S = T'.sound'

  S' : Sound ws'
  S' = T.sound'

  twin_one' : (i j k : ℕ) → Twins ws ws' i k → Twins ws ws' j k → i ≡ j
  twin_one' i j k t t' = twin_one T' k i j (swap (facing T) t) (swap (facing T) t')

  -- One link names i where the other names j, and so do two slots.
  same_link : {a b i j : ℕ} → Twins ws ws' a b → Twins ws ws' i j → same a i ≡ same b j
  same_link {a} {b} {i} {j} t w =
      same_both
      a
      b
      i
      j
      (λ e. twin_one T i b j (subst (λ (x : ℕ). Twins ws ws' x b) e t) w)
      (λ e. twin_one' a i j (subst (λ (x : ℕ). Twins ws ws' a x) e t) w)

  same_slot : {i j : ℕ} → Twins ws ws' i j → i ≤ max_nodes → j ≤ max_nodes → (s : ℕ) → s < slots ws →
      same (slot_root (nodes ws) ws s) i ≡ same (slot_root (nodes ws') ws' s) j
  same_slot {i} {j} t b b' s p =
      ⊎_elim
      (λ h. same_link (at_slot s h) t)
      (λ e.
      same_ne (slot_root (nodes ws) ws s) i (λ z. omega arith) ∙
      sym (same_ne (slot_root (nodes ws') ws' s) j (λ z. (T'.both s (record { inside = omega arith; held = λ y. omega arith })).version'.held.held e)))
      (held_or_not ws s p)

  pub twin_counts : {i j : ℕ} → Twins ws ws' i j → 1 ≤ i → count ws' j ≡ count ws i
  unfolding named S S'
  twin_counts {i} {j} t p =
      let F = facing T in
      let F' = facing T' in
      let b = reached_in ws S (twin_reached F t p) in
      let b' = reached_in ws' S' (twin_reached F' (swap F t) (F.some_node t p)) in
      let m = S.trees.limits.n_high in
      let m' = S'.trees.limits.n_high in
      let l = pairs_sum F F' S S' (twin_one T) (twin_one T') (λ x. same (left ws x) i) (λ y. same (left ws' y) j) (λ x y u. same_link (at_left u.1 u.0) t) in
      let r = pairs_sum F F' S S' (twin_one T) (twin_one T') (λ x. same (right ws x) i) (λ y. same (right ws' y) j) (λ x y u. same_link (at_right u.1 u.0) t) in
      let k =
      over_run
      (λ s. same (slot_root (nodes ws) ws s) i)
      (λ s. same (slot_root (nodes ws') ws' s) j)
      0
      (slots ws)
      (λ s h. same_slot t (omega (arith, b.1)) (omega (arith, b'.1)) s (omega arith)) in
      let k' = ap (λ (v : ℕ). over (λ s. same (slot_root (nodes ws') ws' s) j) (run 0 v)) v_is in
      omega (
        arith,
        S.books.counts i b.0 b.1,
        S'.books.counts j b'.0 b'.1,
        occ_over (left ws) i S.books.reached,
        occ_over (right ws) i S.books.reached,
        occ_over (slot_root (nodes ws) ws) i (run 0 (slots ws)),
        occ_over (left ws') j S'.books.reached,
        occ_over (right ws') j S'.books.reached,
        occ_over (slot_root (nodes ws') ws') j (run 0 (slots ws')),
      )

  twin_match : (i j : ℕ) → Twins ws ws' i j → ((i ≡ 0) × (j ≡ 0)) ⊎ Match isNew ws ws' i j
  twin_match i j t =
      ⊎_elim
      inl
      (λ m. inr (record {
        some_node = m.some_node;
        entry_is = m.entry_is;
        color_is = m.color_is;
        count_is = twin_counts t m.some_node.0;
        place = m.place;
      }))
      (twin_nodes T t)

  -- So the two are alike, if they have their other words in common.
  pub alike : length ws' ≡ length ws → ((k : ℕ) → k < header_words → (k ≡ head_word → ⊥) → get_or ws' k 0 ≡ get_or ws k 0) →
      ((s : ℕ) → s < slots ws → slot_size (nodes ws') ws' s ≡ slot_size (nodes ws) ws s) → Alike isNew ws ws'
  unfolding S S'
  alike long header sizes =
      record {
        sound = S;
        sound' = S';
        long = long;
        header = header;
        held = λ s. (λ h. (T.both s h).version'.held, λ h. (T'.both s h).version'.held);
        sizes = sizes;
        match = twin_match;
        one = twin_one T;
        one' = twin_one';
      }
