-- What it comes to, word by word, that two arenas are alike: every slot's root and every node that may not be renamed is the same in both, its links
-- but for renamed nodes, and a node that may not be renamed is free in both or in neither.
use mathlib.Core.Path.{◌≡◌, sym, ◌∙◌, subst}
use mathlib.Core.Logic.{◌⊎◌, inl, inr, ⊎_elim}
use mathlib.Core.Bool.{Bool, false, true≢false}
use mathlib.Core.List.{List}
use Prim.Native.Nat.{ℕ, ◌≤◌, ◌<◌}
use native.Mathlib.Omega.{arith}
use native.Mathlib.Decide.{dec_le}
use Rattle.words.specs.Layout.{nodes, slots, entry, left, right, color, count, slot_root}
use Rattle.words.specs.Sound.{Reached}
use Rattle.words.proofs.SoundOwned.{sound_owned, reached_in}
use Rattle.words.proofs.OwnedSound.{reached_live, live_reached}
use Rattle.calls.specs.Alike.{Twins, at_slot, at_left, at_right, Match, Alike}
use Rattle.calls.proofs.Versions.{held_or_not}
use Rattle.calls.proofs.Facing.{partner}
use Rattle.calls.proofs.Beside.{SamePlace}
use Rattle.calls.proofs.Unseen.{there, back, swapped, same_nodes, same_slots}

-- Node j in both: the same count, and where it is live the same contents, its links but for renamed nodes.
pub record SameNode (renamed : ℕ → Bool) (ws ws' : List ℕ) (j : ℕ) : Type 0 where
  pub count_is : count ws' j ≡ count ws j
  pub entry_is : 1 ≤ count ws j → entry ws' j ≡ entry ws j
  pub color_is : 1 ≤ count ws j → color ws' j ≡ color ws j
  pub left_is : 1 ≤ count ws j → SamePlace renamed (left ws j) (left ws' j)
  pub right_is : 1 ≤ count ws j → SamePlace renamed (right ws j) (right ws' j)

module _ {renamed : ℕ → Bool} {ws ws' : List ℕ} (A : Alike renamed ws ws') where
  twin_place : {i j : ℕ} → Twins ws ws' i j → SamePlace renamed i j
  twin_place {i} {j} t = ⊎_elim (λ e. inl (e.0 ∙ sym e.1)) (λ m. m.place) (A.match i j t)

  not_renamed : {i j : ℕ} → SamePlace renamed i j → renamed i ≡ false → i ≡ j
  not_renamed (inl e) n = e
  not_renamed (inr e) n = absurd (true≢false (sym e.0 ∙ n))

  -- Each slot's root.
  pub alike_root : (s : ℕ) → s < slots ws → SamePlace renamed (slot_root (nodes ws) ws s) (slot_root (nodes ws') ws' s)
  alike_root s p =
      ⊎_elim
      (λ h. twin_place (at_slot s h))
      (λ e.
      ⊎_elim (λ h. absurd (((A.held s).1 h).held e)) (λ e'. inl (e ∙ sym e')) (held_or_not ws' s (omega (arith, same_slots A))))
      (held_or_not ws s p)

  -- A node that is reached, and one that is not.
  live_node : (j : ℕ) → renamed j ≡ false → Reached ws j → SameNode renamed ws ws' j
  live_node j n r =
      let p = partner (there A) A.sound r in
      let e = not_renamed (twin_place p.2) n in
      same (subst (λ (k : ℕ). Twins ws ws' j k) (sym e) p.2)
    where
      same : Twins ws ws' j j → SameNode renamed ws ws' j
      same t =
          let b = (reached_in ws A.sound r).0 in
          ⊎_elim
          (λ e. absurd (omega (arith, e.0)))
          (λ m. record {
            count_is = m.count_is;
            entry_is = λ l. m.entry_is;
            color_is = λ l. m.color_is;
            left_is = λ l. twin_place (at_left t b);
            right_is = λ l. twin_place (at_right t b);
          })
          (A.match j j t)

  free_node : (j : ℕ) → 1 ≤ j → j ≤ nodes ws → renamed j ≡ false → count ws j ≡ 0 → Dec (1 ≤ count ws' j) → count ws' j ≡ 0
  free_node j p q n z (no l) = omega arith
  free_node j p q n z (yes l) =
      let r = live_reached ws' (sound_owned ws' A.sound') j (p, omega (arith, same_nodes A), l) in
      let t = partner (back A) A.sound' r in
      absurd (still t.0 t.1 (A.match t.0 j (swapped A t.2)))
    where
      still : (i : ℕ) → Reached ws i → ((i ≡ 0) × (j ≡ 0)) ⊎ Match renamed ws ws' i j → ⊥
      still i r (inl e) = omega (arith, e.1)
      still i r (inr m) =
          ⊎_elim
          (λ (e : i ≡ j). let l = reached_live ws (sound_owned ws A.sound) (subst (Reached ws) e r) in omega (arith, l.2))
          (λ e. true≢false (sym e.1 ∙ n))
          m.place

  pub alike_node : (j : ℕ) → 1 ≤ j → j ≤ nodes ws → renamed j ≡ false → SameNode renamed ws ws' j
  alike_node j p q n = go (dec_le 1 (count ws j))
    where
      go : Dec (1 ≤ count ws j) → SameNode renamed ws ws' j
      go (yes l) = live_node j n (live_reached ws (sound_owned ws A.sound) j (p, q, l))
      go (no l) =
          let z : count ws j ≡ 0 = omega arith in
          record {
            count_is = free_node j p q n z (dec_le 1 (count ws' j)) ∙ sym z;
            entry_is = λ k. absurd (l k);
            color_is = λ k. absurd (l k);
            left_is = λ k. absurd (l k);
            right_is = λ k. absurd (l k);
          }
