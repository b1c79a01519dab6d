-- Two arenas face one another where links at the same place are both none or both nodes: then their reached nodes stand in pairs.
use mathlib.Core.Path.{◌≡◌}
use mathlib.Core.List.{List}
use Prim.Native.Nat.{ℕ, ◌≤◌}
use Rattle.words.specs.Layout.{nodes, left, right, slot_root}
use Rattle.words.specs.Reads.{Held}
use Rattle.words.specs.Sound.{Reached, from_slot, from_left, from_right, Sound}
use Rattle.words.proofs.SoundOwned.{reached_some}
use Rattle.calls.specs.Alike.{Twins, at_slot, at_left, at_right}
use Rattle.calls.proofs.Pairing.{over, Paired, paired_sum}

pub record Facing (ws ws' : List ℕ) : Type 0 where
  pub held : (s : ℕ) → Held ws s → Held ws' s
  pub some_node : {i j : ℕ} → Twins ws ws' i j → 1 ≤ i → 1 ≤ j

module _ {ws ws' : List ℕ} (F : Facing ws ws') where
  -- The other way round.
  pub swap : {i j : ℕ} → Twins ws ws' i j → Twins ws' ws j i
  swap (at_slot s h) = at_slot s (F.held s h)
  swap (at_left t p) = at_left (swap t) (F.some_node t p)
  swap (at_right t p) = at_right (swap t) (F.some_node t p)

  -- Nodes that stand beside one another are reached, and each reached node stands beside one.
  pub twin_reached : {i j : ℕ} → Twins ws ws' i j → 1 ≤ i → Reached ws i
  twin_reached (at_slot s h) p = from_slot s h p
  twin_reached (at_left {i = x} t m) p = from_left x (twin_reached t m) p
  twin_reached (at_right {i = x} t m) p = from_right x (twin_reached t m) p

  pub partner : Sound ws → {x : ℕ} → Reached ws x → (y : ℕ) × Reached ws' y × Twins ws ws' x y
  partner S (from_slot s h p) = (slot_root (nodes ws') ws' s, from_slot s (F.held s h) (F.some_node (at_slot s h) p), at_slot s h)
  partner S (from_left i r p) =
      let t = partner S r in
      let w = at_left t.2 (reached_some ws S r) in
      (left ws' t.0, from_left t.0 t.1 (F.some_node w p), w)
  partner S (from_right i r p) =
      let t = partner S r in
      let w = at_right t.2 (reached_some ws S r) in
      (right ws' t.0, from_right t.0 t.1 (F.some_node w p), w)

-- A node of the one stands beside one node of the other only.
abbrev pub OneToOne : List ℕ → List ℕ → Type 0
OneToOne ws ws' = (i j k : ℕ) → Twins ws ws' i j → Twins ws ws' i k → j ≡ k

abbrev pub Pair : List ℕ → List ℕ → ℕ → ℕ → Type 0
Pair ws ws' x y = (1 ≤ x) × Twins ws ws' x y

module _ {ws ws' : List ℕ} (F : Facing ws ws') (F' : Facing ws' ws) (S : Sound ws) (S' : Sound ws') where
  paired : Paired (Pair ws ws') S.books.reached S'.books.reached
  paired =
      record {
        once = S.books.all_reached.once;
        once' = S'.books.all_reached.once;
        to = λ x h.
            let r = S.books.all_reached.listed x h in
            let t = partner F S r in
            (t.0, S'.books.all_reached.all t.0 t.1, (reached_some ws S r, t.2));
        from = λ y h.
            let r = S'.books.all_reached.listed y h in
            let t = partner F' S' r in
            (t.0, S.books.all_reached.all t.0 t.1, (F'.some_node t.2 (reached_some ws' S' r), swap F' t.2));
      }

  -- So sums over them are equal where the terms are.
  pub pairs_sum : OneToOne ws ws' → OneToOne ws' ws → (g h : ℕ → ℕ) → ((x y : ℕ) → Pair ws ws' x y → g x ≡ h y) →
      over g S.books.reached ≡ over h S'.books.reached
  pairs_sum one one' g h e =
      paired_sum
      (Pair ws ws')
      (λ x y z a b. one x y z a.1 b.1)
      (λ x y z a b. one' z x y (swap F a.1) (swap F b.1))
      g
      h
      e
      S.books.reached
      S'.books.reached
      paired
