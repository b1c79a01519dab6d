-- No answer depends on what the exceptions leave open: on arenas that are alike, a call answers the same.
use mathlib.Core.Path.{◌≡◌, refl, sym, ◌∙◌}
use mathlib.Core.Logic.{⊎_elim}
use mathlib.Core.Bool.{Bool}
use mathlib.Core.List.{List, ◌∷◌, ◌++◌}
use Prim.Native.Nat.{ℕ}
use native.Mathlib.Omega.{arith}
use lib.ListN.{length}
use Rattle.trees.specs.Tree.{Tree, leaf, node, listing}
use Rattle.words.specs.Layout.{nodes, slots}
use Rattle.words.specs.Reads.{Reads}
use Rattle.words.specs.Sound.{Sound, free_number}
use Rattle.words.proofs.FreeNumber.{free_reached, same_free}
use Rattle.calls.specs.Call.{Call, Answer}
use Rattle.calls.specs.Outcome.{Outcome}
use Rattle.calls.specs.Alike.{Twins, at_slot, at_left, at_right, Match, Alike}
use Rattle.calls.proofs.Versions.{version_of}
use Rattle.calls.proofs.Pairing.{over_long}
use Rattle.calls.proofs.Facing.{Facing, pairs_sum}
use Rattle.calls.proofs.Seeing.{Sees, seen_same}

-- Arenas that are alike see one another, both ways.
module _ {renamed : ℕ → Bool} {ws ws' : List ℕ} (A : Alike renamed ws ws') where
  pub there : Facing ws ws'
  there =
      record {
        held = λ s. (A.held s).0;
        some_node = λ {i} {j} t p. ⊎_elim (λ e. absurd (omega (arith, e.0))) (λ m. m.some_node.1) (A.match i j t);
      }

  pub swapped : {i j : ℕ} → Twins ws' ws i j → Twins ws ws' j i
  swapped (at_slot s h) = at_slot s ((A.held s).1 h)
  swapped {i} {j} (at_left {i = x} {j = y} t p) =
      at_left (swapped t) (⊎_elim (λ e. absurd (omega (arith, e.1))) (λ m. m.some_node.0) (A.match y x (swapped t)))
  swapped {i} {j} (at_right {i = x} {j = y} t p) =
      at_right (swapped t) (⊎_elim (λ e. absurd (omega (arith, e.1))) (λ m. m.some_node.0) (A.match y x (swapped t)))

  pub back : Facing ws' ws
  back =
      record {
        held = λ s. (A.held s).1;
        some_node = λ {i} {j} t p. ⊎_elim (λ e. absurd (omega (arith, e.1))) (λ m. m.some_node.0) (A.match j i (swapped t));
      }

  pub same_nodes : nodes ws' ≡ nodes ws
  unfolding nodes
  same_nodes = A.header 0 (omega arith) (λ e. omega arith)

  pub same_slots : slots ws' ≡ slots ws
  unfolding slots
  same_slots = A.header 1 (omega arith) (λ e. omega arith)

  twin_listing : (t t' : Tree) {i j : ℕ} → Twins ws ws' i j → Reads (nodes ws) ws i t → Reads (nodes ws') ws' j t' → listing t' ≡ listing t
  twin_listing leaf leaf w r r' = refl
  twin_listing leaf (node p c l e s) {i} {j} w r r' =
      absurd (⊎_elim (λ z. omega (arith, z.1, r'.1.low)) (λ m. omega (arith, m.some_node.0, r)) (A.match i j w))
  twin_listing (node p c l e s) leaf {i} {j} w r r' =
      absurd (⊎_elim (λ z. omega (arith, z.0, r.1.low)) (λ m. omega (arith, m.some_node.1, r')) (A.match i j w))
  twin_listing (node p c l e s) (node p' c' l' e' s') {i} {j} w r r' =
      ⊎_elim
      (λ z. absurd (omega (arith, z.0, r.1.low)))
      (go (twin_listing l l' (at_left w r.1.low) r.2 r'.2) (twin_listing s s' (at_right w r.1.low) r.3 r'.3))
      (A.match i j w)
    where
      go : listing l' ≡ listing l → listing s' ≡ listing s → Match renamed ws ws' i j → listing l' ++ (e' ∷ listing s') ≡ listing l ++ (e ∷ listing s)
      go x y m =
          let z : e' ≡ e = sym r'.1.entry_is ∙ m.entry_is ∙ r.1.entry_is in
          rw (x, y, z)

  same_number : length A.sound'.books.reached ≡ length A.sound.books.reached
  same_number =
      sym (over_long A.sound'.books.reached) ∙
      sym (pairs_sum there back A.sound A.sound' A.one (λ i j k t t'. A.one' j k i (swapped t) (swapped t')) (λ x. 1) (λ y. 1) (λ x y u. refl)) ∙
      over_long A.sound.books.reached

  alike_free : (S : Sound ws) (S' : Sound ws') → free_number S' ≡ free_number S
  alike_free S S' =
      omega (
        arith,
        same_free ws S A.sound,
        same_free ws' S' A.sound',
        free_reached ws A.sound,
        free_reached ws' A.sound',
        same_number,
        same_nodes,
      )

  sees : Sees ws ws'
  sees =
      record {
        long = A.long;
        slots_is = same_slots;
        sound = λ S. A.sound';
        held = λ s. (A.held s).0;
        version = λ s t x.
            let y = version_of A.sound' s ((A.held s).0 x.held) in
            (A.sound'.trees.tree s ((A.held s).0 x.held), y, twin_listing t (A.sound'.trees.tree s ((A.held s).0 x.held)) (at_slot s x.held) x.reads y.reads);
        free = alike_free;
      }

  seen : Sees ws' ws
  seen =
      record {
        long = sym A.long;
        slots_is = sym same_slots;
        sound = λ S. A.sound;
        held = λ s. (A.held s).1;
        version = λ s t x.
            let h = (A.held s).1 x.held in
            let y = version_of A.sound s h in
            (A.sound.trees.tree s h, y, sym (twin_listing (A.sound.trees.tree s h) t (at_slot s h) y.reads x.reads));
        free = λ S' S. sym (alike_free S S');
      }

  -- Every call answers alike.
  pub unseen : {c : Call} {a b : Answer} {w w' : List ℕ} → Outcome c ws a w → Outcome c ws' b w' → a ≡ b
  unseen o p = seen_same sees seen o p
