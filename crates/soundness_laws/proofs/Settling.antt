-- From the end of the queue, children come before their parents.
use mathlib.Core.Path.{◌≡◌, refl, sym, ◌∙◌}
use mathlib.Core.Bool.{Bool, true, false}
use mathlib.Core.List.{List}
use Prim.Native.Nat.{ℕ, suc, ◌-◌, ◌≤◌, ◌<◌}
use native.Mathlib.Omega.{arith}
use native.Mathlib.Decide.{ℕ_discrete, dec_le}
use lib.ListN.{length, take, get_or}
use Rattle.trees.specs.Tree.{Tree, leaf, node}
use Rattle.trees.specs.Shape.{rb_leaf, Fine}
use Rattle.words.specs.Layout.{nodes, left, right, slot_root}
use Rattle.words.specs.Counting.{occ}
use Rattle.words.specs.Reads.{Reads, Held}
use Rattle.words.specs.Sound.{Reached, from_slot, from_left, from_right, Trees, Sound}
use Rattle.words.proofs.Counts.{same_ne}
use Rattle.soundness_laws.specs.Answer.{Answers}
use Rattle.soundness_laws.specs.Summary.{Brief, first_key, last_key, shade_of, empty_brief, Good, Tells}
use Rattle.soundness_laws.proofs.Saying.{say_yes, say_no}
use Rattle.soundness_laws.proofs.Joining.{good_left, good_right}
use Rattle.soundness_laws.specs.Whole.{Whole}
use Rattle.soundness_laws.specs.Packed.{briefs}
use Rattle.soundness_laws.specs.Known.{Known, Noted, Settle, Settled, Barren, Settling, AllKnown}
use Rattle.soundness_laws.proofs.Arriving.{occ-next, occ_at}

reached_low : (ws : List ℕ) {i : ℕ} → Reached ws i → 1 ≤ i
reached_low ws (from_slot s h p) = p
reached_low ws (from_left i r p) = p
reached_low ws (from_right i r p) = p

trees_fine : (ws : List ℕ) (T : Trees ws) (s : ℕ) (h : Held ws s) → Fine (T.tree s h)
trees_fine ws T s h =
    record { ordered = T.keys s h; root = T.roots s h; blacks = (T.shapes s h).0; shape = (T.shapes s h).1 }

-- In a sound arena a node that is reached has a good tree.
module _ (ws : List ℕ) (S : Sound ws) where
  abbrev GoodTree : ℕ → Type 0
  GoodTree i = (t : Tree) × Reads (nodes ws) ws i t × Good t

  good_child_left : (i : ℕ) → 1 ≤ i → GoodTree i → GoodTree (left ws i)
  good_child_left i p (leaf, r, g) = absurd (omega arith)
  good_child_left i p (node q c l e r', r, g) = (l, r.2, good_left q c l e r' g)

  good_child_right : (i : ℕ) → 1 ≤ i → GoodTree i → GoodTree (right ws i)
  good_child_right i p (leaf, r, g) = absurd (omega arith)
  good_child_right i p (node q c l e r', r, g) = (r', r.3, good_right q c l e r' g)

  reached_good : {i : ℕ} → Reached ws i → GoodTree i
  reached_good (from_slot s h p) =
      let a = trees_fine ws S.trees s h in
      (S.trees.tree s h, S.trees.links s h, record { ordered = a.ordered; blacks = a.blacks; shape = a.shape })
  reached_good (from_left i r p) = good_child_left i (reached_low ws r) (reached_good r)
  reached_good (from_right i r p) = good_child_right i (reached_low ws r) (reached_good r)

empty_tells : Tells empty_brief leaf
unfolding first_key last_key shade_of
empty_tells =
    record {
      good = record { ordered = tt; blacks = 0; shape = rb_leaf };
      blacks_is = refl;
      size_is = refl;
      least_is = refl;
      greatest_is = refl;
      color_is = refl;
    }

module _ (ws queue : List ℕ) (tail : ℕ) (W : Whole ws queue tail) where
  -- The empty tree is noted first.
  pub settling_start : (B B' : ℕ → Brief) → Noted B B' 0 empty_brief → Settling ws queue tail tail B'
  settling_start B B' n =
      record {
        high = omega arith;
        none = record { tree = leaf; holds = refl; tells = rw n.here empty_tells };
        known = λ x o n. absurd (omega arith);
      }

  module _ (k : ℕ) (B : ℕ → Brief) (T : Settling ws queue tail k B) where
    pub settling_end : k ≤ 0 → Answers true (AllKnown ws B) (Sound ws → ⊥)
    unfolding occ
    settling_end l =
        let z : k ≡ 0 = omega arith in
        let a : (x : ℕ) → 1 ≤ occ x (take tail queue) → Known ws B x = λ x o. T.known x o (rw z refl) in
        say_yes (record {
          within = W.within;
          live = λ x l. a x (omega (arith, W.live x l));
          roots = λ s h. go (slot_root (nodes ws) ws s) (dec_le 1 (slot_root (nodes ws) ws s)) (λ p. a (slot_root (nodes ws) ws s) (W.roots s h p));
        })
      where
        go : (x : ℕ) → Dec (1 ≤ x) → (1 ≤ x → Known ws B x) → Known ws B x
        go x (yes p) f = f p
        go x (no p) f = let z : x ≡ 0 = omega arith in rw z T.none

    -- j is the place before k, and i the node there.
    module _ (l : 0 < k) (j : ℕ) (ej : j ≡ k - 1) where
      pub settling_place : j < length queue
      settling_place = omega (arith, T.high, W.short, W.space)

      module _ (i : ℕ) (ei : i ≡ get_or queue j 0) where
        here : 1 ≤ occ i (take tail queue)
        here = rw ei (occ_at j tail queue (omega (arith, T.high)) (omega (arith, W.short, W.space)))

        -- A child is none, or stands after the node, and is known.
        child : (x : ℕ) → (1 ≤ x → 1 ≤ occ x (take tail queue)) → occ x (take (suc j) queue) ≡ 0 → Dec (1 ≤ x) → Known ws B x
        child x f n (yes p) = let e : k ≡ suc j = omega arith in T.known x (f p) (rw e n)
        child x f n (no p) = let z : x ≡ 0 = omega arith in rw z T.none

        pub settling_asks : Settle ws B i
        settling_asks =
            let P = W.past j (omega (arith, T.high)) in
            record {
              within = W.within;
              low = (W.inside i here).0;
              high = (W.inside i here).1;
              left = child (left ws i) (W.lefts i here) (rw ei P.left_after) (dec_le 1 (left ws i));
              right = child (right ws i) (W.rights i here) (rw ei P.right_after) (dec_le 1 (right ws i));
            }

        module _ (B' : ℕ → Brief) (r : Bool) (d : Answers r (Settled ws B B' i) (Barren ws i)) where
          pub settling_no : r ≡ false → Answers false (AllKnown ws B') (Sound ws → ⊥)
          settling_no e = say_no (λ S. let t = reached_good ws S (W.reached i here) in (d.no e).none t.0 t.1 t.2)

          module _ (e : r ≡ true) where
            kept : (x : ℕ) → (x ≡ i → ⊥) → Known ws B x → Known ws B' x
            kept x f K = record { tree = K.tree; holds = K.holds; tells = rw ((d.yes e).other x f) K.tells }

            known_more : (x : ℕ) → 1 ≤ occ x (take tail queue) → occ x (take j queue) ≡ 0 → Dec (x ≡ i) → Known ws B' x
            known_more x o n (yes z) = rw z (d.yes e).known
            known_more x o n (no f) =
                let a : k ≡ suc j = omega arith in
                let b : occ x (take (suc j) queue) ≡ 0 = omega (arith, occ-next x j queue settling_place, same_ne (get_or queue j 0) x (λ z. f (sym z ∙ sym ei))) in
                kept x f (T.known x o (rw a b))

            pub settling_more : Settling ws queue tail j B'
            settling_more =
                record {
                  high = omega (arith, T.high);
                  none = kept 0 (λ z. omega (arith, (W.inside i here).0)) T.none;
                  known = λ x o n. known_more x o n (ℕ_discrete x i);
                }

-- The loop, in scratch that was memo₀ and ends₀ at first.
pub record SettlingTo (ws queue : List ℕ) (tail : ℕ) (memo₀ ends₀ : List ℕ) (k : ℕ) (memo ends : List ℕ) : Type 0 where
  pub settling : Settling ws queue tail k (briefs memo ends)
  pub memo_long : length memo ≡ length memo₀
  pub ends_long : length ends ≡ length ends₀
