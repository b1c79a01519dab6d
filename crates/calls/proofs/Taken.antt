-- Insert and remove take exactly as many free nodes as the new tree has fresh ones: "Insert thus takes as many nodes as its search path has, one more
-- for a new key" is then the law `made-insert` of plain trees.
use mathlib.Core.Path.{◌≡◌, ap, subst}
use mathlib.Core.List.{List}
use Prim.Native.Nat.{ℕ, zero, suc, ◌+◌, ◌≤◌, ◌<◌}
use native.Mathlib.Omega.{arith}
use native.Mathlib.Decide.{dec_le}
use borrow.Author.Tests.{eq-eqb, eqb-true}
use Rattle.trees.specs.Tree.{Tree, leaf, node, made}
use Rattle.words.specs.Layout.{nodes, entry, left, right, count, slot_root}
use Rattle.words.specs.Counting.{occ, sum}
use Rattle.words.specs.Reads.{Reads, Held}
use Rattle.words.specs.Sound.{Reached, from_slot, from_left, from_right, Sound, free_number}
use Rattle.words.specs.Owned.{Live, idle, idle_at, idles}
use Rattle.words.specs.Fresh.{was_free}
use Rattle.words.proofs.Counts.{length_sum, times}
use Rattle.words.proofs.OwnedLaws.{idle_pos, idle_zero}
use Rattle.words.proofs.SoundOwned.{sound_owned, reached_some}
use Rattle.words.proofs.OwnedSound.{live_reached}
use Rattle.words.proofs.FreeNumber.{sound_idles}
use Rattle.calls.specs.Call.{Answer}
use Rattle.calls.specs.Version.{VersionIs}
use Rattle.calls.specs.Writing.{HandsOutTree}
use Rattle.calls.proofs.Versions.{version_one, version_of, version_fine}
use Rattle.calls.proofs.OneSlot.{same_nodes, carried, hands_out_one}
use Rattle.calls.proofs.Parts.{Part, whole, part_left, part_right, version_part, kept_same, NodeOf, reads_node}
use Rattle.calls.proofs.AlikeAfter.{new_in}
use Rattle.calls.proofs.NewNodes.{news, news_made, news_node, node_news, news_once}

-- The part of a version's tree at a link.
pub record InVersion (ws : List ℕ) (i : ℕ) : Type 0 where
  pub slot : ℕ
  pub tree : Tree
  pub version : VersionIs ws slot tree
  pub here : Tree
  pub part : Part tree here
  pub reads : Reads (nodes ws) ws i here

children : {ws : List ℕ} {i : ℕ} → 1 ≤ i → InVersion ws i → InVersion ws (left ws i) × InVersion ws (right ws i)
children {ws} {i} p b = go b.here b.part b.reads
  where
    at : {j : ℕ} (t : Tree) → Part b.tree t → Reads (nodes ws) ws j t → InVersion ws j
    at t a h = record { slot = b.slot; tree = b.tree; version = b.version; here = t; part = a; reads = h }

    go : (t : Tree) → Part b.tree t → Reads (nodes ws) ws i t → InVersion ws (left ws i) × InVersion ws (right ws i)
    go leaf a h = absurd (omega (arith, h))
    go (node x c l e r) a h = (at l (part_left a) h.2, at r (part_right a) h.3)

-- Each reached node is in the tree of a held slot.
reached_in_version : {ws : List ℕ} {i : ℕ} → Sound ws → Reached ws i → InVersion ws i
reached_in_version S (from_slot s h p) =
    let x = version_of S s h in
    record { slot = s; tree = S.trees.tree s h; version = x; here = S.trees.tree s h; part = whole; reads = x.reads }
reached_in_version S (from_left i r p) = (children (reached_some _ S r) (reached_in_version S r)).0
reached_in_version S (from_right i r p) = (children (reached_some _ S r) (reached_in_version S r)).1

sum_both : (f g h : ℕ → ℕ) (a n : ℕ) → ((j : ℕ) → a ≤ j → j < a + n → f j + g j ≡ h j) → sum f a n + sum g a n ≡ sum h a n
unfolding sum
sum_both f g h a zero e = omega arith
sum_both f g h a (suc n) e =
    omega (arith, e a (omega arith) (omega arith), sum_both f g h (suc a) n (λ j p q. e j (omega arith) (omega arith)))

module _ {ws ws' : List ℕ} {u : Tree} {a : Answer} (g : HandsOutTree ws u a ws') where
  abbrev n : ℕ
  n = nodes ws

  n_is : nodes ws' ≡ n
  n_is = same_nodes g.others

  -- What was live is in a version that is carried over, so it is live.
  still_live : (j : ℕ) → Live n ws j → 1 ≤ count ws' j
  still_live j l =
      let b = reached_in_version g.before (live_reached ws (sound_owned ws g.before) j l) in
      let m = reads_node (nodes ws) ws b.here l.0 b.part b.reads in
      let x = carried (hands_out_one g) (λ e. g.lowest.unheld (subst (Held ws) e b.version.held)) b.version in
      let y = version_part g.after x m.part in
      omega (arith, ap (count ws') (kept_same y.1), y.2.2)

  -- What is live and was not is in the slot handed out.
  new_live : (j : ℕ) → 1 ≤ j → j ≤ n → count ws j ≡ 0 → 1 ≤ count ws' j → NodeOf g.tree j (entry ws' j)
  new_live j p q z l =
      let b = reached_in_version g.after (live_reached ws' (sound_owned ws' g.after) j (p, omega (arith, n_is), l)) in
      let m = reads_node (nodes ws') ws' b.here p b.part b.reads in
      let e = new_in g.before (hands_out_one g) b.version m.part (eq-eqb (count ws j) 0 z) in
      let t = version_one (subst (λ (s : ℕ). VersionIs ws' s b.tree) e b.version) g.version in
      subst (λ (t : Tree). NodeOf t j (entry ws' j)) t m

  reads : Reads (nodes ws') ws' (slot_root (nodes ws') ws' g.out) g.tree
  reads = g.version.reads

  abbrev new : List ℕ
  new = news (was_free ws) g.tree

  -- Each node: free after it, or taken, where it was free before.
  node_taken : (j : ℕ) → 1 ≤ j → j ≤ n → idle (count ws' j) + occ j new ≡ idle (count ws j)
  node_taken j p q = go (dec_le 1 (count ws j)) (dec_le 1 (count ws' j)) (dec_le 1 (occ j new))
    where
      root : ℕ
      root = slot_root (nodes ws') ws' g.out

      was : 1 ≤ occ j new → count ws j ≡ 0
      was o = eqb-true (count ws j) 0 (news_node (was_free ws) (nodes ws') ws' j root g.tree reads o).0

      live : 1 ≤ occ j new → 1 ≤ count ws' j
      live o =
          let m = (news_node (was_free ws) (nodes ws') ws' j root g.tree reads o).1 in
          let y = version_part g.after g.version m.part in
          omega (arith, ap (count ws') (kept_same y.1), y.2.2)

      go : Dec (1 ≤ count ws j) → Dec (1 ≤ count ws' j) → Dec (1 ≤ occ j new) → idle (count ws' j) + occ j new ≡ idle (count ws j)
      go (yes l) (yes k) (yes o) = absurd (omega (arith, was o))
      go (yes l) (yes k) (no o) = omega (arith, idle_pos (count ws j) l, idle_pos (count ws' j) k)
      go (yes l) (no k) o = absurd (k (still_live j (p, q, l)))
      go (no l) (yes k) o =
          let z : count ws j ≡ 0 = omega arith in
          let m = new_live j p q z k in
          omega (
            arith,
            idle_zero (count ws j) z,
            idle_pos (count ws' j) k,
            node_news (was_free ws) (nodes ws') ws' j (eq-eqb (count ws j) 0 z) m.part,
            news_once (was_free ws) (nodes ws') ws' j root g.tree (version_fine g.after g.version).ordered reads,
          )
      go (no l) (no k) (yes o) = absurd (k (live o))
      go (no l) (no k) (no o) = omega (arith, idle_zero (count ws j) (omega arith), idle_zero (count ws' j) (omega arith))

  pub takes : (S : Sound ws) (S' : Sound ws') → free_number S' + made u ≡ free_number S
  unfolding idles idle_at times
  takes S S' =
      let root = slot_root (nodes ws') ws' g.out in
      let inside : (x : ℕ) → 1 ≤ occ x new → (1 ≤ x) × (x < 1 + n) = λ x o. go x (news_node (was_free ws) (nodes ws') ws' x root g.tree reads o).1 in
      let s = sum_both (idle_at ws') (times new) (idle_at ws) 1 n (λ j p q. node_taken j p (omega arith)) in
      omega (
        arith,
        length_sum 1 n new inside,
        news_made (was_free ws) (nodes ws') ws' root g.tree reads,
        ap made g.tree_is,
        sound_idles ws S,
        sound_idles ws' S',
        ap (λ (m : ℕ). idles m ws') n_is,
      )
    where
      go : (x : ℕ) → NodeOf g.tree x (entry ws' x) → (1 ≤ x) × (x < 1 + n)
      go x m =
          let y = version_part g.after g.version m.part in
          let e = kept_same y.1 in
          (omega (arith, y.2.0), omega (arith, y.2.1, n_is))
