-- A slot's two words change: a link of the call goes into a free slot, or a slot's root comes out of it. One law for both.
use mathlib.Core.Path.{◌≡◌, ap, sym, ◌∙◌}
use mathlib.Core.Logic.{◌⊎◌, inl, inr, ⊎_elim}
use mathlib.Core.List.{List, [], ◌∷◌}
use Prim.Native.Nat.{ℕ, ◌+◌, ◌*◌, ◌≤◌, ◌<◌}
use native.Mathlib.Omega.{arith}
use native.Mathlib.Decide.{ℕ_discrete, dec_lt}
use lib.ListN.{length, get_or}
use Rattle.trees.specs.Tree.{Tree}
use Rattle.words.specs.Layout.{nodes, slots, head, left, right, count, slot_root, slot_size, not_held, max_nodes, node_words, slot_words, header_words, head_word, left_word, right_word, count_word, root_word}
use Rattle.words.specs.Counting.{same, occ}
use Rattle.words.specs.Reads.{Reads}
use Rattle.words.specs.Owned.{idle, kids, held, names, Live, Shaped, Version, Owned, idle_at, idles, Agree}
use Rattle.words.specs.Model.{slotting, unslotting}
use Rattle.words.proofs.Counts.{same_ne, occ_more, sum_same, sum_change}
use Rattle.words.proofs.Holding.{frame_all, reads_link}
use Rattle.words.proofs.OwnedLaws.{chain_kept}
use Rattle.words.proofs.Recounting.{pending_first}
use Rattle.words.proofs.Stores.{length_storing, storing_other, storing_here}

-- ws' differs from ws in the words of slot s only.
pub record InSlot (n s : ℕ) (ws ws' : List ℕ) : Type 0 where
  pub long : length ws' ≡ length ws
  pub kept : (k : ℕ) → (k < node_words * n + slot_words * s + root_word) ⊎ (node_words * n + slot_words * s + root_word + slot_words ≤ k) →
      get_or ws' k 0 ≡ get_or ws k 0

pub slotting_in : (n : ℕ) (ws : List ℕ) (s r z : ℕ) → InSlot n s ws (slotting n ws s r z)
unfolding slotting
slotting_in n ws s r z =
    record {
      long = length_storing ws (node_words * n + slot_words * s) root_word (r ∷ (z ∷ []));
      kept = λ k o. storing_other ws (node_words * n + slot_words * s) root_word (r ∷ (z ∷ [])) k o;
    }

module _ (n : ℕ) (ws : List ℕ) (s r z : ℕ) (inside : node_words * n + slot_words * s + root_word + slot_words ≤ length ws) where
  pub slotting_root : slot_root n (slotting n ws s r z) s ≡ r
  unfolding slotting slot_root
  slotting_root = storing_here ws (node_words * n + slot_words * s) root_word (r ∷ (z ∷ [])) 0 (omega arith) (omega arith)

  pub slotting_size : slot_size n (slotting n ws s r z) s ≡ z
  unfolding slotting slot_size
  slotting_size = storing_here ws (node_words * n + slot_words * s) root_word (r ∷ (z ∷ [])) 1 (omega arith) (omega arith)

module _ (n s : ℕ) (ws ws' : List ℕ) (d : InSlot n s ws ws') where
  node_word : (j k : ℕ) → j ≤ n → k ≤ count_word → get_or ws' (node_words * j + k) 0 ≡ get_or ws (node_words * j + k) 0
  node_word j k p q = d.kept (node_words * j + k) (inl (omega arith))

  pub slot_count : (j : ℕ) → j ≤ n → count ws' j ≡ count ws j
  unfolding count
  slot_count j p = node_word j count_word p (omega arith)

  slot_left : (j : ℕ) → j ≤ n → left ws' j ≡ left ws j
  unfolding left
  slot_left j p = node_word j left_word p (omega arith)

  slot_right : (j : ℕ) → j ≤ n → right ws' j ≡ right ws j
  unfolding right
  slot_right j p = node_word j right_word p (omega arith)

  pub slot_agree : (j : ℕ) → 1 ≤ j → j ≤ n → Agree ws ws' j
  slot_agree j o p k a b = node_word j k p (omega arith)

  pub slot_header : (k : ℕ) → k < header_words → get_or ws' k 0 ≡ get_or ws k 0
  slot_header k p = d.kept k (inl (omega arith))

  slot_head : head ws' ≡ head ws
  unfolding head
  slot_head = slot_header head_word (omega arith)

  slot_shaped : (v : ℕ) → Shaped n v ws → Shaped n v ws'
  unfolding nodes slots
  slot_shaped v l =
      record {
        limits = rw d.long l.limits;
        n_is = slot_header 0 (omega arith) ∙ l.n_is;
        v_is = slot_header 1 (omega arith) ∙ l.v_is;
      }

  -- Another slot keeps its words.
  other_slot : (q k : ℕ) → (q ≡ s → ⊥) → k < slot_words → Dec (q < s) →
      get_or ws' (node_words * n + slot_words * q + (root_word + k)) 0 ≡ get_or ws (node_words * n + slot_words * q + (root_word + k)) 0
  other_slot q k f p (yes l) = d.kept (node_words * n + slot_words * q + (root_word + k)) (inl (omega arith))
  other_slot q k f p (no l) = d.kept (node_words * n + slot_words * q + (root_word + k)) (inr (omega arith))

  pub other_root : (q : ℕ) → (q ≡ s → ⊥) → slot_root n ws' q ≡ slot_root n ws q
  unfolding slot_root
  other_root q f = other_slot q 0 f (omega arith) (dec_lt q s)

  pub other_size : (q : ℕ) → (q ≡ s → ⊥) → slot_size n ws' q ≡ slot_size n ws q
  unfolding slot_size
  other_size q f = other_slot q 1 f (omega arith) (dec_lt q s)

  -- Every link holds the tree that it held.
  pub slot_reads : (i : ℕ) (t : Tree) → Reads n ws i t → Reads n ws' i t
  slot_reads = frame_all n ws ws' slot_agree

  pub slot_idles : idles n ws' ≡ idles n ws
  unfolding idles idle_at
  slot_idles = sum_same (idle_at ws') (idle_at ws) 1 n (λ j p q. ap idle (slot_count j (omega arith)))

-- The names that the slot gains are those that the call gives up, or the other way round.
module _ (Valid : ℕ → Tree → ℕ → Type 0) (n v s : ℕ) (ws ws' P P' : List ℕ) (o : Owned Valid n v ws P) (d : InSlot n s ws ws') (h : s < v)
    (even : (x : ℕ) → 1 ≤ x → x ≤ n → held n ws' x s + occ x P' ≡ held n ws x s + occ x P)
    (pend : (p : ℕ) → 1 ≤ occ p P' → p ≤ n) (version : Version Valid n ws' s) where
  slot_counts : (x : ℕ) → 1 ≤ x → x ≤ n → count ws' x ≡ names n v ws' P' x
  unfolding names kids held
  slot_counts x p q =
      let k =
      sum_same
      (kids ws' x)
      (kids ws x)
      1
      n
      (λ j a b. let m : j ≤ n = omega arith in rw (slot_count n s ws ws' d j m, slot_left n s ws ws' d j m, slot_right n s ws ws' d j m)) in
      let g =
      sum_change (held n ws' x) (held n ws x) 0 v s (omega arith) (omega arith) (λ j a b m. ap (λ (y : ℕ). same y x) (other_root n s ws ws' d j m)) in
      omega (arith, o.counts x p q, slot_count n s ws ws' d x q, even x p q)

  slot_live : (j : ℕ) → Live n ws' j → Live n ws j
  slot_live j l = (l.0, l.1, omega (arith, slot_count n s ws ws' d j l.1))

  slot_version : (q : ℕ) → q < v → Version Valid n ws' q
  slot_version q p = go (ℕ_discrete q s)
    where
      go : Dec (q ≡ s) → Version Valid n ws' q
      go (yes e) = rw e version
      go (no f) =
          ⊎_elim
          (λ e. inl (other_root n s ws ws' d q f ∙ e.0, other_size n s ws ws' d q f ∙ e.1))
          (λ w. inr (w.0, rw (other_root n s ws ws' d q f) (slot_reads n s ws ws' d (slot_root n ws q) w.0 w.1), rw (other_size n s ws ws' d q f) w.2))
          (o.versions q p)

  pub slot_owned : Owned Valid n v ws' P'
  slot_owned =
      record {
        shaped = slot_shaped n s ws ws' d v o.shaped;
        bound = o.bound;
        trees = λ j l. let t = o.trees j (slot_live j l) in (t.0, slot_reads n s ws ws' d j t.0 t.1, t.2);
        counts = slot_counts;
        pending = pend;
        free = o.free;
        chain = rw (slot_head n s ws ws' d) (chain_kept n ws ws' (head ws) o.free (λ f p q m. slot_left n s ws ws' d f q) o.chain);
        frees = λ i p q. o.frees i p q ∙ ap idle (sym (slot_count n s ws ws' d i q));
        versions = slot_version;
      }

module _ (Valid : ℕ → Tree → ℕ → Type 0) (n v s : ℕ) (ws P : List ℕ) (h : s < v) where
  slot_inside : (R : List ℕ) → Owned Valid n v ws R → node_words * n + slot_words * s + root_word + slot_words ≤ length ws
  slot_inside R o = omega (arith, o.shaped.limits.long_is)

  held_not_held : (x : ℕ) → n ≤ max_nodes → x ≤ n → (ws' : List ℕ) → slot_root n ws' s ≡ not_held → held n ws' x s ≡ 0
  unfolding held
  held_not_held x b q ws' e = rw e (same_ne not_held x (λ z. omega arith))

  -- A pending link goes into a slot that is not held.
  pub put_owned : (r z : ℕ) (t : Tree) → Owned Valid n v ws (r ∷ P) → slot_root n ws s ≡ not_held → Reads n ws r t → Valid s t z →
      Owned Valid n v (slotting n ws s r z) P
  unfolding held occ
  put_owned r z t o e hr hv =
      let d = slotting_in n ws s r z in
      let inside = slot_inside (r ∷ P) o in
      let er = slotting_root n ws s r z inside in
      let ez = slotting_size n ws s r z inside in
      slot_owned
      Valid
      n
      v
      s
      ws
      (slotting n ws s r z)
      (r ∷ P)
      P
      o
      d
      h
      (λ x p q. omega (arith, held_not_held x o.shaped.limits.n_high q ws e, ap (λ (y : ℕ). same y x) er))
      (λ p m. o.pending p (omega (arith, occ_more r p P)))
      (inr (t, rw er (slot_reads n s ws (slotting n ws s r z) d r t hr), rw ez hv))

  -- A slot's root comes out as pending, and the slot is not held any more.
  pub take_owned : (t : Tree) → Owned Valid n v ws P → Reads n ws (slot_root n ws s) t → Owned Valid n v (unslotting n ws s) (slot_root n ws s ∷ P)
  unfolding held occ
  take_owned t o hr =
      let d = slotting_in n ws s not_held 0 in
      let inside = slot_inside P o in
      let er = slotting_root n ws s not_held 0 inside in
      let ez = slotting_size n ws s not_held 0 inside in
      slot_owned
      Valid
      n
      v
      s
      ws
      (unslotting n ws s)
      P
      (slot_root n ws s ∷ P)
      o
      d
      h
      (λ x p q. omega (arith, held_not_held x o.shaped.limits.n_high q (unslotting n ws s) er))
      (pending_first n (slot_root n ws s) P (⊎_elim (λ e. omega arith) (λ b. b.1) (reads_link n ws (slot_root n ws s) t hr)) o.pending)
      (inl (er, ez))
