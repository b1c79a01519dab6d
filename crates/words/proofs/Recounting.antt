-- A live node's count changes, and the call holds as many links to it more or fewer.
use mathlib.Core.Path.{◌≡◌, refl, ap, sym, ◌∙◌, subst}
use mathlib.Core.Logic.{◌⊎◌, inl, inr, ⊎_elim}
use mathlib.Core.List.{List, ◌∷◌}
use Prim.Native.Nat.{ℕ, zero, suc, ◌+◌, ◌-◌, ◌*◌, ◌≤◌, ◌<◌}
use native.Mathlib.Omega.{arith}
use native.Mathlib.Decide.{ℕ_discrete}
use lib.ListN.{length}
use Rattle.trees.specs.Tree.{Tree}
use Rattle.words.specs.Layout.{head, left, right, count, slot_root, node_words, header_words}
use Rattle.words.specs.Counting.{same, occ}
use Rattle.words.specs.Owned.{idle, kids, names, Live, Version, Owned, idle_at, idles, Agree}
use Rattle.words.specs.Model.{with_count, raising}
use Rattle.words.proofs.Counts.{same_eq, same_ne, occ-first, occ-rest, occ_more, sum_same, sum_le}
use Rattle.words.proofs.Holding.{agree_left, agree_right, frame_all}
use Rattle.words.proofs.OwnedLaws.{when_pos, idle_pos, chain_kept}
use Rattle.words.proofs.Changes.{Outside, outside_refl, outside_root, outside_size, outside_shaped, Only, only_outside, only_agree, only_count, names_change, count_only, count_words, count_head, count_here}

module _ (Valid : ℕ → Tree → ℕ → Type 0) (n v i : ℕ) (ws ws' P P' : List ℕ) (o : Owned Valid n v ws P) (d : Only i ws ws')
    (same_words : Agree ws ws' i) (same_head : head ws' ≡ head ws) (live : Live n ws i) (live' : 1 ≤ count ws' i)
    (here : count ws' i + occ i P ≡ count ws i + occ i P') (elsewhere : (x : ℕ) → (x ≡ i → ⊥) → occ x P' ≡ occ x P) where
  out : Outside n ws ws'
  out = only_outside n i ws ws' d live.0 live.1

  agrees : (j : ℕ) → 1 ≤ j → j ≤ n → Agree ws ws' j
  agrees j p q = go (ℕ_discrete j i)
    where
      go : Dec (j ≡ i) → Agree ws ws' j
      go (yes e) = subst (λ (z : ℕ). Agree ws ws' z) (sym e) same_words
      go (no f) = only_agree n i ws ws' d live.0 live.1 j p f

  recount_kids : (x : ℕ) → kids ws' x i ≡ kids ws x i
  unfolding kids
  recount_kids x =
      let a = when_pos (count ws i) (same (left ws i) x + same (right ws i) x) live.2 in
      let b = when_pos (count ws' i) (same (left ws i) x + same (right ws i) x) live' in
      rw (agree_left ws ws' i same_words, agree_right ws ws' i same_words) (b ∙ sym a)

  live_back : (j : ℕ) → Live n ws' j → Live n ws j
  live_back j l = go (ℕ_discrete j i)
    where
      go : Dec (j ≡ i) → Live n ws j
      go (yes e) = subst (λ (z : ℕ). Live n ws z) (sym e) live
      go (no f) = (l.0, l.1, omega (arith, only_count n i ws ws' d live.0 live.1 j l.0 f))

  recount_counts : (x : ℕ) → 1 ≤ x → x ≤ n → count ws' x ≡ names n v ws' P' x
  recount_counts x p q =
      let m = names_change n i ws ws' d live.0 live.1 v P P' x in
      let k = recount_kids x in
      let c = o.counts x p q in
      go (ℕ_discrete x i) m k c
    where
      go : Dec (x ≡ i) → names n v ws' P' x + kids ws x i + occ x P ≡ names n v ws P x + kids ws' x i + occ x P' → kids ws' x i ≡ kids ws x i →
          count ws x ≡ names n v ws P x → count ws' x ≡ names n v ws' P' x
      go (yes e) m k c =
          let a = ap (count ws') e in
          let b = ap (count ws) e in
          let g = ap (λ (z : ℕ). occ z P) e in
          let g' = ap (λ (z : ℕ). occ z P') e in
          omega arith
      go (no f) m k c = omega (arith, only_count n i ws ws' d live.0 live.1 x p f, elsewhere x f)

  recount_frees : (x : ℕ) → 1 ≤ x → x ≤ n → occ x o.free ≡ idle (count ws' x)
  recount_frees x p q = go (ℕ_discrete x i) (o.frees x p q)
    where
      go : Dec (x ≡ i) → occ x o.free ≡ idle (count ws x) → occ x o.free ≡ idle (count ws' x)
      go (yes e) h = h ∙ rw e (idle_pos (count ws i) live.2 ∙ sym (idle_pos (count ws' i) live'))
      go (no f) h = h ∙ sym (ap idle (only_count n i ws ws' d live.0 live.1 x p f))

  recount_versions : (s : ℕ) → s < v → Version Valid n ws' s
  recount_versions s h =
      ⊎_elim
      (λ e. inl (outside_root n ws ws' out s ∙ e.0, outside_size n ws ws' out s ∙ e.1))
      (λ w. inr (w.0, rw (outside_root n ws ws' out s) (frame_all n ws ws' agrees (slot_root n ws s) w.0 w.1), rw (outside_size n ws ws' out s) w.2))
      (o.versions s h)

  pub recounted : ((p : ℕ) → 1 ≤ occ p P' → p ≤ n) → Owned Valid n v ws' P'
  recounted pend =
      record {
        shaped = outside_shaped n ws ws' out v o.shaped;
        bound = o.bound;
        trees = λ j l. let t = o.trees j (live_back j l) in (t.0, frame_all n ws ws' agrees j t.0 t.1, t.2);
        counts = recount_counts;
        pending = pend;
        free = o.free;
        chain = rw same_head (chain_kept n ws ws' (head ws) o.free (λ f p q m. agree_left ws ws' f (agrees f p q)) o.chain);
        frees = recount_frees;
        versions = recount_versions;
      }

pub owned_long : (Valid : ℕ → Tree → ℕ → Type 0) (n v : ℕ) (ws P : List ℕ) → Owned Valid n v ws P → node_words * n + header_words ≤ length ws
owned_long Valid n v ws P o = omega (arith, o.shaped.limits.long_is)

-- A link of P, or a new one, is one of the nodes.
pub pending_first : (n i : ℕ) (P : List ℕ) → i ≤ n → ((p : ℕ) → 1 ≤ occ p P → p ≤ n) → (p : ℕ) → 1 ≤ occ p (i ∷ P) → p ≤ n
pending_first n i P b f p h = go (ℕ_discrete p i)
  where
    go : Dec (p ≡ i) → p ≤ n
    go (yes e) = omega arith
    go (no g) = f p (omega (arith, occ-rest i p P g))

module _ (Valid : ℕ → Tree → ℕ → Type 0) (n v : ℕ) (ws P : List ℕ) (i : ℕ) where
  up_owned : Owned Valid n v ws P → Live n ws i → Owned Valid n v (with_count ws i (count ws i + 1)) (i ∷ P)
  up_owned o l =
      let inside : node_words * i + header_words ≤ length ws = (let z = owned_long Valid n v ws P o in let b = l.1 in omega arith) in
      let m = count ws i + 1 in
      let c = count_here i ws l.0 inside m in
      recounted
      Valid
      n
      v
      i
      ws
      (with_count ws i m)
      P
      (i ∷ P)
      o
      (count_only i ws l.0 inside m)
      (count_words i ws l.0 inside m)
      (count_head i ws l.0 inside m)
      l
      (omega arith)
      (omega (arith, occ-first i P))
      (λ x f. occ-rest i x P f)
      (pending_first n i P l.1 o.pending)

  -- One name less, where others are left.
  pub down_owned : Owned Valid n v ws (i ∷ P) → Live n ws i → 1 < count ws i → Owned Valid n v (with_count ws i (count ws i - 1)) P
  down_owned o l h =
      let inside : node_words * i + header_words ≤ length ws = (let z = owned_long Valid n v ws (i ∷ P) o in let b = l.1 in omega arith) in
      let m = count ws i - 1 in
      let c = count_here i ws l.0 inside m in
      recounted
      Valid
      n
      v
      i
      ws
      (with_count ws i m)
      (i ∷ P)
      P
      o
      (count_only i ws l.0 inside m)
      (count_words i ws l.0 inside m)
      (count_head i ws l.0 inside m)
      l
      (omega arith)
      (omega (arith, occ-first i P))
      (λ x f. sym (occ-rest i x P f))
      (λ p q. o.pending p (omega (arith, occ_more i p P)))

-- A link to none counts for nothing.
module _ (Valid : ℕ → Tree → ℕ → Type 0) (n v : ℕ) (ws P : List ℕ) where
  none_counts : (i : ℕ) → 1 ≤ i → names n v ws (0 ∷ P) i ≡ names n v ws P i
  unfolding names
  none_counts i p = omega (arith, occ-rest 0 i P (λ e. omega arith))

  pub drop_none : Owned Valid n v ws (0 ∷ P) → Owned Valid n v ws P
  drop_none o =
      record {
        shaped = o.shaped;
        bound = o.bound;
        trees = o.trees;
        counts = λ i p q. o.counts i p q ∙ none_counts i p;
        pending = λ p h. o.pending p (omega (arith, occ_more 0 p P));
        free = o.free;
        chain = o.chain;
        frees = o.frees;
        versions = o.versions;
      }

  pub add_none : Owned Valid n v ws P → Owned Valid n v ws (0 ∷ P)
  add_none o =
      record {
        shaped = o.shaped;
        bound = o.bound;
        trees = o.trees;
        counts = λ i p q. o.counts i p q ∙ sym (none_counts i p);
        pending = pending_first n 0 P (omega arith) o.pending;
        free = o.free;
        chain = o.chain;
        frees = o.frees;
        versions = o.versions;
      }

-- Count up: the call holds one link more, to none or to a live node. Only the node's count changes.
pub raising_owned : (Valid : ℕ → Tree → ℕ → Type 0) (n v : ℕ) (ws P : List ℕ) (i : ℕ) → Owned Valid n v ws P → (i ≡ 0) ⊎ Live n ws i →
    Owned Valid n v (raising ws i) (i ∷ P)
unfolding raising
raising_owned Valid n v ws P zero o l = add_none Valid n v ws P o
raising_owned Valid n v ws P (suc i) o (inl e) = absurd (omega arith)
raising_owned Valid n v ws P (suc i) o (inr l) = up_owned Valid n v ws P (suc i) o l

-- There are no more free nodes than nodes.
pub idles_few : (n : ℕ) (ws : List ℕ) → idles n ws ≤ n
unfolding idles idle_at idle
idles_few n ws = omega (arith, sum_le 1 (idle_at ws) 1 n (λ j. go (count ws j)))
  where
    go : (c : ℕ) → idle c ≤ 1
    go zero = omega arith
    go (suc c) = omega arith

-- A live node that is counted anew and stays live: no node is freed and none taken.
module _ (n i : ℕ) (ws : List ℕ) (low : 1 ≤ i) (high : i ≤ n) (long : node_words * n + header_words ≤ length ws) (c : ℕ) (some : 1 ≤ c) (live : 1 ≤ count ws i) where
  live_idle : (j : ℕ) → 1 ≤ j → j ≤ n → Dec (j ≡ i) → idle (count (with_count ws i c) j) ≡ idle (count ws j)
  live_idle j p q (yes e) =
      rw e (idle_pos (count (with_count ws i c) i) (omega (arith, count_here i ws low (omega arith) c)) ∙ sym (idle_pos (count ws i) live))
  live_idle j p q (no f) = ap idle (only_count n i ws (with_count ws i c) (count_only i ws low (omega arith) c) low high j p f)

  pub live_idles : idles n (with_count ws i c) ≡ idles n ws
  unfolding idles idle_at
  live_idles = sum_same (idle_at (with_count ws i c)) (idle_at ws) 1 n (λ j p q. live_idle j p (omega arith) (ℕ_discrete j i))

-- Count up changes nothing but one count.
module _ (n i : ℕ) (ws : List ℕ) (low : 1 ≤ i) (high : i ≤ n) (long : node_words * n + header_words ≤ length ws) where
  abbrev raised : List ℕ
  raised = with_count ws i (count ws i + 1)

  up_outside : Outside n ws raised
  up_outside = only_outside n i ws raised (count_only i ws low (omega arith) (count ws i + 1)) low high

  up_agree : (j : ℕ) → 1 ≤ j → j ≤ n → Dec (j ≡ i) → Agree ws raised j
  up_agree j p q (yes e) = subst (λ (z : ℕ). Agree ws raised z) (sym e) (count_words i ws low (omega arith) (count ws i + 1))
  up_agree j p q (no f) = only_agree n i ws raised (count_only i ws low (omega arith) (count ws i + 1)) low high j p f

module _ (n : ℕ) (ws : List ℕ) (long : node_words * n + header_words ≤ length ws) where
  pub raising_idles : (i : ℕ) → (i ≡ 0) ⊎ Live n ws i → idles n (raising ws i) ≡ idles n ws
  unfolding raising
  raising_idles zero l = refl
  raising_idles (suc i) (inl e) = absurd (omega arith)
  raising_idles (suc i) (inr l) = live_idles n (suc i) ws l.0 l.1 long (count ws (suc i) + 1) (omega arith) l.2

  pub raising_outside : (i : ℕ) → i ≤ n → Outside n ws (raising ws i)
  unfolding raising
  raising_outside zero b = outside_refl n ws
  raising_outside (suc i) b = up_outside n (suc i) ws (omega arith) b long

  -- So every link holds the tree that it held.
  pub raising_agree : (i : ℕ) → i ≤ n → (j : ℕ) → 1 ≤ j → j ≤ n → Agree ws (raising ws i) j
  unfolding raising
  raising_agree zero b j p q = λ k a c. refl
  raising_agree (suc i) b j p q = up_agree n (suc i) ws (omega arith) b long j p q (ℕ_discrete j (suc i))

  -- The count of node i is one more, every other as it was.
  pub raising_count : (i : ℕ) → i ≤ n → (j : ℕ) → 1 ≤ j → j ≤ n → count (raising ws i) j ≡ count ws j + same i j
  unfolding raising
  raising_count zero b j p q = omega (arith, same_ne 0 j (λ e. omega arith))
  raising_count (suc i) b j p q = go (ℕ_discrete j (suc i))
    where
      w : List ℕ
      w = with_count ws (suc i) (count ws (suc i) + 1)

      go : Dec (j ≡ suc i) → count w j ≡ count ws j + same (suc i) j
      go (yes e) =
          let a = count_here (suc i) ws (omega arith) (omega arith) (count ws (suc i) + 1) in
          let x = ap (count w) e in
          let y = ap (count ws) e in
          omega (arith, same_eq (suc i) j (sym e))
      go (no f) =
          omega (
            arith,
            only_count n (suc i) ws w (count_only (suc i) ws (omega arith) (omega arith) (count ws (suc i) + 1)) (omega arith) b j p f,
            same_ne (suc i) j (λ e. f (sym e)),
          )
