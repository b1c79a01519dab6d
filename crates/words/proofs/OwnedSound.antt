-- An arena that is owned with no link pending, every held slot's tree being fine, is sound.
use mathlib.Core.Path.{◌≡◌, ap, sym, subst, subst₂}
use mathlib.Core.Logic.{◌⊎◌, inl, inr, ⊎_elim}
use mathlib.Core.List.{List, [], ◌∷◌, map}
use Prim.Native.Nat.{ℕ, zero, suc, ◌+◌, ◌≤◌, ◌<◌}
use native.Mathlib.Omega.{arith}
use native.Mathlib.Decide.{ℕ_discrete, dec_le}
use Rattle.trees.specs.Tree.{Tree, height}
use Rattle.words.specs.Layout.{nodes, slots, head, left, right, count, slot_root, slot_size, not_held}
use Rattle.words.specs.Counting.{same, occ, sum, run}
use Rattle.words.specs.Reads.{Reads, Held}
use Rattle.words.specs.Sound.{Reached, from_slot, from_left, from_right, AllReached, named, Trees, Books, Sound}
use Rattle.words.specs.Owned.{when, idle, kids, held, names, Live, Version, Owned, Sized}
use Rattle.words.proofs.Counts.{same_eq, same_ne, sum_some}
use Rattle.words.proofs.Holding.{low_left, low_right, reads_link}
use Rattle.words.proofs.OwnedLaws.{when_pos, when_zero, when_le, idle_pos, idle_zero, chain_in, live_left, live_right, live_root}

-- The live nodes from a on, n of them.
keep : ℕ → ℕ → List ℕ → List ℕ
keep zero a xs = xs
keep (suc c) a xs = a ∷ xs

pub lives : List ℕ → ℕ → ℕ → List ℕ
lives ws a zero = []
lives ws a (suc n) = keep (count ws a) a (lives ws (suc a) n)

occ-keep : (c a i : ℕ) (xs : List ℕ) → occ i (keep c a xs) ≡ when c (same a i) + occ i xs
unfolding keep occ when
occ-keep zero a i xs = omega arith
occ-keep (suc c) a i xs = omega arith

kids-keep : (f g : ℕ → ℕ) (c a i : ℕ) (xs : List ℕ) →
    occ i (map f (keep c a xs)) + occ i (map g (keep c a xs)) ≡ when c (same (f a) i + same (g a) i) + (occ i (map f xs) + occ i (map g xs))
unfolding keep occ when
kids-keep f g zero a i xs = omega arith
kids-keep f g (suc c) a i xs = omega arith

-- Their child places are those that the sum counts, and the slots' roots likewise.
kids_lives : (ws : List ℕ) (i a n : ℕ) → occ i (map (left ws) (lives ws a n)) + occ i (map (right ws) (lives ws a n)) ≡ sum (kids ws i) a n
unfolding lives sum kids occ
kids_lives ws i a zero = omega arith
kids_lives ws i a (suc n) = omega (arith, kids-keep (left ws) (right ws) (count ws a) a i (lives ws (suc a) n), kids_lives ws i (suc a) n)

pub held_roots : (ws : List ℕ) (m i a v : ℕ) → occ i (map (slot_root m ws) (run a v)) ≡ sum (held m ws i) a v
unfolding run sum held occ
held_roots ws m i a zero = omega arith
held_roots ws m i a (suc v) = omega (arith, held_roots ws m i (suc a) v)

-- A node stands among them once if it is live.
lives_outside : (ws : List ℕ) (i a n : ℕ) → (i < a) ⊎ (a + n ≤ i) → occ i (lives ws a n) ≡ 0
unfolding lives occ
lives_outside ws i a zero h = omega arith
lives_outside ws i a (suc n) h =
    let s = same_ne a i (λ e. ⊎_elim (λ p. omega arith) (λ p. omega arith) h) in
    let w = when_le (count ws a) (same a i) in
    let r = lives_outside ws i (suc a) n (⊎_elim (λ p. inl (omega arith)) (λ p. inr (omega arith)) h) in
    omega (arith, occ-keep (count ws a) a i (lives ws (suc a) n))

lives_occ : (ws : List ℕ) (i a n : ℕ) → a ≤ i → i < a + n → occ i (lives ws a n) + idle (count ws i) ≡ 1
unfolding lives
lives_occ ws i a zero p q = absurd (omega arith)
lives_occ ws i a (suc n) p q =
    go
    (ℕ_discrete a i)
    (dec_le 1 (count ws a))
    (occ-keep (count ws a) a i (lives ws (suc a) n))
    (λ l. lives_occ ws i (suc a) n l (omega arith))
  where
    go : Dec (a ≡ i) → Dec (1 ≤ count ws a) →
        occ i (keep (count ws a) a (lives ws (suc a) n)) ≡ when (count ws a) (same a i) + occ i (lives ws (suc a) n) →
        (suc a ≤ i → occ i (lives ws (suc a) n) + idle (count ws i) ≡ 1) → occ i (keep (count ws a) a (lives ws (suc a) n)) + idle (count ws i) ≡ 1
    go (yes e) (yes l) k ih =
        let w = when_pos (count ws a) (same a i) l in
        let s = same_eq a i e in
        let b = lives_outside ws i (suc a) n (inl (omega arith)) in
        let d = idle_pos (count ws i) (let z = ap (count ws) e in omega arith) in
        omega arith
    go (yes e) (no l) k ih =
        let w = when_zero (count ws a) (same a i) (omega arith) in
        let b = lives_outside ws i (suc a) n (inl (omega arith)) in
        let d = idle_zero (count ws i) (let z = ap (count ws) e in omega arith) in
        omega arith
    go (no f) l k ih =
        let w = when_le (count ws a) (same a i) in
        let s = same_ne a i f in
        omega (arith, ih (omega arith))

-- A node that names i by a link, and a slot that names it.
kids_some : (ws : List ℕ) (i j : ℕ) → 1 ≤ kids ws i j → (1 ≤ count ws j) × ((left ws j ≡ i) ⊎ (right ws j ≡ i))
unfolding kids
kids_some ws i j h = (live (dec_le 1 (count ws j)), go (ℕ_discrete (left ws j) i) (ℕ_discrete (right ws j) i))
  where
    live : Dec (1 ≤ count ws j) → 1 ≤ count ws j
    live (yes l) = l
    live (no l) = absurd (omega (arith, when_zero (count ws j) (same (left ws j) i + same (right ws j) i) (omega arith)))

    go : Dec (left ws j ≡ i) → Dec (right ws j ≡ i) → (left ws j ≡ i) ⊎ (right ws j ≡ i)
    go (yes e) d = inl e
    go (no e) (yes d) = inr d
    go (no e) (no d) =
        absurd (let w = when_le (count ws j) (same (left ws j) i + same (right ws j) i) in omega (arith, same_ne (left ws j) i e, same_ne (right ws j) i d))

held_some : (n : ℕ) (ws : List ℕ) (i s : ℕ) → 1 ≤ held n ws i s → slot_root n ws s ≡ i
unfolding held
held_some n ws i s h = go (ℕ_discrete (slot_root n ws s) i)
  where
    go : Dec (slot_root n ws s ≡ i) → slot_root n ws s ≡ i
    go (yes e) = e
    go (no f) = absurd (omega (arith, same_ne (slot_root n ws s) i f))

module _ (ws : List ℕ) (o : Owned Sized (nodes ws) (slots ws) ws []) where
  slot_tree : (s : ℕ) → Held ws s → (t : Tree) × Reads (nodes ws) ws (slot_root (nodes ws) ws s) t × Sized s t (slot_size (nodes ws) ws s)
  slot_tree s h = ⊎_elim (λ e. absurd (h.held e.0)) (λ w. w) (o.versions s h.inside)

  pub reached_live : {i : ℕ} → Reached ws i → Live (nodes ws) ws i
  reached_live (from_slot s h p) =
      let w = slot_tree s h in
      ⊎_elim (λ z. absurd (omega arith)) (λ l. l) (live_root Sized (nodes ws) (slots ws) ws [] o s w.0 h.inside w.1)
  reached_live (from_left i r p) = ⊎_elim (λ z. absurd (omega arith)) (λ l. l) (live_left Sized (nodes ws) (slots ws) ws [] o i (reached_live r))
  reached_live (from_right i r p) = ⊎_elim (λ z. absurd (omega arith)) (λ l. l) (live_right Sized (nodes ws) (slots ws) ws [] o i (reached_live r))

  -- A live node is named by a held slot, or by a live node, whose tree is higher.
  named_by : (i : ℕ) → Live (nodes ws) ws i → Reached ws i ⊎ ((j : ℕ) × Live (nodes ws) ws j × ((left ws j ≡ i) ⊎ (right ws j ≡ i)))
  unfolding names occ
  named_by i l = go (dec_le 1 (sum (held (nodes ws) ws i) 0 (slots ws)))
    where
      go : Dec (1 ≤ sum (held (nodes ws) ws i) 0 (slots ws)) → Reached ws i ⊎ ((j : ℕ) × Live (nodes ws) ws j × ((left ws j ≡ i) ⊎ (right ws j ≡ i)))
      go (yes h) =
          let s = sum_some (held (nodes ws) ws i) 0 (slots ws) h in
          let e = held_some (nodes ws) ws i s.0 s.3 in
          let m = o.shaped.limits.n_high in
          let b = l.1 in
          inl (subst (λ (z : ℕ). Reached ws z) e (from_slot s.0 (record { inside = omega arith; held = λ z. omega arith }) (omega arith)))
      go (no h) =
          let c = o.counts i l.0 l.1 in
          let s = sum_some (kids ws i) 1 (nodes ws) (omega arith) in
          let k = kids_some ws i s.0 s.3 in
          inr (s.0, (s.1, omega arith, k.0), k.1)

  abbrev Names : ℕ → ℕ → Type 0
  Names j i = (left ws j ≡ i) ⊎ (right ws j ≡ i)

  parent_tree : (i j : ℕ) (t : Tree) → Live (nodes ws) ws j → Names j i → Reads (nodes ws) ws i t →
      (u : Tree) × Reads (nodes ws) ws j u × (suc (height t) ≤ height u) × (height u ≤ o.bound)
  parent_tree i j t m (inl e) r = let u = o.trees j m in (u.0, u.1, low_left (nodes ws) ws j u.0 t m.0 u.1 (rw e r), u.2)
  parent_tree i j t m (inr e) r = let u = o.trees j m in (u.0, u.1, low_right (nodes ws) ws j u.0 t m.0 u.1 (rw e r), u.2)

  child_reached : (i j : ℕ) → 1 ≤ i → Names j i → Reached ws j → Reached ws i
  child_reached i j p (inl e) r = subst (λ (z : ℕ). Reached ws z) e (from_left j r (omega arith))
  child_reached i j p (inr e) r = subst (λ (z : ℕ). Reached ws z) e (from_right j r (omega arith))

  -- So from a live node up a slot is reached in `bound` steps.
  climb : (k i : ℕ) (t : Tree) → Live (nodes ws) ws i → Reads (nodes ws) ws i t → o.bound < height t + k → Reached ws i
  climb zero i t l r b =
      ⊎_elim (λ q. q) (λ w. absurd (let u = parent_tree i w.0 t w.1 w.2 r in omega (arith, u.2, u.3))) (named_by i l)
  climb (suc k) i t l r b =
      ⊎_elim
      (λ q. q)
      (λ w.
      let u = parent_tree i w.0 t w.1 w.2 r in
      child_reached i w.0 l.0 w.2 (climb k w.0 u.0 w.1 u.1 (omega (arith, u.2))))
      (named_by i l)

  pub live_reached : (i : ℕ) → Live (nodes ws) ws i → Reached ws i
  live_reached i l = let u = o.trees i l in climb (suc o.bound) i u.0 l u.1 (omega arith)

  lives_live : (i : ℕ) → 1 ≤ occ i (lives ws 1 (nodes ws)) → Live (nodes ws) ws i
  lives_live i h = go (dec_le 1 i) (dec_le i (nodes ws)) (dec_le 1 (count ws i))
    where
      go : Dec (1 ≤ i) → Dec (i ≤ nodes ws) → Dec (1 ≤ count ws i) → Live (nodes ws) ws i
      go (yes p) (yes q) (yes l) = (p, q, l)
      go (yes p) (yes q) (no l) = absurd (omega (arith, lives_occ ws i 1 (nodes ws) p (omega arith), idle_zero (count ws i) (omega arith)))
      go (yes p) (no q) l = absurd (omega (arith, lives_outside ws i 1 (nodes ws) (inr (omega arith))))
      go (no p) q l = absurd (omega (arith, lives_outside ws i 1 (nodes ws) (inl (omega arith))))

  live_lives : (i : ℕ) → Live (nodes ws) ws i → occ i (lives ws 1 (nodes ws)) ≡ 1
  live_lives i l = let b = l.1 in omega (arith, lives_occ ws i 1 (nodes ws) l.0 (omega arith), idle_pos (count ws i) l.2)

  lives_reached : AllReached ws (lives ws 1 (nodes ws))
  lives_reached =
      record {
        once = λ i. go i (dec_le 1 (occ i (lives ws 1 (nodes ws))));
        listed = λ i h. live_reached i (lives_live i h);
        all = λ i r. omega (arith, live_lives i (reached_live r));
      }
    where
      go : (i : ℕ) → Dec (1 ≤ occ i (lives ws 1 (nodes ws))) → occ i (lives ws 1 (nodes ws)) ≤ 1
      go i (yes h) = omega (arith, live_lives i (lives_live i h))
      go i (no h) = omega arith

  free_in : (i : ℕ) → 1 ≤ occ i o.free → (count ws i ≡ 0) × (occ i o.free ≡ 1)
  free_in i h =
      let b = chain_in (nodes ws) ws (head ws) o.free i o.chain h in
      go (o.frees i b.0 b.1) (dec_le 1 (count ws i))
    where
      go : occ i o.free ≡ idle (count ws i) → Dec (1 ≤ count ws i) → (count ws i ≡ 0) × (occ i o.free ≡ 1)
      go e (yes l) = absurd (omega (arith, idle_pos (count ws i) l))
      go e (no l) = let c : count ws i ≡ 0 = omega arith in (c, omega (arith, idle_zero (count ws i) c))

  free_once : (i : ℕ) → Dec (1 ≤ occ i o.free) → occ i o.free ≤ 1
  free_once i (yes h) = omega (arith, (free_in i h).1)
  free_once i (no h) = omega arith

  not_live : (i : ℕ) → 1 ≤ i → i ≤ nodes ws → (Reached ws i → ⊥) → Dec (1 ≤ count ws i) → count ws i ≡ 0
  not_live i p q f (yes l) = absurd (f (live_reached i (p, q, l)))
  not_live i p q f (no l) = omega arith

  owned_counts : (i : ℕ) → 1 ≤ i → i ≤ nodes ws → count ws i ≡ named ws (lives ws 1 (nodes ws)) i
  unfolding names named occ
  owned_counts i p q = omega (arith, o.counts i p q, kids_lives ws i 1 (nodes ws), held_roots ws (nodes ws) i 0 (slots ws))

  owned_trees : Trees ws
  owned_trees =
      record {
        limits = o.shaped.limits;
        tree = λ s h. (slot_tree s h).0;
        links = λ s h. (slot_tree s h).1;
        roots = λ s h. (slot_tree s h).2.0.root;
        keys = λ s h. (slot_tree s h).2.0.ordered;
        shapes = λ s h. ((slot_tree s h).2.0.blacks, (slot_tree s h).2.0.shape);
      }

  owned_books : Books ws owned_trees
  unfolding owned_trees
  owned_books =
      record {
        sizes = λ s h. (slot_tree s h).2.1;
        no_sizes = λ s h e. no_size s e (o.versions s h);
        reached = lives ws 1 (nodes ws);
        all_reached = lives_reached;
        counts = owned_counts;
        free = o.free;
        free_listed = o.chain;
        free_once = λ i. free_once i (dec_le 1 (occ i o.free));
        free_unreached = λ i h r. omega (arith, (free_in i h).0, (reached_live r).2);
        unreached_free = λ i p q f. omega (arith, o.frees i p q, idle_zero (count ws i) (not_live i p q f (dec_le 1 (count ws i))));
        free_counts = λ i h. (free_in i h).0;
      }
    where
      no_size : (s : ℕ) → slot_root (nodes ws) ws s ≡ not_held → Version Sized (nodes ws) ws s → slot_size (nodes ws) ws s ≡ 0
      no_size s e (inl z) = z.1
      no_size s e (inr w) =
          let m = o.shaped.limits.n_high in
          absurd (⊎_elim (λ z. omega arith) (λ b. omega (arith, b.1)) (reads_link (nodes ws) ws (slot_root (nodes ws) ws s) w.0 w.1))

  sound_here : Sound ws
  sound_here = record { trees = owned_trees; books = owned_books }

-- Whatever n and v it is owned with.
pub owned_sound : (n v : ℕ) (ws : List ℕ) → Owned Sized n v ws [] → Sound ws
owned_sound n v ws o =
    sound_here ws (subst₂ (λ (n v : ℕ). Owned Sized n v ws []) (sym o.shaped.n_is) (sym o.shaped.v_is) o)
