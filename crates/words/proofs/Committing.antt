-- The second half of a commit, and the whole: the fresh nodes are made bottom up; exactly as many nodes are taken as the planned tree has fresh ones.
use mathlib.Core.Path.{◌≡◌, refl, ap, sym, subst}
use mathlib.Core.Bool.{Bool, true, false}
use mathlib.Core.List.{List, [], ◌∷◌, ◌++◌}
use Prim.Native.Nat.{ℕ, ◌+◌, ◌≤◌}
use native.Mathlib.Omega.{arith}
use native.Mathlib.Decide.{dec_le}
use borrow.Author.Tests.{eq-eqb, ne_eqb}
use Rattle.trees.specs.Tree.{Entry, Color, Place, kept, fresh, Tree, leaf, node, made}
use Rattle.trees.proofs.Sharing.{AllKept}
use Rattle.words.specs.Layout.{head, left, right, count}
use Rattle.words.specs.Counting.{occ}
use Rattle.words.specs.Reads.{Reads}
use Rattle.words.specs.Owned.{Live, Owned, idles}
use Rattle.words.specs.Model.{making}
use Rattle.words.specs.Fresh.{relabel, was_free}
use Rattle.words.specs.Commit.{frontier, raising_all, Built, building}
use Rattle.words.proofs.Counts.{occ-first, occ_more, occ_append}
use Rattle.words.proofs.Changes.{only_agree, only_count}
use Rattle.words.proofs.Making.{head_in, head_idle, making_owned, making_tree, making_reads, making_idles, making_outside}
use Rattle.words.proofs.Making as making
use Rattle.words.proofs.Countups.{owned_occ, relabel-same, all_kept, Shares, Grows, grows_refl, grows_trans, raising_all_owned}

-- What making the fresh nodes leaves.
pub record Builds (Valid : ℕ → Tree → ℕ → Type 0) (n v : ℕ) (R ws : List ℕ) (t : Tree) (b : Built) : Type 0 where
  pub owned : Owned Valid n v b.words (b.link ∷ R)
  pub tree : Tree
  pub reads : Reads n b.words b.link tree
  -- The nodes that were made had count 0 before; read as fresh they give the planned tree.
  pub planned : (isNew : ℕ → Bool) → AllKept (λ i. isNew i ≡ false) t → ((i : ℕ) → 1 ≤ i → i ≤ n → count ws i ≡ 0 → isNew i ≡ true) →
      relabel isNew tree ≡ t
  pub taken : idles n b.words + made t ≡ idles n ws
  pub grows : Grows n ws b.words
  -- What the call held besides is read as before.
  pub besides : (p : ℕ) (u : Tree) → 1 ≤ occ p R → Reads n ws p u → Reads n b.words p u

-- A tree in the arena has no fresh node.
pub reads_made : (n : ℕ) (ws : List ℕ) (i : ℕ) (t : Tree) → Reads n ws i t → made t ≡ 0
reads_made n ws i leaf r = refl
reads_made n ws i (node (kept j) c l e r') r = omega (arith, reads_made n ws (left ws i) l r.2, reads_made n ws (right ws i) r' r.3)
reads_made n ws i (node fresh c l e r') r = absurd (never r.0)
  where
    is_kept : Place → Type 0
    is_kept (kept j) = Unit {0}
    is_kept fresh = ⊥

    never : ◌≡◌ {A = Place} fresh (kept i) → ⊥
    never e = subst is_kept (sym e) tt

-- The kept parts stay where the links at which they hang are read as before.
pub shares_kept : (n : ℕ) (ws ws' : List ℕ) (t : Tree) → ((p : ℕ) (u : Tree) → 1 ≤ occ p (frontier t) → Reads n ws p u → Reads n ws' p u) →
    Shares n ws t → Shares n ws' t
shares_kept n ws ws' leaf f s = tt
shares_kept n ws ws' (node (kept i) c l e r) f s = f i (node (kept i) c l e r) (omega (arith, occ-first i [])) s
shares_kept n ws ws' (node fresh c l e r) f s = (
  shares_kept n ws ws' l (λ p u h. f p u (omega (arith, occ_append p (frontier l) (frontier r)))) s.0,
  shares_kept n ws ws' r (λ p u h. f p u (omega (arith, occ_append p (frontier l) (frontier r)))) s.1,
)

-- What was not live before was not live at the start.
idle_back : (n : ℕ) (ws ws' : List ℕ) → Grows n ws ws' → (i : ℕ) → 1 ≤ i → i ≤ n → count ws' i ≡ 0 → count ws i ≡ 0
idle_back n ws ws' g i p q z = go (dec_le 1 (count ws i))
  where
    go : Dec (1 ≤ count ws i) → count ws i ≡ 0
    go (yes l) = absurd (omega (arith, (g.live i (p, q, l)).2))
    go (no l) = omega arith

module _ (Valid : ℕ → Tree → ℕ → Type 0) (n v : ℕ) where
  making_grows : (c : Color) (l : ℕ) (e : Entry) (r : ℕ) (ws R : List ℕ) (o : Owned Valid n v ws (l ∷ (r ∷ R))) (some : 1 ≤ idles n ws) →
      Grows n ws (making ws c l e r)
  making_grows c l e r ws R o some =
      let m = making.made Valid n v c l e r ws R o some in
      let h = head_in Valid n v c l e r ws R o some in
      let z = head_idle Valid n v c l e r ws R o some in
      let other : (j : ℕ) → Live n ws j → j ≡ head ws → ⊥ = λ j k q. let x = ap (count ws) q in omega (arith, k.2) in
      record {
        live = λ j k. (k.0, k.1, omega (arith, only_count n (head ws) ws (making ws c l e r) m.only h.0 h.1 j k.0 (other j k), k.2));
        agree = λ j k. only_agree n (head ws) ws (making ws c l e r) m.only h.0 h.1 j k.0 (other j k);
        outside = making_outside Valid n v c l e r ws R o some;
      }

  -- A node over two sides that are built.
  module _ (c : Color) (l : Tree) (e : Entry) (r : Tree) (ws F R : List ℕ) (a b : Built) (x : Builds Valid n v (F ++ R) ws l a)
      (y : Builds Valid n v (a.link ∷ R) a.words r b) (room : made (node fresh c l e r) ≤ idles n ws) where
    pub sides_owned : Owned Valid n v b.words (a.link ∷ (b.link ∷ R))
    unfolding occ
    sides_owned = owned_occ Valid n v b.words (b.link ∷ (a.link ∷ R)) (a.link ∷ (b.link ∷ R)) (λ z. omega arith) y.owned

    pub sides_room : 1 ≤ idles n b.words
    sides_room = omega (arith, x.taken, y.taken)

    left_reads : Reads n b.words a.link x.tree
    left_reads = y.besides a.link x.tree (omega (arith, occ-first a.link R)) x.reads

    abbrev top : ℕ
    top = head b.words

    abbrev over : List ℕ
    over = making b.words c a.link e b.link

    sides_grow : Grows n ws b.words
    sides_grow = grows_trans n ws a.words b.words x.grows y.grows

    over_planned : (isNew : ℕ → Bool) → AllKept (λ i. isNew i ≡ false) (node fresh c l e r) →
        ((i : ℕ) → 1 ≤ i → i ≤ n → count ws i ≡ 0 → isNew i ≡ true) →
        relabel isNew (node (kept top) c x.tree e y.tree) ≡ node fresh c l e r
    over_planned isNew k f =
        let h = head_in Valid n v c a.link e b.link b.words R sides_owned sides_room in
        let z = head_idle Valid n v c a.link e b.link b.words R sides_owned sides_room in
        let new = f top h.0 h.1 (idle_back n ws b.words sides_grow top h.0 h.1 z) in
        rw (
          new,
          x.planned isNew k.1 f,
          y.planned isNew k.2 (λ i p q g. f i p q (idle_back n ws a.words x.grows i p q g)),
        )

    over_builds : Builds Valid n v R ws (node fresh c l e r) (record { words = over; link = top })
    over_builds =
        record {
          owned = making_owned Valid n v c a.link e b.link b.words R sides_owned sides_room;
          tree = node (kept top) c x.tree e y.tree;
          reads = making_tree Valid n v c a.link e b.link b.words R sides_owned sides_room x.tree y.tree left_reads y.reads;
          planned = over_planned;
          taken = omega (arith, x.taken, y.taken, making_idles Valid n v c a.link e b.link b.words R sides_owned sides_room);
          grows = grows_trans n ws b.words over sides_grow (making_grows c a.link e b.link b.words R sides_owned sides_room);
          besides = λ p u h q.
              making_reads
              Valid
              n
              v
              c
              a.link
              e
              b.link
              b.words
              R
              sides_owned
              sides_room
              p
              u
              (omega (arith, h, occ_more a.link p (b.link ∷ R), occ_more b.link p R))
              (y.besides p u (omega (arith, h, occ_more a.link p R)) (x.besides p u (omega (arith, h, occ_append p F R)) q));
        }

  occ_middle : (z a : ℕ) (F R : List ℕ) → occ z (F ++ (a ∷ R)) ≡ occ z (a ∷ (F ++ R))
  unfolding occ
  occ_middle z a F R = omega (arith, occ_append z F (a ∷ R), occ_append z F R)

  occ_nested : (z : ℕ) (F G R : List ℕ) → occ z (F ++ (G ++ R)) ≡ occ z ((F ++ G) ++ R)
  occ_nested z F G R = omega (arith, occ_append z (F ++ G) R, occ_append z F G, occ_append z F (G ++ R), occ_append z G R)

  -- What is pending before the left side is built, and what the left side leaves for the right one.
  module _ (c : Color) (l : Tree) (e : Entry) (r : Tree) (ws R : List ℕ) where
    pub left_owned : Owned Valid n v ws (frontier (node fresh c l e r) ++ R) → Owned Valid n v ws (frontier l ++ (frontier r ++ R))
    left_owned =
        owned_occ Valid n v ws ((frontier l ++ frontier r) ++ R) (frontier l ++ (frontier r ++ R)) (λ z. occ_nested z (frontier l) (frontier r) R)

    module _ (a : Built) (x : Builds Valid n v (frontier r ++ R) ws l a) where
      pub right_owned : Owned Valid n v a.words (frontier r ++ (a.link ∷ R))
      right_owned =
          owned_occ
          Valid
          n
          v
          a.words
          (a.link ∷ (frontier r ++ R))
          (frontier r ++ (a.link ∷ R))
          (λ z. occ_middle z a.link (frontier r) R)
          x.owned

      pub right_shares : Shares n ws (node fresh c l e r) → Shares n a.words r
      right_shares s = shares_kept n ws a.words r (λ p u h. x.besides p u (omega (arith, occ_append p (frontier r) R))) s.1

      pub right_room : made (node fresh c l e r) ≤ idles n ws → made r ≤ idles n a.words
      right_room m = omega (arith, x.taken)

  -- Making the fresh nodes bottom up: the two sides in turn, then the node over them.
  pub building_builds : (t : Tree) (ws R : List ℕ) → Owned Valid n v ws (frontier t ++ R) → Shares n ws t → made t ≤ idles n ws →
      Builds Valid n v R ws t (building ws t)
  building_builds leaf ws R o s m =
      record {
        owned = o;
        tree = leaf;
        reads = refl;
        planned = λ b a f. refl;
        taken = omega arith;
        grows = grows_refl n ws;
        besides = λ p u h r. r;
      }
  building_builds (node (kept i) c l e r) ws R o s m =
      record {
        owned = o;
        tree = node (kept i) c l e r;
        reads = s;
        planned = λ b a f. relabel-same b (node (kept i) c l e r) a;
        taken = omega (arith, reads_made n ws i (node (kept i) c l e r) s);
        grows = grows_refl n ws;
        besides = λ p u h r. r;
      }
  building_builds (node fresh c l e r) ws R o s m =
      let a = building ws l in
      let x = building_builds l ws (frontier r ++ R) (left_owned c l e r ws R o) s.0 (omega arith) in
      let y =
      building_builds
      r
      a.words
      (a.link ∷ R)
      (right_owned c l e r ws R a x)
      (right_shares c l e r ws R a x s)
      (right_room c l e r ws R a x m) in
      over_builds c l e r ws (frontier r) R a (building a.words r) x y m

-- The whole: from an owned arena with room, the planned tree's link is pending and its nodes that were free before, read as fresh, are those it
-- plans to make. Between the two parts a call may release what it held: both laws are stated apart.
pub record Commits (Valid : ℕ → Tree → ℕ → Type 0) (n v : ℕ) (P ws : List ℕ) (t : Tree) (b : Built) : Type 0 where
  pub owned : Owned Valid n v b.words (b.link ∷ P)
  pub tree : Tree
  pub reads : Reads n b.words b.link tree
  pub planned : relabel (was_free ws) tree ≡ t
  pub taken : idles n b.words + made t ≡ idles n ws
  pub grows : Grows n ws b.words

pub commits : (Valid : ℕ → Tree → ℕ → Type 0) (n v : ℕ) (t : Tree) (ws P : List ℕ) → Owned Valid n v ws P → AllKept (Live n ws) t →
    Shares n ws t → made t ≤ idles n ws → Commits Valid n v P ws t (building (raising_all ws t) t)
commits Valid n v t ws P o k s m =
    let x = raising_all_owned Valid n v t ws P o k in
    let w = raising_all ws t in
    let b = building_builds Valid n v t w P x.0 (shares_kept n ws w t (λ p u h. x.1.reads p u) s) (omega (arith, x.1.idle)) in
    record {
      owned = b.owned;
      tree = b.tree;
      reads = b.reads;
      planned =
          b.planned
          (was_free ws)
          (all_kept (Live n ws) (λ i. was_free ws i ≡ false) (λ i l. ne_eqb (count ws i) 0 (λ e. omega (arith, l.2))) t k)
          (λ i p q z. eq-eqb (count ws i) 0 (idle_back n ws w x.1.grows i p q z));
      taken = omega (arith, b.taken, x.1.idle);
      grows = grows_trans n ws w (building w t).words x.1.grows b.grows;
    }
