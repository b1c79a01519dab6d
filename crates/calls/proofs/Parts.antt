-- Parts of a tree: of an ascending tree two nodes with one key are one node, and the nodes of a version are live.
use mathlib.Core.Path.{◌≡◌, refl, subst}
use mathlib.Core.Logic.{◌⊎◌, ⊎_elim}
use mathlib.Core.List.{List, [], ◌∷◌, ◌++◌}
use Prim.Native.Nat.{ℕ, ◌≤◌, ◌<◌}
use native.Mathlib.Omega.{arith}
use Rattle.trees.specs.Tree.{Entry, Color, Place, kept, Tree, leaf, node, listing}
use Rattle.trees.specs.Listing.{Above, Below, Ascending}
use Rattle.trees.proofs.Listings.{split}
use Rattle.words.specs.Layout.{nodes, slots, entry, left, right, slot_root}
use Rattle.words.specs.Reads.{Reads}
use Rattle.words.specs.Sound.{Sound}
use Rattle.words.specs.Owned.{Live, Owned, Sized}
use Rattle.words.proofs.OwnedLaws.{live_left, live_right}
use Rattle.words.proofs.SoundOwned.{sound_owned}
use Rattle.calls.specs.Version.{VersionIs}
use Rattle.calls.proofs.Versions.{version_root}

-- u is t, or a part of one of its children.
pub data Part : Tree → Tree → Type 0 where
  whole : {t : Tree} → Part t t
  in_left : {p : Place} {c : Color} {l r u : Tree} {e : Entry} → Part l u → Part (node p c l e r) u
  in_right : {p : Place} {c : Color} {l r u : Tree} {e : Entry} → Part r u → Part (node p c l e r) u

pub part_left : {t l r : Tree} {p : Place} {c : Color} {e : Entry} → Part t (node p c l e r) → Part t l
part_left whole = in_left whole
part_left (in_left a) = in_left (part_left a)
part_left (in_right a) = in_right (part_left a)

pub part_right : {t l r : Tree} {p : Place} {c : Color} {e : Entry} → Part t (node p c l e r) → Part t r
part_right whole = in_right whole
part_right (in_left a) = in_left (part_right a)
part_right (in_right a) = in_right (part_right a)

below_middle : (k : ℕ) (xs : List Entry) (e : Entry) (ys : List Entry) → Below k (xs ++ (e ∷ ys)) → Below k xs × (e.key < k) × Below k ys
below_middle k [] e ys b = (tt, b.0, b.1)
below_middle k (x ∷ xs) e ys b = let r = below_middle k xs e ys b.1 in ((b.0, r.0), r.1, r.2)

above_middle : (k : ℕ) (xs : List Entry) (e : Entry) (ys : List Entry) → Above k (xs ++ (e ∷ ys)) → Above k xs × (k < e.key) × Above k ys
above_middle k [] e ys b = (tt, b.0, b.1)
above_middle k (x ∷ xs) e ys b = let r = above_middle k xs e ys b.1 in ((b.0, r.0), r.1, r.2)

pub part_below : (k : ℕ) {t l r : Tree} {p : Place} {c : Color} {e : Entry} → Part t (node p c l e r) → Below k (listing t) → e.key < k
part_below k (whole {t = node p c l e r}) b = (below_middle k (listing l) e (listing r) b).1
part_below k (in_left {l = l} {r = r} {e = e} a) b = part_below k a (below_middle k (listing l) e (listing r) b).0
part_below k (in_right {l = l} {r = r} {e = e} a) b = part_below k a (below_middle k (listing l) e (listing r) b).2

pub part_above : (k : ℕ) {t l r : Tree} {p : Place} {c : Color} {e : Entry} → Part t (node p c l e r) → Above k (listing t) → k < e.key
part_above k (whole {t = node p c l e r}) b = (above_middle k (listing l) e (listing r) b).1
part_above k (in_left {l = l} {r = r} {e = e} a) b = part_above k a (above_middle k (listing l) e (listing r) b).0
part_above k (in_right {l = l} {r = r} {e = e} a) b = part_above k a (above_middle k (listing l) e (listing r) b).2

-- Nodes with one key are at one place.
pub part_key : {t l r l' r' : Tree} {p p' : Place} {c c' : Color} {e e' : Entry} → Part t (node p c l e r) →
    Part t (node p' c' l' e' r') → Ascending (listing t) → e.key ≡ e'.key → p ≡ p'
part_key (whole {t = node p c l e r}) whole o k = refl
part_key (whole {t = node p c l e r}) (in_left b) o k =
    absurd (omega (arith, part_below e.key b (split (listing l) e (listing r) o).below))
part_key (whole {t = node p c l e r}) (in_right b) o k =
    absurd (omega (arith, part_above e.key b (split (listing l) e (listing r) o).above))
part_key (in_left {l = l} {r = r} {e = e} a) whole o k =
    absurd (omega (arith, part_below e.key a (split (listing l) e (listing r) o).below))
part_key (in_left {l = l} {r = r} {e = e} a) (in_left b) o k = part_key a b (split (listing l) e (listing r) o).before k
part_key (in_left {l = l} {r = r} {e = e} a) (in_right b) o k =
    let s = split (listing l) e (listing r) o in
    absurd (omega (arith, part_below e.key a s.below, part_above e.key b s.above))
part_key (in_right {l = l} {r = r} {e = e} a) whole o k =
    absurd (omega (arith, part_above e.key a (split (listing l) e (listing r) o).above))
part_key (in_right {l = l} {r = r} {e = e} a) (in_left b) o k =
    let s = split (listing l) e (listing r) o in
    absurd (omega (arith, part_above e.key a s.above, part_below e.key b s.below))
part_key (in_right {l = l} {r = r} {e = e} a) (in_right b) o k = part_key a b (split (listing l) e (listing r) o).after k

-- The nodes of a tree at a live link are live.
module _ (Valid : ℕ → Tree → ℕ → Type 0) (n v : ℕ) (ws P : List ℕ) (o : Owned Valid n v ws P) where
  pub part_live : {t l r : Tree} {p : Place} {c : Color} {e : Entry} (i : ℕ) → Part t (node p c l e r) → (i ≡ 0) ⊎ Live n ws i → Reads n ws i t →
      (j : ℕ) × (p ≡ kept j) × Live n ws j
  part_live i (whole {t = node p c l e r}) m h = (i, h.0, ⊎_elim (λ z. absurd (omega (arith, h.1.low))) (λ a. a) m)
  part_live i (in_left a) m h =
      part_live (left ws i) a (⊎_elim (λ z. absurd (omega (arith, h.1.low))) (live_left Valid n v ws P o i) m) h.2
  part_live i (in_right a) m h =
      part_live (right ws i) a (⊎_elim (λ z. absurd (omega (arith, h.1.low))) (live_right Valid n v ws P o i) m) h.3

pub version_part : {ws : List ℕ} {s : ℕ} {t l r : Tree} {p : Place} {c : Color} {e : Entry} → Sound ws → VersionIs ws s t →
    Part t (node p c l e r) → (j : ℕ) × (p ≡ kept j) × Live (nodes ws) ws j
version_part {ws} {s} S x a =
    part_live Sized (nodes ws) (slots ws) ws [] (sound_owned ws S) (slot_root (nodes ws) ws s) a (version_root S x) x.reads

pub kept_same : {i j : ℕ} → kept i ≡ kept j → i ≡ j
kept_same e = cc

-- Node j is a node of the tree t, with the entry e.
pub record NodeOf (t : Tree) (j : ℕ) (e : Entry) : Type 0 where
  pub color : Color
  pub lt : Tree
  pub rt : Tree
  pub part : Part t (node (kept j) color lt e rt)

-- A node that is read in a part of t is one.
pub reads_node : (n : ℕ) (ws : List ℕ) {j : ℕ} {t : Tree} (here : Tree) → 1 ≤ j → Part t here → Reads n ws j here → NodeOf t j (entry ws j)
reads_node n ws leaf p a h = absurd (omega arith)
reads_node n ws {j} {t} (node x c l e r) p a h =
    record {
      color = c;
      lt = l;
      rt = r;
      part = subst (λ (y : Place). Part t (node y c l (entry ws j) r)) h.0 (rw h.1.entry_is a);
    }
