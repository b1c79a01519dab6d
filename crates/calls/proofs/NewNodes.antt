-- The new nodes of a tree in the arena: as many as are fresh when they are read as such, each once.
use mathlib.Core.Path.{◌≡◌, refl, ap, sym, ◌∙◌, subst}
use mathlib.Core.Bool.{Bool, true, false}
use mathlib.Core.List.{List, [], ◌∷◌, ◌++◌}
use Prim.Native.Nat.{ℕ, ◌+◌, ◌≤◌, ◌<◌}
use native.Mathlib.Omega.{arith}
use native.Mathlib.Decide.{ℕ_discrete, dec_le}
use lib.ListN.{length, length-append}
use Rattle.std.specs.Prelude.{if◌then◌else◌}
use Rattle.trees.specs.Tree.{Entry, Color, Place, kept, fresh, Tree, leaf, node, listing, one, made}
use Rattle.trees.specs.Listing.{Ascending}
use Rattle.trees.proofs.Listings.{split}
use Rattle.words.specs.Layout.{entry, left, right}
use Rattle.words.specs.Counting.{occ}
use Rattle.words.specs.Reads.{Reads}
use Rattle.words.specs.Fresh.{relabel}
use Rattle.words.proofs.Counts.{same_eq, same_ne, same_le, occ_append}
use Rattle.calls.proofs.Parts.{NodeOf, Part, whole, in_left, in_right, part_below, part_above}

up_left : {l r : Tree} {p : Place} {c : Color} {e x : Entry} {j : ℕ} → NodeOf l j x → NodeOf (node p c l e r) j x
up_left m = record { color = m.color; lt = m.lt; rt = m.rt; part = in_left m.part }

up_right : {l r : Tree} {p : Place} {c : Color} {e x : Entry} {j : ℕ} → NodeOf r j x → NodeOf (node p c l e r) j x
up_right m = record { color = m.color; lt = m.lt; rt = m.rt; part = in_right m.part }

-- The new nodes of a tree.
pick : Bool → ℕ → List ℕ
pick true i = i ∷ []
pick false i = []

new_place : (ℕ → Bool) → Place → List ℕ
new_place isNew (kept i) = pick (isNew i) i
new_place isNew fresh = []

pub news : (ℕ → Bool) → Tree → List ℕ
news isNew leaf = []
news isNew (node p c l e r) = new_place isNew p ++ (news isNew l ++ news isNew r)

module _ (isNew : ℕ → Bool) where
  pick_made : (i : ℕ) (b : Bool) → length (pick b i) ≡ one (if b then fresh else kept i)
  unfolding pick
  pick_made i true = refl
  pick_made i false = refl

  -- As many as are fresh when they are read as such.
  pub news_made : (n : ℕ) (ws : List ℕ) (i : ℕ) (t : Tree) → Reads n ws i t → length (news isNew t) ≡ made (relabel isNew t)
  unfolding news new_place
  news_made n ws i leaf h = refl
  news_made n ws i (node (kept j) c l e r) h =
      omega (
        arith,
        length-append (pick (isNew j) j) (news isNew l ++ news isNew r),
        length-append (news isNew l) (news isNew r),
        pick_made j (isNew j),
        news_made n ws (left ws i) l h.2,
        news_made n ws (right ws i) r h.3,
      )
  news_made n ws i (node fresh c l e r) h = absurd (let x = h.0 in let z : ◌≡◌ {A = ℕ} 0 1 = cc in omega arith)

  pick_le : (j k : ℕ) (b : Bool) → occ j (pick b k) ≤ 1
  unfolding pick occ
  pick_le j k true = omega (arith, same_le k j)
  pick_le j k false = omega arith

  place_le : (j k : ℕ) → occ j (new_place isNew (kept k)) ≤ 1
  unfolding new_place
  place_le j k = pick_le j k (isNew k)

  pick_is : (j k : ℕ) (b : Bool) → 1 ≤ occ j (pick b k) → (b ≡ true) × (k ≡ j)
  unfolding pick occ
  pick_is j k true h = (refl, go (ℕ_discrete k j))
    where
      go : Dec (k ≡ j) → k ≡ j
      go (yes e) = e
      go (no f) = absurd (omega (arith, same_ne k j f))
  pick_is j k false h = absurd (omega arith)

  occ_news : (j : ℕ) (p : Place) (l r : Tree) →
      occ j (new_place isNew p ++ (news isNew l ++ news isNew r)) ≡ occ j (new_place isNew p) + (occ j (news isNew l) + occ j (news isNew r))
  occ_news j p l r =
      omega (arith, occ_append j (new_place isNew p) (news isNew l ++ news isNew r), occ_append j (news isNew l) (news isNew r))

  place_is : {j k i : ℕ} → 1 ≤ occ j (new_place isNew (kept k)) → kept k ≡ kept i → (isNew j ≡ true) × (k ≡ j) × (i ≡ j)
  unfolding new_place
  place_is {j} {k} {i} h e =
      let x = pick_is j k (isNew k) h in
      let z : k ≡ i = cc in
      (ap isNew (sym x.1) ∙ x.0, x.1, sym z ∙ x.1)

  -- A new node is a node of the tree, and stands in it once where keys ascend.
  module _ (n : ℕ) (ws : List ℕ) (j : ℕ) where
    pub news_node : (i : ℕ) (t : Tree) → Reads n ws i t → 1 ≤ occ j (news isNew t) → (isNew j ≡ true) × NodeOf t j (entry ws j)
    unfolding news occ
    news_node i leaf h o = absurd (omega arith)
    news_node i (node fresh c l e r) h o = absurd (let x = h.0 in let z : ◌≡◌ {A = ℕ} 0 1 = cc in omega arith)
    news_node i (node (kept k) c l e r) h o =
        go
        (dec_le 1 (occ j (news isNew l)))
        (dec_le 1 (occ j (news isNew r)))
        (news_node (left ws i) l h.2)
        (news_node (right ws i) r h.3)
      where
        go : Dec (1 ≤ occ j (news isNew l)) → Dec (1 ≤ occ j (news isNew r)) →
            (1 ≤ occ j (news isNew l) → (isNew j ≡ true) × NodeOf l j (entry ws j)) →
            (1 ≤ occ j (news isNew r) → (isNew j ≡ true) × NodeOf r j (entry ws j)) → (isNew j ≡ true) × NodeOf (node (kept k) c l e r) j (entry ws j)
        go (yes a) b f g = let x = f a in (x.0, up_left x.1)
        go (no a) (yes b) f g = let x = g b in (x.0, up_right x.1)
        go (no a) (no b) f g =
            let x = place_is {j = j} {k = k} {i = i} (omega (arith, occ_news j (kept k) l r)) h.0 in
            let z : entry ws j ≡ e = ap (entry ws) (sym x.2) ∙ h.1.entry_is in
            (x.0, record { color = c; lt = l; rt = r; part = subst (λ (m : ℕ). Part (node (kept k) c l e r) (node (kept m) c l (entry ws j) r)) x.1 (rw z whole) })

    pub node_news : {t l r : Tree} {c : Color} {e : Entry} → isNew j ≡ true → Part t (node (kept j) c l e r) → 1 ≤ occ j (news isNew t)
    unfolding news new_place pick occ
    node_news {l = l} {r = r} y whole =
        omega (arith, occ_append j (pick (isNew j) j) (news isNew l ++ news isNew r), ap (λ (b : Bool). occ j (pick b j)) y, same_eq j j refl)
    node_news y (in_left {p = p} {l = l} {r = r} a) = omega (arith, occ_news j p l r, node_news y a)
    node_news y (in_right {p = p} {l = l} {r = r} a) = omega (arith, occ_news j p l r, node_news y a)

    pub news_once : (i : ℕ) (t : Tree) → Ascending (listing t) → Reads n ws i t → occ j (news isNew t) ≤ 1
    unfolding news occ
    news_once i leaf o h = omega arith
    news_once i (node fresh c l e r) o h = absurd (let x = h.0 in let z : ◌≡◌ {A = ℕ} 0 1 = cc in omega arith)
    news_once i (node (kept k) c l e r) o h =
        let s = split (listing l) e (listing r) o in
        go
        (dec_le 1 (occ j (new_place isNew (kept k))))
        (dec_le 1 (occ j (news isNew l)))
        (dec_le 1 (occ j (news isNew r)))
        (λ a. part_below e.key (news_node (left ws i) l h.2 a).1.part s.below)
        (λ a. part_above e.key (news_node (right ws i) r h.3 a).1.part s.above)
        (λ a.
        let x = place_is {j = j} {k = k} {i = i} a h.0 in
        ap (λ (y : Entry). y.key) (ap (entry ws) (sym x.2) ∙ h.1.entry_is))
        (place_le j k)
        (news_once (left ws i) l s.before h.2)
        (news_once (right ws i) r s.after h.3)
      where
        go : Dec (1 ≤ occ j (new_place isNew (kept k))) → Dec (1 ≤ occ j (news isNew l)) → Dec (1 ≤ occ j (news isNew r)) →
            (1 ≤ occ j (news isNew l) → (entry ws j).key < e.key) → (1 ≤ occ j (news isNew r) → e.key < (entry ws j).key) →
            (1 ≤ occ j (new_place isNew (kept k)) → (entry ws j).key ≡ e.key) → occ j (new_place isNew (kept k)) ≤ 1 → occ j (news isNew l) ≤ 1 →
            occ j (news isNew r) ≤ 1 → occ j (new_place isNew (kept k) ++ (news isNew l ++ news isNew r)) ≤ 1
        go (yes a) (yes b) q f g h x y z = absurd (omega (arith, f b, h a))
        go (yes a) (no b) (yes q) f g h x y z = absurd (omega (arith, g q, h a))
        go (yes a) (no b) (no q) f g h x y z = omega (arith, occ_news j (kept k) l r)
        go (no a) (yes b) (yes q) f g h x y z = absurd (omega (arith, f b, g q))
        go (no a) (yes b) (no q) f g h x y z = omega (arith, occ_news j (kept k) l r)
        go (no a) (no b) q f g h x y z = omega (arith, occ_news j (kept k) l r)
