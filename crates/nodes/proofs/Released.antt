-- What `release` holds at each of its steps, and that its stores are their model.
use mathlib.Core.Path.{◌≡◌, sym}
use mathlib.Core.List.{List, ◌∷◌}
use Prim.Native.Nat.{ℕ, zero, suc, ◌+◌, ◌-◌, ◌^◌, ◌≤◌, ◌<◌}
use native.Mathlib.Omega.{arith}
use mir.Syntax.{w32}
use mir.Val.{Fits}
use Rattle.trees.specs.Tree.{Tree, leaf, node, height}
use Rattle.words.specs.Layout.{left, right, count, max_nodes}
use Rattle.words.specs.Reads.{Reads}
use Rattle.words.specs.Model.{with_count, freeing, releasing, freed}
use Rattle.words.proofs.Counts.{occ-first}
use Rattle.words.proofs.Recounting.{owned_long, idles_few}
use Rattle.words.proofs.ReleasingCases.{releasing_none, freed_none, releasing_more, freed_more, releasing_last, freed_last}
use Rattle.words.proofs.Releasing.{released_free, in_turn, kept_pending, releasing_released}
use Rattle.arena.specs.Nodes.{NodeInside}
use Rattle.nodes.specs.Promises.{Any, Holds, Releases}

-- The model at a node, where a name is left and where none is.
more_released : (h : ℕ) (ws : List ℕ) (i : ℕ) → 1 ≤ h → 1 ≤ i → 1 < count ws i → Releases h ws (with_count ws i (count ws i - 1)) i 0
more_released zero ws i p q m = absurd (omega arith)
more_released (suc h) ws zero p q m = absurd (omega arith)
more_released (suc h) ws (suc i) p q m = record { words_are = sym (releasing_more h ws i m); freed_is = sym (freed_more h ws i m) }

last_released : (h : ℕ) (ws : List ℕ) (i : ℕ) → 1 ≤ h → 1 ≤ i → count ws i ≤ 1 →
    Releases
    h
    ws
    (releasing (h - 1) (releasing (h - 1) (freeing ws i) (left ws i)) (right ws i))
    i
    (freed (h - 1) (freeing ws i) (left ws i) + freed (h - 1) (releasing (h - 1) (freeing ws i) (left ws i)) (right ws i) + 1)
last_released zero ws i p q m = absurd (omega arith)
last_released (suc h) ws zero p q m = absurd (omega arith)
last_released (suc h) ws (suc i) p q m =
    let e : suc h - 1 ≡ h = omega arith in
    rw e (record { words_are = sym (releasing_last h ws i m); freed_is = sym (freed_last h ws i m) })

-- A release frees no more nodes than there are.
freed_few : {ws : List ℕ} {i h : ℕ} → Holds ws i h → freed h ws i ≤ max_nodes
freed_few {ws = ws} {i = i} {h = h} k =
    let x = releasing_released Any k.n k.v h ws k.others i k.tree k.owned k.reads k.low in
    omega (arith, x.more, idles_few k.n (releasing h ws i), k.owned.shaped.limits.n_high)

module _ {ws : List ℕ} {i h : ℕ} (k : Holds ws i h) (some : i ≡ 0 → ⊥) where
  is_node : (t : Tree) → Reads k.n ws i t → height t ≤ h → (1 ≤ i) × (i ≤ k.n) × (1 ≤ h)
  is_node leaf r b = absurd (some r)
  is_node (node p c l e r) q b = (q.1.low, q.1.high, omega arith)

  pub holds_inside : NodeInside ws i
  holds_inside = omega (arith, (is_node k.tree k.reads k.low).1, owned_long Any k.n k.v ws (i ∷ k.others) k.owned)

  pub holds_high : 1 ≤ h
  holds_high = (is_node k.tree k.reads k.low).2

  pub lower : {t : ℕ} → h ≡ t → h - 1 < t
  lower e = omega (arith, holds_high)

  -- At the last name the links are held in its place.
  links : (t : Tree) → Reads k.n ws i t → height t ≤ h → count ws i ≤ 1 →
      Holds (freeing ws i) (left ws i) (h - 1) × Holds (releasing (h - 1) (freeing ws i) (left ws i)) (right ws i) (h - 1)
  links leaf r b m = absurd (some r)
  links (node p c tl e tr) r b m =
      let n = k.n in
      let v = k.v in
      let R = k.others in
      let L = left ws i in
      let N = right ws i in
      let w1 = freeing ws i in
      let w2 = releasing (h - 1) w1 L in
      let x1 = released_free Any n v ws R i k.owned r.1.low r.1.high m in
      let r1 = kept_pending Any n v ws w1 (L ∷ (N ∷ R)) x1.owned x1.kept L tl (omega (arith, occ-first L (N ∷ R))) r.2 in
      let x2 = in_turn Any n v (L ∷ (N ∷ R)) (N ∷ R) 1 (freed (h - 1) w1 L) ws w1 w2 x1 (releasing_released Any n v (h - 1) w1 (N ∷ R) L tl x1.owned r1 (omega arith)) in
      let r2 = kept_pending Any n v ws w2 (N ∷ R) x2.owned x2.kept N tr (omega (arith, occ-first N R)) r.3 in (
        record { others = N ∷ R; tree = tl; n = n; v = v; owned = x1.owned; reads = r1; low = omega arith },
        record { others = R; tree = tr; n = n; v = v; owned = x2.owned; reads = r2; low = omega arith },
      )

  module _ {c l : ℕ} (counted : c ≡ count ws i) (last : c ≤ 1) (left_is : l ≡ left ws i) where
    pub holds_left : {w : List ℕ} → w ≡ freeing ws i → Holds w l (h - 1)
    holds_left e = rw (e, left_is) (links k.tree k.reads k.low (omega arith)).0

    pub holds_right : {w w' : List ℕ} {r a : ℕ} → r ≡ right ws i → w ≡ freeing ws i → Releases (h - 1) w w' l a → Holds w' r (h - 1)
    holds_right f e x = rw (x.words_are, e, left_is, f) (links k.tree k.reads k.low (omega arith)).1

    -- Both links released: the model of the whole, and a number that a word holds.
    module _ {w w' w'' : List ℕ} {r a b : ℕ} (f : r ≡ right ws i) (e : w ≡ freeing ws i) (x : Releases (h - 1) w w' l a) (y : Releases (h - 1) w' w'' r b) where
      pub released_last : Releases h ws w'' i (a + b + 1)
      released_last =
          let d = is_node k.tree k.reads k.low in
          rw (y.words_are, y.freed_is, x.freed_is, x.words_are, e, left_is, f) (last_released h ws i d.2 d.0 (omega arith))

      fits : a + b + 1 < 2 ^ 32
      fits = omega (arith, x.freed_is, y.freed_is, freed_few (holds_left e), freed_few (holds_right f e x))

      pub links_fit : Fits w32 (a + b)
      links_fit = record { fits = omega (arith, fits) }

      pub sum_fits : Fits w32 (a + b + 1)
      sum_fits = record { fits = fits }

  pub released_more : {w : List ℕ} {c : ℕ} → c ≡ count ws i → 1 < c → w ≡ with_count ws i (c - 1) → Releases h ws w i 0
  released_more e m f = let a = is_node k.tree k.reads k.low in rw (f, e) (more_released h ws i a.2 a.0 (omega arith))

pub released_none : (ws : List ℕ) (i h : ℕ) → i ≡ 0 → Releases h ws ws i 0
released_none ws i h e = rw e (record { words_are = sym (releasing_none h ws); freed_is = sym (freed_none h ws) })
