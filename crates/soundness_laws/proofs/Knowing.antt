-- Settling a node both children of which are known: its tree is good exactly when the two summaries
-- fit, and then it is known.
use mathlib.Core.Path.{◌≡◌, refl, ap, sym, ◌∙◌}
use mathlib.Core.Bool.{Bool, true, false}
use mathlib.Core.List.{List}
use Prim.Native.Nat.{ℕ, zero, suc, ◌+◌, ◌*◌, ◌/◌, ◌%◌, ◌^◌, ◌≤◌, ◌<◌}
use native.Mathlib.Omega.{arith}
use native.Mathlib.Decide.{dec_lt}
use lib.ListN.{get_or}
use lib.Pow.{pow_mono}
use Rattle.trees.specs.Tree.{Entry, Color, red, black, kept, Tree, leaf, node, size}
use Rattle.trees.specs.Shape.{Rb, rb_leaf, rb_red, rb_black}
use Rattle.words.specs.Layout.{nodes, entry, left, right, color, code}
use Rattle.words.specs.Reads.{Reads}
use Rattle.words.proofs.Holding.{reads_same}
use Rattle.words.proofs.Bounds.{size-nodes}
use Rattle.soundness_laws.specs.Answer.{Answers, Decides}
use Rattle.soundness_laws.specs.Summary.{Brief, Good, Tells, Fits, Joined}
use Rattle.soundness_laws.specs.Within.{Within}
use Rattle.soundness_laws.proofs.Saying.{say_yes, say_no}
use Rattle.soundness_laws.proofs.Joining.{good_fits, joined_tells}
use Rattle.soundness_laws.specs.Packed.{shape, dark, packed, briefs, ShapesFit, word_above, Wordable, KeysApart, Least, Greatest, Put, Packable, Places}
use Rattle.soundness_laws.proofs.Packing.{put_noted}
use Rattle.soundness_laws.specs.Known.{Known, Settle, Settled, Barren}

-- n black levels hold at least 2^n - 1 entries.
many : {n : ℕ} {t : Tree} → Rb n t → 2 ^ n ≤ suc (size t)
many rb_leaf = omega arith
many (rb_red h i a b) = omega (arith, many a)
many (rb_black a b) = omega (arith, many a, many b)

-- So in the arena there are few.
few_blacks : (ws : List ℕ) (x : ℕ) (t : Tree) (s : Brief) → Within ws → Reads (nodes ws) ws x t → Tells s t → (s.blacks ≤ 12) × (s.size ≤ nodes ws)
few_blacks ws x t s w r T = (go (dec_lt 11 T.good.blacks), omega (arith, T.size_is, size-nodes (nodes ws) ws x t r T.good.ordered))
  where
    go : Dec (11 < T.good.blacks) → s.blacks ≤ 12
    go (yes l) = absurd (omega (arith, pow_mono l, many T.good.shape, size-nodes (nodes ws) ws x t r T.good.ordered, w.n_high))
    go (no l) = omega (arith, T.blacks_is)

color_of : (x : ℕ) → x ≤ 1 → (c : Color) × (code c ≡ x)
color_of zero p = (red, refl)
color_of (suc zero) p = (black, refl)
color_of (suc (suc x)) p = absurd (omega arith)

-- The empty tree alone is at link 0.
some_link : (ws : List ℕ) (B : ℕ → Brief) (x : ℕ) → Known ws B x → 1 ≤ (B x).size → 1 ≤ x
some_link ws B x K h = go K.tree K.holds K.tells
  where
    go : (t : Tree) → Reads (nodes ws) ws x t → Tells (B x) t → 1 ≤ x
    go leaf r T = absurd (omega (arith, T.size_is))
    go (node p c l e r') r T = r.1.low

some_size : (ws : List ℕ) (B : ℕ → Brief) (x : ℕ) → Known ws B x → 1 ≤ x → 1 ≤ (B x).size
some_size ws B x K h = go K.tree K.holds K.tells
  where
    go : (t : Tree) → Reads (nodes ws) ws x t → Tells (B x) t → 1 ≤ (B x).size
    go leaf r T = absurd (omega arith)
    go (node p c l e r') r T = omega (arith, T.size_is)

-- c, k, x, y: the colour, the key and the links of node i, as they were read; l, r: the words of
-- the two links.
module _ (ws memo ends : List ℕ) (i : ℕ) (q : Settle ws (briefs memo ends) i) (c k x y : ℕ) (cis : c ≡ color ws i) (kis : k ≡ (entry ws i).key)
    (xis : x ≡ left ws i) (yis : y ≡ right ws i) (l r : ℕ) (el : l ≡ get_or memo x 0) (er : r ≡ get_or memo y 0) where
  abbrev B : ℕ → Brief
  B = briefs memo ends

  abbrev a : Brief
  a = B x

  abbrev b : Brief
  b = B y

  left_known : Known ws B x
  left_known = rw xis q.left

  right_known : Known ws B y
  right_known = rw yis q.right

  fits_shapes : Fits c k a b → ShapesFit c l r
  unfolding briefs
  fits_shapes f =
      record {
        known = f.colors.known;
        even = omega (arith, el, er, f.even);
        left = λ z w. f.colors.left z (rw el at w);
        right = λ z w. f.colors.right z (rw er at w);
      }

  fits_keys : Fits c k a b → KeysApart ends x k y
  unfolding briefs
  fits_keys f =
      record {
        after = λ p. f.keys.after (some_size ws B x left_known p);
        before = λ p. f.keys.before (some_size ws B y right_known p);
      }

  fit : ShapesFit c l r → KeysApart ends x k y → Fits c k a b
  unfolding briefs
  fit S K =
      record {
        colors = record { known = S.known; left = λ z w. S.left z (rw el w); right = λ z w. S.right z (rw er w) };
        even = omega (arith, el, er, S.even);
        keys = record { after = λ p. K.after (some_link ws B x left_known p); before = λ p. K.before (some_link ws B y right_known p) };
      }

  no_tree : (Fits c k a b → ⊥) → (t : Tree) → Reads (nodes ws) ws i t → Good t → ⊥
  no_tree f leaf h g = let low = q.low in omega arith
  no_tree f (node p d tl e tr) h g =
      let L = q.left in
      let R = q.right in
      let tx : Tells a tl = rw (xis, reads_same (nodes ws) ws (left ws i) tl L.tree h.2 L.holds) L.tells in
      let ty : Tells b tr = rw (yis, reads_same (nodes ws) ws (right ws i) tr R.tree h.3 R.holds) R.tells in
      let ed : c ≡ code d = cis ∙ h.1.color_is in
      let ek : k ≡ e.key = kis ∙ ap (λ (z : Entry). z.key) h.1.entry_is in
      f (rw (ed, ek) (good_fits d e a b tl tr tx ty p g))

  pub settle_no : (t : Bool) → Decides t (ShapesFit c l r) → t ≡ false → Answers false (Settled ws B B i) (Barren ws i)
  settle_no t d e = say_no (record { none = no_tree (λ f. d.no e (fits_shapes f)) })

  -- Keys of a child that are on the wrong side.
  pub settle_no_left : ((1 ≤ x → get_or ends (2 * x + 1) 0 < k) → ⊥) → Answers false (Settled ws B B i) (Barren ws i)
  settle_no_left h = say_no (record { none = no_tree (λ f. h (fits_keys f).after) })

  pub settle_no_right : ((1 ≤ y → k < get_or ends (2 * y) 0) → ⊥) → Answers false (Settled ws B B i) (Barren ws i)
  settle_no_right h = say_no (record { none = no_tree (λ f. h (fits_keys f).before) })

  module _ (t : Bool) (d : Decides t (ShapesFit c l r)) (e : t ≡ true) where
    S : ShapesFit c l r
    S = d.yes e

    pub settle_word : Wordable c l r
    unfolding briefs
    settle_word =
        let L = left_known in
        let R = right_known in
        let f = few_blacks ws x L.tree a q.within L.holds L.tells in
        let g = few_blacks ws y R.tree b q.within R.holds R.tells in
        let n = q.within.n_high in
        record { known = S.known; blacks_low = omega (arith, el, f.0); size_low = omega (arith, el, er, f.1, g.1) }

    module _ (w : ℕ) (ew : w ≡ word_above c l r) (least : ℕ) (m : Least ends x k least) (greatest : ℕ) (g : Greatest ends y k greatest) where
      fitting : Fits c k a b
      fitting = fit S (record { after = m.after; before = g.before })

      abbrev s : Brief
      s = record { blacks = l / shape + c; size = l % dark + r % dark + 1; least = least; greatest = greatest; color = c }

      joined : Joined c k a b s
      unfolding briefs
      joined =
          let sx = some_size ws B x left_known in
          let sy = some_size ws B y right_known in
          record {
            blacks_is = omega (arith, el);
            size_is = omega (arith, el, er);
            least = record { none = λ z. m.end.none (none x a.size sx z); some = λ p. m.end.some (some_link ws B x left_known p) };
            greatest = record { none = λ z. g.end.none (none y b.size sy z); some = λ p. g.end.some (some_link ws B y right_known p) };
            color_is = refl;
          }
        where
          none : (j m : ℕ) → (1 ≤ j → 1 ≤ m) → m ≡ 0 → j ≡ 0
          none zero m f z = refl
          none (suc j) m f z = absurd (omega (arith, f (omega arith)))

      whole : (t : Tree) × Reads (nodes ws) ws i t × Tells s t
      whole =
          let d = color_of c S.known in
          let L = left_known in
          let R = right_known in
          let f' : Fits (code d.0) (entry ws i).key a b = rw (d.1, ← kis) fitting in
          let j' : Joined (code d.0) (entry ws i).key a b s = rw (d.1, ← kis) joined in (
            node (kept i) d.0 L.tree (entry ws i) R.tree,
            (refl, record { low = q.low; high = q.high; color_is = sym cis ∙ sym d.1; entry_is = refl }, rw (← xis) L.holds, rw (← yis) R.holds),
            joined_tells d.0 (entry ws i) a b L.tree R.tree L.tells R.tells (kept i) s f' j',
          )

      packable : Packable s
      packable =
          let K = whole in
          let f = few_blacks ws i K.0 s q.within K.1 K.2 in
          let n = q.within.n_high in
          record { blacks_low = omega (arith, f.0); size_low = omega (arith, f.1); color_low = S.known }

      pub settle_both : Places memo ends i → (memo' ends' : List ℕ) → Put memo ends i w least greatest memo' ends' →
          Answers true (Settled ws B (briefs memo' ends') i) (Barren ws i)
      unfolding packed
      settle_both p memo' ends' u =
          let K = whole in
          let n = put_noted memo ends i s p packable w ew memo' ends' u in
          say_yes (record { known = record { tree = K.0; holds = K.1; tells = rw n.here K.2 }; other = n.other })
