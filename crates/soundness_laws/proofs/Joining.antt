-- Two trees under a node: the whole is good exactly when the summaries fit, and its summary is the
-- joined one.
use mathlib.Core.Path.{◌≡◌, refl, ap, sym, ◌∙◌}
use mathlib.Core.Bool.{Bool, true, false}
use Prim.Native.Nat.{ℕ, suc, ◌+◌, ◌≤◌}
use native.Mathlib.Omega.{arith}
use native.Mathlib.Decide.{dec_le}
use Rattle.trees.specs.Tree.{Entry, Color, red, black, Place, Tree, node, listing, is_red}
use Rattle.trees.specs.Shape.{Rb, rb_leaf, rb_red, rb_black}
use Rattle.trees.proofs.Listings.{Split, split}
use Rattle.trees.proofs.Lookups.{size-listing}
use Rattle.words.specs.Layout.{code}
use Rattle.soundness_laws.specs.Summary.{Brief, first_key, last_key, shade_of, shade, Good, Tells, Fits, Outermost, Joined}
use Rattle.soundness_laws.proofs.Keys.{first_append, last_append, first_some, last_some, first_none, last_none, above_first, first_above, below_last, last_below, joined_ascending}

-- A colour's word that is not red's is black's.
pub shade_black : (b : Bool) → (shade_of b ≡ code red → ⊥) → b ≡ false
unfolding shade_of
shade_black true h = absurd (h refl)
shade_black false h = refl

pub black_shade : (b : Bool) → b ≡ false → shade_of b ≡ code black
unfolding shade_of
black_shade b e = rw e

code_le : (c : Color) → code c ≤ code black
code_le red = omega arith
code_le black = omega arith

shade_node : (c : Color) (p : Place) (l : Tree) (e : Entry) (r : Tree) → shade (node p c l e r) ≡ code c
unfolding shade_of
shade_node red p l e r = refl
shade_node black p l e r = refl

-- Every tree has one black height at most.
rb_same : {a b : ℕ} {t : Tree} → Rb a t → Rb b t → a ≡ b
rb_same rb_leaf rb_leaf = refl
rb_same (rb_red h i p q) (rb_red h' i' p' q') = rb_same p p'
rb_same (rb_black p q) (rb_black p' q') = ap suc (rb_same p p')

-- What the shape of a node says of its children.
record Parts (c : Color) (l r : Tree) : Type 0 where
  blacks : ℕ
  left_shape : Rb blacks l
  right_shape : Rb blacks r
  left_color : code c ≡ code red → is_red l ≡ false
  right_color : code c ≡ code red → is_red r ≡ false

parts : {b : ℕ} (p : Place) (c : Color) (l : Tree) (e : Entry) (r : Tree) → Rb b (node p c l e r) → Parts c l r
parts p red l e r (rb_red {n = n} h i a b) =
    record { blacks = n; left_shape = a; right_shape = b; left_color = λ _. h; right_color = λ _. i }
parts p black l e r (rb_black {n = n} a b) =
    record { blacks = n; left_shape = a; right_shape = b; left_color = λ z. absurd (omega arith); right_color = λ z. absurd (omega arith) }

-- A good tree's children are good.
pub good_left : (p : Place) (c : Color) (l : Tree) (e : Entry) (r : Tree) → Good (node p c l e r) → Good l
good_left p c l e r g =
    let P = parts p c l e r g.shape in
    record { ordered = (split (listing l) e (listing r) g.ordered).before; blacks = P.blacks; shape = P.left_shape }

pub good_right : (p : Place) (c : Color) (l : Tree) (e : Entry) (r : Tree) → Good (node p c l e r) → Good r
good_right p c l e r g =
    let P = parts p c l e r g.shape in
    record { ordered = (split (listing l) e (listing r) g.ordered).after; blacks = P.blacks; shape = P.right_shape }

whole-shape : (p : Place) (c : Color) (l : Tree) (e : Entry) (r : Tree) (P : Parts c l r) → Rb (P.blacks + code c) (node p c l e r)
whole-shape p red l e r P =
    let z : P.blacks + 0 ≡ P.blacks = omega arith in
    rw z (rb_red (P.left_color refl) (P.right_color refl) P.left_shape P.right_shape)
whole-shape p black l e r P =
    let z : P.blacks + 1 ≡ suc P.blacks = omega arith in
    rw z (rb_black P.left_shape P.right_shape)

module _ (c : Color) (e : Entry) (a b : Brief) (l r : Tree) (x : Tells a l) (y : Tells b r) where
  fits_parts : Fits (code c) e.key a b → Parts c l r
  fits_parts f =
      record {
        blacks = x.good.blacks;
        left_shape = x.good.shape;
        right_shape = (let z : x.good.blacks ≡ y.good.blacks = omega (arith, x.blacks_is, y.blacks_is, f.even) in rw z y.good.shape);
        left_color = λ z. shade_black (is_red l) (λ w. f.colors.left z (x.color_is ∙ w));
        right_color = λ z. shade_black (is_red r) (λ w. f.colors.right z (y.color_is ∙ w));
      }

  fits_split : Fits (code c) e.key a b → Split (listing l) e (listing r)
  fits_split f =
      let p = size-listing l in
      let q = size-listing r in
      record {
        below = below_last e.key 0 (listing l) x.good.ordered (λ h. omega (arith, x.greatest_is, f.keys.after (omega (arith, x.size_is))));
        before = x.good.ordered;
        above = above_first e.key (listing r) y.good.ordered (λ h. omega (arith, y.least_is, f.keys.before (omega (arith, y.size_is))));
        after = y.good.ordered;
      }

  -- A good tree's two sides fit.
  pub good_fits : (p : Place) → Good (node p c l e r) → Fits (code c) e.key a b
  good_fits p g =
      let P = parts p c l e r g.shape in
      let s = split (listing l) e (listing r) g.ordered in
      let i = size-listing l in
      let j = size-listing r in
      record {
        colors = record {
          known = code_le c;
          left = λ z w. omega (arith, x.color_is, black_shade (is_red l) (P.left_color z));
          right = λ z w. omega (arith, y.color_is, black_shade (is_red r) (P.right_color z));
        };
        even =
            omega (arith, x.blacks_is, y.blacks_is, rb_same x.good.shape P.left_shape, rb_same y.good.shape P.right_shape);
        keys = record {
          after = λ h. omega (arith, x.greatest_is, last_below e.key 0 (listing l) s.below (omega (arith, x.size_is)));
          before = λ h. omega (arith, y.least_is, first_above e.key (listing r) s.above (omega (arith, y.size_is)));
        };
      }

  least_key : (m : ℕ) → Outermost a.size a.least e.key m → m ≡ first_key e.key (listing l)
  least_key m o = go (dec_le 1 a.size)
    where
      go : Dec (1 ≤ a.size) → m ≡ first_key e.key (listing l)
      go (yes h) = o.some h ∙ x.least_is ∙ first_some 0 e.key (listing l) (omega (arith, x.size_is, size-listing l))
      go (no h) = o.none (omega arith) ∙ sym (first_none e.key (listing l) (omega (arith, x.size_is, size-listing l)))

  greatest_key : (m : ℕ) → Outermost b.size b.greatest e.key m → m ≡ last_key e.key (listing r)
  greatest_key m o = go (dec_le 1 b.size)
    where
      go : Dec (1 ≤ b.size) → m ≡ last_key e.key (listing r)
      go (yes h) = o.some h ∙ y.greatest_is ∙ last_some 0 e.key (listing r) (omega (arith, y.size_is, size-listing r))
      go (no h) = o.none (omega arith) ∙ sym (last_none e.key (listing r) (omega (arith, y.size_is, size-listing r)))

  -- Two sides that fit make a good tree, with the joined summary.
  pub joined_tells : (p : Place) (s : Brief) → Fits (code c) e.key a b → Joined (code c) e.key a b s → Tells s (node p c l e r)
  unfolding fits_parts
  joined_tells p s f j =
      let P = fits_parts f in
      record {
        good = record {
          ordered = joined_ascending (listing l) e (listing r) (fits_split f);
          blacks = P.blacks + code c;
          shape = whole-shape p c l e r P;
        };
        blacks_is = omega (arith, j.blacks_is, x.blacks_is);
        size_is = omega (arith, j.size_is, x.size_is, y.size_is);
        least_is = least_key s.least j.least ∙ sym (first_append 0 (listing l) e (listing r));
        greatest_is = greatest_key s.greatest j.greatest ∙ sym (last_append 0 (listing l) e (listing r));
        color_is = j.color_is ∙ sym (shade_node c p l e r);
      }
