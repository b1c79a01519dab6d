-- Laws of `Reads`: the frame, the links, and that a link holds one tree at most.
use mathlib.Core.Path.{◌≡◌, refl, ap, sym, ◌∙◌}
use mathlib.Core.Logic.{◌⊎◌, inl, inr}
use mathlib.Core.List.{List}
use Prim.Native.Nat.{ℕ, zero, suc, ◌≤◌}
use native.Mathlib.Omega.{arith}
use lib.Dec.{lit<, lit≤}
use Rattle.trees.specs.Tree.{Color, red, black, Tree, leaf, node, height}
use Rattle.words.specs.Layout.{entry, left, right, color, code, key_word, value_word, left_word, right_word, color_word}
use Rattle.words.specs.Reads.{Reads}
use Rattle.words.specs.Owned.{Agree}

-- Agreement, reader by reader.
module _ (ws ws' : List ℕ) (j : ℕ) (a : Agree ws ws' j) where
  pub agree_entry : entry ws' j ≡ entry ws j
  unfolding entry
  agree_entry = rw (a key_word (lit≤ tt) (lit< tt), a value_word (lit≤ tt) (lit< tt))

  pub agree_left : left ws' j ≡ left ws j
  unfolding left
  agree_left = a left_word (lit≤ tt) (lit< tt)

  pub agree_right : right ws' j ≡ right ws j
  unfolding right
  agree_right = a right_word (lit≤ tt) (lit< tt)

  pub agree_color : color ws' j ≡ color ws j
  unfolding color
  agree_color = a color_word (lit≤ tt) (lit< tt)

-- The frame: a set S of nodes whose words agree, and whose links lead to S or to none, holds the same trees in both.
module _ (n : ℕ) (ws ws' : List ℕ) (S : ℕ → Type 0) (agree : (j : ℕ) → S j → Agree ws ws' j)
    (lefts : (j : ℕ) → S j → (left ws j ≡ 0) ⊎ S (left ws j)) (rights : (j : ℕ) → S j → (right ws j ≡ 0) ⊎ S (right ws j)) where
  pub frame : (i : ℕ) (t : Tree) → (i ≡ 0) ⊎ S i → Reads n ws i t → Reads n ws' i t
  frame i leaf s r = r
  frame i (node p c l e r) (inl z) h = absurd (let b = h.1.low in omega arith)
  frame i (node p c l e r) (inr s) h =
      let a = agree i s in (
        h.0,
        record {
          low = h.1.low;
          high = h.1.high;
          color_is = agree_color ws ws' i a ∙ h.1.color_is;
          entry_is = agree_entry ws ws' i a ∙ h.1.entry_is;
        },
        rw (agree_left ws ws' i a) (frame (left ws i) l (lefts i s) h.2),
        rw (agree_right ws ws' i a) (frame (right ws i) r (rights i s) h.3),
      )

pub some_link : (i : ℕ) → (i ≡ 0) ⊎ (1 ≤ i)
some_link zero = inl refl
some_link (suc i) = inr (omega arith)

-- Where the words of all nodes agree, every link holds the same tree.
pub frame_all : (n : ℕ) (ws ws' : List ℕ) → ((j : ℕ) → 1 ≤ j → j ≤ n → Agree ws ws' j) → (i : ℕ) (t : Tree) → Reads n ws i t → Reads n ws' i t
frame_all n ws ws' a i leaf r = r
frame_all n ws ws' a i (node p c l e r) h =
    let b = a i h.1.low h.1.high in (
      h.0,
      record {
        low = h.1.low;
        high = h.1.high;
        color_is = agree_color ws ws' i b ∙ h.1.color_is;
        entry_is = agree_entry ws ws' i b ∙ h.1.entry_is;
      },
      rw (agree_left ws ws' i b) (frame_all n ws ws' a (left ws i) l h.2),
      rw (agree_right ws ws' i b) (frame_all n ws ws' a (right ws i) r h.3),
    )

-- A link that is read is none or one of the nodes, and so are the links of a node that is read.
module _ (n : ℕ) (ws : List ℕ) where
  pub reads_link : (i : ℕ) (t : Tree) → Reads n ws i t → (i ≡ 0) ⊎ ((1 ≤ i) × (i ≤ n))
  reads_link i leaf h = inl h
  reads_link i (node p c l e r) h = inr (h.1.low, h.1.high)

  pub reads_left : (i : ℕ) (t : Tree) → 1 ≤ i → Reads n ws i t → (left ws i ≡ 0) ⊎ ((1 ≤ left ws i) × (left ws i ≤ n))
  reads_left i leaf p h = absurd (omega arith)
  reads_left i (node q c l e r) p h = reads_link (left ws i) l h.2

  pub reads_right : (i : ℕ) (t : Tree) → 1 ≤ i → Reads n ws i t → (right ws i ≡ 0) ⊎ ((1 ≤ right ws i) × (right ws i ≤ n))
  reads_right i leaf p h = absurd (omega arith)
  reads_right i (node q c l e r) p h = reads_link (right ws i) r h.3

code_same : (c d : Color) → code c ≡ code d → c ≡ d
code_same red red e = refl
code_same red black e = absurd (omega arith)
code_same black red e = absurd (omega arith)
code_same black black e = refl

-- The words hold one tree at most at a link, however many nodes they are read for.
pub reads_one : (n m : ℕ) (ws : List ℕ) (i : ℕ) (t u : Tree) → Reads n ws i t → Reads m ws i u → t ≡ u
reads_one n m ws i leaf leaf p q = refl
reads_one n m ws i leaf (node q c l e r) a b = absurd (let z = b.1.low in omega arith)
reads_one n m ws i (node q c l e r) leaf a b = absurd (let z = a.1.low in omega arith)
reads_one n m ws i (node p c l e r) (node p' c' l' e' r') a b =
    let ep : p ≡ p' = a.0 ∙ sym b.0 in
    let ec : c ≡ c' = code_same c c' (sym a.1.color_is ∙ b.1.color_is) in
    let ee : e ≡ e' = sym a.1.entry_is ∙ b.1.entry_is in
    let el = reads_one n m ws (left ws i) l l' a.2 b.2 in
    let er = reads_one n m ws (right ws i) r r' a.3 b.3 in
    cc

pub reads_same : (n : ℕ) (ws : List ℕ) (i : ℕ) (t u : Tree) → Reads n ws i t → Reads n ws i u → t ≡ u
reads_same n = reads_one n n

-- A child's tree is lower than its parent's.
module _ (n : ℕ) (ws : List ℕ) (j : ℕ) where
  pub low_left : (u t : Tree) → 1 ≤ j → Reads n ws j u → Reads n ws (left ws j) t → suc (height t) ≤ height u
  low_left leaf t p q r = absurd (omega arith)
  low_left (node p c l e r') t o q r = omega (arith, ap height (reads_same n ws (left ws j) t l r q.2))

  pub low_right : (u t : Tree) → 1 ≤ j → Reads n ws j u → Reads n ws (right ws j) t → suc (height t) ≤ height u
  low_right leaf t p q r = absurd (omega arith)
  low_right (node p c l e r') t o q r = omega (arith, ap height (reads_same n ws (right ws j) t r' r q.3))
