-- No step looks at places: forgetting the numbers of kept nodes before an edit or after it is the same.
use mathlib.Core.Path.{◌≡◌, refl, ap, sym, ◌∙◌}
use mathlib.Core.Bool.{Bool, true, false}
use mathlib.Core.List.{List}
use Prim.Native.Nat.{ℕ}
use Rattle.std.specs.Prelude.{if◌then◌else◌}
use Rattle.trees.specs.Tree.{Entry, Color, red, black, Place, kept, fresh, Tree, leaf, node, lf, rt, en, is_red, is_black, paint, copy, listing, size, made}
use Rattle.trees.specs.Lookup.{has}
use Rattle.trees.specs.Insert.{balance, ins, insert}
use Rattle.trees.specs.Remove.{remove_balance, remove_balance_left, remove_balance_right, join, fuse_node, fuse, del_left, del_right, del, remove}
use Rattle.trees.specs.Edit.{Edit, setting, cutting, edit}
use Rattle.words.specs.Layout.{nodes, left, right, slot_root}
use Rattle.words.specs.Reads.{Reads}
use Rattle.words.specs.Fresh.{relabel}
use Rattle.calls.specs.Version.{VersionIs}
use Rattle.figures.specs.Figures.{bare}

abbrev numberless : Place → Place
numberless (kept i) = kept 0
numberless fresh = fresh

-- A planned tree with the numbers of its kept nodes forgotten.
abbrev pub strip : Tree → Tree
strip leaf = leaf
strip (node p c l e r) = node (numberless p) c (strip l) e (strip r)

strip_if : (b : Bool) (x y : Tree) → strip (if b then x else y) ≡ (if b then strip x else strip y)
strip_if true x y = refl
strip_if false x y = refl

lf_strip : (t : Tree) → lf (strip t) ≡ strip (lf t)
lf_strip leaf = refl
lf_strip (node p c l e r) = refl

rt_strip : (t : Tree) → rt (strip t) ≡ strip (rt t)
rt_strip leaf = refl
rt_strip (node p c l e r) = refl

en_strip : (t : Tree) → en (strip t) ≡ en t
en_strip leaf = refl
en_strip (node p c l e r) = refl

is_red_strip : (t : Tree) → is_red (strip t) ≡ is_red t
is_red_strip leaf = refl
is_red_strip (node p red l e r) = refl
is_red_strip (node p black l e r) = refl

is_black_strip : (t : Tree) → is_black (strip t) ≡ is_black t
is_black_strip leaf = refl
is_black_strip (node p red l e r) = refl
is_black_strip (node p black l e r) = refl

strip_paint : (c : Color) (t : Tree) → strip (paint c t) ≡ paint c (strip t)
strip_paint c leaf = refl
strip_paint c (node p d l e r) = refl

strip_copy : (t : Tree) → strip (copy t) ≡ copy (strip t)
strip_copy leaf = refl
strip_copy (node p d l e r) = refl

strip_has : (k : ℕ) (t : Tree) → has k (strip t) ≡ has k t
unfolding has
strip_has k leaf = refl
strip_has k (node p c l e r) = simp (strip_has k l, strip_has k r)

strip_balance : (t : Tree) → strip (balance t) ≡ balance (strip t)
unfolding balance
strip_balance t = simp (strip_if, lf_strip, rt_strip, en_strip, is_red_strip, is_black_strip)

strip_ins : (x : Entry) (t : Tree) → strip (ins x t) ≡ ins x (strip t)
unfolding ins
strip_ins x leaf = refl
strip_ins x (node p c l e r) =
    simp (strip_if, strip_balance, strip_has x.key l, strip_has x.key r, strip_ins x l, strip_ins x r)

strip_insert : (x : Entry) (t : Tree) → strip (insert x t) ≡ insert x (strip t)
unfolding insert
strip_insert x t = strip_paint black (ins x t) ∙ ap (paint black) (strip_ins x t)

strip_remove_balance : (t : Tree) → strip (remove_balance t) ≡ remove_balance (strip t)
unfolding remove_balance
strip_remove_balance t = simp (strip_if, strip_balance, strip_paint, lf_strip, rt_strip, en_strip, is_red_strip)

strip_left : (l : Tree) (e : Entry) (r : Tree) → strip (remove_balance_left l e r) ≡ remove_balance_left (strip l) e (strip r)
unfolding remove_balance_left
strip_left l e r = simp (strip_if, strip_remove_balance, strip_paint, lf_strip, rt_strip, en_strip, is_red_strip, is_black_strip)

strip_right : (l : Tree) (e : Entry) (r : Tree) → strip (remove_balance_right l e r) ≡ remove_balance_right (strip l) e (strip r)
unfolding remove_balance_right
strip_right l e r = simp (strip_if, strip_remove_balance, strip_paint, lf_strip, rt_strip, en_strip, is_red_strip, is_black_strip)

strip_join : (c : Color) (ll : Tree) (le : Entry) (f : Tree) (re : Entry) (rr : Tree) →
    strip (join c ll le f re rr) ≡ join c (strip ll) le (strip f) re (strip rr)
unfolding join
strip_join red ll le f re rr = simp (strip_if, lf_strip, rt_strip, en_strip, is_red_strip)
strip_join black ll le f re rr = simp (strip_if, strip_left, lf_strip, rt_strip, en_strip, is_red_strip)

strip_fuse_node : (c : Color) (ll : Tree) (le : Entry) (lr : Tree) (g h : Tree → Tree) → ((t : Tree) → strip (g t) ≡ h (strip t)) → (r : Tree) →
    strip (fuse_node c ll le lr g r) ≡ fuse_node c (strip ll) le (strip lr) h (strip r)
unfolding fuse_node
strip_fuse_node red ll le lr g h e leaf = refl
strip_fuse_node black ll le lr g h e leaf = refl
strip_fuse_node black ll le lr g h e (node q red rl re rr) = rw (strip_fuse_node black ll le lr g h e rl)
strip_fuse_node red ll le lr g h e (node q black rl re rr) = ap (λ (t : Tree). node fresh red (strip ll) le t) (e (node q black rl re rr))
strip_fuse_node red ll le lr g h e (node q red rl re rr) =
    strip_join red ll le (g rl) re rr ∙ ap (λ (t : Tree). join red (strip ll) le t re (strip rr)) (e rl)
strip_fuse_node black ll le lr g h e (node q black rl re rr) =
    strip_join black ll le (g rl) re rr ∙ ap (λ (t : Tree). join black (strip ll) le t re (strip rr)) (e rl)

strip_fuse : (l r : Tree) → strip (fuse l r) ≡ fuse (strip l) (strip r)
unfolding fuse
strip_fuse leaf r = strip_copy r
strip_fuse (node p c ll le lr) r = strip_fuse_node c ll le lr (fuse lr) (fuse (strip lr)) (strip_fuse lr) r

strip_del_left : (l d : Tree) (e : Entry) (r : Tree) → strip (del_left l d e r) ≡ del_left (strip l) (strip d) e (strip r)
unfolding del_left
strip_del_left l d e r = simp (strip_if, strip_left, is_black_strip)

strip_del_right : (l : Tree) (e : Entry) (r d : Tree) → strip (del_right l e r d) ≡ del_right (strip l) e (strip r) (strip d)
unfolding del_right
strip_del_right l e r d = simp (strip_if, strip_right, is_black_strip)

strip_del : (k : ℕ) (t : Tree) → strip (del k t) ≡ del k (strip t)
unfolding del
strip_del k leaf = refl
strip_del k (node p c l e r) = simp (strip_if, strip_del_left, strip_del_right, strip_fuse, strip_del k l, strip_del k r)

strip_remove : (k : ℕ) (t : Tree) → strip (remove k t) ≡ remove k (strip t)
unfolding remove
strip_remove k t = strip_if (has k t) (paint black (del k t)) t ∙ rw (strip_has, strip_paint, strip_del)

strip_edit : (d : Edit) (t : Tree) → strip (edit d t) ≡ edit d (strip t)
strip_edit (setting x) t = strip_insert x t
strip_edit (cutting k) t = strip_remove k t

-- What a tree keeps without its numbers.
bare_strip : (t : Tree) → bare (strip t) ≡ bare t
bare_strip leaf = refl
bare_strip (node p c l e r) = rw (bare_strip l, bare_strip r)

made_strip : (t : Tree) → made (strip t) ≡ made t
made_strip leaf = refl
made_strip (node (kept i) c l e r) = rw (made_strip l, made_strip r)
made_strip (node fresh c l e r) = rw (made_strip l, made_strip r)

pub bare-relabel : (isNew : ℕ → Bool) (t : Tree) → bare (relabel isNew t) ≡ bare t
bare-relabel isNew leaf = refl
bare-relabel isNew (node p c l e r) = rw (bare-relabel isNew l, bare-relabel isNew r)

pub listing-bare : (t : Tree) → listing (bare t) ≡ listing t
listing-bare leaf = refl
listing-bare (node p c l e r) = rw (listing-bare l, listing-bare r)

pub size-bare : (t : Tree) → size (bare t) ≡ size t
size-bare leaf = refl
size-bare (node p c l e r) = rw (size-bare l, size-bare r)

-- A tree of the arena has kept nodes only.
strip_reads : (n : ℕ) (ws : List ℕ) (i : ℕ) (t : Tree) → Reads n ws i t → strip t ≡ bare t
strip_reads n ws i leaf h = refl
strip_reads n ws i (node p c l e r) h = rw (h.0, strip_reads n ws (left ws i) l h.2, strip_reads n ws (right ws i) r h.3)

-- So an edit of a version makes as many nodes, and comes to the same tree, as the edit of the version without numbers.
module _ (d : Edit) {ws : List ℕ} {s : ℕ} {t : Tree} (x : VersionIs ws s t) where
  edit_bare : strip (edit d t) ≡ edit d (bare t)
  edit_bare = strip_edit d t ∙ ap (edit d) (strip_reads (nodes ws) ws (slot_root (nodes ws) ws s) t x.reads)

  pub made_edit_bare : made (edit d t) ≡ made (edit d (bare t))
  made_edit_bare = sym (made_strip (edit d t)) ∙ ap made edit_bare

  pub bare_edit_bare : bare (edit d t) ≡ bare (edit d (bare t))
  bare_edit_bare = sym (bare_strip (edit d t)) ∙ ap bare edit_bare
