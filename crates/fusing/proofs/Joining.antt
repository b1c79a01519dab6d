-- The cases of `remove_fuse` on links.
use mathlib.Core.Path.{◌≡◌, sym, ap, ap₂, ◌∙◌}
use mathlib.Core.Bool.{true≢false}
use mathlib.Core.List.{List}
use Prim.Native.Nat.{ℕ, ◌-◌, ◌≤◌, ◌<◌}
use native.Mathlib.Omega.{arith}
use Rattle.std.specs.Prelude.{Some, None}
use Rattle.trees.specs.Tree as trees
use Rattle.trees.specs.Tree.{Entry, red, black, Place, fresh, Tree, node, lf, rt, copy, height}
use Rattle.trees.specs.Remove.{join, fuse}
use Rattle.trees.proofs.Fusing as fusing
use Rattle.arena.specs.Nodes.{entry_of}
use Rattle.plan.specs.declared.Color.TheVariants.{Red, Black}
use Rattle.plan.specs.declared.Node.{Node}
use Rattle.plan.specs.Colors.{color_of}
use Rattle.plan.specs.Held.{Some as SomeTree, Room}
use Rattle.plan.specs.Steps.{Finds, FindsColored, Steps, itself, Turns}
use Rattle.plan.proofs.Holdings.{is_leaf}
use Rattle.plan.proofs.Growing.{room_less, onward, grow_to, some_kept}
use Rattle.plan.proofs.Looking.{is_it, Topped, topped}
use Rattle.turning.specs.Promises.{side_room}
use Rattle.rebalancing.specs.Promises.{balance_left, Leans}
use Rattle.fusing.specs.Promises.{fuse_room, Twin, Joins, Ends, Fuses}

-- `join`: a red middle comes between the two nodes.
module _ {ws p : List ℕ} {x y : Node} {m : ℕ} (E : Ends ws p x m y) where
  pub join_between : {q r s : List ℕ} {f : Node} {i j res : ℕ} → FindsColored ws p m Red (Some f) →
      Steps ws p q 1 (record { entry = x.entry; left = x.left; right = f.left; color = x.color }) i itself →
      Steps ws q r 1 (record { entry = y.entry; left = f.right; right = y.right; color = y.color }) j itself →
      Steps ws r s 1 (record { entry = f.entry; left = i; right = j; color = f.color }) res itself → Fuses ws p s x m y res
  unfolding join
  join_between F S T U = record {
    grown = onward S.grown (onward {k = 2} T.grown U.grown (omega arith)) (omega arith);
    holds = λ ha hm hb.
        let g = F.found.looks.sees hm in
        rw
        (is_it F.found hm, g.entry_is)
        (rw
        (ap color_of F.found.color_is)
        at
        (U.holds
        (T.grown.keeps (S.holds ha g.left_is))
        (rw (ap color_of (sym E.color_is)) at (T.holds (S.grown.keeps g.right_is) (S.grown.keeps hb)))));
  }

  abbrev below : Node
  below = record { entry = y.entry; left = m; right = y.right; color = y.color }

  module _ {q : List ℕ} {n : ℕ} (F : FindsColored ws p m Red None) (S : Steps ws p q 1 below n itself) where
    -- Of two red nodes the left one ends on top.
    pub join_red : {s : List ℕ} {res : ℕ} → x.color ≡ Red →
        Steps ws q s 1 (record { entry = x.entry; left = x.left; right = n; color = Red }) res itself → Fuses ws p s x m y res
    unfolding join
    join_red e T = record {
      grown = onward S.grown T.grown (omega arith);
      holds = λ ha hm hb.
          rw
          (ap color_of e, F.found.lacks hm)
          (T.holds (S.grown.keeps ha) (rw (ap color_of (sym E.color_is ∙ e)) at (S.holds hm hb)));
    }

    -- Of two black nodes the left one is balanced: the right one below it is black, as `remove_balance_left` asks.
    module _ (e : x.color ≡ Black) where
      pub join_leans : Leans ws q n lf
      join_leans = record {
        some = record {
          tree = node fresh black E.middle.tree (entry_of y.entry) E.right.tree;
          held = rw (ap color_of (sym E.color_is ∙ e)) at (S.holds E.middle.held E.right.held);
        };
        leans = λ z. absurd (true≢false z);
      }

      pub join_black : {s : List ℕ} {res : ℕ} →
          Steps ws q s side_room (record { entry = x.entry; left = x.left; right = n; color = Red }) res balance_left → Fuses ws p s x m y res
      unfolding join
      join_black T = record {
        grown = onward S.grown T.grown (omega arith);
        holds = λ ha hm hb.
            rw
            (ap color_of e, F.found.lacks hm)
            (T.holds (S.grown.keeps ha) (rw (ap color_of (sym E.color_is ∙ e)) at (S.holds hm hb)));
      }

-- `fuse`, by the colours of the two trees.
module _ {t u : Tree} {p q : Place} {x y : Entry} where
  plain_same : (c : trees.Color) → t ≡ node p c (lf t) x (rt t) → u ≡ node q c (lf u) y (rt u) → fuse t u ≡ join c (lf t) x (fuse (rt t) (lf u)) y (rt u)
  plain_same c e f = ap₂ fuse e f ∙ fusing.fuse_same p q (lf t) (rt t) (lf u) (rt u) x y c

  plain_black_red : t ≡ node p black (lf t) x (rt t) → u ≡ node q red (lf u) y (rt u) → fuse t u ≡ node fresh red (fuse t (lf u)) y (rt u)
  plain_black_red e f =
      ap₂ fuse e f ∙ fusing.fuse_black_red p q (lf t) (rt t) (lf u) (rt u) x y ∙
      ap (λ (s : Tree). node fresh red (fuse s (lf u)) y (rt u)) (sym e)

  plain_red_black : t ≡ node p red (lf t) x (rt t) → u ≡ node q black (lf u) y (rt u) → fuse t u ≡ node fresh red (lf t) x (fuse (rt t) u)
  plain_red_black e f =
      ap₂ fuse e f ∙ fusing.fuse_red_black p q (lf t) (rt t) (lf u) (rt u) x y ∙
      ap (λ (s : Tree). node fresh red (lf t) x (fuse (rt t) s)) (sym f)

-- One of the trees is empty.
pub fuse_left_none : {ws p q : List ℕ} {l r res : ℕ} (h : ℕ) → Finds ws p l None → Turns ws p q 1 r res copy → Joins ws p q (fuse_room h) l r res fuse
fuse_left_none h F T = record {
  grown = grow_to T.grown (omega arith);
  holds = λ {b = b} ha hb. rw (is_leaf F.found ha, fusing.fuse_left_none b) (T.holds hb);
}

pub fuse_right_none : {ws p q : List ℕ} {l r res : ℕ} (h : ℕ) → Finds ws p r None → Turns ws p q 1 l res copy → Joins ws p q (fuse_room h) l r res fuse
fuse_right_none h F T = record {
  grown = grow_to T.grown (omega arith);
  holds = λ {a = a} ha hb. rw (is_leaf F.found hb, fusing.fuse_right_none a) (T.holds ha);
}

tall : {x : Node} {t : Tree} → Topped x t → 1 ≤ height t
tall n = let e = ap height n.is in omega arith

-- Both are nodes, a and b.
module _ {ws p : List ℕ} {l r : ℕ} {a b : Node} (A : Finds ws p l (Some a)) (B : Finds ws p r (Some b)) where
  module _ {h : ℕ} (T : Twin ws p l r h) where
    abbrev t : Tree
    t = T.left.tree

    abbrev u : Tree
    u = T.right.tree

    abbrev top_a : Topped a t
    top_a = topped A.found T.left.held

    abbrev top_b : Topped b u
    top_b = topped B.found T.right.held

    abbrev in_a : SomeTree ws p a.right
    in_a = record { tree = rt t; held = (A.found.sees T.left.held).right_is }

    abbrev in_b : SomeTree ws p b.left
    in_b = record { tree = lf u; held = (B.found.sees T.right.held).left_is }

    pub two : 2 ≤ h
    two = let i = tall top_a in let j = tall top_b in omega (arith, T.fits)

    pub twin_inner : Twin ws p a.right b.left (h - 2)
    twin_inner =
        let e = ap height top_a.is in
        let f = ap height top_b.is in
        record { left = in_a; right = in_b; fits = omega (arith, T.fits) }

    pub twin_right : Twin ws p l b.left (h - 1)
    twin_right = let f = ap height top_b.is in record { left = T.left; right = in_b; fits = omega (arith, T.fits) }

    pub twin_left : Twin ws p a.right r (h - 1)
    twin_left = let e = ap height top_a.is in record { left = in_a; right = T.right; fits = omega (arith, T.fits) }

    -- What each call of `remove_fuse` asks beside them, and the room that is left after it.
    pub less_two : {s : ℕ} → h ≡ s → h - 2 < s
    less_two e = let z = two in omega arith

    pub less_one : {s : ℕ} → h ≡ s → h - 1 < s
    less_one e = let z = two in omega arith

    pub one : 1 ≤ h
    one = let z = two in omega arith

    module _ (R : Room ws p (fuse_room h)) where
      pub room_two : Room ws p (fuse_room (h - 2))
      room_two = room_less R (omega arith)

      pub room_one : Room ws p (fuse_room (h - 1))
      room_one = room_less R (omega arith)

    pub ends_fused : {q : List ℕ} {k m : ℕ} → a.color ≡ b.color → Joins ws p q k a.right b.left m fuse → Ends ws q a m b
    ends_fused e J = record {
      left = some_kept J.grown A.found.left;
      middle = record { tree = fuse (rt t) (lf u); held = J.holds in_a.held in_b.held };
      right = some_kept J.grown B.found.right;
      color_is = e;
    }

    -- The three ways to fuse them.
    pub fused_same : {q s : List ℕ} {m res : ℕ} → a.color ≡ b.color → Joins ws p q (fuse_room (h - 2)) a.right b.left m fuse →
        Fuses ws q s a m b res → Joins ws p s (fuse_room h) l r res fuse
    fused_same e J K =
        let z = two in
        record {
          grown = onward J.grown K.grown (omega arith);
          holds = λ hx hy.
              rw
              (plain_same (color_of a.color) (topped A.found hx).is (rw (ap color_of (sym e)) at (topped B.found hy).is))
              (K.holds
              (J.grown.keeps (A.found.sees hx).left_is)
              (J.holds (A.found.sees hx).right_is (B.found.sees hy).left_is)
              (J.grown.keeps (B.found.sees hy).right_is));
        }

    pub fused_right : {q s : List ℕ} {m res : ℕ} → a.color ≡ Black → b.color ≡ Red → Joins ws p q (fuse_room (h - 1)) l b.left m fuse →
        Steps ws q s 1 (record { entry = b.entry; left = m; right = b.right; color = b.color }) res itself → Joins ws p s (fuse_room h) l r res fuse
    fused_right e f J S =
        let z = two in
        record {
          grown = onward J.grown S.grown (omega arith);
          holds = λ hx hy.
              rw
              (plain_black_red (rw (ap color_of e) at (topped A.found hx).is) (rw (ap color_of f) at (topped B.found hy).is))
              (rw (ap color_of f) at (S.holds (J.holds hx (B.found.sees hy).left_is) (J.grown.keeps (B.found.sees hy).right_is)));
        }

    pub fused_left : {q s : List ℕ} {m res : ℕ} → a.color ≡ Red → b.color ≡ Black → Joins ws p q (fuse_room (h - 1)) a.right r m fuse →
        Steps ws q s 1 (record { entry = a.entry; left = a.left; right = m; color = a.color }) res itself → Joins ws p s (fuse_room h) l r res fuse
    fused_left e f J S =
        let z = two in
        record {
          grown = onward J.grown S.grown (omega arith);
          holds = λ hx hy.
              rw
              (plain_red_black (rw (ap color_of e) at (topped A.found hx).is) (rw (ap color_of f) at (topped B.found hy).is))
              (rw (ap color_of e) at (S.holds (J.grown.keeps (A.found.sees hx).left_is) (J.holds (A.found.sees hx).right_is hy)));
        }
