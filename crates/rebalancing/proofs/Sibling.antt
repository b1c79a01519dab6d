-- The cases of `remove_balance_left` and `remove_balance_right` on links.
use mathlib.Core.Path.{◌≡◌, refl, sym, ap, ◌∙◌}
use mathlib.Core.Bool.{Bool, true, false, true≢false, ◌&&◌}
use mathlib.Core.List.{List}
use Prim.Native.Nat.{ℕ}
use native.Mathlib.Omega.{arith}
use Rattle.std.specs.Prelude.{Option, Some, None}
use Rattle.std.specs.Option.{is_some}
use Rattle.trees.specs.Tree.{red, black, Tree, leaf, node, lf, rt, is_red, is_black, paint}
use Rattle.trees.specs.Remove.{remove_balance, remove_balance_left, remove_balance_right}
use Rattle.plan.specs.declared.Color.TheVariants.{Red, Black}
use Rattle.plan.specs.declared.Node.{Node}
use Rattle.plan.specs.Held.{Holds}
use Rattle.plan.specs.Steps.{FindsColored, Steps, itself, Turns}
use Rattle.plan.proofs.Holdings.{unique}
use Rattle.plan.proofs.Growing.{onward}
use Rattle.plan.proofs.Looking.{is_it, there}
use Rattle.balancing.specs.Promises.{balance_room}
use Rattle.turning.specs.Promises.{side_room, turned_left, turned_right}
use Rattle.rebalancing.specs.Promises.{balance_left, balance_right, Leans}

-- What leans is black, or red with a black child on its side.
red_node : (t : Tree) → is_red t ≡ true → is_black t ≡ false
red_node leaf e = refl
red_node (node p red l x r) e = refl
red_node (node p black l x r) e = sym e

module _ {ws p : List ℕ} {link : ℕ} {side : Tree → Tree} (W : Leans ws p link side) where
  leaning : {t : Tree} → Holds ws p link t → is_black t ≡ false → is_red t && is_black (side t) ≡ true
  leaning h e = let u = unique W.some.held h in (rw u at W.leans) e

  black_side : {t : Tree} → Holds ws p link t → is_red t ≡ false → is_black t ≡ true
  black_side {t} h e = go (is_black t) refl
    where
      go : (b : Bool) → is_black t ≡ b → is_black t ≡ true
      go true f = f
      go false f = absurd (true≢false (sym (leaning h f) ∙ ap (λ z. z && is_black (side t)) e))

  red_side : {t : Tree} → Holds ws p link t → is_red t ≡ true → is_black (side t) ≡ true
  red_side {t} h e = sym (ap (λ z. z && is_black (side t)) e) ∙ leaning h (red_node t e)

module _ {ws p : List ℕ} {x : Node} {o : Option Node} where
  module _ (L : FindsColored ws p x.left Red o) where
    -- `remove_balance_left`: a red left child is painted black.
    pub red_left : {q s : List ℕ} {m res : ℕ} → true ≡ is_some o → Turns ws p q 1 x.left m (paint black) →
        Steps ws q s 1 (record { entry = x.entry; left = m; right = x.right; color = Red }) res itself → Steps ws p s side_room x res balance_left
    unfolding remove_balance_left
    red_left e M S = record {
      grown = onward M.grown S.grown (omega arith);
      holds = λ ha hb. rw (there o L ha, ← e) (S.holds (M.holds ha) (M.grown.keeps hb));
    }

    module _ (e : false ≡ is_some o) (W : Leans ws p x.right lf) where
      -- A black right child is painted red, and the whole is balanced.
      pub black_right : {q s : List ℕ} {n res : ℕ} → FindsColored ws p x.right Red None → Turns ws p q 1 x.right n (paint red) →
          Steps ws q s balance_room (record { entry = x.entry; left = x.left; right = n; color = Black }) res remove_balance →
          Steps ws p s side_room x res balance_left
      unfolding remove_balance_left
      black_right R N S = record {
        grown = onward N.grown S.grown (omega arith);
        holds = λ ha hb. rw (there o L ha, ← e, black_side W hb (R.found.lacks hb)) (S.holds (N.grown.keeps ha) (N.holds hb));
      }

      -- Else it is red with a black left child.
      pub turns_left : {q : List ℕ} {r : Node} {res : ℕ} → FindsColored ws p x.right Red (Some r) → Steps ws p q side_room x res turned_left →
          Steps ws p q side_room x res balance_left
      unfolding remove_balance_left
      turns_left R S = record {
        grown = S.grown;
        holds = λ {b = b} ha hb.
            let z = is_it R.found hb in
            rw (there o L ha, ← e, red_node b z, z, red_side W hb z) (S.holds ha hb);
      }

  -- `remove_balance_right`, the other way round.
  module _ (R : FindsColored ws p x.right Red o) where
    pub red_right : {q s : List ℕ} {n res : ℕ} → true ≡ is_some o → Turns ws p q 1 x.right n (paint black) →
        Steps ws q s 1 (record { entry = x.entry; left = x.left; right = n; color = Red }) res itself → Steps ws p s side_room x res balance_right
    unfolding remove_balance_right
    red_right e N S = record {
      grown = onward N.grown S.grown (omega arith);
      holds = λ ha hb. rw (there o R hb, ← e) (S.holds (N.grown.keeps ha) (N.holds hb));
    }

    module _ (e : false ≡ is_some o) (W : Leans ws p x.left rt) where
      pub black_left : {q s : List ℕ} {m res : ℕ} → FindsColored ws p x.left Red None → Turns ws p q 1 x.left m (paint red) →
          Steps ws q s balance_room (record { entry = x.entry; left = m; right = x.right; color = Black }) res remove_balance →
          Steps ws p s side_room x res balance_right
      unfolding remove_balance_right
      black_left L M S = record {
        grown = onward M.grown S.grown (omega arith);
        holds = λ ha hb. rw (there o R hb, ← e, black_side W ha (L.found.lacks ha)) (S.holds (M.holds ha) (M.grown.keeps hb));
      }

      pub turns_right : {q : List ℕ} {l : Node} {res : ℕ} → FindsColored ws p x.left Red (Some l) → Steps ws p q side_room x res turned_right →
          Steps ws p q side_room x res balance_right
      unfolding remove_balance_right
      turns_right L S = record {
        grown = S.grown;
        holds = λ {a = a} ha hb.
            let z = is_it L.found ha in
            rw (there o R hb, ← e, red_node a z, z, red_side W ha z) (S.holds ha hb);
      }
