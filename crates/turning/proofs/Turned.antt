-- The cases of `remove_balance` on links, and the two turns.
use mathlib.Core.Path.{◌≡◌, refl}
use mathlib.Core.Bool.{Bool, true, false, ◌&&◌}
use mathlib.Core.List.{List}
use Prim.Native.Nat.{ℕ}
use native.Mathlib.Omega.{arith}
use Rattle.std.specs.Prelude.{Option, Some, None, unwrap_or}
use Rattle.trees.specs.Tree.{red, black, Tree, leaf, lf, rt, en, is_red, paint}
use Rattle.trees.specs.Insert.{balance}
use Rattle.trees.specs.Remove.{remove_balance}
use Rattle.arena.specs.Nodes.{entry_of}
use Rattle.plan.specs.declared.Color.TheVariants.{Red, Black}
use Rattle.plan.specs.declared.Node.{Node}
use Rattle.plan.specs.Held.{Holds, none, Some as SomeTree}
use Rattle.plan.specs.Steps.{Looks, Finds, FindsColored, Steps, itself, Turns}
use Rattle.plan.proofs.Holdings.{is_leaf}
use Rattle.plan.proofs.Growing.{onward}
use Rattle.plan.proofs.Looking.{is_it}
use Rattle.balancing.specs.Promises.{balance_room}
use Rattle.turning.specs.Promises.{side_room, turned_left, turned_right}

false_after : (b : Bool) → b && false ≡ false
false_after true = refl
false_after false = refl

-- `remove_balance`.
module _ {ws p : List ℕ} {x : Node} {o u : Option Node} (L : FindsColored ws p x.left Red o) (R : FindsColored ws p x.right Red u) where
  pub both_reds : {q s v : List ℕ} {l r : Node} {m n res : ℕ} → o ≡ Some l → u ≡ Some r →
      Turns ws p q 1 x.left m (paint black) → Turns ws q s 1 x.right n (paint black) →
      Steps ws s v 1 (record { entry = x.entry; left = m; right = n; color = Red }) res itself → Steps ws p v balance_room x res remove_balance
  unfolding remove_balance
  both_reds {l = l} {r = r} e f M N S =
      let A : FindsColored ws p x.left Red (Some l) = rw e at L in
      let B : FindsColored ws p x.right Red (Some r) = rw f at R in
      record {
        grown = onward M.grown (onward {k = 2} N.grown S.grown (omega arith)) (omega arith);
        holds = λ ha hb. rw (is_it A.found ha, is_it B.found hb) (S.holds (N.grown.keeps (M.holds ha)) (N.holds (M.grown.keeps hb)));
      }

  module _ {q : List ℕ} {res : ℕ} (S : Steps ws p q balance_room x res balance) where
    pub not_left : o ≡ None → Steps ws p q balance_room x res remove_balance
    unfolding remove_balance
    not_left e =
        let A : FindsColored ws p x.left Red None = rw e at L in
        record { grown = S.grown; holds = λ ha hb. rw (A.found.lacks ha) (S.holds ha hb) }

    pub not_right : u ≡ None → Steps ws p q balance_room x res remove_balance
    unfolding remove_balance
    not_right e =
        let B : FindsColored ws p x.right Red None = rw e at R in
        record { grown = S.grown; holds = λ {a} ha hb. rw (B.found.lacks hb, false_after (is_red a)) (S.holds ha hb) }

-- What stands at the link has the entry and the sides of m, those of no node (RULES 6.33) where none
-- stands there.
pub record Shows (ws plan : List ℕ) (link : ℕ) (m : Node) : Type 0 where
  pub entry_is : {t : Tree} → Holds ws plan link t → en t ≡ entry_of m.entry
  pub left_is : {t : Tree} → Holds ws plan link t → Holds ws plan m.left (lf t)
  pub right_is : {t : Tree} → Holds ws plan link t → Holds ws plan m.right (rt t)
  pub left : SomeTree ws plan m.left
  pub right : SomeTree ws plan m.right

abbrev missing : Node
missing = record { entry = record { key = 0; value = 0 }; left = 0; right = 0; color = Red }

pub shown : {ws plan : List ℕ} {link : ℕ} {m : Node} (o : Option Node) → Finds ws plan link o → m ≡ unwrap_or o missing → Shows ws plan link m
shown None F e =
    rw
    e
    (record {
      entry_is = λ h. rw (is_leaf F.found h) refl;
      left_is = λ h. rw (is_leaf F.found h) (none refl);
      right_is = λ h. rw (is_leaf F.found h) (none refl);
      left = record { tree = leaf; held = none refl };
      right = record { tree = leaf; held = none refl };
    })
shown (Some x) F e =
    rw
    e
    (record {
      entry_is = λ h. (F.found.sees h).entry_is;
      left_is = λ h. (F.found.sees h).left_is;
      right_is = λ h. (F.found.sees h).right_is;
      left = F.found.left;
      right = F.found.right;
    })

-- The third arm of `remove_balance_left`: the black left child of the right child rises.
pub left_turn : {ws p₀ p₁ p₂ p₃ p₄ : List ℕ} {x r m : Node} {n s a res : ℕ} → Looks ws p₀ x.right r → Shows ws p₀ r.left m →
    Turns ws p₀ p₁ 1 r.right n (paint red) →
    Steps ws p₁ p₂ balance_room (record { entry = r.entry; left = m.right; right = n; color = Black }) s remove_balance →
    Steps ws p₂ p₃ 1 (record { entry = x.entry; left = x.left; right = m.left; color = Black }) a itself →
    Steps ws p₃ p₄ 1 (record { entry = m.entry; left = a; right = s; color = Red }) res itself → Steps ws p₀ p₄ side_room x res turned_left
left_turn R M N S A T = record {
  grown = onward N.grown (onward {k = 5} S.grown (onward {k = 2} A.grown T.grown (omega arith)) (omega arith)) (omega arith);
  holds = λ ha hb.
      let r = R.sees hb in
      rw
      (M.entry_is r.left_is, r.entry_is)
      (T.holds
      (A.holds (S.grown.keeps (N.grown.keeps ha)) (S.grown.keeps (N.grown.keeps (M.left_is r.left_is))))
      (A.grown.keeps (S.holds (N.grown.keeps (M.right_is r.left_is)) (N.holds r.right_is))));
}

-- That of `remove_balance_right`, the other way round.
pub right_turn : {ws p₀ p₁ p₂ p₃ p₄ : List ℕ} {x l m : Node} {n s a res : ℕ} → Looks ws p₀ x.left l → Shows ws p₀ l.right m →
    Turns ws p₀ p₁ 1 l.left n (paint red) →
    Steps ws p₁ p₂ balance_room (record { entry = l.entry; left = n; right = m.left; color = Black }) s remove_balance →
    Steps ws p₂ p₃ 1 (record { entry = x.entry; left = m.right; right = x.right; color = Black }) a itself →
    Steps ws p₃ p₄ 1 (record { entry = m.entry; left = s; right = a; color = Red }) res itself → Steps ws p₀ p₄ side_room x res turned_right
right_turn L M N S A T = record {
  grown = onward N.grown (onward {k = 5} S.grown (onward {k = 2} A.grown T.grown (omega arith)) (omega arith)) (omega arith);
  holds = λ ha hb.
      let l = L.sees ha in
      rw
      (M.entry_is l.right_is, l.entry_is)
      (T.holds
      (A.grown.keeps (S.holds (N.holds l.left_is) (N.grown.keeps (M.left_is l.right_is))))
      (A.holds (S.grown.keeps (N.grown.keeps (M.right_is l.right_is))) (S.grown.keeps (N.grown.keeps hb))));
}
