-- The cases of `balance` on links.
use mathlib.Core.Path.{◌≡◌, refl, ap, subst}
use mathlib.Core.Bool.{true, false, ◌&&◌}
use mathlib.Core.List.{List}
use Prim.Native.Nat.{ℕ}
use native.Mathlib.Omega.{arith}
use Rattle.std.specs.Prelude.{Option, Some, None}
use Rattle.trees.specs.Tree.{Entry, red, black, fresh, Tree, node, lf, rt, en, is_red}
use Rattle.trees.specs.Insert.{risen, balance}
use Rattle.arena.specs.Nodes.{entry_of}
use Rattle.plan.specs.declared.Color.{Color}
use Rattle.plan.specs.declared.Color.TheVariants.{Red, Black}
use Rattle.plan.specs.declared.Node.{Node}
use Rattle.plan.specs.Colors.{color_of}
use Rattle.plan.specs.Held.{Holds}
use Rattle.plan.specs.Steps.{FindsColored, Steps, itself}
use Rattle.plan.proofs.Growing.{onward, grow_to}
use Rattle.plan.proofs.Looking.{is_it}
use Rattle.balancing.specs.Promises.{balance_room, Rises, Calm}

-- The plain cases.
module _ (a : Tree) (e : Entry) (b : Tree) where
  case_red : balance (node fresh red a e b) ≡ node fresh red a e b
  unfolding balance
  case_red = refl

  case_ll : is_red a && is_red (lf a) ≡ true →
      balance (node fresh black a e b) ≡ risen (lf (lf a)) (en (lf a)) (rt (lf a)) (en a) (rt a) e b
  unfolding balance
  case_ll h = rw h

  module _ (h : is_red a && is_red (lf a) ≡ false) where
    case_lr : is_red a && is_red (rt a) ≡ true →
        balance (node fresh black a e b) ≡ risen (lf a) (en a) (lf (rt a)) (en (rt a)) (rt (rt a)) e b
    unfolding balance
    case_lr i = rw (h, i)

    module _ (i : is_red a && is_red (rt a) ≡ false) where
      case_rl : is_red b && is_red (lf b) ≡ true →
          balance (node fresh black a e b) ≡ risen a e (lf (lf b)) (en (lf b)) (rt (lf b)) (en b) (rt b)
      unfolding balance
      case_rl j = rw (h, i, j)

      module _ (j : is_red b && is_red (lf b) ≡ false) where
        case_rr : is_red b && is_red (rt b) ≡ true →
            balance (node fresh black a e b) ≡ risen a e (lf b) (en b) (lf (rt b)) (en (rt b)) (rt (rt b))
        unfolding balance
        case_rr k = rw (h, i, j, k)

        case_none : is_red b && is_red (rt b) ≡ false → balance (node fresh black a e b) ≡ node fresh black a e b
        unfolding balance
        case_none k = rw (h, i, j, k)

-- Three nodes, each written down.
pub risen_three : {ws p₀ p₁ p₂ p₃ : List ℕ} {l m r : ℕ} {x y z : Node} →
    Steps ws p₀ p₁ 1 (record { entry = x.entry; left = x.left; right = x.right; color = Black }) l itself →
    Steps ws p₁ p₂ 1 (record { entry = z.entry; left = z.left; right = z.right; color = Black }) m itself →
    Steps ws p₂ p₃ 1 (record { entry = y.entry; left = l; right = m; color = Red }) r itself → Rises ws p₀ p₃ x y z r
risen_three s t u = record {
  grown = onward s.grown (onward {k = 2} t.grown u.grown (omega arith)) (omega arith);
  holds = λ ha hb hc hd. u.holds (t.grown.keeps (s.holds ha hb)) (t.holds (s.grown.keeps hc) (s.grown.keeps hd));
}

-- What was found by a colour that is red, whatever the code calls it.
pub asked_red : {ws p : List ℕ} {link : ℕ} {c : Color} {o : Option Node} → FindsColored ws p link c o → c ≡ Red → FindsColored ws p link Red o
asked_red {ws} {p} {link} {c} {o} F e = subst (λ d. FindsColored ws p link d o) e F

-- A red node stands at the link, and what stands at one of its sides decides whether there are two.
module _ {ws p : List ℕ} {link : ℕ} {t : Tree} where
  two_left : {l m : Node} → FindsColored ws p link Red (Some l) → FindsColored ws p l.left Red (Some m) → Holds ws p link t → is_red t && is_red (lf t) ≡ true
  two_left L M h = rw (is_it L.found h) (is_it M.found (L.found.looks.sees h).left_is)

  two_right : {l m : Node} → FindsColored ws p link Red (Some l) → FindsColored ws p l.right Red (Some m) → Holds ws p link t → is_red t && is_red (rt t) ≡ true
  two_right L M h = rw (is_it L.found h) (is_it M.found (L.found.looks.sees h).right_is)

  one_left : {l : Node} → FindsColored ws p link Red (Some l) → FindsColored ws p l.left Red None → Holds ws p link t → is_red t && is_red (lf t) ≡ false
  one_left L M h = rw (is_it L.found h) (M.found.lacks (L.found.looks.sees h).left_is)

  one_right : {l : Node} → FindsColored ws p link Red (Some l) → FindsColored ws p l.right Red None → Holds ws p link t → is_red t && is_red (rt t) ≡ false
  one_right L M h = rw (is_it L.found h) (M.found.lacks (L.found.looks.sees h).right_is)

module _ {ws p : List ℕ} {link : ℕ} where
  pub none_calm : FindsColored ws p link Red None → Calm ws p link
  none_calm L = record { no_left = λ h. rw (L.found.lacks h) refl; no_right = λ h. rw (L.found.lacks h) refl }

  pub red_calm : {l : Node} → FindsColored ws p link Red (Some l) → FindsColored ws p l.left Red None → FindsColored ws p l.right Red None → Calm ws p link
  red_calm L M N = record { no_left = λ h. one_left L M h; no_right = λ h. one_right L N h }

abbrev with_left : Node → ℕ → Node
with_left x l = record { entry = x.entry; left = l; right = x.right; color = x.color }

abbrev with_right : Node → ℕ → Node
with_right x r = record { entry = x.entry; left = x.left; right = r; color = x.color }

module _ {ws p p' : List ℕ} {x : Node} {res : ℕ} (B : x.color ≡ Black) where
  module _ {l m : Node} (L : FindsColored ws p x.left Red (Some l)) where
    pub left_left : FindsColored ws p l.left Red (Some m) → Rises ws p p' m l (with_left x l.right) res → Steps ws p p' balance_room x res balance
    left_left M S = record {
      grown = S.grown;
      holds = λ {a} {b} ha hb.
          let o = L.found.looks.sees ha in
          let q = M.found.looks.sees o.left_is in
          rw (ap color_of B, case_ll a (entry_of x.entry) b (two_left L M ha), q.entry_is, o.entry_is)
          (S.holds q.left_is q.right_is o.right_is hb);
    }

    pub left_right : FindsColored ws p l.left Red None → FindsColored ws p l.right Red (Some m) →
        Rises ws p p' (with_right l m.left) m (with_left x m.right) res → Steps ws p p' balance_room x res balance
    left_right N M S = record {
      grown = S.grown;
      holds = λ {a} {b} ha hb.
          let o = L.found.looks.sees ha in
          let q = M.found.looks.sees o.right_is in
          rw (ap color_of B, case_lr a (entry_of x.entry) b (one_left L N ha) (two_right L M ha), q.entry_is, o.entry_is)
          (S.holds o.left_is q.left_is q.right_is hb);
    }

  module _ (Q : Calm ws p x.left) where
    module _ {r m : Node} (R : FindsColored ws p x.right Red (Some r)) where
      pub right_left : FindsColored ws p r.left Red (Some m) → Rises ws p p' (with_right x m.left) m (with_left r m.right) res → Steps ws p p' balance_room x res balance
      right_left M S = record {
        grown = S.grown;
        holds = λ {a} {b} ha hb.
            let o = R.found.looks.sees hb in
            let q = M.found.looks.sees o.left_is in
            rw (ap color_of B, case_rl a (entry_of x.entry) b (Q.no_left ha) (Q.no_right ha) (two_left R M hb), q.entry_is, o.entry_is)
            (S.holds ha q.left_is q.right_is o.right_is);
      }

      pub right_right : FindsColored ws p r.left Red None → FindsColored ws p r.right Red (Some m) →
          Rises ws p p' (with_right x r.left) r m res → Steps ws p p' balance_room x res balance
      right_right N M S = record {
        grown = S.grown;
        holds = λ {a} {b} ha hb.
            let o = R.found.looks.sees hb in
            let q = M.found.looks.sees o.right_is in
            rw (
              ap color_of B,
              case_rr a (entry_of x.entry) b (Q.no_left ha) (Q.no_right ha) (one_left R N hb) (two_right R M hb),
              q.entry_is,
              o.entry_is,
            )
            (S.holds ha o.left_is q.left_is q.right_is);
      }

    -- No case applies where both sides are calm.
    pub balanced_so : Calm ws p x.right → Steps ws p p' 1 x res itself → Steps ws p p' balance_room x res balance
    balanced_so W S = record {
      grown = grow_to S.grown (omega arith);
      holds = λ {a} {b} ha hb.
          rw (ap color_of B, case_none a (entry_of x.entry) b (Q.no_left ha) (Q.no_right ha) (W.no_left hb) (W.no_right hb))
          (subst (λ c. Holds ws p' res (node fresh c a (entry_of x.entry) b)) (ap color_of B) (S.holds ha hb));
    }

-- "at a black node only"
pub red_stays : {ws p p' : List ℕ} {x : Node} {res : ℕ} → x.color ≡ Red → Steps ws p p' 1 x res itself → Steps ws p p' balance_room x res balance
red_stays {ws} {p} {p'} {x} {res} e S = record {
  grown = grow_to S.grown (omega arith);
  holds = λ {a} {b} ha hb.
      rw (ap color_of e, case_red a (entry_of x.entry) b)
      (subst (λ c. Holds ws p' res (node fresh c a (entry_of x.entry) b)) (ap color_of e) (S.holds ha hb));
}
