-- The cases of `settle`, `ins` and `insert` on links.
use mathlib.Core.Path.{◌≡◌, refl}
use mathlib.Core.Bool.{Bool, true, false, not}
use mathlib.Core.List.{List}
use Prim.Native.Nat.{ℕ, ◌-◌, ◌≤◌, ◌<◌}
use native.Mathlib.Omega.{arith}
use Rattle.std.specs.Prelude.{Some, None}
use borrow.Author.Tests.{lt-ltb, le-ltb}
use Rattle.trees.specs.Tree.{black, lf, rt, paint}
use Rattle.trees.specs.Lookup.{has}
use Rattle.trees.specs.Insert.{balance, settle, ins, insert}
use Rattle.arena.specs.declared.Entry.{Entry}
use Rattle.arena.specs.Nodes.{entry_of}
use Rattle.plan.specs.declared.Color.TheVariants.{Red}
use Rattle.plan.specs.declared.Node.{Node}
use Rattle.plan.specs.Held.{none, Held, Room}
use Rattle.plan.specs.Steps.{Finds, Steps, itself, Turns}
use Rattle.plan.proofs.Holdings.{is_leaf}
use Rattle.plan.proofs.Growing.{room_less, onward, grow_to}
use Rattle.plan.proofs.Looking.{topped, tall}
use Rattle.balancing.specs.Promises.{balance_room}
use Rattle.insertion.specs.Promises.{ins_room, insert_room, News}

module _ {ws p p' : List ℕ} {x : Node} {new : Bool} {res : ℕ} where
  pub settle_new : new ≡ true → Steps ws p p' balance_room x res balance → Steps ws p p' balance_room x res (settle (not new))
  settle_new e S = record { grown = S.grown; holds = λ ha hb. rw e (S.holds ha hb) }

  pub settle_old : new ≡ false → Steps ws p p' 1 x res itself → Steps ws p p' balance_room x res (settle (not new))
  settle_old e S = record { grown = grow_to S.grown (omega arith); holds = λ ha hb. rw e (S.holds ha hb) }

-- At no node the entry is new.
module _ {ws p : List ℕ} {link : ℕ} (F : Finds ws p link None) where
  pub ins_none : {p' : List ℕ} {e : Entry} {res : ℕ} (h : ℕ) →
      Steps ws p p' 1 (record { entry = e; left = 0; right = 0; color = Red }) res itself → Turns ws p p' (ins_room h) link res (ins (entry_of e))
  unfolding ins
  ins_none h S = record { grown = grow_to S.grown (omega arith); holds = λ t. rw (is_leaf F.found t) (S.holds (none refl) (none refl)) }

  pub news_none : {k : ℕ} → News ws p link k true
  unfolding has
  news_none = record { says = λ t. rw (is_leaf F.found t) }

not_not : (b : Bool) → not (not b) ≡ b
not_not true = refl
not_not false = refl

module _ {ws p : List ℕ} {link : ℕ} {x : Node} (L : Finds ws p link (Some x)) where
  module _ {h : ℕ} (H : Held ws p link h) where
    pub room_down : Room ws p (ins_room h) → Room ws p (ins_room (h - 1))
    room_down r = let b = tall L.found H in room_less r (omega arith)

    pub less_down : {t : ℕ} → h ≡ t → h - 1 < t
    less_down e = let b = tall L.found H in omega arith

  -- An equal key.
  pub ins_here : {p' : List ℕ} {e : Entry} {res : ℕ} (h : ℕ) → x.entry.key ≤ e.key → e.key ≤ x.entry.key →
      Steps ws p p' 1 (record { entry = e; left = x.left; right = x.right; color = x.color }) res itself →
      Turns ws p p' (ins_room h) link res (ins (entry_of e))
  unfolding ins
  ins_here {e = e} h le ge S = record {
    grown = grow_to S.grown (omega arith);
    holds = λ t.
        let n = topped L.found t in
        rw
        (n.is, le-ltb e.key x.entry.key le, le-ltb x.entry.key e.key ge)
        (S.holds (L.found.sees t).left_is (L.found.sees t).right_is);
  }

  pub news_here : {k : ℕ} → x.entry.key ≤ k → k ≤ x.entry.key → News ws p link k false
  unfolding has
  news_here {k} le ge = record { says = λ t. rw ((topped L.found t).is, le-ltb k x.entry.key le, le-ltb x.entry.key k ge) }

  -- A smaller key goes left.
  module _ (e : Entry) (lt : e.key < x.entry.key) {new : Bool} (N : News ws p x.left e.key new) where
    pub ins_left : {p' p'' : List ℕ} {h l res : ℕ} → Held ws p link h → Turns ws p p' (ins_room (h - 1)) x.left l (ins (entry_of e)) →
        Steps ws p' p'' balance_room (record { entry = x.entry; left = l; right = x.right; color = x.color }) res (settle (not new)) →
        Turns ws p p'' (ins_room h) link res (ins (entry_of e))
    unfolding ins
    ins_left H T S =
        let b = tall L.found H in
        record {
          grown = onward T.grown S.grown (omega arith);
          holds = λ {t} h.
              let n = topped L.found h in
              rw
              (n.is, lt-ltb e.key x.entry.key lt, ← not_not (has e.key (lf t)), ← N.says (L.found.sees h).left_is)
              (S.holds (T.holds (L.found.sees h).left_is) (T.grown.keeps (L.found.sees h).right_is));
        }

  pub news_left : {k : ℕ} {new : Bool} → k < x.entry.key → News ws p x.left k new → News ws p link k new
  unfolding has
  news_left {k} lt N = record { says = λ h. rw ((topped L.found h).is, lt-ltb k x.entry.key lt) (N.says (L.found.sees h).left_is) }

  -- A greater key goes right.
  module _ (e : Entry) (lt : x.entry.key < e.key) {new : Bool} (N : News ws p x.right e.key new) where
    pub ins_right : {p' p'' : List ℕ} {h r res : ℕ} → Held ws p link h → Turns ws p p' (ins_room (h - 1)) x.right r (ins (entry_of e)) →
        Steps ws p' p'' balance_room (record { entry = x.entry; left = x.left; right = r; color = x.color }) res (settle (not new)) →
        Turns ws p p'' (ins_room h) link res (ins (entry_of e))
    unfolding ins
    ins_right H T S =
        let b = tall L.found H in
        record {
          grown = onward T.grown S.grown (omega arith);
          holds = λ {t} h.
              let n = topped L.found h in
              rw (
                n.is,
                le-ltb e.key x.entry.key (omega arith),
                lt-ltb x.entry.key e.key lt,
                ← not_not (has e.key (rt t)),
                ← N.says (L.found.sees h).right_is,
              )
              (S.holds (T.grown.keeps (L.found.sees h).left_is) (T.holds (L.found.sees h).right_is));
        }

  pub news_right : {k : ℕ} {new : Bool} → x.entry.key < k → News ws p x.right k new → News ws p link k new
  unfolding has
  news_right {k} lt N = record {
    says = λ h.
        rw ((topped L.found h).is, le-ltb k x.entry.key (omega arith), lt-ltb x.entry.key k lt) (N.says (L.found.sees h).right_is);
  }

pub root_black : {ws p p' p'' : List ℕ} {link m res : ℕ} (e : Entry) (h : ℕ) → Turns ws p p' (ins_room h) link m (ins (entry_of e)) →
    Turns ws p' p'' 1 m res (paint black) → Turns ws p p'' (insert_room h) link res (insert (entry_of e))
unfolding insert
root_black e h T P = record { grown = onward T.grown P.grown (omega arith); holds = λ t. P.holds (T.holds t) }
