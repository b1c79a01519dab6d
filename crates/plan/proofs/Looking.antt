-- What `look` finds, and what the colours that were read say.
use mathlib.Core.Path.{◌≡◌, refl, sym, ap, ap₂, subst, ◌∙◌}
use mathlib.Core.Bool.{true, false}
use mathlib.Core.List.{List}
use Prim.Native.Nat.{ℕ, ◌+◌, ◌-◌, ◌≤◌, ◌<◌}
use native.Mathlib.Omega.{arith}
use borrow.Author.Rules.{rules}
use denote.Enum.Bare.{sameb, same_true}
use Rattle.std.specs.Prelude.{Option, Some, None}
use Rattle.std.specs.Option.{is_some}
use Rattle.trees.specs.Tree as trees
use Rattle.trees.specs.Tree.{red, black, Place, kept, fresh, Tree, leaf, node, lf, rt, is_red, is_black, height}
use Rattle.words.specs.Layout.{nodes, code}
use Rattle.arena.specs.declared.Node as arena
use Rattle.arena.specs.Nodes.{entry_of, IsNode}
use Rattle.plan.specs.declared.Color.{Color}
use Rattle.plan.specs.declared.Color.TheVariants.{Red, Black}
use Rattle.plan.specs.declared.Node.{Node}
use Rattle.plan.specs.contracts.Color.{the_type}
use Rattle.plan.specs.Scratch.{PlanInside, IsPlanned}
use Rattle.plan.specs.Colors.{color_of, is_colored, word_of, IsNodeOf}
use Rattle.plan.specs.Held.{spot, Holds, none, shared, planned, Some as SomeTree, Held, Room}
use Rattle.plan.specs.Steps.{Sees, Looks, Finds, LooksColored, FindsColored}
use Rattle.plan.proofs.Holdings.{code_same, is_leaf}

pub look_none : {ws plan : List ℕ} {link : ℕ} → link ≡ 0 → Finds ws plan link None
look_none e = record { found = e }

seen : {ws plan : List ℕ} {link : ℕ} {x : Node} → ((t : Tree) → Holds ws plan link t → Sees ws plan x t) → SomeTree ws plan link → Finds ws plan link (Some x)
seen f s = record {
  found = record {
    sees = λ {t} h. f t h;
    left = record { tree = lf s.tree; held = (f s.tree s.held).left_is };
    right = record { tree = rt s.tree; held = (f s.tree s.held).right_is };
  };
}

-- A colour is known by its word.
color_same : (c : Color) (d : trees.Color) → word_of c ≡ code d → d ≡ color_of c
color_same Red d e = sym (code_same red d e)
color_same Black d e = sym (code_same black d e)

-- n is the arena's number of nodes, as it was read.
module _ {ws plan : List ℕ} {link n : ℕ} (ne : link ≡ 0 → ⊥) (at : n ≡ nodes ws) where
  -- A node of the plan has its words in the plan.
  pub plan_inside : SomeTree ws plan link → Room ws plan 0 → n < link → PlanInside plan (link - (n + 1) + 1)
  plan_inside s r lt = go s.held
    where
      go : {t : Tree} → Holds ws plan link t → PlanInside plan (link - (n + 1) + 1)
      go (none e) = absurd (ne e)
      go (shared k a b) = absurd (let q = k.high in omega arith)
      go (planned k a b) = let q = k.high in let p = r.room in omega arith

  module _ {d : arena.Node} where
    module _ {x : Node} (o : IsNodeOf d x) where
      sees_arena : {t : Tree} → link ≤ n → IsNode ws link d → Holds ws plan link t → Sees ws plan x t
      sees_arena le i (none e) = absurd (ne e)
      sees_arena le i (planned k a b) = absurd (let q = k.low in omega arith)
      sees_arena le i (shared {c = c} k a b) = record {
        color_is = ap Some (color_same x.color c (o.color_is ∙ i.color_is ∙ k.color_is));
        entry_is = sym (ap entry_of o.entry_is ∙ i.entry_is ∙ k.entry_is);
        left_is = rw (o.left_is ∙ i.left_is) a;
        right_is = rw (o.right_is ∙ i.right_is) b;
      }

      sees_plan : {t : Tree} → n < link → IsPlanned plan (link - (n + 1)) d → Holds ws plan link t → Sees ws plan x t
      sees_plan lt i (none e) = absurd (ne e)
      sees_plan lt i (shared k a b) = absurd (let q = k.high in omega arith)
      sees_plan lt i (planned {c = c} k a b) =
          let s : IsPlanned plan (spot ws link) d = rw (← at) i in
          record {
            color_is = ap Some (color_same x.color c (o.color_is ∙ s.color_is ∙ k.color_is));
            entry_is = sym (ap entry_of o.entry_is ∙ s.entry_is ∙ k.entry_is);
            left_is = rw (o.left_is ∙ s.left_is) a;
            right_is = rw (o.right_is ∙ s.right_is) b;
          }

      pub look_arena : link ≤ n → IsNode ws link d → SomeTree ws plan link → Finds ws plan link (Some x)
      look_arena le i s = seen (λ t h. sees_arena le i h) s

      pub look_plan : n < link → IsPlanned plan (link - (n + 1)) d → SomeTree ws plan link → Finds ws plan link (Some x)
      look_plan lt i s = seen (λ t h. sees_plan lt i h) s

-- The tree at a link where a node is found has that node at its top.
pub record Topped (x : Node) (t : Tree) : Type 0 where
  pub place : Place
  pub is : t ≡ node place (color_of x.color) (lf t) (entry_of x.entry) (rt t)

top_of : {ws plan : List ℕ} {x : Node} (t : Tree) → Sees ws plan x t → Topped x t
top_of leaf s = absurd (let e = s.color_is in cc)
top_of {x = x} (node p c l e r) s =
    let i : c ≡ color_of x.color = let h = s.color_is in cc in
    record { place = p; is = ap₂ (λ d z. node p d l z r) i s.entry_is }

module _ {ws plan : List ℕ} {link : ℕ} {x : Node} (L : Looks ws plan link x) where
  pub topped : {t : Tree} → Holds ws plan link t → Topped x t
  topped {t} h = top_of t (L.sees h)

  -- The sides of a node are lower than it.
  lower : {t : Tree} {h : ℕ} → Holds ws plan link t → height t ≤ h → (1 ≤ h) × (height (lf t) ≤ h - 1) × (height (rt t) ≤ h - 1)
  lower g le = let e = ap height (topped g).is in (omega arith, omega arith, omega arith)

  module _ {h : ℕ} (H : Held ws plan link h) where
    pub tall : 1 ≤ h
    tall = (lower H.some.held H.fits).0

    pub held_left : Held ws plan x.left (h - 1)
    held_left = record {
      some = record { tree = lf H.some.tree; held = (L.sees H.some.held).left_is };
      fits = (lower H.some.held H.fits).1;
    }

    pub held_right : Held ws plan x.right (h - 1)
    held_right = record {
      some = record { tree = rt H.some.tree; held = (L.sees H.some.held).right_is };
      fits = (lower H.some.held H.fits).2;
    }

-- What the test of a colour says of the tree.
colored_leaf : (c : Color) → is_colored c leaf ≡ false
colored_leaf Red = refl
colored_leaf Black = refl

module _ (p : Place) (l : Tree) (e : trees.Entry) (r : Tree) where
  colored_node : (d c : Color) → is_colored c (node p (color_of d) l e r) ≡ sameb the_type d c
  colored_node Red Red = refl
  colored_node Red Black = refl
  colored_node Black Red = refl
  colored_node Black Black = refl

  colored_same : (c : Color) → is_colored c (node p (color_of c) l e r) ≡ true
  colored_same Red = refl
  colored_same Black = refl

module _ {ws plan : List ℕ} {link : ℕ} where
  pub found_none : {o : Option Node} (c : Color) → o ≡ None → Finds ws plan link o → FindsColored ws plan link c None
  found_none c z F =
      let G : Finds ws plan link None = rw z at F in
      record { found = record { lacks = λ h. rw (is_leaf G.found h) (colored_leaf c) } }

  module _ {x : Node} (c : Color) where
    pub found_colored : Finds ws plan link (Some x) → true ≡ sameb the_type x.color c → FindsColored ws plan link c (Some x)
    found_colored F e = record { found = record { looks = F.found; color_is = same_true the_type (search rules) x.color c (sym e) } }

    pub found_other : Finds ws plan link (Some x) → false ≡ sameb the_type x.color c → FindsColored ws plan link c None
    found_other F e = record { found = record { lacks = λ h. rw (topped F.found h).is (colored_node _ _ _ _ x.color c ∙ sym e) } }

  -- A node of a colour stands there, so the tree has it.
  pub is_it : {x : Node} {c : Color} {t : Tree} → LooksColored ws plan link c x → Holds ws plan link t → is_colored c t ≡ true
  is_it {x} {c} {t} L h =
      let n = topped L.looks h in
      subst (λ d. is_colored d t ≡ true) L.color_is (rw n.is (colored_same n.place (lf t) (entry_of x.entry) (rt t) x.color))

  -- What the test says of the tree, as a boolean.
  pub there : {c : Color} {t : Tree} (o : Option Node) → FindsColored ws plan link c o → Holds ws plan link t → is_colored c t ≡ is_some o
  there None F h = F.found.lacks h
  there (Some x) F h = is_it F.found h
