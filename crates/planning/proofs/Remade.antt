-- The node at a link made anew: `copy` and `paint`.
use mathlib.Core.Path.{◌≡◌, refl}
use mathlib.Core.List.{List}
use Prim.Native.Nat.{ℕ}
use Rattle.std.specs.Prelude.{Some, None}
use Rattle.trees.specs.Tree.{Entry, Place, fresh, Tree, leaf, node}
use Rattle.arena.specs.Nodes.{entry_of}
use Rattle.plan.specs.declared.Color.{Color}
use Rattle.plan.specs.declared.Node.{Node}
use Rattle.plan.specs.Colors.{color_of}
use Rattle.plan.specs.Held.{none}
use Rattle.plan.specs.Steps.{Finds, Steps, itself, Turns}
use Rattle.plan.proofs.Holdings.{is_leaf}
use Rattle.plan.proofs.Growing.{no_growth}
use Rattle.plan.proofs.Looking.{topped}

module _ {ws a : List ℕ} {link : ℕ} (f : Tree → Tree) where
  pub remade_none : f leaf ≡ leaf → Finds ws a link None → Turns ws a a 1 link 0 f
  remade_none e F = record { grown = no_growth 1; holds = λ h. rw (is_leaf F.found h, e) (none refl) }

  pub remade : {b : List ℕ} {r : ℕ} {x : Node} {c : Color} →
      ((p : Place) (l : Tree) (e : Entry) (r : Tree) → f (node p (color_of x.color) l e r) ≡ node fresh (color_of c) l e r) →
      Finds ws a link (Some x) → Steps ws a b 1 (record { entry = x.entry; left = x.left; right = x.right; color = c }) r itself →
      Turns ws a b 1 link r f
  remade e F S = record {
    grown = S.grown;
    holds = λ h.
        let n = topped F.found h in
        rw (n.is, e n.place _ (entry_of _) _) (S.holds (F.found.sees h).left_is (F.found.sees h).right_is);
  }
