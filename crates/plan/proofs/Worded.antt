-- What a step from the words of a node says of the plan, and of the node that has them.
use mathlib.Core.List.{List}
use Prim.Native.Nat.{ℕ}
use native.Mathlib.Omega.{arith}
use Rattle.trees.specs.Tree.{Tree}
use Rattle.arena.specs.declared.Node as arena
use Rattle.plan.specs.declared.Node.{Node}
use Rattle.plan.specs.Colors.{color_of, IsNodeOf}
use Rattle.plan.specs.Steps.{Grown, Steps, StepsFrom}

module _ {ws plan plan' : List ℕ} {k r : ℕ} {d : arena.Node} {f : Tree → Tree} where
  -- Of whatever words, also those whose colour is none.
  pub grown_of_words : StepsFrom ws plan plan' k d r f → Grown ws plan plan' k
  grown_of_words s = s.grown

  -- It is the step from the node.
  pub steps_of_words : {x : Node} → IsNodeOf d x → StepsFrom ws plan plan' k d r f → Steps ws plan plan' k x r f
  steps_of_words {x = x} o s = record {
    grown = grown_of_words s;
    holds = λ hl hr. rw o.entry_is (s.holds {c = color_of x.color} (let e = o.color_is in omega arith) (rw (← o.left_is) hl) (rw (← o.right_is) hr));
  }
