-- The model of adding a fresh node (RULES 6.34) to the plan: where its words go, and the count one
-- more.
use Rattle.std.specs.Prelude.{List, [], ◌∷◌, ℕ, ◌+◌, ◌*◌, set}
use Rattle.words.specs.Model.{storing}
use Rattle.plan.specs.declared.Node.{Node}
use Rattle.plan.specs.Scratch.{plan_node_words, plan_key_word, used}
use Rattle.plan.specs.Colors.{word_of}

-- The words of a plan's node, in their order.
abbrev pub node_list : Node → List ℕ
node_list x = x.entry.key ∷ (x.entry.value ∷ (x.left ∷ (x.right ∷ (word_of x.color ∷ []))))

-- The plan with one node more.
unfoldable pub pushed : List ℕ → Node → List ℕ
pushed plan x = set (storing plan (plan_node_words * used plan) plan_key_word (node_list x)) 0 (used plan + 1)
