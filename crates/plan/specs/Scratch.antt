-- The plan's words: a scratch lent for one call, to which nodes are only ever added. A word past
-- the end reads as 0. No rule asks for a plan.
use Rattle.std.specs.Prelude.{◌≡◌, List, ℕ, ◌+◌, ◌*◌, ◌≤◌, length, get_or}
use Rattle.trees.specs.Tree.{Entry}
use Rattle.arena.specs.declared.Node.{Node}
use Rattle.arena.specs.Nodes.{entry_of}

-- Word 0 counts the nodes; the words of node j stand from plan_node_words * j on, at these offsets.
abbrev pub plan_header_words : ℕ
plan_header_words = 1

abbrev pub plan_node_words : ℕ
plan_node_words = 5

abbrev pub plan_key_word : ℕ
plan_key_word = 1

abbrev pub plan_value_word : ℕ
plan_value_word = 2

abbrev pub plan_left_word : ℕ
plan_left_word = 3

abbrev pub plan_right_word : ℕ
plan_right_word = 4

abbrev pub plan_color_word : ℕ
plan_color_word = 5

abbrev pub used : List ℕ → ℕ
used plan = get_or plan 0 0

unfoldable pub plan_entry : List ℕ → ℕ → Entry
plan_entry plan j = record { key = get_or plan (plan_node_words * j + plan_key_word) 0; value = get_or plan (plan_node_words * j + plan_value_word) 0 }

unfoldable pub plan_left : List ℕ → ℕ → ℕ
plan_left plan j = get_or plan (plan_node_words * j + plan_left_word) 0

unfoldable pub plan_right : List ℕ → ℕ → ℕ
plan_right plan j = get_or plan (plan_node_words * j + plan_right_word) 0

unfoldable pub plan_color : List ℕ → ℕ → ℕ
plan_color plan j = get_or plan (plan_node_words * j + plan_color_word) 0

-- The plan has the words of its first m nodes.
abbrev pub PlanInside : List ℕ → ℕ → Type 0
PlanInside plan m = plan_node_words * m + plan_header_words ≤ length plan

-- d holds the words of the plan's node j.
pub record IsPlanned (plan : List ℕ) (j : ℕ) (d : Node) : Type 0 where
  pub entry_is : entry_of d.entry ≡ plan_entry plan j
  pub left_is : d.left ≡ plan_left plan j
  pub right_is : d.right ≡ plan_right plan j
  pub color_is : d.color ≡ plan_color plan j
