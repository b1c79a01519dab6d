-- One node more: the plan's other nodes are as they were, and the new link holds the tree with the new node at its top.
use mathlib.Core.Path.{◌≡◌, sym, ap, subst, ◌∙◌}
use mathlib.Core.Logic.{inl}
use mathlib.Core.List.{List}
use Prim.Native.Nat.{ℕ, ◌+◌, ◌*◌, ◌≤◌, ◌<◌}
use native.Mathlib.Omega.{arith}
use lib.ListN.{length, get_or, length-set}
use lib.Seq.{get_or-set_same, get_or-set_other}
use Rattle.trees.specs.Tree.{fresh, Tree, node}
use Rattle.words.specs.Layout.{nodes}
use Rattle.words.specs.Model.{storing}
use Rattle.words.proofs.Stores.{length_storing, storing_other, storing_here}
use Rattle.arena.specs.Nodes.{entry_of}
use Rattle.plan.specs.declared.Node.{Node}
use Rattle.plan.specs.Colors.{color_of, word_of}
use Rattle.plan.specs.Scratch.{
  plan_node_words,
  plan_key_word,
  plan_value_word,
  plan_left_word,
  plan_right_word,
  plan_color_word,
  used,
  plan_entry,
  plan_left,
  plan_right,
  plan_color,
  PlanInside,
}
use Rattle.plan.specs.Held.{spot, PlanIs, Holds, planned, Room}
use Rattle.plan.specs.Steps.{Steps, itself}
use Rattle.plan.proofs.Holdings.{Agrees, frame}
use Rattle.planning.specs.Pushed.{node_list, pushed}

module _ (plan : List ℕ) (x : Node) (h : PlanInside plan (used plan + 1)) where
  -- The plan with the node's words, its count not yet raised.
  abbrev written : List ℕ
  written = storing plan (plan_node_words * used plan) plan_key_word (node_list x)

  pub pushed_length : length (pushed plan x) ≡ length plan
  unfolding pushed
  pushed_length = length-set written 0 (used plan + 1) ∙ length_storing plan (plan_node_words * used plan) plan_key_word (node_list x)

  pub pushed_used : used (pushed plan x) ≡ used plan + 1
  unfolding pushed
  pushed_used =
      get_or-set_same written 0 (used plan + 1) 0
      (let e = length_storing plan (plan_node_words * used plan) plan_key_word (node_list x) in omega arith)

  old_word : (i : ℕ) → 1 ≤ i → i ≤ plan_node_words * used plan → get_or (pushed plan x) i 0 ≡ get_or plan i 0
  unfolding pushed
  old_word i p q =
      get_or-set_other written 0 i (used plan + 1) 0 (λ e. omega arith) ∙
      storing_other plan (plan_node_words * used plan) plan_key_word (node_list x) i (inl (omega arith))

  new_word : (j : ℕ) → j < plan_node_words → get_or (pushed plan x) (plan_node_words * used plan + (plan_key_word + j)) 0 ≡ get_or (node_list x) j 0
  unfolding pushed
  new_word j p =
      get_or-set_other written 0 (plan_node_words * used plan + (plan_key_word + j)) (used plan + 1) 0 (λ e. omega arith) ∙
      storing_here plan (plan_node_words * used plan) plan_key_word (node_list x) j p (omega arith)

  older : (j : ℕ) → j < used plan → Agrees plan (pushed plan x) j
  unfolding plan_entry plan_left plan_right plan_color
  older j q = record {
    entry_is = rw (old_word (plan_node_words * j + plan_key_word) (omega arith) (omega arith), old_word (plan_node_words * j + plan_value_word) (omega arith) (omega arith));
    left_is = old_word (plan_node_words * j + plan_left_word) (omega arith) (omega arith);
    right_is = old_word (plan_node_words * j + plan_right_word) (omega arith) (omega arith);
    color_is = old_word (plan_node_words * j + plan_color_word) (omega arith) (omega arith);
  }

  new_entry : plan_entry (pushed plan x) (used plan) ≡ entry_of x.entry
  unfolding plan_entry
  new_entry = rw (new_word 0 (omega arith), new_word 1 (omega arith))

  new_left : plan_left (pushed plan x) (used plan) ≡ x.left
  unfolding plan_left
  new_left = new_word 2 (omega arith)

  new_right : plan_right (pushed plan x) (used plan) ≡ x.right
  unfolding plan_right
  new_right = new_word 3 (omega arith)

  new_color : plan_color (pushed plan x) (used plan) ≡ word_of x.color
  unfolding plan_color
  new_color = new_word 4 (omega arith)

  module _ (ws : List ℕ) where
    keeps : {link : ℕ} {t : Tree} → Holds ws plan link t → Holds ws (pushed plan x) link t
    keeps g = frame (let u = pushed_used in omega arith) older g

    pub pushed_holds : {a b : Tree} → Holds ws plan x.left a → Holds ws plan x.right b →
        Holds ws (pushed plan x) (nodes ws + 1 + used plan) (node fresh (color_of x.color) a (entry_of x.entry) b)
    pushed_holds {a} {b} ha hb =
        let q = pushed plan x in
        let e : spot ws (nodes ws + 1 + used plan) ≡ used plan = omega arith in
        let new : PlanIs ws q (nodes ws + 1 + used plan) (color_of x.color) (entry_of x.entry) = record {
          low = omega arith;
          high = (let u = pushed_used in omega arith);
          color_is = ap (plan_color q) e ∙ new_color;
          entry_is = ap (plan_entry q) e ∙ new_entry;
        } in
        planned
        new
        (subst (λ (z : ℕ). Holds ws q z a) (sym (ap (plan_left q) e ∙ new_left)) (keeps ha))
        (subst (λ (z : ℕ). Holds ws q z b) (sym (ap (plan_right q) e ∙ new_right)) (keeps hb))

-- What `push` answers.
pub pushed_steps : {ws plan plan' : List ℕ} {x : Node} {n : ℕ} → plan' ≡ pushed plan x → n ≡ nodes ws → Room ws plan 1 →
    Steps ws plan plan' 1 x (n + 1 + used plan) itself
pushed_steps {ws} {plan} {plan'} {x} e at h =
    rw
    (e, at)
    (record {
      grown = record {
        keeps = keeps plan x h.room ws;
        grows = (let u = pushed_used plan x h.room in omega arith);
        same = pushed_length plan x h.room;
      };
      holds = pushed_holds plan x h.room ws;
    })
