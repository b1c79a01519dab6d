-- A step down: the node goes on the stack, and what is ahead stays.
use mathlib.Core.Path.{◌≡◌, refl, sym, ◌∙◌}
use mathlib.Core.List.{List, ◌∷◌, ◌++◌, append_assoc}
use Prim.Native.Nat.{ℕ, zero, suc, ◌+◌, ◌-◌, ◌≤◌, ◌<◌}
use native.Mathlib.Numerals.{add-one}
use native.Mathlib.Omega.{arith}
use lib.ListN.{get_or, set, length-set}
use lib.Seq.{get_or-set_same, get_or-set_other}
use borrow.Author.Count.{below_more}
use Rattle.words.specs.Layout.{entry, left, right, max_height}
use Rattle.arena.specs.Nodes.{NodeInside, IsNode}
use Rattle.arena.specs.declared.Node.{Node}
use Rattle.lookup.specs.Finding.{Rooted}
use Rattle.lookup.proofs.Descents.{rooted_inside, rooted_high, rooted_left, rooted_right}
use Rattle.abreast.specs.declared.Side.{Side}
use Rattle.abreast.specs.Sides.{stack_numbers, listed, waiting, ahead, Stacked, Stands, Sinks}
use Rattle.abreast.proofs.Listed.{listed_node}

pub rooted_within : {ws : List ℕ} {i h g : ℕ} → h ≤ g → Rooted ws i h → Rooted ws i g
rooted_within b k = record { n = k.n; inside = k.inside; tree = k.tree; reads = k.reads; low = omega (arith, k.low) }

-- A store above the first p numbers of a stack leaves what they have to come.
waiting-set : (ws a : List ℕ) (m i p : ℕ) → p ≤ m → waiting ws (set a m i) p ≡ waiting ws a p
unfolding waiting
waiting-set ws a m i zero b = refl
waiting-set ws a m i (suc p) b =
    rw (get_or-set_other a m p i 0 (λ e. omega arith), waiting-set ws a m i p (omega arith))

-- A side whose top is its link, and whose link is another.
abbrev pub pushed_on : Side → ℕ → Side
pushed_on s link = record { link = link; stack = set s.stack s.depth s.link; depth = s.depth + 1 }

module _ {ws : List ℕ} {s : Side} (S : Stands ws s) (n : s.link ≡ 0 → ⊥) where
  pub node_inside : NodeInside ws s.link
  node_inside = rooted_inside S.rooted n

  has_place : s.depth < stack_numbers
  has_place = omega (arith, rooted_high S.rooted n)

  module _ {d : Node} (m : IsNode ws s.link d) where
    abbrev pub stack : List ℕ
    stack = set s.stack s.depth s.link

    here : get_or stack s.depth 0 ≡ s.link
    here = get_or-set_same s.stack s.depth s.link 0 (omega (arith, has_place, S.stacked.long))

    other : (k : ℕ) → k < s.depth → get_or stack k 0 ≡ get_or s.stack k 0
    other k l = get_or-set_other s.stack s.depth k s.link 0 (λ e. omega arith)

    stacked : Stacked ws stack (s.depth + 1)
    stacked =
        record {
          long = length-set s.stack s.depth s.link ∙ S.stacked.long;
          low = omega (arith, rooted_high S.rooted n);
          inside = below_more (λ (k : ℕ). NodeInside ws (get_or stack k 0)) s.depth
              (λ k l. rw (other k l) (S.stacked.inside k l))
              (rw here node_inside);
          rights = below_more (λ (k : ℕ). Rooted ws (right ws (get_or stack k 0)) (max_height - k)) s.depth
              (λ k l. rw (other k l) (S.stacked.rights k l))
              (rw here (rooted_within (omega arith) (rw m.right_is at (rooted_right S.rooted n m))));
        }

    -- The node that was put there comes next on the stack.
    pub pushed : waiting ws stack (s.depth + 1) ≡ entry ws s.link ∷ (listed max_height ws (right ws s.link) ++ waiting ws s.stack s.depth)
    unfolding waiting
    pushed = rw (add-one s.depth, here, waiting-set ws s.stack s.depth s.link s.depth (omega arith))

    same_ahead : ahead ws (pushed_on s d.left) ≡ ahead ws s
    unfolding ahead
    same_ahead =
        rw
        (pushed, m.left_is, listed_node S.rooted max_height (omega arith) n)
        (sym (append_assoc (listed max_height ws (left ws s.link)) (entry ws s.link ∷ listed max_height ws (right ws s.link)) (waiting ws s.stack s.depth)))

    pub sinks_left : Sinks ws s (pushed_on s d.left)
    sinks_left =
        record {
          stands = record {
            rooted = rooted_within (omega (arith, rooted_high S.rooted n)) (rooted_left S.rooted n m);
            stacked = stacked;
          };
          same_ahead = same_ahead;
          deeper = omega arith;
          grows = λ _. omega arith;
        }
