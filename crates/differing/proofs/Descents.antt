-- The descent above the last key: what it passes is not above, and what it leaves on the stack is.
use mathlib.Core.Path.{◌≡◌, ap, sym, ◌∙◌, subst}
use mathlib.Core.Bool.{Bool, true, false}
use mathlib.Core.List.{List, ◌∷◌, ◌++◌, append_assoc, append-nil}
use mathlib.Core.Option.{Option}
use Prim.Native.Nat.{ℕ, ◌+◌, ◌<◌}
use native.Mathlib.Omega.{arith}
use lib.ListN.{length, set, length-append}
use Rattle.trees.specs.Tree.{Entry}
use Rattle.trees.specs.Listing.{Ascending}
use Rattle.trees.specs.Range.{past}
use Rattle.trees.specs.Difference.{beyond}
use Rattle.trees.proofs.Listings.{Split, split}
use Rattle.trees.proofs.Ranges.{from_start_up, keyed, keep_append, keep_below}
use Rattle.trees.proofs.Kept.{keep_all}
use Rattle.words.specs.Layout.{entry, max_height}
use Rattle.arena.specs.Nodes.{NodeInside, IsNode}
use Rattle.arena.specs.declared.Node.{Node}
use Rattle.lookup.proofs.Descents.{rooted_right}
use Rattle.abreast.specs.declared.Side.{Side}
use Rattle.abreast.specs.Sides.{listed, waiting, ahead}
use Rattle.abreast.proofs.Listed.{listed_none, listed_node}
use Rattle.abreast.proofs.Stacks.{rooted_within, node_inside, pushed_on, pushed, sinks_left}
use Rattle.differing.specs.Filling.{rest, Descends, Turns, Fills}

-- What passes of a listing that is split at an entry, as the entry does or not.
module _ (o : Option ℕ) (xs : List Entry) (e : Entry) (ys : List Entry) (s : Split xs e ys) where
  rest_passing : beyond o e.key ≡ true → rest o (xs ++ (e ∷ ys)) ≡ rest o xs ++ (e ∷ ys)
  rest_passing t =
      keep_append (keyed (beyond o)) xs (e ∷ ys) ∙
      ap
      (λ (l : List Entry). rest o xs ++ l)
      (rw t (ap (λ (l : List Entry). e ∷ l) (keep_all (λ (y : Entry). y.key) (keyed (beyond o)) e.key ys s.above after)))
    where
      after : (y : Entry) → e.key < y.key → beyond o y.key ≡ true
      after y l = from_start_up (past o) e.key y.key (omega arith) t

  rest_failing : beyond o e.key ≡ false → rest o (xs ++ (e ∷ ys)) ≡ rest o ys
  rest_failing t =
      keep_append (keyed (beyond o)) xs (e ∷ ys) ∙
      rw (keep_below (beyond o) e.key t (from_start_up (past o)) xs s.below, t)

module _ {ws : List ℕ} {s : Side} (D : Descends ws s) (n : s.link ≡ 0 → ⊥) where
  pub turn_inside : NodeInside ws s.link
  turn_inside = node_inside D.stands n

  module _ {d : Node} {t : Bool} (o : Option ℕ) (m : IsNode ws s.link d) (tested : t ≡ beyond o d.entry.key) where
    -- What the node lists before and after its entry, and what waits on the stack.
    abbrev pub before : List Entry
    before = listed max_height ws d.left

    abbrev pub after : List Entry
    after = listed max_height ws d.right

    abbrev pub stacked : List Entry
    stacked = waiting ws s.stack s.depth

    lists : listed max_height ws s.link ≡ before ++ (entry ws s.link ∷ after)
    lists = rw (m.left_is, m.right_is) (listed_node D.stands.rooted max_height (omega arith) n)

    parted : Split before (entry ws s.link) after
    parted = split before (entry ws s.link) after (subst Ascending lists D.ordered)

    shorter_left : length before < length (listed max_height ws s.link)
    shorter_left = rw lists (rw (length-append before (entry ws s.link ∷ after)) (omega arith))

    shorter_right : length after < length (listed max_height ws s.link)
    shorter_right = rw lists (rw (length-append before (entry ws s.link ∷ after)) (omega arith))

    here : beyond o (entry ws s.link).key ≡ t
    here = sym (tested ∙ ap (λ (e : Entry). beyond o e.key) m.entry_is)

    pub turn_right : t ≡ false → Turns ws o s (record { link = d.right; depth = s.depth; stack = s.stack })
    turn_right y =
        record {
          descends = record {
            stands = record { rooted = rooted_within (omega arith) (rooted_right D.stands.rooted n m); stacked = D.stands.stacked };
            ordered = parted.after;
          };
          keeps = ap (λ (l : List Entry). rest o l ++ stacked) lists ∙
              ap (λ (l : List Entry). l ++ stacked) (rest_failing o before (entry ws s.link) after parted (here ∙ y));
          shorter = shorter_right;
        }

    pub turn_left : t ≡ true → Turns ws o s (pushed_on s d.left)
    turn_left y =
        record {
          descends = record { stands = (sinks_left D.stands n m).stands; ordered = parted.before };
          keeps = ap (λ (l : List Entry). rest o l ++ stacked) lists ∙
              ap (λ (l : List Entry). l ++ stacked) (rest_passing o before (entry ws s.link) after parted (here ∙ y)) ∙
              append_assoc (rest o before) (entry ws s.link ∷ after) stacked ∙
              ap (λ (l : List Entry). rest o before ++ l) (sym next);
          shorter = shorter_left;
        }
      where
        next : waiting ws (set s.stack s.depth s.link) (s.depth + 1) ≡ entry ws s.link ∷ (after ++ stacked)
        next = pushed D.stands n m ∙ ap (λ (k : ℕ). entry ws s.link ∷ (listed max_height ws k ++ stacked)) (sym m.right_is)

-- The loop: what of the link i is above the last key is that of the side's link, and its stack.
pub record Filling (ws : List ℕ) (o : Option ℕ) (i : ℕ) (s : Side) : Type 0 where
  pub descends : Descends ws s
  pub keeps : rest o (listed max_height ws i) ≡ rest o (listed max_height ws s.link) ++ waiting ws s.stack s.depth

pub filling_start : {ws : List ℕ} {s : Side} (o : Option ℕ) → Descends ws s → s.depth ≡ 0 → Filling ws o s.link s
unfolding waiting
filling_start {ws} {s} o D e = record { descends = D; keeps = rw e (sym (append-nil (rest o (listed max_height ws s.link)))) }

pub filling_end : {ws : List ℕ} {o : Option ℕ} {i : ℕ} {s : Side} → Filling ws o i s → s.link ≡ 0 → Fills ws o i s
unfolding ahead
filling_end {ws} F e =
    record {
      at_end = e;
      stands = F.descends.stands;
      ahead_is = rw (e, listed_none max_height ws) (sym (F.keeps ∙ rw (e, listed_none max_height ws)));
    }
