-- A change of one node's words and of the head of the free list: what every reader sees of it.
use mathlib.Core.Path.{◌≡◌, refl, ◌∙◌}
use mathlib.Core.Logic.{◌⊎◌, inl, inr, ⊎_elim}
use mathlib.Core.List.{List, [], ◌∷◌}
use Prim.Native.Nat.{ℕ, ◌+◌, ◌*◌, ◌≤◌, ◌<◌}
use native.Mathlib.Omega.{arith}
use native.Mathlib.Decide.{dec_lt}
use lib.ListN.{length, get_or, set, length-set}
use lib.Seq.{get_or-set_same, get_or-set_other}
use Rattle.trees.specs.Tree.{Entry, Color}
use Rattle.words.specs.Layout.{nodes, slots, head, entry, left, right, color, count, code, slot_root, slot_size, node_words, slot_words, header_words, head_word, key_word, left_word, count_word, root_word, size_word}
use Rattle.words.specs.Counting.{occ}
use Rattle.words.specs.Owned.{kids, held, names, Shaped, Agree}
use Rattle.words.specs.Model.{storing, with_count, freeing, making}
use Rattle.words.proofs.Counts.{sum_same, sum_change}
use Rattle.words.proofs.Holding.{agree_left, agree_right}
use Rattle.words.proofs.Stores.{length_storing, storing_other, storing_here}

-- Every word outside the nodes is the same, but the head of the free list: N, V, the spare words, every slot.
pub record Outside (n : ℕ) (ws ws' : List ℕ) : Type 0 where
  pub long : length ws' ≡ length ws
  pub header : (k : ℕ) → k < header_words → (k ≡ head_word → ⊥) → get_or ws' k 0 ≡ get_or ws k 0
  pub after : (k : ℕ) → node_words * n + header_words ≤ k → get_or ws' k 0 ≡ get_or ws k 0

pub outside_refl : (n : ℕ) (ws : List ℕ) → Outside n ws ws
outside_refl n ws = record { long = refl; header = λ k p f. refl; after = λ k p. refl }

pub outside_trans : (n : ℕ) (a b c : List ℕ) → Outside n a b → Outside n b c → Outside n a c
outside_trans n a b c x y =
    record {
      long = y.long ∙ x.long;
      header = λ k p f. y.header k p f ∙ x.header k p f;
      after = λ k p. y.after k p ∙ x.after k p;
    }

module _ (n : ℕ) (ws ws' : List ℕ) (d : Outside n ws ws') where
  pub outside_nodes : nodes ws' ≡ nodes ws
  unfolding nodes
  outside_nodes = d.header 0 (omega arith) (λ e. omega arith)

  pub outside_slots : slots ws' ≡ slots ws
  unfolding slots
  outside_slots = d.header 1 (omega arith) (λ e. omega arith)

  pub outside_root : (s : ℕ) → slot_root n ws' s ≡ slot_root n ws s
  unfolding slot_root
  outside_root s = d.after (node_words * n + slot_words * s + root_word) (omega arith)

  pub outside_size : (s : ℕ) → slot_size n ws' s ≡ slot_size n ws s
  unfolding slot_size
  outside_size s = d.after (node_words * n + slot_words * s + size_word) (omega arith)

  pub outside_shaped : (v : ℕ) → Shaped n v ws → Shaped n v ws'
  outside_shaped v l =
      record { limits = rw d.long l.limits; n_is = outside_nodes ∙ l.n_is; v_is = outside_slots ∙ l.v_is }

  pub outside_held : (x s : ℕ) → held n ws' x s ≡ held n ws x s
  unfolding held
  outside_held x s = rw (outside_root s)

-- ws' differs from ws in the head of the free list and in the words of node i only.
pub record Only (i : ℕ) (ws ws' : List ℕ) : Type 0 where
  pub long : length ws' ≡ length ws
  pub kept : (k : ℕ) → (k ≡ head_word → ⊥) → (k < node_words * i + key_word) ⊎ (node_words * i + key_word + node_words ≤ k) → get_or ws' k 0 ≡ get_or ws k 0

module _ (i : ℕ) (ws ws' : List ℕ) (d : Only i ws ws') where
  pub only_node : (a x : ℕ) → node_words * i + key_word ≤ a → a < node_words * i + key_word + node_words → Only i ws (set ws' a x)
  only_node a x p q =
      record {
        long = length-set ws' a x ∙ d.long;
        kept = λ k f o. get_or-set_other ws' a k x 0 (λ e. ⊎_elim (λ l. omega arith) (λ l. omega arith) o) ∙ d.kept k f o;
      }

  pub only_head : (x : ℕ) → Only i ws (set ws' head_word x)
  only_head x =
      record { long = length-set ws' head_word x ∙ d.long; kept = λ k f o. get_or-set_other ws' head_word k x 0 f ∙ d.kept k f o }

only_refl : (i : ℕ) (ws : List ℕ) → Only i ws ws
only_refl i ws = record { long = refl; kept = λ k f o. refl }

module _ (n i : ℕ) (ws ws' : List ℕ) (d : Only i ws ws') (low : 1 ≤ i) (high : i ≤ n) where
  pub only_outside : Outside n ws ws'
  only_outside =
      record {
        long = d.long;
        header = λ k p f. d.kept k f (inl (omega arith));
        after = λ k p. d.kept k (λ e. omega arith) (inr (omega arith));
      }

  -- Another node keeps its words, its count among them.
  other_word : (j k : ℕ) → 1 ≤ j → (j ≡ i → ⊥) → key_word ≤ k → k ≤ count_word → Dec (j < i) →
      get_or ws' (node_words * j + k) 0 ≡ get_or ws (node_words * j + k) 0
  other_word j k o f p q (yes l) = d.kept (node_words * j + k) (λ e. omega arith) (inl (omega arith))
  other_word j k o f p q (no l) = d.kept (node_words * j + k) (λ e. omega arith) (inr (omega arith))

  pub only_agree : (j : ℕ) → 1 ≤ j → (j ≡ i → ⊥) → Agree ws ws' j
  only_agree j o f k p q = other_word j k o f p (omega arith) (dec_lt j i)

  pub only_count : (j : ℕ) → 1 ≤ j → (j ≡ i → ⊥) → count ws' j ≡ count ws j
  unfolding count
  only_count j o f = other_word j count_word o f (omega arith) (omega arith) (dec_lt j i)

  pub only_kids : (x j : ℕ) → 1 ≤ j → (j ≡ i → ⊥) → kids ws' x j ≡ kids ws x j
  unfolding kids
  only_kids x j p f = rw (only_count j p f, agree_left ws ws' j (only_agree j p f), agree_right ws ws' j (only_agree j p f))

  -- The names of x change by those of node i and by those of P.
  pub names_change : (v : ℕ) (P P' : List ℕ) (x : ℕ) →
      names n v ws' P' x + kids ws x i + occ x P ≡ names n v ws P x + kids ws' x i + occ x P'
  unfolding names
  names_change v P P' x =
      let a = sum_change (kids ws' x) (kids ws x) 1 n i low (omega arith) (λ j u w f. only_kids x j u f) in
      let b = sum_same (held n ws' x) (held n ws x) 0 v (λ s u w. outside_held n ws ws' only_outside x s) in
      omega arith

-- Node i goes to the front of the free list.
pub record Freed (i : ℕ) (ws ws' : List ℕ) : Type 0 where
  pub only : Only i ws ws'
  pub count_is : count ws' i ≡ 0
  pub next : left ws' i ≡ head ws
  pub head_is : head ws' ≡ i

-- Node i is taken from the front of the free list and written whole, with count 1.
pub record Made (i : ℕ) (c : Color) (l : ℕ) (e : Entry) (r : ℕ) (ws ws' : List ℕ) : Type 0 where
  pub only : Only i ws ws'
  pub count_is : count ws' i ≡ 1
  pub left_is : left ws' i ≡ l
  pub right_is : right ws' i ≡ r
  pub entry_is : entry ws' i ≡ e
  pub color_is : color ws' i ≡ code c
  pub head_is : head ws' ≡ left ws i

-- A word through a store elsewhere.
skip : (ws : List ℕ) (a x k y : ℕ) → (k ≡ a → ⊥) → get_or ws k 0 ≡ y → get_or (set ws a x) k 0 ≡ y
skip ws a x k y f e = get_or-set_other ws a k x 0 f ∙ e

module _ (i : ℕ) (ws : List ℕ) (low : 1 ≤ i) (inside : node_words * i + header_words ≤ length ws) where
  pub count_only : (c : ℕ) → Only i ws (with_count ws i c)
  unfolding with_count
  count_only c = only_node i ws ws (only_refl i ws) (node_words * i + count_word) c (omega arith) (omega arith)

  pub count_words : (c : ℕ) → Agree ws (with_count ws i c) i
  unfolding with_count
  count_words c k p q = skip ws (node_words * i + count_word) c (node_words * i + k) _ (λ e. omega arith) refl

  pub count_head : (c : ℕ) → head (with_count ws i c) ≡ head ws
  unfolding with_count head
  count_head c = skip ws (node_words * i + count_word) c head_word _ (λ e. omega arith) refl

  pub count_here : (c : ℕ) → count (with_count ws i c) i ≡ c
  unfolding with_count count
  count_here c = get_or-set_same ws (node_words * i + count_word) c 0 (omega arith)

  pub is_freed : Freed i ws (freeing ws i)
  unfolding freeing count left head
  is_freed =
      let a = node_words * i + count_word in
      let b = node_words * i + left_word in
      let w1 = set ws a 0 in
      let w2 = set w1 b (head ws) in
      let l1 : length w1 ≡ length ws = length-set ws a 0 in
      let l2 : length w2 ≡ length w1 = length-set w1 b (head ws) in
      let d1 = only_node i ws ws (only_refl i ws) a 0 (omega arith) (omega arith) in
      let d2 = only_node i ws w1 d1 b (head ws) (omega arith) (omega arith) in
      record {
        only = only_head i ws w2 d2 i;
        count_is = skip w2 head_word i a 0 (λ e. omega arith) (skip w1 b (head ws) a 0 (λ e. omega arith) (get_or-set_same ws a 0 0 (omega arith)));
        next = skip w2 head_word i b (head ws) (λ e. omega arith) (get_or-set_same w1 b (head ws) 0 (omega arith));
        head_is = get_or-set_same w2 head_word i 0 (omega arith);
      }

module _ (ws : List ℕ) (low : 1 ≤ head ws) (inside : node_words * head ws + header_words ≤ length ws) (c : Color) (l : ℕ) (e : Entry) (r : ℕ) where
  pub is_made : Made (head ws) c l e r ws (making ws c l e r)
  unfolding making count left right entry color head
  is_made =
      let a = node_words * head ws in
      let xs = e.key ∷ (e.value ∷ (l ∷ (r ∷ (code c ∷ (1 ∷ []))))) in
      let w = set ws head_word (left ws (head ws)) in
      let long : length w ≡ length ws = length-set ws head_word (left ws (head ws)) in
      let word : (j : ℕ) → j < node_words → get_or (storing w a key_word xs) (a + (key_word + j)) 0 ≡ get_or xs j 0 = λ j p. storing_here w a key_word xs j p (omega arith) in
      record {
        only = record {
          long = length_storing w a key_word xs ∙ long;
          kept = λ k f o. storing_other w a key_word xs k o ∙ get_or-set_other ws head_word k (left ws (head ws)) 0 f;
        };
        count_is = word 5 (omega arith);
        left_is = word 2 (omega arith);
        right_is = word 3 (omega arith);
        entry_is = rw (word 0 (omega arith), word 1 (omega arith));
        color_is = word 4 (omega arith);
        head_is = storing_other w a key_word xs head_word (inl (omega arith)) ∙ get_or-set_same ws head_word (left ws (head ws)) 0 (omega arith);
      }
