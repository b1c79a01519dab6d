-- The nodes go to the free list one by one, from the last to the first.
use mathlib.Core.Path.{◌≡◌, refl, ◌∙◌}
use mathlib.Core.List.{List}
use Prim.Native.Nat.{ℕ, zero, suc, ◌+◌, ◌-◌, ◌*◌, ◌≤◌, ◌<◌}
use native.Mathlib.Omega.{arith}
use native.Mathlib.Decide.{ℕ_discrete}
use lib.ListN.{get_or, set}
use lib.Seq.{get_or-set_other}
use Rattle.words.specs.Layout.{head, left, count, node_words, head_word, left_word, count_word}
use Rattle.words.specs.Counting.{run}
use Rattle.words.specs.Sound.{Chain}
use Rattle.words.specs.Model.{freeing}
use Rattle.words.proofs.Changes.{Freed, is_freed}
use Rattle.arena.specs.Nodes.{NodeInside}
use Rattle.formatting.specs.Steps.{Spared, FreeAbove}

-- A run of nodes stays listed where their left words are kept.
pub run_kept : (n : ℕ) (ws ws' : List ℕ) (a m h : ℕ) → ((f : ℕ) → a ≤ f → f ≤ n → left ws' f ≡ left ws f) → Chain n ws h (run a m) →
    Chain n ws' h (run a m)
unfolding run
run_kept n ws ws' a zero h k c = c
run_kept n ws ws' a (suc m) h k c = (
  c.0,
  c.1,
  c.2,
  rw (k a (omega arith) c.2) (run_kept n ws ws' (suc a) m (left ws a) (λ f p q. k f (omega arith) q) c.3),
)

-- Freeing node i writes three words.
freeing_kept : (i : ℕ) (ws : List ℕ) (k : ℕ) → (k ≡ head_word → ⊥) → (k ≡ node_words * i + left_word → ⊥) → (k ≡ node_words * i + count_word → ⊥) →
    get_or (freeing ws i) k 0 ≡ get_or ws k 0
unfolding freeing
freeing_kept i ws k e f g =
    let w1 = set ws (node_words * i + count_word) 0 in
    let w2 = set w1 (node_words * i + left_word) (head ws) in
    get_or-set_other w2 head_word k i 0 e ∙ get_or-set_other w1 (node_words * i + left_word) k (head ws) 0 f ∙
    get_or-set_other ws (node_words * i + count_word) k 0 0 g

pub free_start : {n : ℕ} {ws : List ℕ} → head ws ≡ 0 → FreeAbove n n ws ws
unfolding run
free_start {n} {ws} e =
    let none : n - n ≡ 0 = omega arith in
    record {
      inside = omega arith;
      long = refl;
      chain = rw none e;
      counts = λ j p q. absurd (omega arith);
      kept = λ k s. refl;
    }

module _ {i n : ℕ} {ws ws' : List ℕ} (k : FreeAbove i n ws ws') where
  pub free_inside : NodeInside ws n → NodeInside ws' i
  free_inside h = omega (arith, k.inside, k.long)

  pub free_end : i < 1 → FreeAbove 0 n ws ws'
  free_end l = let e : 0 ≡ i = omega arith in rw e k

-- Node j + 1 goes to the front.
module _ (j n : ℕ) (ws ws' : List ℕ) (k : FreeAbove (suc j) n ws ws') (h : NodeInside ws n) where
  abbrev after : List ℕ
  after = freeing ws' (suc j)

  freed : Freed (suc j) ws' after
  freed = is_freed (suc j) ws' (omega arith) (free_inside k h)

  other_left : (f : ℕ) → suc (suc j) ≤ f → left after f ≡ left ws' f
  unfolding left
  other_left f p = freeing_kept (suc j) ws' (node_words * f + left_word) (λ e. omega arith) (λ e. omega arith) (λ e. omega arith)

  other_count : (f : ℕ) → suc (suc j) ≤ f → count after f ≡ count ws' f
  unfolding count
  other_count f p = freeing_kept (suc j) ws' (node_words * f + count_word) (λ e. omega arith) (λ e. omega arith) (λ e. omega arith)

  front : Chain n after (head after) (run (j + 1) (n - j))
  unfolding run
  front =
      let m : n - j ≡ suc (n - suc j) = omega (arith, k.inside) in
      let s : j + 1 ≡ suc j = omega arith in
      let t : suc j + 1 ≡ suc (suc j) = omega arith in
      let old : Chain n ws' (head ws') (run (suc (suc j)) (n - suc j)) = rw (← t) k.chain in
      rw (m, s) (
        freed.head_is,
        omega arith,
        k.inside,
        rw freed.next (run_kept n ws' after (suc (suc j)) (n - suc j) (head ws') (λ f p q. other_left f p) old),
      )

  front_counts : (f : ℕ) → j < f → f ≤ n → count after f ≡ 0
  front_counts f p q = go (ℕ_discrete f (suc j))
    where
      go : Dec (f ≡ suc j) → count after f ≡ 0
      go (yes e) = rw e freed.count_is
      go (no g) = other_count f (omega arith) ∙ k.counts f (omega arith) q

  front_kept : (a : ℕ) → Spared j a → get_or after a 0 ≡ get_or ws a 0
  front_kept a s =
      freeing_kept (suc j) ws' a s.head (s.left (suc j) (omega arith)) (s.count (suc j) (omega arith)) ∙
      k.kept a (record { head = s.head; left = λ f p. s.left f (omega arith); count = λ f p. s.count f (omega arith) })

  one_more : FreeAbove j n ws after
  one_more =
      record {
        inside = omega (arith, k.inside);
        long = freed.only.long ∙ k.long;
        chain = front;
        counts = front_counts;
        kept = front_kept;
      }

pub free_more : {i n : ℕ} {ws ws' after : List ℕ} → FreeAbove i n ws ws' → 0 < i → NodeInside ws n → after ≡ freeing ws' i →
    FreeAbove (i - 1) n ws after
free_more {i} {n} {ws} {ws'} k l h e = rw e (go i k l)
  where
    go : (i : ℕ) → FreeAbove i n ws ws' → 0 < i → FreeAbove (i - 1) n ws (freeing ws' i)
    go zero k l = absurd (omega arith)
    go (suc j) k l = let s : suc j - 1 ≡ j = omega arith in rw s (one_more j n ws ws' k h)
