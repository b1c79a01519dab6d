-- Two formats of the same words leave equal words: every word is given.
use mathlib.Core.Path.{◌≡◌, sym, ◌∙◌, subst}
use mathlib.Core.List.{List}
use Prim.Native.Nat.{ℕ, zero, suc, ◌+◌, ◌-◌, ◌*◌, ◌/◌, ◌%◌, ◌≤◌, ◌<◌}
use native.Mathlib.Omega.{arith}
use native.Mathlib.Decide.{ℕ_discrete, dec_lt}
use native.Mathlib.Nat.{div-add-mod', mod-lt}
use lib.ListN.{length, get_or}
use lib.Seq.{ext_get_or}
use Rattle.words.specs.Layout.{nodes, slots, head, left, count, slot_root, slot_size, node_words, slot_words, header_words, key_word, left_word, count_word, root_word}
use Rattle.words.specs.Counting.{run}
use Rattle.words.specs.Sound.{Chain}
use Rattle.calls.specs.Call.{Answer}
use Rattle.calls.specs.Writing.{Formatted}

-- Where two arenas list the same run of nodes, the links between them are the same.
module _ (n : ℕ) (w w' : List ℕ) where
  chain_start : (i i' a m : ℕ) → Chain n w i (run a m) → Chain n w' i' (run a m) → i' ≡ i
  unfolding run
  chain_start i i' a zero c c' = c' ∙ sym c
  chain_start i i' a (suc m) c c' = c'.0 ∙ sym c.0

  chain_links : (i i' a m j : ℕ) → Chain n w i (run a m) → Chain n w' i' (run a m) → a ≤ j → j < a + m → left w' j ≡ left w j
  unfolding run
  chain_links i i' a zero j c c' p q = absurd (omega arith)
  chain_links i i' a (suc m) j c c' p q =
      go (ℕ_discrete a j) (λ l. chain_links (left w a) (left w' a) (suc a) m j c.3 c'.3 l (omega arith))
    where
      go : Dec (a ≡ j) → (suc a ≤ j → left w' j ≡ left w j) → left w' j ≡ left w j
      go (yes e) ih = subst (λ (x : ℕ). left w' x ≡ left w x) e (chain_start (left w a) (left w' a) (suc a) m c.3 c'.3)
      go (no f) ih = ih (omega arith)

module _ {n v : ℕ} {ws w w' : List ℕ} {a b : Answer} (f : Formatted n v ws a w) (g : Formatted n v ws b w') where
  header_word : (k : ℕ) → k < header_words → get_or w' k 0 ≡ get_or w k 0
  unfolding nodes slots head
  header_word zero p = g.n_is ∙ sym f.n_is
  header_word (suc zero) p = g.v_is ∙ sym f.v_is
  header_word (suc (suc zero)) p = chain_start n w w' (head w) (head w') 1 n f.free_listed g.free_listed
  header_word (suc (suc (suc k))) p =
      g.spares (suc (suc (suc k))) (omega arith) p ∙ sym (f.spares (suc (suc (suc k))) (omega arith) p)

  node_word : (i k : ℕ) → 1 ≤ i → i ≤ n → key_word ≤ k → k ≤ count_word → Dec (k ≡ left_word) → Dec (k ≡ count_word) →
      get_or w' (node_words * i + k) 0 ≡ get_or w (node_words * i + k) 0
  unfolding left count
  node_word i k p q l h (yes e) d = rw e (chain_links n w w' (head w) (head w') 1 n i f.free_listed g.free_listed p (omega arith))
  node_word i k p q l h (no e) (yes d) = rw d (g.counts i p q ∙ sym (f.counts i p q))
  node_word i k p q l h (no e) (no d) = g.kept i k p q l (omega arith) e ∙ sym (f.kept i k p q l (omega arith) e)

  slot_word : (s k : ℕ) → s < v → k < slot_words → get_or w' (node_words * n + slot_words * s + (root_word + k)) 0 ≡ get_or w (node_words * n + slot_words * s + (root_word + k)) 0
  unfolding slot_root slot_size
  slot_word s zero p q = (g.unheld s p).0 ∙ sym (f.unheld s p).0
  slot_word s (suc zero) p q = (g.unheld s p).1 ∙ sym (f.unheld s p).1
  slot_word s (suc (suc k)) p q = absurd (omega arith)

  in_node : (k : ℕ) → header_words ≤ k → k < node_words * n + header_words → get_or w' k 0 ≡ get_or w k 0
  in_node k p q =
      let i = (k - key_word) / node_words in
      let c = (k - key_word) % node_words in
      let m : c < node_words = mod-lt (k - key_word) (omega arith) in
      let d = div-add-mod' (k - key_word) node_words in
      let e : k ≡ node_words * i + (key_word + c) = omega arith in
      rw e (node_word i (key_word + c) (omega arith) (omega arith) (omega arith) (omega arith) (ℕ_discrete (key_word + c) left_word) (ℕ_discrete (key_word + c) count_word))

  in_slot : (k : ℕ) → node_words * n + header_words ≤ k → k < node_words * n + slot_words * v + header_words → get_or w' k 0 ≡ get_or w k 0
  in_slot k p q =
      let x = k - (node_words * n + header_words) in
      let s = x / slot_words in
      let c = x % slot_words in
      let m : c < slot_words = mod-lt x (omega arith) in
      let d = div-add-mod' x slot_words in
      let e : k ≡ node_words * n + slot_words * s + (root_word + c) = omega arith in
      rw e (slot_word s c (omega arith) m)

  word : (k : ℕ) → k < length w' → Dec (k < header_words) → Dec (k < node_words * n + header_words) → get_or w' k 0 ≡ get_or w k 0
  word k l (yes p) q = header_word k p
  word k l (no p) (yes q) = in_node k (omega arith) q
  word k l (no p) (no q) = in_slot k (omega arith) (omega (arith, g.long, g.limits.long_is))

  pub same_format : w ≡ w'
  same_format =
      sym (ext_get_or 0 w' w (g.long ∙ sym f.long) (λ k l. word k l (dec_lt k header_words) (dec_lt k (node_words * n + header_words))))
