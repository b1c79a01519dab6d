-- Format's outcome exists, for all lawful N and V and any old contents: the words that it leaves, written out.
use mathlib.Core.Path.{◌≡◌, refl, ap, ◌∙◌}
use mathlib.Core.List.{List, [], ◌∷◌, ◌++◌}
use Prim.Native.Nat.{ℕ, zero, suc, ◌+◌, ◌-◌, ◌*◌, ◌≤◌, ◌<◌}
use native.Mathlib.Omega.{arith}
use lib.ListN.{length, get_or, length-append, get_or-append}
use lib.Seq.{get_or-append-add}
use Rattle.words.specs.Layout.{nodes, slots, head, left, count, slot_root, slot_size, not_held, node_words, slot_words, header_words, head_word, key_word, value_word, left_word, right_word, color_word, count_word}
use Rattle.words.specs.Counting.{run}
use Rattle.words.specs.Sound.{Limits, Chain}
use Rattle.calls.specs.Call.{Call, Answer}
use Rattle.calls.specs.Writing.{Formatted}
use Rattle.calls.specs.Outcome.{Outcome}
use Rattle.calls.proofs.WritingOutcomes.{format_outcome}

-- The next of m nodes from number a on that is free: a where there is one, else none.
next_free : ℕ → ℕ → ℕ
next_free a zero = 0
next_free a (suc m) = a

-- Node a with the number of the next free node, and so on for m nodes in all.
node_parts : List ℕ → ℕ → ℕ → List ℕ
node_parts ws a zero = []
node_parts ws a (suc m) =
    get_or ws (node_words * a + key_word) 0
    ∷ (get_or ws (node_words * a + value_word) 0
    ∷ (next_free (suc a) m
    ∷ (get_or ws (node_words * a + right_word) 0 ∷ (get_or ws (node_words * a + color_word) 0 ∷ (0 ∷ node_parts ws (suc a) m)))))

slot_parts : ℕ → List ℕ
slot_parts zero = []
slot_parts (suc v) = not_held ∷ (0 ∷ slot_parts v)

pub formatting : ℕ → ℕ → List ℕ → List ℕ
formatting n v ws = n ∷ (v ∷ (1 ∷ (0 ∷ (0 ∷ (0 ∷ (0 ∷ (0 ∷ (node_parts ws 1 n ++ slot_parts v))))))))

length_nodes : (ws : List ℕ) (a m : ℕ) → length (node_parts ws a m) ≡ node_words * m
unfolding node_parts
length_nodes ws a zero = refl
length_nodes ws a (suc m) = omega (arith, length_nodes ws (suc a) m)

length_slots : (v : ℕ) → length (slot_parts v) ≡ slot_words * v
unfolding slot_parts
length_slots zero = refl
length_slots (suc v) = omega (arith, length_slots v)

-- Word c of the node that j nodes come before and r after, and of the slot that s slots come before.
node_part : (ws : List ℕ) (a j r c : ℕ) → get_or (node_parts ws a (j + suc r)) (node_words * j + c) 0 ≡ get_or (node_parts ws (j + a) (suc r)) c 0
unfolding node_parts
node_part ws a zero r c =
    let e : zero + suc r ≡ suc r = omega arith in
    let f : node_words * zero + c ≡ c = omega arith in
    let g : a ≡ zero + a = omega arith in
    ap (λ (m : ℕ). get_or (node_parts ws a m) (node_words * zero + c) 0) e ∙ ap (λ (k : ℕ). get_or (node_parts ws a (suc r)) k 0) f ∙
    ap (λ (b : ℕ). get_or (node_parts ws b (suc r)) c 0) g
node_part ws a (suc j) r c =
    let e : suc j + suc r ≡ suc (j + suc r) = omega arith in
    let f : node_words * suc j + c ≡ suc (suc (suc (suc (suc (suc (node_words * j + c)))))) = omega arith in
    let g : j + suc a ≡ suc j + a = omega arith in
    ap (λ (m : ℕ). get_or (node_parts ws a m) (node_words * suc j + c) 0) e ∙ ap (λ (k : ℕ). get_or (node_parts ws a (suc (j + suc r))) k 0) f ∙
    node_part ws (suc a) j r c ∙ ap (λ (b : ℕ). get_or (node_parts ws b (suc r)) c 0) g

slot_part : (v s c : ℕ) → s < v → c < slot_words → get_or (slot_parts v) (slot_words * s + c) 0 ≡ get_or (not_held ∷ (0 ∷ [])) c 0
unfolding slot_parts
slot_part zero s c h b = absurd (omega arith)
slot_part (suc v) zero zero h b = refl
slot_part (suc v) zero (suc zero) h b = refl
slot_part (suc v) zero (suc (suc c)) h b = absurd (omega arith)
slot_part (suc v) (suc s) c h b =
    let f : slot_words * suc s + c ≡ suc (suc (slot_words * s + c)) = omega arith in rw f (slot_part v s c (omega arith) b)

module _ (n v : ℕ) (ws : List ℕ) where
  abbrev ws' : List ℕ
  ws' = formatting n v ws

  node_word : (j r c : ℕ) → n ≡ j + suc r → c < node_words → get_or ws' (node_words * suc j + (key_word + c)) 0 ≡ get_or (node_parts ws (suc j) (suc r)) c 0
  unfolding formatting
  node_word j r c e b =
      let f : node_words * suc j + (key_word + c) ≡ suc (suc (suc (suc (suc (suc (suc (suc (node_words * j + c)))))))) = omega arith in
      let g : j + 1 ≡ suc j = omega arith in
      rw
      f
      (get_or-append (node_parts ws 1 n) (slot_parts v) 0 (node_words * j + c) (omega (arith, length_nodes ws 1 n)) ∙
      rw (e, ← g) (node_part ws 1 j r c))

  slot_word : (s c : ℕ) → s < v → c < slot_words → get_or ws' (node_words * n + slot_words * s + (header_words + c)) 0 ≡ get_or (not_held ∷ (0 ∷ [])) c 0
  unfolding formatting
  slot_word s c h b =
      let l = length_nodes ws 1 n in
      let f : node_words * n + slot_words * s + (header_words + c) ≡ suc (suc (suc (suc (suc (suc (suc (suc (length (node_parts ws 1 n) + (slot_words * s + c))))))))) = omega arith in
      rw f (get_or-append-add (node_parts ws 1 n) (slot_parts v) (slot_words * s + c) 0 ∙ slot_part v s c h b)

  left_named : (j r : ℕ) → n ≡ j + suc r → left ws' (suc j) ≡ next_free (suc (suc j)) r
  unfolding left node_parts
  left_named j r e = node_word j r 2 e (omega arith)

  chain_run : (m j : ℕ) → n ≡ j + m → Chain n ws' (next_free (suc j) m) (run (suc j) m)
  unfolding next_free run
  chain_run zero j e = refl
  chain_run (suc r) j e = (refl, omega arith, omega arith, rw (left_named j r e) (chain_run r (suc j) (omega arith)))

  -- The nodes behind node i.
  abbrev Behind : ℕ → Type 0
  Behind i = (r : ℕ) × (n ≡ i + r)

  behind : (i : ℕ) → i ≤ n → Behind i
  behind i h = (n - i, omega arith)

  format_count : (i : ℕ) → 1 ≤ i → i ≤ n → count ws' i ≡ 0
  unfolding count node_parts
  format_count zero p q = absurd (omega arith)
  format_count (suc j) p q = let b = behind (suc j) q in node_word j b.0 5 (omega (arith, b.1)) (omega arith)

  kept_word : (j c : ℕ) → suc j ≤ n → c < 5 → (c ≡ 2 → ⊥) → get_or ws' (node_words * suc j + (key_word + c)) 0 ≡ get_or ws (node_words * suc j + (key_word + c)) 0
  unfolding node_parts
  kept_word j zero q l f = let b = behind (suc j) q in node_word j b.0 0 (omega (arith, b.1)) (omega arith)
  kept_word j (suc zero) q l f = let b = behind (suc j) q in node_word j b.0 1 (omega (arith, b.1)) (omega arith)
  kept_word j (suc (suc zero)) q l f = absurd (f refl)
  kept_word j (suc (suc (suc zero))) q l f = let b = behind (suc j) q in node_word j b.0 3 (omega (arith, b.1)) (omega arith)
  kept_word j (suc (suc (suc (suc zero)))) q l f = let b = behind (suc j) q in node_word j b.0 4 (omega (arith, b.1)) (omega arith)
  kept_word j (suc (suc (suc (suc (suc c))))) q l f = absurd (omega arith)

  format_kept : (i k : ℕ) → 1 ≤ i → i ≤ n → key_word ≤ k → k < count_word → (k ≡ left_word → ⊥) → get_or ws' (node_words * i + k) 0 ≡ get_or ws (node_words * i + k) 0
  format_kept zero k p q a b f = absurd (omega arith)
  format_kept (suc j) zero p q a b f = absurd (omega arith)
  format_kept (suc j) (suc zero) p q a b f = absurd (omega arith)
  format_kept (suc j) (suc (suc c)) p q a b f =
      let e : suc (suc c) ≡ key_word + c = omega arith in
      rw e (kept_word j c q (omega arith) (λ z. f (omega arith)))

  format_spares : (k : ℕ) → head_word < k → k < header_words → get_or ws' k 0 ≡ 0
  unfolding formatting
  format_spares zero p q = absurd (omega arith)
  format_spares (suc zero) p q = absurd (omega arith)
  format_spares (suc (suc zero)) p q = absurd (omega arith)
  format_spares (suc (suc (suc zero))) p q = refl
  format_spares (suc (suc (suc (suc zero)))) p q = refl
  format_spares (suc (suc (suc (suc (suc zero))))) p q = refl
  format_spares (suc (suc (suc (suc (suc (suc zero)))))) p q = refl
  format_spares (suc (suc (suc (suc (suc (suc (suc zero))))))) p q = refl
  format_spares (suc (suc (suc (suc (suc (suc (suc (suc k)))))))) p q = absurd (omega arith)

  format_not_held : (s : ℕ) → s < v → (slot_root n ws' s ≡ not_held) × (slot_size n ws' s ≡ 0)
  unfolding slot_root slot_size
  format_not_held s h = (slot_word s 0 h (omega arith), slot_word s 1 h (omega arith))

  first_free : 1 ≤ n → next_free 1 n ≡ 1
  unfolding next_free
  first_free h = go n h
    where
      go : (m : ℕ) → 1 ≤ m → next_free 1 m ≡ 1
      go zero h = absurd (omega arith)
      go (suc m) h = refl

  pub is_formatted : Limits n v (length ws) → Formatted n v ws Answer.done ws'
  unfolding formatting nodes slots head
  is_formatted l =
      record {
        limits = l;
        answer = refl;
        long = omega (arith, length-append (node_parts ws 1 n) (slot_parts v), length_nodes ws 1 n, length_slots v, l.long_is);
        n_is = refl;
        v_is = refl;
        spares = format_spares;
        free_listed = rw (first_free l.n_low) at (chain_run n 0 (omega arith));
        counts = format_count;
        kept = format_kept;
        unheld = format_not_held;
      }

  pub format_exists : Limits n v (length ws) → Outcome (Call.format n v) ws Answer.done (formatting n v ws)
  format_exists l = format_outcome (is_formatted l)
