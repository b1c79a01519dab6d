-- The stores of `count_up` and `make_node` are their models.
use mathlib.Core.Path.{◌≡◌, refl}
use mathlib.Core.Logic.{◌⊎◌, inl, inr, ⊎_elim}
use mathlib.Core.List.{List, [], ◌∷◌}
use Prim.Native.Nat.{ℕ, zero, suc, ◌+◌, ◌*◌, ◌^◌, ◌<◌}
use native.Mathlib.Omega.{arith}
use lib.ListN.{length, get_or, set}
use Rattle.trees.specs.Tree.{Color, Tree}
use Rattle.words.specs.Layout.{head, left, count, code, node_words, head_word, key_word, left_word}
use Rattle.words.specs.Owned.{Live, Owned}
use Rattle.words.specs.Model.{storing, with_count, raising, making}
use Rattle.words.proofs.OwnedLaws.{count_small}
use Rattle.words.proofs.Recounting.{owned_long}
use Rattle.nodes.specs.Promises.{Raisable, Any}

pub raised_none : (ws : List ℕ) (i : ℕ) → i ≡ 0 → ws ≡ raising ws i
unfolding raising
raised_none ws i e = rw e

pub raised_node : (ws ws' : List ℕ) (i c : ℕ) → (i ≡ 0 → ⊥) → c ≡ count ws i → ws' ≡ with_count ws i (c + 1) → ws' ≡ raising ws i
unfolding raising
raised_node ws ws' zero c f e w = absurd (f refl)
raised_node ws ws' (suc i) c f e w = rw (w, e)

pub written_is : (ws : List ℕ) (i k v l r x : ℕ) → i ≡ head ws → (c : Color) → x ≡ code c →
    storing (set ws head_word (get_or ws (node_words * i + left_word) 0)) (node_words * i) key_word (k ∷ (v ∷ (l ∷ (r ∷ (x ∷ (1 ∷ []))))))
    ≡ making ws c l (record { key = k; value = v }) r
unfolding making left head
written_is ws i k v l r x e c h = rw (e, h)

-- What is owned is owned with any tree in any slot, which is all that the functions below ask.
pub owned_any : (Valid : ℕ → Tree → ℕ → Type 0) (n v : ℕ) (ws P : List ℕ) → Owned Valid n v ws P → Owned Any n v ws P
owned_any Valid n v ws P o =
    record {
      shaped = o.shaped;
      bound = o.bound;
      trees = o.trees;
      counts = o.counts;
      pending = o.pending;
      free = o.free;
      chain = o.chain;
      frees = o.frees;
      versions = λ s h. ⊎_elim (λ e. inl e) (λ w. inr (w.0, w.1, tt)) (o.versions s h);
    }

-- "at most 2·N + V names": the count of a link that a call may raise stays far below what 32 bits hold.
pub owned_raisable : (Valid : ℕ → Tree → ℕ → Type 0) (n v : ℕ) (ws P : List ℕ) (i : ℕ) → Owned Valid n v ws P → (i ≡ 0) ⊎ Live n ws i →
    length P < 2 ^ 31 → Raisable ws i
owned_raisable Valid n v ws P i o (inl e) h =
    record { inside = omega (arith, owned_long Valid n v ws P o); room = λ p. absurd (omega arith) }
owned_raisable Valid n v ws P i o (inr l) h =
    let b = o.shaped.limits in
    record {
      inside = omega (arith, owned_long Valid n v ws P o, l.1);
      room = λ p. omega (arith, count_small Valid n v ws P o i p l.1, b.n_high, b.v_high);
    }
