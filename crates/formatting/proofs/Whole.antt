-- The three steps, one after the other, make format's outcome.
use mathlib.Core.Path.{◌≡◌, refl, ◌∙◌}
use mathlib.Core.Logic.{inr}
use mathlib.Core.Bool.{Bool, true, false}
use mathlib.Core.List.{List}
use Prim.Native.Nat.{ℕ, zero, suc, ◌+◌, ◌-◌, ◌*◌, ◌≤◌, ◌<◌}
use native.Mathlib.Omega.{arith}
use lib.ListN.{length, get_or}
use Rattle.words.specs.Layout.{nodes, slots, head, left, count, node_words, header_words, head_word, key_word, left_word, count_word, arena_words}
use Rattle.words.specs.Counting.{run}
use Rattle.words.specs.Sound.{Limits, Chain}
use Rattle.words.proofs.Stores.{length_storing, storing_other, storing_here}
use Rattle.arena.specs.Nodes.{NodeInside}
use Rattle.soundness_laws.specs.Answer.{Decides}
use Rattle.calls.specs.Refusal.{Refusal}
use Rattle.calls.specs.Call.{Call, Answer}
use Rattle.calls.specs.Outcome.{Outcome}
use Rattle.calls.specs.Writing.{Formatted}
use Rattle.calls.proofs.WritingOutcomes.{format_outcome, bad_shape_outcome}
use Rattle.formatting.specs.Steps.{header, Headed, Spared, FreeAbove, EmptyBelow}
use Rattle.formatting.proofs.Listed.{run_kept}

header_zero : (n v k : ℕ) → head_word ≤ k → get_or (header n v) k 0 ≡ 0
header_zero n v zero p = absurd (omega arith)
header_zero n v (suc zero) p = absurd (omega arith)
header_zero n v (suc (suc zero)) p = refl
header_zero n v (suc (suc (suc zero))) p = refl
header_zero n v (suc (suc (suc (suc zero)))) p = refl
header_zero n v (suc (suc (suc (suc (suc zero))))) p = refl
header_zero n v (suc (suc (suc (suc (suc (suc zero)))))) p = refl
header_zero n v (suc (suc (suc (suc (suc (suc (suc zero))))))) p = refl
header_zero n v (suc (suc (suc (suc (suc (suc (suc (suc k)))))))) p = refl

-- Freeing nodes writes only the head of the header, and no key, value, right link or colour.
header_spared : (k : ℕ) → k < header_words → (k ≡ head_word → ⊥) → Spared 0 k
header_spared k p f = record { head = f; left = λ j l e. omega arith; count = λ j l e. omega arith }

node_spared : (i k : ℕ) → 1 ≤ i → key_word ≤ k → k < count_word → (k ≡ left_word → ⊥) → Spared 0 (node_words * i + k)
node_spared i k o p q f = record { head = λ e. omega arith; left = λ j l e. f (omega arith); count = λ j l e. omega arith }

-- What the test of the shape lets the steps know.
pub format_refused : {n v : ℕ} {ws : List ℕ} {r : Bool} → Decides r (Limits n v (length ws)) → r ≡ false →
    Outcome (Call.format n v) ws (Answer.refused Refusal.bad_shape) ws
format_refused {r = r} d t = bad_shape_outcome (d.no t)

pub header_inside : {n v long : ℕ} {r : Bool} → Decides r (Limits n v long) → r ≡ true → header_words ≤ long
header_inside {r = r} d t = omega (arith, (d.yes t).long_is)

module _ {n v : ℕ} {ws w1 : List ℕ} {r : Bool} (d : Decides r (Limits n v (length ws))) (t : r ≡ true) (e : Headed n v ws w1) where
  abbrev lawful : Limits n v (length ws)
  lawful = d.yes t

  headed_long : length w1 ≡ length ws
  headed_long = rw e.is (length_storing ws 0 0 (header n v))

  headed_word : (k : ℕ) → k < header_words → get_or w1 k 0 ≡ get_or (header n v) k 0
  headed_word k p =
      let z : 0 + (0 + k) ≡ k = omega arith in
      rw e.is (rw z at (storing_here ws 0 0 (header n v) k p (omega (arith, lawful.long_is))))

  pub nodes_inside : NodeInside w1 n
  nodes_inside = omega (arith, headed_long, lawful.long_is)

  pub none_free : head w1 ≡ 0
  unfolding head
  none_free = headed_word head_word (omega arith)

  module _ {w2 : List ℕ} (f : FreeAbove 0 n w1 w2) where
    pub slots_inside : arena_words n v ≤ length w2
    slots_inside = omega (arith, headed_long, f.long, lawful.long_is)

    module _ {w3 : List ℕ} (g : EmptyBelow v n w2 w3) where
      header_word : (k : ℕ) → k < header_words → (k ≡ head_word → ⊥) → get_or w3 k 0 ≡ get_or (header n v) k 0
      header_word k p z = g.kept k (omega arith) ∙ f.kept k (header_spared k p z) ∙ headed_word k p

      same_left : (i : ℕ) → i ≤ n → left w3 i ≡ left w2 i
      unfolding left
      same_left i p = g.kept (node_words * i + left_word) (omega arith)

      same_count : (i : ℕ) → i ≤ n → count w3 i ≡ count w2 i
      unfolding count
      same_count i p = g.kept (node_words * i + count_word) (omega arith)

      same_head : head w3 ≡ head w2
      unfolding head
      same_head = g.kept head_word (omega arith)

      listed : Chain n w3 (head w3) (run 1 n)
      listed =
          let all : n - 0 ≡ n = omega arith in
          rw same_head (run_kept n w2 w3 1 n (head w2) (λ i p q. same_left i q) (rw all at f.chain))

      node_kept : (i k : ℕ) → 1 ≤ i → i ≤ n → key_word ≤ k → k < count_word → (k ≡ left_word → ⊥) →
          get_or w3 (node_words * i + k) 0 ≡ get_or ws (node_words * i + k) 0
      node_kept i k o p a b z =
          g.kept (node_words * i + k) (omega arith) ∙ f.kept (node_words * i + k) (node_spared i k o a b z) ∙
          rw e.is (storing_other ws 0 0 (header n v) (node_words * i + k) (inr (omega arith)))

      whole : Formatted n v ws Answer.done w3
      unfolding nodes slots
      whole =
          record {
            limits = lawful;
            answer = refl;
            long = g.long ∙ f.long ∙ headed_long;
            n_is = header_word 0 (omega arith) (λ z. omega arith);
            v_is = header_word 1 (omega arith) (λ z. omega arith);
            spares = λ k p q. header_word k q (λ z. omega arith) ∙ header_zero n v k (omega arith);
            free_listed = listed;
            counts = λ i o p. same_count i p ∙ f.counts i o p;
            kept = node_kept;
            unheld = g.empty;
          }

      pub format_done : Outcome (Call.format n v) ws Answer.done w3
      format_done = format_outcome whole
