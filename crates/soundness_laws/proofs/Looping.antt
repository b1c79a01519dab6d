-- The two loops: over the slots, and over the queue.
use mathlib.Core.Path.{◌≡◌, refl, ◌∙◌}
use mathlib.Core.List.{List}
use Prim.Native.Nat.{ℕ, ◌+◌}
use lib.ListN.{length}
use Rattle.std.specs.Prelude.{Some}
use Rattle.words.specs.Layout.{slots}
use Rattle.soundness_laws.specs.Queue.{Roots, Heads, Onward}
use Rattle.soundness_laws.proofs.Saying.{gone_on}

-- The roots of the first s of v slots have been met, in scratch that was names₀ and queue₀ at
-- first.
pub record RootsTo (ws names₀ queue₀ : List ℕ) (v s : ℕ) (names queue : List ℕ) (tail : ℕ) : Type 0 where
  pub v_is : v ≡ slots ws
  pub roots : Roots ws s names queue tail
  pub names_long : length names ≡ length names₀
  pub queue_long : length queue ≡ length queue₀

module _ (ws names₀ queue₀ : List ℕ) (v s : ℕ) (names queue : List ℕ) (tail : ℕ) (R : RootsTo ws names₀ queue₀ v s names queue tail) where
  pub roots_to_more : (names' queue' : List ℕ) (t : ℕ) → Onward ws (Some t) (Roots ws (s + 1) names' queue') →
      length names' ≡ length names → length queue' ≡ length queue → RootsTo ws names₀ queue₀ v (s + 1) names' queue' t
  roots_to_more names' queue' t a ln lq =
      record { v_is = R.v_is; roots = gone_on a; names_long = ln ∙ R.names_long; queue_long = lq ∙ R.queue_long }

-- The children of the first nodes of the queue have been met.
pub record HeadsTo (ws names₀ queue₀ : List ℕ) (front : ℕ) (names queue : List ℕ) (tail : ℕ) : Type 0 where
  pub heads : Heads ws front names queue tail
  pub names_long : length names ≡ length names₀
  pub queue_long : length queue ≡ length queue₀

pub heads_to_start : (ws names queue : List ℕ) (tail : ℕ) → Onward ws (Some tail) (Heads ws 0 names queue) →
    HeadsTo ws names queue 0 names queue tail
heads_to_start ws names queue tail a = record { heads = gone_on a; names_long = refl; queue_long = refl }

module _ (ws names₀ queue₀ : List ℕ) (front : ℕ) (names queue : List ℕ) (tail : ℕ) (H : HeadsTo ws names₀ queue₀ front names queue tail) where
  pub heads_to_more : (names' queue' : List ℕ) (t : ℕ) → Onward ws (Some t) (Heads ws (front + 1) names' queue') →
      length names' ≡ length names → length queue' ≡ length queue → HeadsTo ws names₀ queue₀ (front + 1) names' queue' t
  heads_to_more names' queue' t a ln lq =
      record { heads = gone_on a; names_long = ln ∙ H.names_long; queue_long = lq ∙ H.queue_long }
