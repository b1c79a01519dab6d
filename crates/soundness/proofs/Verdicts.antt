-- The two halves of the test make the verdict, and the verdict an answer.
use mathlib.Core.Path.{◌≡◌, ap, sym, ◌∙◌}
use mathlib.Core.Bool.{Bool, true}
use mathlib.Core.List.{List}
use Prim.Native.Nat.{ℕ, ◌-◌, ◌*◌, ◌≤◌, ◌<◌}
use native.Mathlib.Omega.{arith}
use native.Mathlib.Decide.{dec_lt}
use lib.ListN.{length, get_or, replicate, length-replicate, get_or-replicate, get_or-eq_default}
use Rattle.std.specs.Prelude.{Option, Some, None, is_some}
use Rattle.words.specs.Layout.{nodes}
use Rattle.words.specs.Sound.{Sound}
use Rattle.soundness_laws.specs.Answer.{Answers, Decides}
use Rattle.soundness_laws.specs.Within.{Within}
use Rattle.soundness_laws.specs.Queue.{Blank, Onward}
use Rattle.soundness_laws.specs.Whole.{Whole, SoundWith}
use Rattle.soundness_laws.proofs.Saying.{say_yes, say_no, gone_on}
use Rattle.soundness.specs.Verdict.{Verdict, Scratch}

-- The first half says that k nodes are live.
module _ (ws queue : List ℕ) (k : ℕ) (a : Onward ws (Some k) (Whole ws queue)) where
  pub queue_whole : Whole ws queue k
  queue_whole = gone_on a

  pub live_short : (n : ℕ) → n ≡ nodes ws → k ≤ n
  live_short n en = omega (arith, queue_whole.short)

  -- The second half answers b.
  module _ (b : Bool) (d : Answers b (SoundWith ws (nodes ws - k)) (Sound ws → ⊥)) where
    pub both_right : b ≡ true → (n : ℕ) → n ≡ nodes ws → Verdict ws (Some (n - k))
    both_right e n en = let w = d.yes e in (w.0, w.1 ∙ sym (ap (λ (m : ℕ). m - k) en))

pub verdict_some : (ws : List ℕ) (r : Option ℕ) → Verdict ws r → (b : Bool) → b ≡ is_some r → Decides b (Sound ws)
verdict_some ws (Some f) v b e = rw e (say_yes v.0)
verdict_some ws None v b e = rw e (say_no v)

replicate_blank : (m : ℕ) → Blank (replicate {A = ℕ} m 0)
replicate_blank m = record { zeros = λ x. go x (dec_lt x m) }
  where
    go : (x : ℕ) → Dec (x < m) → get_or (replicate {A = ℕ} m 0) x 0 ≡ 0
    go x (yes h) = get_or-replicate {A = ℕ} m x 0 0 h
    go x (no h) = get_or-eq_default {A = ℕ} (replicate m 0) 0 (omega (arith, length-replicate {A = ℕ} m 0))

-- New scratch of k links is enough for an arena of fewer than k nodes.
pub fresh_scratch : (k : ℕ) (ws : List ℕ) → Within ws × (nodes ws < k) → Scratch ws (replicate k 0) (replicate (2 * k) 0) (replicate k 0)
fresh_scratch k ws w =
    let room : nodes ws < length (replicate {A = ℕ} k 0) = omega (arith, length-replicate {A = ℕ} k 0, w.1) in
    record {
      fresh = record { within = w.0; room = room; blank = replicate_blank k; space = room };
      room = record { memo_room = room; ends_room = omega (arith, length-replicate {A = ℕ} (2 * k) 0, w.1) };
    }
