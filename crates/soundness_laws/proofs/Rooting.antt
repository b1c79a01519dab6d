-- The roots of the slots are met.
use mathlib.Core.Path.{◌≡◌, refl, ap, sym, ◌∙◌}
use mathlib.Core.Logic.{⊎_elim}
use mathlib.Core.List.{List, []}
use Prim.Native.Nat.{ℕ, ◌+◌, ◌≤◌, ◌<◌}
use native.Mathlib.Omega.{arith}
use native.Mathlib.Decide.{ℕ_discrete}
use Rattle.std.specs.Prelude.{Option, Some}
use Rattle.words.specs.Layout.{nodes, slots, slot_root, not_held}
use Rattle.words.specs.Counting.{same, occ, sum}
use Rattle.words.specs.Reads.{Held}
use Rattle.words.specs.Sound.{Reached, from_slot, Sound}
use Rattle.words.proofs.Counts.{same_eq, same_ne}
use Rattle.words.proofs.Holding.{reads_link}
use Rattle.words.proofs.SoundOwned.{sound_owned}
use Rattle.soundness_laws.proofs.Saying.{going}
use Rattle.soundness_laws.proofs.Slots.{root_read}
use Rattle.soundness_laws.specs.Queue.{Fresh, met, Full, Surplus, Arrives, Roots, Onward}
use Rattle.soundness_laws.proofs.Filling.{plus}
use Rattle.soundness_laws.proofs.Arriving.{queue_as, queue_arrived, arrived_link}
use Rattle.soundness_laws.proofs.Meeting.{met_slot, slots_low}

-- Nothing is met yet.
none_met : (ws : List ℕ) (x : ℕ) → met ws 0 [] x ≡ 0
unfolding met sum occ
none_met ws x = refl

none_queued : (ws : List ℕ) → Full ws (met ws 0 []) []
unfolding occ
none_queued ws =
    record {
      low = λ x p q. omega (arith, none_met ws x);
      inside = λ x o. absurd (omega arith);
      all = λ x p q c e. absurd (omega (arith, none_met ws x));
      some = λ x p q l. refl;
      idle = λ x p q e. refl;
      reached = λ x o. absurd (omega arith);
    }

pub roots_start : (ws names queue : List ℕ) → Fresh ws names queue → Roots ws 0 names queue 0
roots_start ws names queue f =
    record {
      queued =
          record {
            within = f.within;
            room = f.room;
            space = f.space;
            short = omega arith;
            are = λ x p q. f.blank.zeros x ∙ sym (none_met ws x);
            full = none_queued ws;
          };
      high = omega arith;
      links = λ k l. absurd (omega arith);
    }

-- The root x of slot s and the number n of nodes, as they were read.
module _ (ws : List ℕ) (s : ℕ) (names queue : List ℕ) (tail : ℕ) (R : Roots ws s names queue tail) where
  module _ (l : s < slots ws) (n : ℕ) (en : n ≡ nodes ws) (x : ℕ) (er : x ≡ slot_root n ws s) where
    ex : x ≡ slot_root (nodes ws) ws s
    ex = root_read ws s x n en er

    met_more : (y : ℕ) → met ws s [] y + same x y ≡ met ws (s + 1) [] y
    met_more y = omega (arith, met_slot ws s y, ap (λ (z : ℕ). same z y) ex)

    links_more : (Held ws s → slot_root (nodes ws) ws s ≤ nodes ws) → (k : ℕ) → k < s + 1 → Held ws k → Dec (k ≡ s) → slot_root (nodes ws) ws k ≤ nodes ws
    links_more f k p h (yes e) = rw e (f (rw e at h))
    links_more f k p h (no d) = R.links k (omega arith) h

    pub root_free : x ≡ not_held → Onward ws (Some tail) (Roots ws (s + 1) names queue)
    root_free e =
        let b = R.queued.within.n_high in
        going (record {
          queued = queue_as ws (met ws s []) (met ws (s + 1) []) names queue tail (λ y p q. omega (arith, met_more y, same_ne x y (λ z. omega arith))) R.queued;
          high = omega arith;
          links = λ k p h. links_more (λ u. absurd (u.held (sym ex ∙ e))) k p h (ℕ_discrete k s);
        })

    module _ (f : x ≡ not_held → ⊥) where
      used : Held ws s
      used = record { inside = l; held = λ e. f (ex ∙ e) }

      root_reached : 1 ≤ x → Reached ws x
      root_reached p = rw ex (from_slot s used (omega (arith, ex)))

      root_over : Surplus ws names x → Sound ws → ⊥
      root_over u S =
          let t = S.trees.links s used in
          ⊎_elim
          (λ z. omega (arith, u.low, ex))
          (λ b.
          let h : x ≤ nodes ws = omega (arith, ex, b.1) in
          omega (
            arith,
            u.over h,
            R.queued.are x u.low h,
            met_more x,
            same_eq x x refl,
            slots_low ws (sound_owned ws S) (s + 1) x (omega arith) u.low h,
          ))
          (reads_link (nodes ws) ws (slot_root (nodes ws) ws s) (S.trees.tree s used) t)

      pub root_arrived : (names' queue' : List ℕ) (r : Option ℕ) → Arrives ws x names queue tail names' queue' r →
          Onward ws r (Roots ws (s + 1) names' queue')
      root_arrived names' queue' r a =
          record {
            on = λ t g.
                let b = a.on t g in
                record {
                  queued = queue_as ws (plus (met ws s []) x) (met ws (s + 1) []) names' queue' t (λ y p q. met_more y)
                      (queue_arrived ws (met ws s []) names queue tail R.queued x root_reached names' queue' t b);
                  high = omega arith;
                  links = λ k p h. links_more (λ _. omega (arith, ex, arrived_link ws x names queue tail names' queue' t b)) k p h (ℕ_discrete k s);
                };
            stop = λ e. root_over (a.stop e);
          }
