-- Words that a format leaves are sound, with N nodes free and no slot held; and such words there are, for all lawful N and V and any old contents.
use mathlib.Core.Path.{◌≡◌, refl, ap, sym, ◌∙◌}
use mathlib.Core.Logic.{inl}
use mathlib.Core.List.{List, []}
use Prim.Native.Nat.{ℕ, zero, suc, ◌+◌, ◌≤◌, ◌<◌}
use native.Mathlib.Omega.{arith}
use native.Mathlib.Decide.{ℕ_discrete}
use lib.ListN.{length}
use Rattle.words.specs.Layout.{left, right, count, slot_root, not_held}
use Rattle.words.specs.Counting.{same, occ, run}
use Rattle.words.specs.Reads.{Held}
use Rattle.words.specs.Sound.{Sound, free_number}
use Rattle.words.specs.Owned.{kids, held, names, Owned, Sized, idles}
use Rattle.words.proofs.Counts.{same_eq, same_ne, sum_none}
use Rattle.words.proofs.OwnedLaws.{when_zero, idle_zero}
use Rattle.words.proofs.OwnedSound.{owned_sound}
use Rattle.words.proofs.FreeNumber.{free-idles, sound_idles}
use Rattle.calls.specs.Call.{Answer}
use Rattle.calls.specs.Writing.{Formatted}

run_outside : (i a n : ℕ) → i < a → occ i (run a n) ≡ 0
unfolding occ run
run_outside i a zero h = refl
run_outside i a (suc n) h = omega (arith, same_ne a i (λ e. omega arith), run_outside i (suc a) n (omega arith))

-- Each number of a run stands in it once.
pub occ-run : (i a n : ℕ) → a ≤ i → i < a + n → occ i (run a n) ≡ 1
unfolding occ run
occ-run i a zero p q = absurd (omega arith)
occ-run i a (suc n) p q = go (ℕ_discrete a i) (λ l. occ-run i (suc a) n l (omega arith))
  where
    go : Dec (a ≡ i) → (a < i → occ i (run (suc a) n) ≡ 1) → same a i + occ i (run (suc a) n) ≡ 1
    go (yes e) ih = omega (arith, same_eq a i e, run_outside i (suc a) n (omega arith))
    go (no f) ih = omega (arith, same_ne a i f, ih (omega arith))

pub length_run : (a n : ℕ) → length (run a n) ≡ n
unfolding run
length_run a zero = refl
length_run a (suc n) = ap suc (length_run (suc a) n)

module _ {n v : ℕ} {ws : List ℕ} {a : Answer} {ws' : List ℕ} (f : Formatted n v ws a ws') where
  no_kids : (i j : ℕ) → 1 ≤ j → j < 1 + n → kids ws' i j ≡ 0
  unfolding kids
  no_kids i j p q = when_zero (count ws' j) (same (left ws' j) i + same (right ws' j) i) (f.counts j p (omega arith))

  no_slot_names : (i s : ℕ) → i ≤ n → s < v → held n ws' i s ≡ 0
  unfolding held
  no_slot_names i s p q = rw (f.unheld s q).0 (same_ne not_held i (λ e. omega (arith, f.limits.n_high)))

  no_names : (i : ℕ) → 1 ≤ i → i ≤ n → count ws' i ≡ names n v ws' [] i
  unfolding names occ
  no_names i p q =
      omega (
        arith,
        f.counts i p q,
        sum_none (kids ws' i) 1 n (λ j a b. no_kids i j a b),
        sum_none (held n ws' i) 0 v (λ s a b. no_slot_names i s q (omega arith)),
      )

  format_owned : Owned Sized n v ws' []
  unfolding occ
  format_owned =
      record {
        shaped = record { limits = rw f.long f.limits; n_is = f.n_is; v_is = f.v_is };
        bound = 0;
        trees = λ i l. absurd (omega (arith, f.counts i l.0 l.1, l.2));
        counts = no_names;
        pending = λ p h. absurd (omega arith);
        free = run 1 n;
        chain = f.free_listed;
        frees = λ i p q. occ-run i 1 n p (omega arith) ∙ sym (idle_zero (count ws' i) (f.counts i p q));
        versions = λ s p. inl (f.unheld s p);
      }

  pub format_sound : Sound ws'
  format_sound = owned_sound n v ws' format_owned

  -- "makes all nodes free"
  pub format_free : (S : Sound ws') → free_number S ≡ n
  unfolding format_owned
  format_free S =
      sound_idles ws' S ∙ ap (λ (m : ℕ). idles m ws') f.n_is ∙ sym (free-idles Sized n v ws' [] format_owned) ∙ length_run 1 n

  -- ".. and no slot held"
  pub format_not_held : (s : ℕ) → Held ws' s → ⊥
  format_not_held s h = h.held (ap (λ (m : ℕ). slot_root m ws' s) f.n_is ∙ (f.unheld s (omega (arith, f.v_is, h.inside))).0)
