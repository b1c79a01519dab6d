-- Release: the call's link goes, nodes of which no name is left are freed, and what is still live keeps its words.
use mathlib.Core.Path.{◌≡◌, refl, ap, ◌∙◌, subst}
use mathlib.Core.Logic.{◌⊎◌}
use mathlib.Core.List.{List, ◌∷◌}
use Prim.Native.Nat.{ℕ, zero, suc, ◌+◌, ◌-◌, ◌*◌, ◌≤◌, ◌<◌}
use native.Mathlib.Omega.{arith}
use native.Mathlib.Decide.{ℕ_discrete, dec_lt}
use lib.ListN.{length}
use Rattle.trees.specs.Tree.{Tree, Place, Color, Entry, leaf, node, height}
use Rattle.words.specs.Layout.{left, right, count, node_words, header_words}
use Rattle.words.specs.Counting.{occ}
use Rattle.words.specs.Reads.{Reads}
use Rattle.words.specs.Owned.{idle, Live, Owned, idle_at, idles, Agree, Kept}
use Rattle.words.specs.Model.{with_count, freeing, releasing, freed}
use Rattle.words.proofs.Counts.{occ-first, sum_change}
use Rattle.words.proofs.Holding.{frame, agree_left, agree_right}
use Rattle.words.proofs.OwnedLaws.{idle_pos, idle_zero, live_left, live_right, live_pending, occ_count}
use Rattle.words.proofs.Changes.{Outside, outside_refl, outside_trans, Only, only_outside, only_agree, only_count, count_only, count_words, Freed, is_freed}
use Rattle.words.proofs.Recounting.{owned_long, drop_none, down_owned, live_idles}
use Rattle.words.proofs.Freeing.{freed_owned}
use Rattle.words.proofs.ReleasingCases.{releasing_none, freed_none, releasing_more, freed_more, releasing_last, freed_last}

pub kept_refl : (n : ℕ) (ws : List ℕ) → Kept n ws ws
kept_refl n ws j l = (l, λ k p q. refl)

pub kept_trans : (n : ℕ) (a b c : List ℕ) → Kept n a b → Kept n b c → Kept n a c
kept_trans n a b c f g j l =
    let y = g j l in
    let x = f j y.0 in
    (x.0, λ k p q. y.1 k p q ∙ x.1 k p q)

-- A link that is none or live after it reads the same tree.
module _ (Valid : ℕ → Tree → ℕ → Type 0) (n v : ℕ) (ws ws' P : List ℕ) (o : Owned Valid n v ws' P) (keep : Kept n ws ws') where
  pub kept_frame : (j : ℕ) (t : Tree) → (j ≡ 0) ⊎ Live n ws' j → Reads n ws j t → Reads n ws' j t
  kept_frame =
      frame
      n
      ws
      ws'
      (λ j. Live n ws' j)
      (λ j l. (keep j l).1)
      (λ j l. subst (λ (z : ℕ). (z ≡ 0) ⊎ Live n ws' z) (agree_left ws ws' j (keep j l).1) (live_left Valid n v ws' P o j l))
      (λ j l. subst (λ (z : ℕ). (z ≡ 0) ⊎ Live n ws' z) (agree_right ws ws' j (keep j l).1) (live_right Valid n v ws' P o j l))

  pub kept_pending : (p : ℕ) (t : Tree) → 1 ≤ occ p P → Reads n ws p t → Reads n ws' p t
  kept_pending p t h = kept_frame p t (live_pending Valid n v ws' P o p h)

-- What a release leaves, k nodes having been freed.
pub record Released (Valid : ℕ → Tree → ℕ → Type 0) (n v : ℕ) (R : List ℕ) (k : ℕ) (ws ws' : List ℕ) : Type 0 where
  pub owned : Owned Valid n v ws' R
  pub more : idles n ws' ≡ k + idles n ws
  pub kept : Kept n ws ws'
  pub outside : Outside n ws ws'

module _ (Valid : ℕ → Tree → ℕ → Type 0) (n v : ℕ) where
  module _ (ws R : List ℕ) (i : ℕ) (o : Owned Valid n v ws (i ∷ R)) (low : 1 ≤ i) (high : i ≤ n) where
    inside : node_words * i + header_words ≤ length ws
    inside = omega (arith, owned_long Valid n v ws (i ∷ R) o)

    pub pending_live : Live n ws i
    pending_live = (low, high, omega (arith, occ_count Valid n v ws (i ∷ R) o i low high, occ-first i R))

    down_kept : Kept n ws (with_count ws i (count ws i - 1))
    down_kept j a = go (ℕ_discrete j i)
      where
        d : Only i ws (with_count ws i (count ws i - 1))
        d = count_only i ws low inside (count ws i - 1)

        go : Dec (j ≡ i) → Live n ws j × Agree ws (with_count ws i (count ws i - 1)) j
        go (yes e) = rw e (pending_live, count_words i ws low inside (count ws i - 1))
        go (no f) = (
          (a.0, a.1, omega (arith, only_count n i ws (with_count ws i (count ws i - 1)) d low high j a.0 f)),
          only_agree n i ws (with_count ws i (count ws i - 1)) d low high j a.0 f,
        )

    released_down : 1 < count ws i → Released Valid n v R 0 ws (with_count ws i (count ws i - 1))
    released_down m =
        record {
          owned = down_owned Valid n v ws R i o pending_live m;
          more = omega (arith, live_idles n i ws low high (owned_long Valid n v ws (i ∷ R) o) (count ws i - 1) (omega arith) (omega arith));
          kept = down_kept;
          outside = only_outside n i ws (with_count ws i (count ws i - 1)) (count_only i ws low inside (count ws i - 1)) low high;
        }

    at_front : Freed i ws (freeing ws i)
    at_front = is_freed i ws low inside

    free_kept : Kept n ws (freeing ws i)
    free_kept j a =
        let f : j ≡ i → ⊥ = λ e. let x = ap (count (freeing ws i)) e in omega (arith, at_front.count_is) in (
          (a.0, a.1, omega (arith, only_count n i ws (freeing ws i) at_front.only low high j a.0 f)),
          only_agree n i ws (freeing ws i) at_front.only low high j a.0 f,
        )

    -- One free node more.
    freeing_idles : idles n (freeing ws i) ≡ 1 + idles n ws
    unfolding idles idle_at
    freeing_idles =
        let z =
        sum_change
        (idle_at (freeing ws i))
        (idle_at ws)
        1
        n
        i
        low
        (omega arith)
        (λ j p q f. ap idle (only_count n i ws (freeing ws i) at_front.only low high j p f)) in
        let a = idle_pos (count ws i) pending_live.2 in
        let b = idle_zero (count (freeing ws i) i) at_front.count_is in
        omega arith

    -- At the last name the links are held in its place.
    pub released_free : count ws i ≤ 1 → Released Valid n v (left ws i ∷ (right ws i ∷ R)) 1 ws (freeing ws i)
    released_free m =
        record {
          owned = freed_owned Valid n v i ws (freeing ws i) R o at_front low high (omega (arith, pending_live.2));
          more = freeing_idles;
          kept = free_kept;
          outside = only_outside n i ws (freeing ws i) at_front.only low high;
        }

  -- Two releases in a row.
  pub in_turn : (R R' : List ℕ) (k k' : ℕ) (a b c : List ℕ) → Released Valid n v R k a b → Released Valid n v R' k' b c →
      Released Valid n v R' (k + k') a c
  in_turn R R' k k' a b c x y =
      record {
        owned = y.owned;
        more = omega (arith, x.more, y.more);
        kept = kept_trans n a b c x.kept y.kept;
        outside = outside_trans n a b c x.outside y.outside;
      }

  nothing : (ws R : List ℕ) → Owned Valid n v ws (0 ∷ R) → Released Valid n v R 0 ws ws
  nothing ws R o = record { owned = drop_none Valid n v ws R o; more = omega arith; kept = kept_refl n ws; outside = outside_refl n ws }

  abbrev Releases : ℕ → List ℕ → ℕ → List ℕ → Type 0
  Releases h ws i R = Released Valid n v R (freed h ws i) ws (releasing h ws i)

  none_released : (h : ℕ) (ws R : List ℕ) (i : ℕ) → i ≡ 0 → Owned Valid n v ws (i ∷ R) → Releases h ws i R
  none_released h ws R i e o = rw (e, releasing_none h ws, freed_none h ws) (nothing ws R (subst (λ (z : ℕ). Owned Valid n v ws (z ∷ R)) e o))

  -- One step, both links being released as they should.
  module _ (h : ℕ) (ih : (ws R : List ℕ) (i : ℕ) (t : Tree) → Owned Valid n v ws (i ∷ R) → Reads n ws i t → height t ≤ h → Releases h ws i R)
      (ws R : List ℕ) (i : ℕ) (p : Place) (c : Color) (tl : Tree) (e : Entry) (tr : Tree) (o : Owned Valid n v ws (suc i ∷ R))
      (r : Reads n ws (suc i) (node p c tl e tr)) (b : height (node p c tl e tr) ≤ suc h) where
    abbrev L : ℕ
    L = left ws (suc i)

    abbrev N : ℕ
    N = right ws (suc i)

    abbrev w1 : List ℕ
    w1 = freeing ws (suc i)

    abbrev w2 : List ℕ
    w2 = releasing h w1 L

    last_released : count ws (suc i) ≤ 1 → Released Valid n v R (1 + freed h w1 L + freed h w2 N) ws (releasing h w2 N)
    last_released m =
        let x1 = released_free ws R (suc i) o r.1.low r.1.high m in
        let r1 = kept_pending Valid n v ws w1 (L ∷ (N ∷ R)) x1.owned x1.kept L tl (omega (arith, occ-first L (N ∷ R))) r.2 in
        let x2 = in_turn (L ∷ (N ∷ R)) (N ∷ R) 1 (freed h w1 L) ws w1 w2 x1 (ih w1 (N ∷ R) L tl x1.owned r1 (omega arith)) in
        let r2 = kept_pending Valid n v ws w2 (N ∷ R) x2.owned x2.kept N tr (omega (arith, occ-first N R)) r.3 in
        in_turn (N ∷ R) R (1 + freed h w1 L) (freed h w2 N) ws w2 (releasing h w2 N) x2 (ih w2 R N tr x2.owned r2 (omega arith))

    node_released : Dec (1 < count ws (suc i)) → Releases (suc h) ws (suc i) R
    node_released (yes m) = rw (releasing_more h ws i m, freed_more h ws i m) (released_down ws R (suc i) o r.1.low r.1.high m)
    node_released (no m) =
        let d : count ws (suc i) ≤ 1 = omega arith in
        let k : 1 + freed h w1 L + freed h w2 N ≡ freed (suc h) ws (suc i) = omega (arith, freed_last h ws i d) in
        rw (releasing_last h ws i d) (subst (λ (z : ℕ). Released Valid n v R z ws (releasing h w2 N)) k (last_released d))

  pub releasing_released : (h : ℕ) (ws R : List ℕ) (i : ℕ) (t : Tree) → Owned Valid n v ws (i ∷ R) → Reads n ws i t → height t ≤ h → Releases h ws i R
  releasing_released zero ws R i leaf o r b = none_released zero ws R i r o
  releasing_released zero ws R i (node p c tl e tr) o r b = absurd (omega arith)
  releasing_released (suc h) ws R i leaf o r b = none_released (suc h) ws R i r o
  releasing_released (suc h) ws R zero (node p c tl e tr) o r b = absurd (omega (arith, r.1.low))
  releasing_released (suc h) ws R (suc i) (node p c tl e tr) o r b =
      node_released h (releasing_released h) ws R i p c tl e tr o r b (dec_lt 1 (count ws (suc i)))
