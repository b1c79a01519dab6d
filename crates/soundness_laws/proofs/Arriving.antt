-- One name more for a link, as the scratch sees it.
use mathlib.Core.Path.{◌≡◌, refl, ap, sym, ◌∙◌}
use mathlib.Core.List.{List, [], ◌∷◌, ◌++◌}
use Prim.Native.Nat.{ℕ, zero, suc, ◌+◌, ◌≤◌, ◌<◌}
use native.Mathlib.Omega.{arith}
use native.Mathlib.Numerals.{add-one}
use native.Mathlib.Decide.{ℕ_discrete, dec_le, dec_lt}
use lib.ListN.{length, get_or, set, take, drop, length-set, length-append, take-append-drop}
use lib.Seq.{get_or-set_same, get_or-set_other, length-take-le, take-set-le, take-suc-set, take-suc, take-take}
use Rattle.words.specs.Layout.{nodes, count}
use Rattle.words.specs.Counting.{same, occ}
use Rattle.words.specs.Sound.{Reached}
use Rattle.words.proofs.Counts.{same_eq, same_ne, occ_append, few}
use Rattle.soundness_laws.specs.Queue.{bumping, Full, Queue, Arriving, Arrived, no_node, named, entered}
use Rattle.soundness_laws.proofs.Adding.{occ-last}
use Rattle.soundness_laws.proofs.Filling.{plus, full_as, full_none, full_named, full_entered}

bumped : (names : List ℕ) (l x : ℕ) → l < length names → get_or (bumping names l) x 0 ≡ get_or names x 0 + same l x
unfolding bumping
bumped names l x h = go (ℕ_discrete x l)
  where
    go : Dec (x ≡ l) → get_or (set names l (get_or names l 0 + 1)) x 0 ≡ get_or names x 0 + same l x
    go (yes e) = rw e (omega (arith, same_eq l l refl, get_or-set_same names l (get_or names l 0 + 1) 0 h))
    go (no f) = omega (arith, same_ne l x (λ e. f (sym e)), get_or-set_other names l x (get_or names l 0 + 1) 0 f)

bumped_long : (names : List ℕ) (l : ℕ) → length (bumping names l) ≡ length names
unfolding bumping
bumped_long names l = length-set names l (get_or names l 0 + 1)

-- The first part of a list has no more of anything, and the element at a place in it.
pub occ_take : (y p t : ℕ) (xs : List ℕ) → p ≤ t → occ y (take p xs) ≤ occ y (take t xs)
occ_take y p t xs h =
    omega (
      arith,
      ap (occ y) (take-append-drop p (take t xs)),
      ap (occ y) (take-take p t xs h),
      occ_append y (take p (take t xs)) (drop p (take t xs)),
    )

pub occ-next : (y p : ℕ) (xs : List ℕ) → p < length xs → occ y (take (suc p) xs) ≡ occ y (take p xs) + same (get_or xs p 0) y
occ-next y p xs h = ap (occ y) (take-suc xs p 0 h) ∙ occ-last y (take p xs) (get_or xs p 0)

pub occ_at : (p t : ℕ) (xs : List ℕ) → p < t → t ≤ length xs → 1 ≤ occ (get_or xs p 0) (take t xs)
occ_at p t xs h l =
    let x = get_or xs p 0 in
    omega (arith, occ_take x (suc p) t xs (omega arith), occ-next x p xs (omega arith), same_eq x x refl)

pub place : (t : ℕ) (xs : List ℕ) (y : ℕ) → t ≤ length xs → 1 ≤ occ y (take t xs) → (p : ℕ) × (p < t) × (get_or xs p 0 ≡ y)
unfolding occ
place zero xs y l o = absurd (omega arith)
place (suc t) xs y l o = go (ℕ_discrete (get_or xs t 0) y) (place t xs y (omega arith)) (occ-next y t xs l)
  where
    go : Dec (get_or xs t 0 ≡ y) → (1 ≤ occ y (take t xs) → (p : ℕ) × (p < t) × (get_or xs p 0 ≡ y)) →
        occ y (take (suc t) xs) ≡ occ y (take t xs) + same (get_or xs t 0) y → (p : ℕ) × (p < suc t) × (get_or xs p 0 ≡ y)
    go (yes e) ih n = (t, omega arith, e)
    go (no d) ih n = let r = ih (omega (arith, same_ne (get_or xs t 0) y d)) in (r.0, omega (arith, r.1), r.2)

pub full_once : (ws : List ℕ) (f : ℕ → ℕ) (Q : List ℕ) → Full ws f Q → (x : ℕ) → occ x Q ≤ 1
full_once ws f Q F x = go (dec_le 1 (occ x Q)) (dec_le 1 (count ws x)) (dec_lt (f x) (count ws x))
  where
    go : Dec (1 ≤ occ x Q) → Dec (1 ≤ count ws x) → Dec (f x < count ws x) → occ x Q ≤ 1
    go (no o) c l = omega arith
    go (yes o) (no c) l = let b = F.inside x o in omega (arith, F.idle x b.0 b.1 (omega arith))
    go (yes o) (yes c) (yes l) = let b = F.inside x o in omega (arith, F.some x b.0 b.1 l)
    go (yes o) (yes c) (no l) =
        let b = F.inside x o in
        let m = F.low x b.0 b.1 in
        omega (arith, F.all x b.0 b.1 c (omega arith))

-- A node in the queue has a count.
pub full_live : (ws : List ℕ) (f : ℕ → ℕ) (Q : List ℕ) → Full ws f Q → (x : ℕ) → 1 ≤ occ x Q → (1 ≤ x) × (x ≤ nodes ws) × (1 ≤ count ws x)
full_live ws f Q F x o = go (dec_le 1 (count ws x)) (F.inside x o)
  where
    go : Dec (1 ≤ count ws x) → (1 ≤ x) × (x ≤ nodes ws) → (1 ≤ x) × (x ≤ nodes ws) × (1 ≤ count ws x)
    go (yes c) b = (b.0, b.1, c)
    go (no c) b = absurd (omega (arith, F.idle x b.0 b.1 (omega arith)))

pub queue_asks : (ws : List ℕ) (f : ℕ → ℕ) (names queue : List ℕ) (tail : ℕ) → Queue ws f names queue tail → Arriving ws names queue tail
queue_asks ws f names queue tail q = record { within = q.within; room = q.room; space = q.space; short = q.short }

pub queue_as : (ws : List ℕ) (f g : ℕ → ℕ) (names queue : List ℕ) (tail : ℕ) → ((x : ℕ) → 1 ≤ x → x ≤ nodes ws → f x ≡ g x) →
    Queue ws f names queue tail → Queue ws g names queue tail
queue_as ws f g names queue tail e q =
    record {
      within = q.within;
      room = q.room;
      space = q.space;
      short = q.short;
      are = λ x p h. q.are x p h ∙ e x p h;
      full = full_as ws f g (take tail queue) e q.full;
    }

module _ (ws : List ℕ) (f : ℕ → ℕ) (names queue : List ℕ) (tail : ℕ) (q : Queue ws f names queue tail) (x : ℕ) where
  named_are : 1 ≤ x → x ≤ nodes ws → (y : ℕ) → 1 ≤ y → y ≤ nodes ws → get_or (bumping names x) y 0 ≡ f y + same x y
  named_are p h y py hy = omega (arith, bumped names x y (omega (arith, q.room)), q.are y py hy)

  pushed : take (tail + 1) (set queue tail x) ≡ take tail queue ++ (x ∷ [])
  pushed = rw add-one (take-suc-set queue tail x (omega (arith, q.short, q.space)))

  pub queue_arrived : (1 ≤ x → Reached ws x) → (names' queue' : List ℕ) (r : ℕ) → Arrived ws x names queue tail names' queue' r →
      Queue ws (plus f x) names' queue' r
  queue_arrived R _ _ _ (no_node e) =
      record {
        within = q.within;
        room = q.room;
        space = q.space;
        short = q.short;
        are = λ y p h. omega (arith, q.are y p h, same_ne x y (λ z. omega arith));
        full = full_none ws f (take tail queue) q.full x e;
      }
  queue_arrived R _ _ _ (named p h c) =
      record {
        within = q.within;
        room = omega (arith, q.room, bumped_long names x);
        space = omega (arith, q.space, length-set queue tail x);
        short = q.short;
        are = named_are p h;
        full = rw (take-set-le tail queue tail x (omega arith)) (full_named ws f (take tail queue) q.full x (omega (arith, q.are x p h)));
      }
  queue_arrived R _ _ _ (entered p h c) =
      let F = full_entered ws f (take tail queue) q.full x p h (omega (arith, q.are x p h)) (R p) in
      let Q' = take tail queue ++ (x ∷ []) in
      let s = few (nodes ws) Q' F.inside (full_once ws (plus f x) Q' F) in
      let l : length Q' ≡ tail + 1 = rw length-append (omega (arith, length-take-le tail queue (omega (arith, q.short, q.space)))) in
      record {
        within = q.within;
        room = omega (arith, q.room, bumped_long names x);
        space = omega (arith, q.space, length-set queue tail x);
        short = omega arith;
        are = named_are p h;
        full = rw pushed F;
      }

  -- The name was not one too many: the link was not in the queue.
  pub arrived_new : (names' queue' : List ℕ) (r : ℕ) → Arrived ws x names queue tail names' queue' r → occ x (take tail queue) ≡ 0
  arrived_new _ _ _ (no_node e) = go (dec_le 1 (occ x (take tail queue)))
    where
      go : Dec (1 ≤ occ x (take tail queue)) → occ x (take tail queue) ≡ 0
      go (yes o) = absurd (omega (arith, (q.full.inside x o).0))
      go (no o) = omega arith
  arrived_new _ _ _ (named p h c) = q.full.some x p h (omega (arith, q.are x p h))
  arrived_new _ _ _ (entered p h c) = q.full.some x p h (omega (arith, q.are x p h))

module _ (ws : List ℕ) (x : ℕ) (names queue : List ℕ) (tail : ℕ) where
  pub arrived_link : (names' queue' : List ℕ) (r : ℕ) → Arrived ws x names queue tail names' queue' r → x ≤ nodes ws
  arrived_link _ _ _ (no_node e) = omega arith
  arrived_link _ _ _ (named p h c) = h
  arrived_link _ _ _ (entered p h c) = h

  pub arrived_longer : (names' queue' : List ℕ) (r : ℕ) → Arrived ws x names queue tail names' queue' r → tail ≤ r
  arrived_longer _ _ _ (no_node e) = omega arith
  arrived_longer _ _ _ (named p h c) = omega arith
  arrived_longer _ _ _ (entered p h c) = omega arith

  -- What stood in the queue stays there.
  pub arrived_take : (names' queue' : List ℕ) (r : ℕ) → Arrived ws x names queue tail names' queue' r → (p : ℕ) → p ≤ tail →
      take p queue' ≡ take p queue
  arrived_take _ _ _ (no_node e) p h = refl
  arrived_take _ _ _ (named u v c) p h = take-set-le p queue tail x h
  arrived_take _ _ _ (entered u v c) p h = take-set-le p queue tail x h

  pub arrived_at : (names' queue' : List ℕ) (r : ℕ) → Arrived ws x names queue tail names' queue' r → (p : ℕ) → p < tail →
      get_or queue' p 0 ≡ get_or queue p 0
  arrived_at _ _ _ (no_node e) p h = refl
  arrived_at _ _ _ (named u v c) p h = get_or-set_other queue tail p x 0 (λ e. omega arith)
  arrived_at _ _ _ (entered u v c) p h = get_or-set_other queue tail p x 0 (λ e. omega arith)
