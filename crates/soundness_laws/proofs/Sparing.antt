-- The free list: what a walk over nodes of count 0 says of the chain of free nodes.
use mathlib.Core.Path.{◌≡◌, refl, ap, sym, ◌∙◌}
use mathlib.Core.Bool.{Bool, true, false}
use mathlib.Core.List.{List, [], ◌∷◌}
use Prim.Native.Nat.{ℕ, zero, suc, ◌+◌, ◌-◌, ◌≤◌, ◌<◌}
use native.Mathlib.Omega.{arith}
use native.Mathlib.Decide.{ℕ_discrete, dec_le}
use lib.ListN.{length}
use lib.Dec.{eqb}
use Rattle.words.specs.Layout.{nodes, left, count}
use Rattle.words.specs.Counting.{same, occ}
use Rattle.words.specs.Sound.{Chain}
use Rattle.words.proofs.Counts.{same_eq, same_ne}
use Rattle.soundness_laws.specs.Answer.{Decides}
use Rattle.soundness_laws.proofs.Saying.{say_no, say_equal}
use Rattle.soundness_laws.specs.Spare.{Spare, Spares, SpareList}

-- A walk as a list, and a list as a walk.
pub spares_chain : (ws : List ℕ) (i k : ℕ) → Spares ws i k →
    (F : List ℕ) × Chain (nodes ws) ws i F × (length F ≡ k) × ((x : ℕ) → 1 ≤ occ x F → Spare ws x)
unfolding occ
spares_chain ws i zero h = ([], h, refl, λ x m. absurd (omega arith))
spares_chain ws i (suc k) h =
    let r = spares_chain ws (left ws i) k h.1 in
    (i ∷ r.0, (refl, h.0.low, h.0.high, r.1), ap suc r.2, λ x m. go x r.0 m (ℕ_discrete i x) (r.3 x))
  where
    go : (x : ℕ) (F : List ℕ) → 1 ≤ same i x + occ x F → Dec (i ≡ x) → (1 ≤ occ x F → Spare ws x) → Spare ws x
    go x F m (yes e) ih = rw (← e) h.0
    go x F m (no d) ih = ih (omega (arith, same_ne i x d))

pub chain_spares : (ws : List ℕ) (i : ℕ) (F : List ℕ) → Chain (nodes ws) ws i F → ((x : ℕ) → 1 ≤ occ x F → count ws x ≡ 0) → Spares ws i (length F)
unfolding occ
chain_spares ws i [] c h = c
chain_spares ws i (f ∷ F) c h =
    rw c.0 (
      record { low = c.1; high = c.2; idle = h f (omega (arith, same_eq f f refl)) },
      chain_spares ws (left ws f) F c.3 (λ x m. h x (omega arith)),
    )

-- A chain that ends does not come back: from a node in it, the rest is shorter.
chain_long : (n : ℕ) (ws : List ℕ) (i j : ℕ) (F G : List ℕ) → i ≡ j → Chain n ws i F → Chain n ws j G → length F ≡ length G
chain_long n ws i j [] [] e p q = refl
chain_long n ws i j [] (g ∷ G) e p q = absurd (omega (arith, q.0, q.1))
chain_long n ws i j (f ∷ F) [] e p q = absurd (omega (arith, p.0, p.1))
chain_long n ws i j (f ∷ F) (g ∷ G) e p q =
    ap suc (chain_long n ws (left ws f) (left ws g) F G (ap (left ws) (sym p.0 ∙ e ∙ q.0)) p.3 q.3)

chain_from : (n : ℕ) (ws : List ℕ) (i x : ℕ) (F : List ℕ) → Chain n ws i F → 1 ≤ occ x F → (G : List ℕ) × Chain n ws x G × (length G ≤ length F)
unfolding occ
chain_from n ws i x [] c h = absurd (omega arith)
chain_from n ws i x (f ∷ F) c h = go (ℕ_discrete f x) (chain_from n ws (left ws f) x F c.3)
  where
    go : Dec (f ≡ x) → (1 ≤ occ x F → (G : List ℕ) × Chain n ws x G × (length G ≤ length F)) →
        (G : List ℕ) × Chain n ws x G × (length G ≤ suc (length F))
    go (yes e) ih = (f ∷ F, (sym e, c.1, c.2, c.3), omega arith)
    go (no d) ih = let r = ih (omega (arith, same_ne f x d)) in (r.0, r.1, omega arith)

pub chain_once : (n : ℕ) (ws : List ℕ) (i x : ℕ) (F : List ℕ) → Chain n ws i F → occ x F ≤ 1
unfolding occ
chain_once n ws i x [] c = omega arith
chain_once n ws i x (f ∷ F) c = go (ℕ_discrete f x) (dec_le 1 (occ x F)) (chain_once n ws (left ws f) x F c.3)
  where
    go : Dec (f ≡ x) → Dec (1 ≤ occ x F) → occ x F ≤ 1 → same f x + occ x F ≤ 1
    go (yes e) (yes h) ih =
        let r = chain_from n ws (left ws f) x F c.3 h in
        absurd (omega (arith, r.2, chain_long n ws x f r.0 (f ∷ F) (sym e) r.1 (refl, c.1, c.2, c.3)))
    go (yes e) (no h) ih = omega (arith, same_eq f x e)
    go (no d) h ih = omega (arith, same_ne f x d)

-- A walk that has come to the link i, with k nodes to go of all.
pub record Walk (ws : List ℕ) (all i k : ℕ) : Type 0 where
  pub on : Spares ws i k → SpareList ws all
  pub back : SpareList ws all → Spares ws i k

step : (ws : List ℕ) (all i k j : ℕ) → Walk ws all i k → 0 < k → Spare ws i → j ≡ left ws i → Walk ws all j (k - 1)
step ws all i zero j w h u e = absurd (omega arith)
step ws all i (suc k) j w h u e =
    let a : suc k - 1 ≡ k = omega arith in
    rw (a, e) (record { on = λ l. w.on (u, l); back = λ f. (w.back f).1 })

stuck : (ws : List ℕ) (all i k : ℕ) → Walk ws all i k → 0 < k → (Spare ws i → ⊥) → SpareList ws all → ⊥
stuck ws all i zero w h f l = omega arith
stuck ws all i (suc k) w h f l = f (w.back l).0

over : (ws : List ℕ) (all i k : ℕ) → Walk ws all i k → k ≤ 0 → Walk ws all i 0
over ws all i zero w h = w
over ws all i (suc k) w h = absurd (omega arith)

-- Over `gone` nodes of all it has come to the link i.
module _ (ws : List ℕ) (all i gone : ℕ) (w : Walk ws all i (all - gone)) where
  module _ (l : gone < all) (r : Bool) (d : Decides r (Spare ws i)) where
    pub walk_no : r ≡ false → Decides false (SpareList ws all)
    walk_no e = say_no (stuck ws all i (all - gone) w (omega arith) (d.no e))

    pub walk_more : r ≡ true → (j : ℕ) → j ≡ left ws i → Walk ws all j (all - (gone + 1))
    walk_more e j z =
        let o : all - (gone + 1) ≡ all - gone - 1 = omega arith in
        rw o (step ws all i (all - gone) j w (omega arith) (d.yes e) z)

  pub walk_end : all ≤ gone → Decides (eqb i 0) (SpareList ws all)
  walk_end l =
      let h = over ws all i (all - gone) w (omega arith) in
      say_equal (λ e. h.on e) (λ f s. f (h.back s))
