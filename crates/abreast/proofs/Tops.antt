-- The top of a stack: what comes next on it, and the side without it.
use mathlib.Core.Path.{◌≡◌, ap}
use mathlib.Core.List.{List, ◌∷◌}
use mathlib.Core.Option.{some}
use Prim.Native.Nat.{ℕ, suc, ◌-◌}
use native.Mathlib.Omega.{arith}
use lib.ListN.{get_or}
use Rattle.words.specs.Layout.{entry, right}
use Rattle.arena.specs.Nodes.{IsNode}
use Rattle.arena.specs.declared.Node.{Node}
use Rattle.std.specs.Prelude.{Some, None}
use Rattle.abreast.specs.declared.Side.{Side}
use Rattle.abreast.specs.Sides.{waiting, ahead, Stacked, Topped, Tops, Pops}

-- The side without its top, at the top's right part.
abbrev pub topless : List ℕ → Side → Side
topless ws s = record { link = right ws (get_or s.stack (s.depth - 1) 0); stack = s.stack; depth = s.depth - 1 }

-- The entry of the top comes next, then what is ahead at its right part.
waiting_top : (ws : List ℕ) (s : Side) → (s.depth ≡ 0 → ⊥) → waiting ws s.stack s.depth ≡ entry ws (get_or s.stack (s.depth - 1) 0) ∷ ahead ws (topless ws s)
unfolding waiting ahead
waiting_top ws s n = let e : s.depth ≡ suc (s.depth - 1) = omega arith in ap (waiting ws s.stack) e

module _ {ws : List ℕ} {s : Side} where
  pub head_none : s.depth ≡ 0 → Tops ws s None
  unfolding waiting
  head_none e = record { first = rw e }

  pub head_top : {d : Node} → (s.depth ≡ 0 → ⊥) → IsNode ws (get_or s.stack (s.depth - 1) 0) d → Tops ws s (Some d.entry)
  head_top n m = record { first = rw (waiting_top ws s n) (ap some m.entry_is) }

pub topped : {ws a : List ℕ} {p : ℕ} → Stacked ws a p → (p ≡ 0 → ⊥) → Topped ws a p
topped S n = record { stacked = S; high = omega arith }

pub popped : {ws : List ℕ} {s : Side} {link : ℕ} → Topped ws s.stack s.depth → link ≡ right ws (get_or s.stack (s.depth - 1) 0) →
    Pops ws s (record { link = link; stack = s.stack; depth = s.depth - 1 })
popped {ws} {s} T e =
    rw
    e
    (record {
      stands = record {
        rooted = T.stacked.rights (s.depth - 1) (omega (arith, T.high));
        stacked = record {
          long = T.stacked.long;
          low = omega (arith, T.stacked.low);
          inside = λ k l. T.stacked.inside k (omega arith);
          rights = λ k l. T.stacked.rights k (omega arith);
        };
      };
      passed = entry ws (get_or s.stack (s.depth - 1) 0);
      waiting_is = waiting_top ws s (λ z. omega (arith, T.high));
    })
