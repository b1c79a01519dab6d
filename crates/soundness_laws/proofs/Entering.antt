-- The ends of one arrival.
use mathlib.Core.Path.{◌≡◌}
use mathlib.Core.List.{List}
use Prim.Native.Nat.{ℕ, ◌+◌, ◌≤◌, ◌<◌}
use native.Mathlib.Omega.{arith}
use lib.ListN.{get_or, set}
use Rattle.std.specs.Prelude.{Some}
use Rattle.words.specs.Layout.{nodes, count}
use Rattle.soundness_laws.specs.Queue.{bumping, Arriving, no_node, named, entered, Arrives}
use Rattle.soundness_laws.proofs.Saying.{going}

-- n is the number of nodes and c the count of node x, as they were read.
module _ (ws : List ℕ) (x : ℕ) (names queue : List ℕ) (tail : ℕ) (a : Arriving ws names queue tail) where
  pub arrive_none : x ≡ 0 → Arrives ws x names queue tail names queue (Some tail)
  arrive_none e = going (no_node e)

  module _ (f : x ≡ 0 → ⊥) (n : ℕ) (en : n ≡ nodes ws) (h : x ≤ n) (c : ℕ) (ec : c ≡ count ws x) where
    abbrev names' : List ℕ
    names' = set names x (get_or names x 0 + 1)

    pub arrive_named : get_or names x 0 + 1 < c → Arrives ws x names queue tail names' (set queue tail x) (Some tail)
    unfolding bumping
    arrive_named l = going (named (omega arith) (omega arith) (omega arith))

    pub arrive_entered : get_or names x 0 < c → c ≤ get_or names x 0 + 1 → Arrives ws x names queue tail names' (set queue tail x) (Some (tail + 1))
    unfolding bumping
    arrive_entered l m = going (entered (omega arith) (omega arith) (omega arith))
