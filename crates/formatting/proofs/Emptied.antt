-- The slots are given up one by one.
use mathlib.Core.Path.{◌≡◌, refl, ◌∙◌}
use mathlib.Core.Logic.{inl}
use mathlib.Core.List.{List}
use Prim.Native.Nat.{ℕ, ◌+◌, ◌≤◌, ◌<◌}
use native.Mathlib.Omega.{arith}
use native.Mathlib.Decide.{ℕ_discrete}
use lib.ListN.{length}
use Rattle.words.specs.Layout.{slot_root, slot_size, not_held, arena_words}
use Rattle.words.specs.Model.{unslotting}
use Rattle.words.proofs.Slotting.{InSlot, slotting_in, slotting_root, slotting_size, other_root, other_size}
use Rattle.arena.specs.Nodes.{SlotInside}
use Rattle.formatting.specs.Steps.{EmptyBelow}

pub empty_start : {n : ℕ} {ws : List ℕ} → EmptyBelow 0 n ws ws
empty_start = record { long = refl; empty = λ s l. absurd (omega arith); kept = λ k l. refl }

module _ {q n : ℕ} {ws ws' : List ℕ} (k : EmptyBelow q n ws ws') where
  pub empty_end : {v : ℕ} → v ≤ q → EmptyBelow v n ws ws'
  empty_end l = record { long = k.long; empty = λ s p. k.empty s (omega arith); kept = k.kept }

  module _ {v : ℕ} (l : q < v) (h : arena_words n v ≤ length ws) where
    pub empty_inside : SlotInside n ws' q
    empty_inside = omega (arith, k.long)

    pub empty_more : {after : List ℕ} → after ≡ unslotting n ws' q → EmptyBelow (q + 1) n ws after
    empty_more e =
        rw
        e
        (record {
          long = d.long ∙ k.long;
          empty = λ s p. go s p (ℕ_discrete s q);
          kept = λ a p. d.kept a (inl (omega arith)) ∙ k.kept a p;
        })
      where
        d : InSlot n q ws' (unslotting n ws' q)
        d = slotting_in n ws' q not_held 0

        go : (s : ℕ) → s < q + 1 → Dec (s ≡ q) →
            (slot_root n (unslotting n ws' q) s ≡ not_held) × (slot_size n (unslotting n ws' q) s ≡ 0)
        go s p (yes z) =
            rw z (
              slotting_root n ws' q not_held 0 (omega (arith, k.long)),
              slotting_size n ws' q not_held 0 (omega (arith, k.long)),
            )
        go s p (no f) = (
          other_root n q ws' (unslotting n ws' q) d s f ∙ (k.empty s (omega arith)).0,
          other_size n q ws' (unslotting n ws' q) d s f ∙ (k.empty s (omega arith)).1,
        )
