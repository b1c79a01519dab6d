-- Both sides at the roots, with empty stacks.
use mathlib.Core.Path.{◌≡◌, ◌∙◌}
use mathlib.Core.List.{List, append-nil}
use Prim.Native.Nat.{ℕ}
use native.Mathlib.Omega.{arith}
use Rattle.trees.specs.Tree.{Tree, listing}
use Rattle.words.specs.Layout.{max_height}
use Rattle.words.specs.Reads.{Reads}
use Rattle.lookup.specs.Finding.{Rooted}
use Rattle.abreast.specs.declared.Side.{Side}
use Rattle.abreast.specs.declared.Heads.{Heads}
use Rattle.abreast.specs.Sides.{listed, waiting, ahead, Stands, Starts, Parts, PartsBelow}
use Rattle.abreast.proofs.Listed.{listed-held}

pub stands_root : {ws : List ℕ} {i : ℕ} {s : Side} → Starts i s → Rooted ws i max_height → Stands ws s
stands_root b k =
    rw
    (b.link_is, b.empty)
    (record {
      rooted = k;
      stacked = record { long = b.long; low = omega arith; inside = λ k b. absurd (omega arith); rights = λ k b. absurd (omega arith) };
    })

ahead_root : {ws : List ℕ} {i : ℕ} {s : Side} → Starts i s → Rooted ws i max_height → (n : ℕ) (t : Tree) → Reads n ws i t → ahead ws s ≡ listing t
unfolding ahead waiting
ahead_root {ws} {i} b k n t q = rw (b.link_is, b.empty) (append-nil (listed max_height ws i) ∙ listed-held k n t q)

pub parts_below : {ws : List ℕ} {i j : ℕ} {s t : Side} {r : Heads} → Starts i s → Starts j t → Rooted ws i max_height → Rooted ws j max_height →
    Parts (ahead ws s) (ahead ws t) r → PartsBelow ws i j r
parts_below a b k l P = record { says = λ n t u q w. rw (← ahead_root a k n t q, ← ahead_root b l n u w) P }
