-- The version of a slot is one tree; of a sound arena it is fine, with its stored size, and no taller than H of it.
use mathlib.Core.Path.{◌≡◌, ap, ◌∙◌, subst}
use mathlib.Core.Logic.{◌⊎◌, inl, inr, ⊎_elim}
use mathlib.Core.List.{List, []}
use Prim.Native.Nat.{ℕ, ◌≤◌, ◌<◌}
use native.Mathlib.Omega.{arith}
use native.Mathlib.Decide.{ℕ_discrete, dec_lt}
use lib.ListN.{length}
use Rattle.heights.specs.Height.{H}
use Rattle.trees.specs.Tree.{Tree, listing, size, height}
use Rattle.trees.specs.Shape.{Fine}
use Rattle.trees.proofs.Low.{height-H}
use Rattle.trees.proofs.Lookups.{size-listing}
use Rattle.words.specs.Layout.{nodes, slots, slot_root, slot_size, not_held}
use Rattle.words.specs.Reads.{Held}
use Rattle.words.specs.Sound.{Sound}
use Rattle.words.specs.Owned.{Live, Sized}
use Rattle.words.proofs.Holding.{reads_same, reads_link}
use Rattle.words.proofs.OwnedLaws.{live_root}
use Rattle.words.proofs.SoundOwned.{slot_fine, sound_owned}
use Rattle.words.proofs.Bounds.{size-nodes}
use Rattle.calls.specs.Version.{VersionIs, Lowest}

pub version_one : {ws : List ℕ} {s : ℕ} {t u : Tree} → VersionIs ws s t → VersionIs ws s u → t ≡ u
version_one {ws} {s} {t} {u} x y = reads_same (nodes ws) ws (slot_root (nodes ws) ws s) t u x.reads y.reads

pub version_of : {ws : List ℕ} (S : Sound ws) (s : ℕ) (h : Held ws s) → VersionIs ws s (S.trees.tree s h)
version_of S s h = record { held = h; reads = S.trees.links s h }

module _ {ws : List ℕ} {s : ℕ} {t : Tree} (S : Sound ws) (x : VersionIs ws s t) where
  version_tree : S.trees.tree s x.held ≡ t
  version_tree = version_one (version_of S s x.held) x

  pub version_fine : Fine t
  version_fine = subst Fine version_tree (slot_fine ws S s x.held)

  pub version_size : slot_size (nodes ws) ws s ≡ size t
  version_size = S.books.sizes s x.held ∙ ap size version_tree

  -- "no version of n entries is taller than H(n)"
  pub version_low : height t ≤ H (length (listing t))
  version_low =
      let b = size-nodes (nodes ws) ws (slot_root (nodes ws) ws s) t x.reads version_fine.ordered in
      rw (← size-listing t) (height-H t version_fine (omega (arith, S.trees.limits.n_high)))

  pub version_root : (slot_root (nodes ws) ws s ≡ 0) ⊎ Live (nodes ws) ws (slot_root (nodes ws) ws s)
  version_root = live_root Sized (nodes ws) (slots ws) ws [] (sound_owned ws S) s t x.held.inside x.reads

  pub version_link : slot_root (nodes ws) ws s ≤ nodes ws
  version_link = ⊎_elim (λ e. omega arith) (λ b. b.1) (reads_link (nodes ws) ws (slot_root (nodes ws) ws s) t x.reads)

pub lowest_one : {ws : List ℕ} {p q : ℕ} → Lowest ws p → Lowest ws q → p ≡ q
lowest_one {ws} {p} {q} a b = go (dec_lt p q) (dec_lt q p)
  where
    go : Dec (p < q) → Dec (q < p) → p ≡ q
    go (yes l) g = absurd (a.unheld (b.lower_held p l))
    go (no l) (yes g) = absurd (b.unheld (a.lower_held q g))
    go (no l) (no g) = omega arith

-- A slot of the arena is held or its root says that it is not.
pub held_or_not : (ws : List ℕ) (s : ℕ) → s < slots ws → Held ws s ⊎ (slot_root (nodes ws) ws s ≡ not_held)
held_or_not ws s p = go (ℕ_discrete (slot_root (nodes ws) ws s) not_held)
  where
    go : Dec (slot_root (nodes ws) ws s ≡ not_held) → Held ws s ⊎ (slot_root (nodes ws) ws s ≡ not_held)
    go (yes e) = inr e
    go (no f) = inl (record { inside = p; held = f })

pub lowest_root : {ws : List ℕ} {q : ℕ} → Lowest ws q → slot_root (nodes ws) ws q ≡ not_held
lowest_root {ws} {q} l = ⊎_elim (λ h. absurd (l.unheld h)) (λ e. e) (held_or_not ws q l.below)
