-- What a sound arena gives: each version's root holds its tree beside any plan, and a scratch of zeros has room.
use mathlib.Core.Path.{◌≡◌}
use mathlib.Core.List.{List}
use Prim.Native.Nat.{ℕ, ◌+◌, ◌*◌, ◌≤◌, ◌<◌}
use native.Mathlib.Omega.{arith}
use lib.ListN.{replicate, length-replicate, get_or-replicate}
use Rattle.words.specs.Layout.{nodes, slot_root, max_nodes, max_height}
use Rattle.words.specs.Reads as reads
use Rattle.words.specs.Sound.{Sound}
use Rattle.words.proofs.Bounds.{version_low}
use Rattle.plan.specs.Scratch.{plan_node_words, plan_header_words, used}
use Rattle.plan.specs.Held.{Holds, Held, Room, word_limit}
use Rattle.plan.proofs.Holdings.{reads_holds}

pub sound_holds : (ws plan : List ℕ) (S : Sound ws) (s : ℕ) (h : reads.Held ws s) → Holds ws plan (slot_root (nodes ws) ws s) (S.trees.tree s h)
sound_holds ws plan S s h = reads_holds plan (slot_root (nodes ws) ws s) (S.trees.tree s h) (S.trees.links s h)

pub sound_held : (ws plan : List ℕ) (S : Sound ws) (s : ℕ) (h : reads.Held ws s) → Held ws plan (slot_root (nodes ws) ws s) max_height
sound_held ws plan S s h = record {
  some = record { tree = S.trees.tree s h; held = sound_holds ws plan S s h };
  fits = version_low ws S s h;
}

pub sound_room : (ws : List ℕ) (n k : ℕ) → Sound ws → plan_node_words * k + plan_header_words ≤ n → max_nodes + k < word_limit → Room ws (replicate n 0) k
sound_room ws n k S long fits =
    let e = length-replicate {A = ℕ} n 0 in
    let u : used (replicate n 0) ≡ 0 = get_or-replicate n 0 0 0 (omega arith) in
    let m = S.trees.limits.n_high in
    let l = S.trees.limits.long_is in
    record { arena = omega arith; room = omega arith; links = omega arith }
