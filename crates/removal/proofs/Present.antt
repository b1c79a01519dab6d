-- `remove` for a key that is there, and that a sound arena gives what it asks.
use mathlib.Core.Path.{◌≡◌}
use mathlib.Core.Bool.{true}
use mathlib.Core.List.{List}
use Prim.Native.Nat.{ℕ}
use native.Mathlib.Omega.{arith}
use Rattle.trees.specs.Tree.{Tree, black, paint}
use Rattle.trees.specs.Lookup.{has}
use Rattle.trees.specs.Remove.{del, remove}
use Rattle.words.specs.Layout.{nodes, slot_root, max_height}
use Rattle.words.specs.Reads as reads
use Rattle.words.specs.Sound.{Sound}
use Rattle.words.proofs.Bounds.{version_low}
use Rattle.plan.specs.Steps.{Turns}
use Rattle.plan.proofs.Growing.{onward}
use Rattle.plan.proofs.Sounding.{sound_holds}
use Rattle.removal.specs.Promises.{del_room, remove_room, RedBlack, Removes}

present_is : (k : ℕ) (t : Tree) → has k t ≡ true → remove k t ≡ paint black (del k t)
unfolding remove
present_is k t h = rw h

pub removed : {ws p q s : List ℕ} {link m res : ℕ} (h k : ℕ) → Turns ws p q (del_room h) link m (del k) → Turns ws q s 1 m res (paint black) →
    Removes ws p s (remove_room h) link res k
removed h k T P = record {
  grown = onward T.grown P.grown (omega arith);
  holds = λ {t} e g. rw (present_is k t e) (P.holds (T.holds g));
}

pub sound_red_black : (ws plan : List ℕ) (S : Sound ws) (s : ℕ) (h : reads.Held ws s) → RedBlack ws plan (slot_root (nodes ws) ws s) max_height
sound_red_black ws plan S s h =
    let d = S.trees.shapes s h in
    record {
      blacks = d.0;
      shaped = record {
        some = record { tree = S.trees.tree s h; held = sound_holds ws plan S s h };
        fits = version_low ws S s h;
        shape = d.1;
      };
    }
