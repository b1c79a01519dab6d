-- A call that changes one slot: every other slot holds the version that it held.
use mathlib.Core.Path.{◌≡◌, ap, sym, ◌∙◌, subst, subst₂}
use mathlib.Core.Logic.{◌⊎◌}
use mathlib.Core.List.{List, []}
use Prim.Native.Nat.{ℕ, ◌<◌}
use native.Mathlib.Omega.{arith}
use Rattle.trees.specs.Tree.{Tree}
use Rattle.words.specs.Layout.{nodes, slots, slot_root, slot_size}
use Rattle.words.specs.Reads.{Reads, Held}
use Rattle.words.specs.Sound.{Sound}
use Rattle.words.specs.Owned.{Live, Owned, Sized}
use Rattle.words.proofs.Holding.{frame}
use Rattle.words.proofs.OwnedLaws.{live_left, live_right}
use Rattle.words.proofs.SoundOwned.{sound_owned}
use Rattle.words.proofs.Changes.{Outside, outside_root, outside_size}
use Rattle.words.proofs.Slotting.{InSlot, slot_header}
use Rattle.words.proofs.Slotting as slotting
use Rattle.words.proofs.Releasing.{kept_frame}
use Rattle.calls.specs.Call.{Answer}
use Rattle.calls.specs.Version.{VersionIs}
use Rattle.calls.specs.Writing.{AllButSlot, HandsOutTree, GivenUp}
use Rattle.calls.proofs.Versions.{version_of, version_root}

pub record OneSlot (q : ℕ) (ws ws' : List ℕ) : Type 0 where
  pub sound : Sound ws'
  pub others : AllButSlot q ws ws'
  pub reads_kept : (s : ℕ) (t : Tree) → (s ≡ q → ⊥) → VersionIs ws s t → Reads (nodes ws) ws' (slot_root (nodes ws) ws s) t

module _ {q : ℕ} {ws ws' : List ℕ} (d : AllButSlot q ws ws') where
  pub same_nodes : nodes ws' ≡ nodes ws
  unfolding nodes
  same_nodes = d.header 0 (omega arith) (λ e. omega arith)

  pub same_slots : slots ws' ≡ slots ws
  unfolding slots
  same_slots = d.header 1 (omega arith) (λ e. omega arith)

  pub other_root : (s : ℕ) → s < slots ws → (s ≡ q → ⊥) → slot_root (nodes ws') ws' s ≡ slot_root (nodes ws) ws s
  other_root s p f = ap (λ (n : ℕ). slot_root n ws' s) same_nodes ∙ d.roots s p f

  pub held_before : (s : ℕ) → (s ≡ q → ⊥) → Held ws' s → Held ws s
  held_before s f h =
      let p : s < slots ws = omega (arith, same_slots, h.inside) in
      record { inside = p; held = λ e. h.held (other_root s p f ∙ e) }

  pub held_after : (s : ℕ) → (s ≡ q → ⊥) → Held ws s → Held ws' s
  held_after s f h = record { inside = omega (arith, same_slots, h.inside); held = λ e. h.held (sym (other_root s h.inside f) ∙ e) }

-- A change of slot q alone, a change of nodes and the head alone, and one after the other.
pub in_slot_others : {q : ℕ} {ws ws' : List ℕ} → InSlot (nodes ws) q ws ws' → AllButSlot q ws ws'
in_slot_others {q} {ws} {ws'} d =
    record {
      long = d.long;
      header = λ k p f. slot_header (nodes ws) q ws ws' d k p;
      roots = λ s p f. slotting.other_root (nodes ws) q ws ws' d s f;
      sizes = λ s p f. slotting.other_size (nodes ws) q ws ws' d s f;
    }

pub outside_others : {q : ℕ} {ws ws' : List ℕ} → Outside (nodes ws) ws ws' → AllButSlot q ws ws'
outside_others {ws = ws} {ws' = ws'} d =
    record {
      long = d.long;
      header = d.header;
      roots = λ s p f. outside_root (nodes ws) ws ws' d s;
      sizes = λ s p f. outside_size (nodes ws) ws ws' d s;
    }

pub others_trans : {q : ℕ} {a b c : List ℕ} → AllButSlot q a b → AllButSlot q b c → AllButSlot q a c
others_trans {a = a} {b = b} {c = c} x y =
    let n = same_nodes x in
    let inside : (s : ℕ) → s < slots a → s < slots b = λ s p. omega (arith, same_slots x) in
    record {
      long = y.long ∙ x.long;
      header = λ k p f. y.header k p f ∙ x.header k p f;
      roots = λ s p f. subst (λ (m : ℕ). slot_root m c s ≡ slot_root m b s) n (y.roots s (inside s p) f) ∙ x.roots s p f;
      sizes = λ s p f. subst (λ (m : ℕ). slot_size m c s ≡ slot_size m b s) n (y.sizes s (inside s p) f) ∙ x.sizes s p f;
    }

module _ {q : ℕ} {ws ws' : List ℕ} (d : OneSlot q ws ws') where
  pub carried : {s : ℕ} {t : Tree} → (s ≡ q → ⊥) → VersionIs ws s t → VersionIs ws' s t
  carried {s} {t} f x =
      record {
        held = held_after d.others s f x.held;
        reads = rw (other_root d.others s x.held.inside f, same_nodes d.others) (d.reads_kept s t f x);
      }

-- Nodes that were live keep their words: insert and remove.
pub hands_out_one : {ws ws' : List ℕ} {u : Tree} {a : Answer} (g : HandsOutTree ws u a ws') → OneSlot g.out ws ws'
hands_out_one {ws} {ws'} g =
    let o = sound_owned ws g.before in
    record {
      sound = g.after;
      others = g.others;
      reads_kept = λ s t f x.
          frame
          (nodes ws)
          ws
          ws'
          (λ j. Live (nodes ws) ws j)
          g.live_kept
          (live_left Sized (nodes ws) (slots ws) ws [] o)
          (live_right Sized (nodes ws) (slots ws) ws [] o)
          (slot_root (nodes ws) ws s)
          t
          (version_root g.before x)
          x.reads;
    }

-- Nodes that are live afterwards keep their words: release.
pub released_one : {ws ws' : List ℕ} {s : ℕ} {a : Answer} → GivenUp ws s a ws' → OneSlot s ws ws'
released_one {ws} {ws'} g =
    let n_is = same_nodes g.others in
    let o : Owned Sized (nodes ws) (slots ws') ws' [] = rw n_is at (sound_owned ws' g.after) in
    record {
      sound = g.after;
      others = g.others;
      reads_kept = λ s t f x.
          let h = held_after g.others s f x.held in
          let e = other_root g.others s x.held.inside f in
          kept_frame
          Sized
          (nodes ws)
          (slots ws')
          ws
          ws'
          []
          o
          g.live_kept
          (slot_root (nodes ws) ws s)
          t
          (subst₂ (λ (n r : ℕ). (r ≡ 0) ⊎ Live n ws' r) n_is e (version_root g.after (version_of g.after s h)))
          x.reads;
    }
