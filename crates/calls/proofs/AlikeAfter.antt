-- Two inserts, removes or releases on the same words leave arenas that are alike: the same but for nodes that were free.
use mathlib.Core.Path.{◌≡◌, refl, ap, sym, ◌∙◌, subst}
use mathlib.Core.Bool.{Bool, true, false, true≢false}
use mathlib.Core.List.{List}
use Prim.Native.Nat.{ℕ, ◌<◌}
use native.Mathlib.Omega.{arith}
use native.Mathlib.Decide.{ℕ_discrete}
use lib.ListN.{get_or}
use borrow.Author.Tests.{eqb-true}
use Rattle.trees.specs.Tree.{Entry, Color, kept, Tree, node}
use Rattle.words.specs.Layout.{nodes, slots, count, slot_root, slot_size, header_words, head_word}
use Rattle.words.specs.Reads.{Held}
use Rattle.words.specs.Sound.{Sound}
use Rattle.words.specs.Fresh.{was_free}
use Rattle.calls.specs.Call.{Answer}
use Rattle.calls.specs.Version.{VersionIs}
use Rattle.calls.specs.Writing.{AllButSlot, HandsOutTree, GivenUp}
use Rattle.calls.specs.Alike.{Alike}
use Rattle.calls.proofs.Versions.{version_one, version_of, lowest_one}
use Rattle.calls.proofs.OneSlot.{OneSlot, same_nodes, same_slots, held_before, carried, hands_out_one, released_one}
use Rattle.calls.proofs.Parts.{Part, version_part, kept_same}
use Rattle.calls.proofs.Beside.{BothHold, Towards}
use Rattle.calls.proofs.TwinCounts.{alike}

-- Two calls on ws that changed slot q alone, outside the nodes: what they have in common.
module _ {q : ℕ} {ws w w' : List ℕ} (d : AllButSlot q ws w) (d' : AllButSlot q ws w') where
  both_slots : slots w' ≡ slots w
  both_slots = same_slots d' ∙ sym (same_slots d)

  both_header : (k : ℕ) → k < header_words → (k ≡ head_word → ⊥) → get_or w' k 0 ≡ get_or w k 0
  both_header k p f = d'.header k p f ∙ sym (d.header k p f)

  both_sizes : slot_size (nodes ws) w' q ≡ slot_size (nodes ws) w q → (s : ℕ) → s < slots w → slot_size (nodes w') w' s ≡ slot_size (nodes w) w s
  both_sizes e s p =
      ap (λ (n : ℕ). slot_size n w' s) (same_nodes d') ∙ go (ℕ_discrete s q) ∙ sym (ap (λ (n : ℕ). slot_size n w s) (same_nodes d))
    where
      go : Dec (s ≡ q) → slot_size (nodes ws) w' s ≡ slot_size (nodes ws) w s
      go (yes z) = rw z e
      go (no f) = let b : s < slots ws = omega (arith, same_slots d) in d'.sizes s b f ∙ sym (d.sizes s b f)

-- Slots other than q hold what they held in ws, in both.
module _ {q q' : ℕ} {ws w w' : List ℕ} (S : Sound ws) (d : OneSlot q ws w) (d' : OneSlot q' ws w') where
  other_both : (isNew : ℕ → Bool) (s : ℕ) → (s ≡ q → ⊥) → (s ≡ q' → ⊥) → Held w s → BothHold isNew w w' s
  other_both isNew s f f' h =
      let x = version_of S s (held_before d.others s f h) in
      record { tree = _; tree' = _; version = carried d f x; version' = carried d' f' x; alike = refl }

-- So a node that was free in ws is in slot q.
pub new_in : {q s j : ℕ} {ws w : List ℕ} {t l r : Tree} {c : Color} {e : Entry} → Sound ws → OneSlot q ws w → VersionIs w s t →
    Part t (node (kept j) c l e r) → was_free ws j ≡ true → s ≡ q
new_in {q} {s} {j} {ws} {w} {t} {l} {r} {c} {e} S d x p n = go (ℕ_discrete s q)
  where
    go : Dec (s ≡ q) → s ≡ q
    go (yes z) = z
    go (no f) =
        let y = version_of S s (held_before d.others s f x.held) in
        let m = version_one x (carried d f y) in
        let a = version_part S y (subst (λ (u : Tree). Part u (node (kept j) c l e r)) m p) in
        absurd (omega (arith, eqb-true (count ws j) 0 n, ap (count ws) (kept_same a.1), a.2.2))

module _ {ws w w' : List ℕ} {u : Tree} {a b : Answer} (g : HandsOutTree ws u a w) (h : HandsOutTree ws u b w') (e : h.out ≡ g.out) where
  hands_towards : Towards (was_free ws) h.out w w'
  hands_towards = record { sound' = h.after; both = λ s x. go s x (ℕ_discrete s g.out); new_at = λ x p n. new_in g.before (hands_out_one h) x p n }
    where
      go : (s : ℕ) → Held w s → Dec (s ≡ g.out) → BothHold (was_free ws) w w' s
      go s x (yes z) =
          record {
            tree = g.tree;
            tree' = h.tree;
            version = rw z g.version;
            version' = rw (z ∙ sym e) h.version;
            alike = g.tree_is ∙ sym h.tree_is;
          }
      go s x (no f) = other_both g.before (hands_out_one g) (hands_out_one h) (was_free ws) s f (λ z. f (z ∙ e)) x

pub hands_out_alike : {ws w w' : List ℕ} {u : Tree} {a b : Answer} → HandsOutTree ws u a w → HandsOutTree ws u b w' → Alike (was_free ws) w w'
hands_out_alike {ws} {w} {w'} g h =
    let e = lowest_one h.lowest g.lowest in
    let d' = subst (λ (q : ℕ). AllButSlot q ws w') e h.others in
    let z = subst (λ (q : ℕ). slot_size (nodes ws) w' q ≡ _) e h.size_is in
    alike
    (hands_towards g h e)
    (subst (λ (q : ℕ). Towards (was_free ws) q w' w) (sym e) (hands_towards h g (sym e)))
    (both_slots g.others d')
    (h.others.long ∙ sym g.others.long)
    (both_header g.others d')
    (both_sizes g.others d' (z ∙ sym g.size_is))

module _ {ws w w' : List ℕ} {s : ℕ} {a b : Answer} (g : GivenUp ws s a w) (h : GivenUp ws s b w') where
  released_towards : Towards (λ i. false) s w w'
  released_towards =
      record {
        sound' = h.after;
        both = λ q x. other_both g.before (released_one g) (released_one h) (λ i. false) q (gone q x) (gone q x) x;
        new_at = λ x p n. absurd (true≢false (sym n));
      }
    where
      gone : (q : ℕ) → Held w q → q ≡ s → ⊥
      gone q x e = x.held (ap (λ (n : ℕ). slot_root n w q) (same_nodes g.others) ∙ rw e g.root_is)

pub released_alike : {ws w w' : List ℕ} {s : ℕ} {a b : Answer} → GivenUp ws s a w → GivenUp ws s b w' → Alike (λ i. false) w w'
released_alike g h =
    alike
    (released_towards g h)
    (released_towards h g)
    (both_slots g.others h.others)
    (h.others.long ∙ sym g.others.long)
    (both_header g.others h.others)
    (both_sizes g.others h.others (h.size_is ∙ sym g.size_is))
