-- One law for each way in which new, hold and release return.
use mathlib.Core.Path.{◌≡◌, refl, ap, sym, ◌∙◌, subst}
use mathlib.Core.Logic.{◌⊎◌}
use mathlib.Core.List.{List, []}
use Prim.Native.Nat.{ℕ, ◌+◌, ◌*◌, ◌≤◌}
use native.Mathlib.Omega.{arith}
use mir.Syntax.{w32}
use mir.Val.{Fits}
use lib.ListN.{length}
use Rattle.std.specs.Prelude.{Option, Result, Ok, Err}
use Rattle.std.specs.Option.{ok_or}
use Rattle.std.specs.Result.{IsErrAnd}
use Rattle.words.specs.Layout.{nodes, slots, slot_root, not_held, max_height, node_words, header_words}
use Rattle.words.specs.Reads.{Held}
use Rattle.words.specs.Sound.{Sound}
use Rattle.words.specs.Owned.{Live, Sized, idles}
use Rattle.words.specs.Model.{raising, slotting}
use Rattle.words.proofs.Changes.{Outside, outside_nodes}
use Rattle.words.proofs.Recounting.{raising_outside, raising_idles}
use Rattle.words.proofs.Slotting.{slotting_in, slot_reads, take_owned}
use Rattle.words.proofs.SoundOwned.{sound_owned}
use Rattle.words.proofs.Bounds.{version_low}
use Rattle.arena.specs.Nodes.{SlotInside}
use Rattle.nodes.specs.Promises as nodes
use Rattle.nodes.proofs.Raised.{owned_raisable, owned_any}
use Rattle.calls.specs.Call as call
use Rattle.calls.specs.Outcome.{Outcome}
use Rattle.calls.proofs.Versions.{version_of, version_root, version_link}
use Rattle.calls.proofs.WritingOutcomes.{new_full, new_outcome, hold_outcome, release_outcome}
use Rattle.answers.specs.declared.Refusal.{Refusal}
use Rattle.answers.specs.declared.Refusal.TheVariants.{NoSlot}
use Rattle.answers.specs.Entering.{Enters}
use Rattle.answers.proofs.Entries.{root_of, version_refused, named-first}
use Rattle.versions.specs.declared.Parent.{Parent}
use Rattle.versions.specs.Free.{FreeIs}
use Rattle.versions.specs.Slots.{slot_answer, done_answer, LowestIs, ParentOf, Parents}
use Rattle.versions.proofs.Opening.{handed_on, lowest_of, all_held}
use Rattle.versions.proofs.FreeNumbers.{balanced, slotted_nodes, slotted_idles, released_free, released_fits}

module _ {ws : List ℕ} {o : Option ℕ} {x : Result ℕ Refusal} (S : Sound ws) (l : LowestIs ws o) (t : x ≡ ok_or o NoSlot) where
  pub new_refused : (y : Result ℕ Refusal) {r : Refusal} → x ≡ Err r → IsErrAnd y (λ z. z ≡ r) → Outcome call.Call.new ws (slot_answer y) ws
  new_refused y e h = rw (handed_on h, (all_held l t e).0) (new_full S (all_held l t e).1)

  module _ {q n : ℕ} (f : x ≡ Ok q) (e : n ≡ nodes ws) where
    pub new_inside : SlotInside n ws q
    new_inside = omega (arith, S.trees.limits.long_is, (lowest_of l t f).below)

    pub new_told : {w : List ℕ} → w ≡ slotting n ws q 0 0 → Outcome call.Call.new ws (call.Answer.slot q) w
    new_told {w} z = rw (z ∙ ap (λ (m : ℕ). slotting m ws q 0 0) e) (new_outcome S (lowest_of l t f))

module _ {ws : List ℕ} {p : Parent} (k : Parents ws p) where
  pub share_raisable : nodes.Raisable ws p.root
  share_raisable =
      let S = k.sound in
      rw
      k.of.root_is
      (owned_raisable Sized (nodes ws) (slots ws) ws [] (slot_root (nodes ws) ws k.slot) (sound_owned ws S) (version_root S (version_of S k.slot k.of.held)) (omega arith))

  long : node_words * nodes ws + header_words ≤ length ws
  long = omega (arith, k.sound.trees.limits.long_is)

  raised : Outside (nodes ws) ws (raising ws p.root)
  raised =
      raising_outside
      (nodes ws)
      ws
      long
      p.root
      (omega (arith, k.of.root_is, version_link k.sound (version_of k.sound k.slot k.of.held)))

  live : (p.root ≡ 0) ⊎ Live (nodes ws) ws p.root
  live =
      let S = k.sound in
      subst (λ (i : ℕ). (i ≡ 0) ⊎ Live (nodes ws) ws i) (sym k.of.root_is) (version_root S (version_of S k.slot k.of.held))

  -- Sharing takes no node and frees none.
  pub share_free : {w : List ℕ} {f : ℕ} → FreeIs ws f → w ≡ slotting (nodes ws) (raising ws p.root) p.out p.root p.size → FreeIs w f
  share_free {w} F z =
      let up = raising ws p.root in
      rw
      z
      (balanced
      0
      0
      k.sound
      F
      (slotted_nodes (nodes ws) up p.out p.root p.size ∙ outside_nodes (nodes ws) ws up raised)
      (omega (arith, slotted_idles (nodes ws) up p.out p.root p.size, raising_idles (nodes ws) ws long p.root live))
      (omega arith))

pub hold_told : {ws w : List ℕ} {s : ℕ} {p : Parent} → Sound ws → ParentOf ws s p →
    w ≡ slotting (nodes ws) (raising ws p.root) p.out p.root p.size → Outcome (call.Call.hold s) ws (call.Answer.slot p.out) w
hold_told {s = s} S k z = rw (z, k.root_is, k.size_is) (hold_outcome S k.lowest (version_of S s k.held))

module _ {ws : List ℕ} {s : ℕ} {x : Result ℕ Refusal} (S : Sound ws) (g : Enters ws s x) where
  pub release_refused : (y : Result (Unit {0}) Refusal) {r : Refusal} → x ≡ Err r → IsErrAnd y (λ z. z ≡ r) →
      Outcome (call.Call.release s) ws (done_answer y) ws
  release_refused y e h = rw (handed_on h) (version_refused S g refl (named-first s []) e)

  module _ {i n : ℕ} {w : List ℕ} (e : x ≡ Ok i) (m : n ≡ nodes ws) (z : w ≡ slotting n ws s 4294967295 0) where
    h : Held ws s
    h = (root_of S g e).0

    given_up : w ≡ slotting (nodes ws) ws s not_held 0
    given_up = z ∙ ap (λ (k : ℕ). slotting k ws s not_held 0) m

    pub release_holds : nodes.Holds w i max_height
    release_holds =
        let t = S.trees.tree s h in
        let o = sound_owned ws S in
        let d = slotting_in (nodes ws) ws s not_held 0 in
        rw
        (given_up, (root_of S g e).1)
        (record {
          others = [];
          tree = t;
          n = nodes ws;
          v = slots ws;
          owned = owned_any Sized (nodes ws) (slots ws) _ _ (take_owned Sized (nodes ws) (slots ws) s ws [] h.inside t o (S.trees.links s h));
          reads = slot_reads (nodes ws) s ws _ d _ t (S.trees.links s h);
          low = version_low ws S s h;
        })

    module _ {w' : List ℕ} {r : ℕ} (q : nodes.Releases 22 w w' i r) where
      pub release_told : Outcome (call.Call.release s) ws call.Answer.done w'
      release_told = rw (q.words_are, given_up, (root_of S g e).1) (release_outcome S (version_of S s h))

      given_nodes : nodes w ≡ nodes ws
      given_nodes = rw given_up (slotted_nodes (nodes ws) ws s not_held 0)

      given_idles : idles (nodes ws) w ≡ idles (nodes ws) ws
      given_idles = rw given_up (slotted_idles (nodes ws) ws s not_held 0)

      module _ {f : ℕ} (F : FreeIs ws f) where
        pub release_free : FreeIs w' (f + r)
        release_free = released_free S given_nodes release_holds q given_idles F

        pub release_fits : Fits w32 (f + r)
        release_fits = released_fits S given_nodes release_holds q given_idles F
