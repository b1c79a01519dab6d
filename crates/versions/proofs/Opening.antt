-- The tests of hold, insert and remove: a version, and a slot to hand out.
use mathlib.Core.Path.{◌≡◌, ap, sym, ◌∙◌, subst}
use mathlib.Core.List.{List, [], ◌∷◌}
use Prim.Native.Nat.{ℕ, ◌≤◌, ◌<◌}
use native.Mathlib.Omega.{arith}
use Rattle.std.specs.Prelude.{Option, Some, None, Result, Ok, Err}
use Rattle.std.specs.Option.{ok_or, MatchOption}
use Rattle.std.specs.Result.{IsErrAnd}
use Rattle.words.specs.Layout.{nodes, slots, slot_root, slot_size, not_held}
use Rattle.words.specs.Reads.{Held}
use Rattle.words.specs.Sound.{Sound}
use Rattle.calls.specs.Refusal as calls
use Rattle.calls.specs.Call as call
use Rattle.calls.specs.Table.{slots_of, tests}
use Rattle.calls.specs.Outcome.{Outcome}
use Rattle.calls.specs.Version.{Lowest}
use Rattle.calls.proofs.Passing.{no_version_outcome}
use Rattle.calls.proofs.WritingOutcomes.{slots_full}
use Rattle.answers.specs.declared.Refusal.{Refusal}
use Rattle.answers.specs.declared.Refusal.TheVariants.{BadShape, Unsound, NoVersion, BadRange, Absent, NoSlot, NoRoom, End}
use Rattle.answers.specs.Answers.{refusal_of}
use Rattle.answers.specs.Entering.{Entering, Enters}
use Rattle.answers.proofs.Entries.{root_of, named-first}
use Rattle.versions.specs.declared.Parent.{Parent}
use Rattle.versions.specs.Slots.{slot_answer, AllSlotsHeld, LowestIs, ParentOf, Parents, Refuses, Opening, Opens}

-- What `?` hands on is the refusal that it met.
pub handed_on : {A : Type 0} {y : Result A Refusal} {r : Refusal} → IsErrAnd y (λ z. z ≡ r) → y ≡ Err r
handed_on {y = Ok a} h = absurd h
handed_on {y = Err z} h = ap Err h

-- The word of slot q says that it is not held.
abbrev pub Unheld : List ℕ → ℕ → ℕ → Type 0
Unheld ws n q = slot_root n ws q ≡ not_held

-- The first such slot below v, or none.
module _ {ws : List ℕ} {n v : ℕ} (e : n ≡ nodes ws) (f : v ≡ slots ws) where
  held : (q : ℕ) → q < v → (Unheld ws n q → ⊥) → Held ws q
  held q l h = record { inside = omega arith; held = λ z. h (ap (λ (m : ℕ). slot_root m ws q) e ∙ z) }

  pub lowest_found : (r : Option ℕ) →
      MatchOption r ((q : ℕ) → 0 ≤ q → q < v → Unheld ws n q → ⊥) (λ q. (0 ≤ q) × (q < v) × Unheld ws n q × ((s : ℕ) → 0 ≤ s → s < q → Unheld ws n s → ⊥)) →
      LowestIs ws r
  lowest_found None h = record { is = λ q l. held q (omega arith) (h q (omega arith) (omega arith)) }
  lowest_found (Some q) h =
      record {
        is = record {
          below = omega (arith, h.1);
          unheld = λ k. k.held (ap (λ (m : ℕ). slot_root m ws q) (sym e) ∙ h.2);
          lower_held = λ s l. held s (omega (arith, h.1)) (h.3 s (omega arith) l);
        };
      }

-- A slot to hand out, or the refusal NO_SLOT.
module _ {ws : List ℕ} {o : Option ℕ} {x : Result ℕ Refusal} (l : LowestIs ws o) (t : x ≡ ok_or o NoSlot) where
  given : (o : Option ℕ) → LowestIs ws o → {q : ℕ} → ok_or o NoSlot ≡ Ok q → Lowest ws q
  given (Some a) l {q} e = let z : a ≡ q = cc in rw (← z) l.is
  given None l e = cc

  refused : (o : Option ℕ) → LowestIs ws o → {r : Refusal} → ok_or o NoSlot ≡ Err r → (r ≡ NoSlot) × AllSlotsHeld ws
  refused (Some a) l e = cc
  refused None l e = (cc, l.is)

  pub lowest_of : {q : ℕ} → x ≡ Ok q → Lowest ws q
  lowest_of e = given o l (sym t ∙ e)

  pub all_held : {r : Refusal} → x ≡ Err r → (r ≡ NoSlot) × AllSlotsHeld ws
  all_held e = refused o l (sym t ∙ e)

module _ {ws : List ℕ} {s : ℕ} {x : Result ℕ Refusal} (S : Sound ws) (g : Enters ws s x) where
  pub open_refused : {y : Result Parent Refusal} {r : Refusal} → x ≡ Err r → IsErrAnd y (λ z. z ≡ r) → Opens ws s y
  open_refused h i =
      let y = subst (Entering ws s) h g.entering in
      record { is = rw (handed_on i, y.0) y.1 }

  module _ {o : Option ℕ} {z : Result ℕ Refusal} {i : ℕ} (h : x ≡ Ok i) (l : LowestIs ws o) (t : z ≡ ok_or o NoSlot) where
    pub open_full : {y : Result Parent Refusal} {r : Refusal} → z ≡ Err r → IsErrAnd y (λ z. z ≡ r) → Opens ws s y
    open_full e f = record { is = rw (handed_on f, (all_held l t e).0) ((root_of S g h).0, (all_held l t e).1) }

    pub open_at : {q n m : ℕ} → z ≡ Ok q → n ≡ nodes ws → m ≡ slot_size n ws s → Opens ws s (Ok (record { root = i; size = m; out = q }))
    open_at {q} {n} {m} e f y =
        record {
          is = record {
            held = (root_of S g h).0;
            root_is = (root_of S g h).1;
            size_is = y ∙ ap (λ (k : ℕ). slot_size k ws s) f;
            lowest = lowest_of l t e;
          };
        }

-- Any call that begins with these tests and names the slot.
module _ {ws : List ℕ} {s : ℕ} {x : Result Parent Refusal} (S : Sound ws) (g : Opens ws s x) where
  pub opened_refused : {c : call.Call} {rs : List calls.Refusal} (y : Result ℕ Refusal) {r : Refusal} → tests c ≡ calls.Refusal.unsound ∷ (calls.Refusal.no_version ∷ (calls.Refusal.no_slot ∷ rs)) →
      slots_of c ≡ s ∷ [] → x ≡ Err r → IsErrAnd y (λ z. z ≡ r) → Outcome c ws (slot_answer y) ws
  opened_refused {c} {rs} y {r} starts names e i = rw (handed_on i) (go r (subst (Opening ws s) e g.is))
    where
      go : (r : Refusal) → Refuses ws s r → Outcome c ws (call.Answer.refused (refusal_of r)) ws
      go BadShape h = absurd h
      go Unsound h = absurd h
      go NoVersion h = no_version_outcome starts S s (rw names (named-first s [])) h
      go BadRange h = absurd h
      go Absent h = absurd h
      go NoSlot h = slots_full S h.1 starts names h.0
      go NoRoom h = absurd h
      go End h = absurd h

abbrev pub parents : {ws : List ℕ} {s : ℕ} {p : Parent} → Sound ws → ParentOf ws s p → Parents ws p
parents {s = s} S k = record { sound = S; slot = s; of = k }
