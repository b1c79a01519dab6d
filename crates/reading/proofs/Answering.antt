-- One law for each way in which a reading call returns.
use Rattle.std.proofs.Common.{◌≡◌, ℕ, List, [], refl, ap, sym, ◌∙◌, ◌||◌, false}
use Rattle.std.specs.Prelude.{Option, Some, None, is_some, Result, Ok, Err}
use Rattle.std.proofs.Math.Option as math
use Rattle.trees.specs.Tree as trees
use Rattle.trees.specs.Listing as listing
use Rattle.trees.specs.Lookup as lookup
use Rattle.trees.proofs.Lookups.{get_find}
use Rattle.words.specs.Layout.{nodes, slot_size}
use Rattle.words.specs.Sound.{Sound}
use Rattle.arena.specs.Nodes.{entry_of}
use Rattle.arena.specs.declared.Entry.{Entry}
use Rattle.lookup.specs.Finding.{found_of, Finds}
use Rattle.calls.specs.Refusal as calls
use Rattle.calls.specs.Call as call
use Rattle.calls.specs.Reading.{value_of, rescale_slope, or_refused}
use Rattle.calls.specs.Outcome.{Outcome}
use Rattle.calls.proofs.Versions.{version_of, version_fine}
use Rattle.calls.proofs.ReadingOutcomes.{size_outcome, rescale_mark_outcome, get_outcome, first_outcome, last_outcome}
use Rattle.answers.specs.declared.Refusal.{Refusal}
use Rattle.answers.specs.Answers.{refusal_of}
use Rattle.answers.specs.Entering.{Enters}
use Rattle.answers.proofs.Entries.{version_refused, named-first}
use Rattle.answers.proofs.Finding.{slot_held, slot_tree, found_in, by_found}

-- The refusal of the way in, which a lookup hands on.
pub get_refused : {ws : List ℕ} {s : ℕ} {x : Result ℕ Refusal} → Sound ws → Enters ws s x → {r : Refusal} → x ≡ Err r → (k : ℕ) →
    Outcome (call.Call.get s k) ws (call.Answer.refused (refusal_of r)) ws
get_refused {s = s} S g e k = version_refused S g refl (named-first s []) e

module _ {ws : List ℕ} {s i : ℕ} {x : Result ℕ Refusal} (S : Sound ws) (g : Enters ws s x) (e : x ≡ Ok i) where
  pub size_told : {n : ℕ} → n ≡ nodes ws → (z : ℕ) → z ≡ slot_size n ws s → Outcome (call.Call.size s) ws (call.Answer.number z) ws
  size_told {n} m z q = rw (q ∙ ap (λ (k : ℕ). slot_size k ws s) m) (size_outcome S (version_of S s (slot_held S g e)))

  module _ {f : Option Entry} where
    module _ {k : ℕ} (m : Finds ws i f (lookup.get k)) where
      get_found : {y : Option Entry} → f ≡ y → Outcome (call.Call.get s k) ws (or_refused calls.Refusal.absent value_of (found_of y)) ws
      get_found = by_found S g e calls.Refusal.absent value_of m (get_outcome S (version_of S s (slot_held S g e)) k)

      pub get_value : {y : Entry} → f ≡ Some y → Outcome (call.Call.get s k) ws (call.Answer.value y.value) ws
      get_value z = get_found z

      pub get_absent : f ≡ None → Outcome (call.Call.get s k) ws (call.Answer.refused calls.Refusal.absent) ws
      get_absent z = get_found z

    module _ (m : Finds ws i f lookup.first) where
      first_found : {y : Option Entry} → f ≡ y → Outcome (call.Call.first s) ws (or_refused calls.Refusal.absent call.Answer.entry (found_of y)) ws
      first_found = by_found S g e calls.Refusal.absent call.Answer.entry m (first_outcome S (version_of S s (slot_held S g e)))

      pub first_entry : {y : Entry} → f ≡ Some y → Outcome (call.Call.first s) ws (call.Answer.entry (entry_of y)) ws
      first_entry z = first_found z

      pub first_absent : f ≡ None → Outcome (call.Call.first s) ws (call.Answer.refused calls.Refusal.absent) ws
      first_absent z = first_found z

    module _ (m : Finds ws i f lookup.last) where
      last_found : {y : Option Entry} → f ≡ y → Outcome (call.Call.last s) ws (or_refused calls.Refusal.absent call.Answer.entry (found_of y)) ws
      last_found = by_found S g e calls.Refusal.absent call.Answer.entry m (last_outcome S (version_of S s (slot_held S g e)))

      pub last_entry : {y : Entry} → f ≡ Some y → Outcome (call.Call.last s) ws (call.Answer.entry (entry_of y)) ws
      last_entry z = last_found z

      pub last_absent : f ≡ None → Outcome (call.Call.last s) ws (call.Answer.refused calls.Refusal.absent) ws
      last_absent z = last_found z

    -- Whether the one tag of the mark was found.
    pub mark_told : Finds ws i f (lookup.get rescale_slope) → Outcome (call.Call.rescale_mark s) ws (call.Answer.truth (is_some f)) ws
    mark_told m =
        let v = version_of S s (slot_held S g e) in
        rescale_mark_outcome S v (is_some f)
        (ap (λ (o : math.Option trees.Entry). listing.is_some o || false)
        (sym (get_find rescale_slope (slot_tree S g e) (version_fine S v).ordered) ∙ sym (found_in S g e f (lookup.get rescale_slope) m))
        ∙ same_some f)
      where
        same_some : (f : Option Entry) → listing.is_some (found_of f) || false ≡ is_some f
        same_some (Some y) = refl
        same_some None = refl
