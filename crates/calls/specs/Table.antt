-- RULES 4.1 to 4.16, 4.18, 4.30, 4.41: which slots a call names, and which refusals it tests, in
-- which order.
use Rattle.std.specs.Prelude.{List, [], ◌∷◌, ℕ}
use Rattle.calls.specs.Refusal.{Refusal}
use Rattle.calls.specs.Call.{Call}

-- RULES 4.30: "A call names the slots that it is given, and a walk step the slot of its walk."
abbrev pub slots_of : Call → List ℕ
slots_of (Call.format n v) = []
slots_of Call.new = []
slots_of (Call.hold s) = s ∷ []
slots_of (Call.release s) = s ∷ []
slots_of (Call.size s) = s ∷ []
slots_of Call.free_nodes = []
slots_of (Call.get s k) = s ∷ []
slots_of (Call.first s) = s ∷ []
slots_of (Call.last s) = s ∷ []
slots_of (Call.insert s e) = s ∷ []
slots_of (Call.remove s k) = s ∷ []
slots_of (Call.compare s t) = s ∷ (t ∷ [])
slots_of (Call.equal s t) = s ∷ (t ∷ [])
slots_of (Call.step d w) = w.slot ∷ []
slots_of (Call.rescale_mark s) = s ∷ []
slots_of Call.soundness_test = []
slots_of (Call.difference x) = x.first ∷ (x.second ∷ [])

-- RULES 4.1 to 4.16 and 4.41, the column "tests"; RULES 4.18: "in the order of the table".
abbrev pub tests : Call → List Refusal
tests (Call.format n v) = Refusal.bad_shape ∷ []
tests Call.new = Refusal.unsound ∷ (Refusal.no_slot ∷ [])
tests (Call.hold s) = Refusal.unsound ∷ (Refusal.no_version ∷ (Refusal.no_slot ∷ []))
tests (Call.release s) = Refusal.unsound ∷ (Refusal.no_version ∷ [])
tests (Call.size s) = Refusal.unsound ∷ (Refusal.no_version ∷ [])
tests Call.free_nodes = Refusal.unsound ∷ []
tests (Call.get s k) = Refusal.unsound ∷ (Refusal.no_version ∷ (Refusal.absent ∷ []))
tests (Call.first s) = Refusal.unsound ∷ (Refusal.no_version ∷ (Refusal.absent ∷ []))
tests (Call.last s) = Refusal.unsound ∷ (Refusal.no_version ∷ (Refusal.absent ∷ []))
tests (Call.insert s e) = Refusal.unsound ∷ (Refusal.no_version ∷ (Refusal.no_slot ∷ (Refusal.no_room ∷ [])))
tests (Call.remove s k) = Refusal.unsound ∷ (Refusal.no_version ∷ (Refusal.no_slot ∷ (Refusal.no_room ∷ [])))
tests (Call.compare s t) = Refusal.unsound ∷ (Refusal.no_version ∷ [])
tests (Call.equal s t) = Refusal.unsound ∷ (Refusal.no_version ∷ [])
tests (Call.step d w) = Refusal.unsound ∷ (Refusal.no_version ∷ (Refusal.bad_range ∷ (Refusal.ended ∷ [])))
tests (Call.rescale_mark s) = Refusal.unsound ∷ (Refusal.no_version ∷ [])
tests Call.soundness_test = []
tests (Call.difference x) = Refusal.unsound ∷ (Refusal.no_version ∷ (Refusal.ended ∷ []))
