-- RULES 14.4 to 14.9, demand 3: a format, then any calls; what each slot should then hold; and what
-- holds after every call.
use Rattle.std.specs.Prelude.{◌≡◌, List, [], ℕ, ◌+◌, ◌≤◌, eqb, length, if◌then◌else◌}
use Rattle.std.proofs.Math.Option.{Option, none, some}
use Rattle.heights.specs.Height.{H}
use Rattle.trees.specs.Tree.{Entry, Tree, listing, height}
use Rattle.trees.specs.Edit.{Edit, edited}
use Rattle.words.specs.Layout.{nodes, slots}
use Rattle.words.specs.Reads.{Held}
use Rattle.words.specs.Sound.{AllReached, Sound, free_number}
use Rattle.calls.specs.Call.{Call, Answer}
use Rattle.calls.specs.Effect.{Effect, effect}
use Rattle.calls.specs.Version.{VersionIs}
use Rattle.calls.specs.Outcome.{Outcome}

-- RULES 14.4, 14.6: the N and V of the last accepted format, and for each slot the listing of its
-- version, if it is held.
pub record Model : Type 0 where
  pub n : ℕ
  pub v : ℕ
  pub lists : ℕ → Option (List Entry)

abbrev pub no_versions : ℕ → ℕ → Model
no_versions n v = record { n = n; v = v; lists = λ s. none }

abbrev pub with_slot : Model → ℕ → Option (List Entry) → Model
with_slot m q x = record { n = m.n; v = m.v; lists = λ s. if eqb s q then x else m.lists s }

abbrev pub edited_at : Edit → Option (List Entry) → Option (List Entry)
edited_at d none = none
edited_at d (some xs) = some (edited d xs)

-- RULES 14.6: what the slot that is handed out lists. "Nothing (new), what the named version listed
-- then (hold), or that with one tag set (insert) or cut (remove)."
abbrev pub handed : Effect → Model → Option (List Entry)
handed (Effect.formats n v) m = none
handed Effect.makes m = some []
handed (Effect.holds s) m = m.lists s
handed (Effect.releases s) m = none
handed (Effect.edits s d) m = edited_at d (m.lists s)
handed Effect.reads m = none

-- What a call that answers only that it is done leaves. RULES 14.4: another accepted format starts
-- anew.
abbrev pub done_after : Effect → Model → Model
done_after (Effect.formats n v) m = no_versions n v
done_after Effect.makes m = m
done_after (Effect.holds s) m = m
done_after (Effect.releases s) m = with_slot m s none
done_after (Effect.edits s d) m = m
done_after Effect.reads m = m

-- The model after a call, by its answer: a refused call leaves it as it was (RULES 4.19).
abbrev pub after : Call → Answer → Model → Model
after c (Answer.refused r) m = m
after c Answer.done m = done_after (effect c) m
after c (Answer.slot q) m = with_slot m q (handed (effect c) m)
after c (Answer.number x) m = m
after c (Answer.value x) m = m
after c (Answer.entry e) m = m
after c (Answer.sign x) m = m
after c (Answer.truth b) m = m
after c (Answer.difference d) m = m

-- RULES 14.4: "any calls, also refused ones", one after the other.
pub data Calls (ws : List ℕ) (m : Model) : List ℕ → Model → Type 0 where
  no_call : Calls ws m ws m
  call : {c : Call} {a : Answer} {ws' ws'' : List ℕ} {m' : Model} → Calls ws m ws' m' → Outcome c ws' a ws'' → Calls ws m ws'' (after c a m')

-- RULES 14.4: "A history is an accepted format and then any calls".
pub record History (ws : List ℕ) (m : Model) : Type 0 where
  pub n : ℕ
  pub v : ℕ
  pub old : List ℕ
  pub start : List ℕ
  pub formats : Outcome (Call.format n v) old Answer.done start
  pub calls : Calls start (no_versions n v) ws m

-- Slot s lists xs, and its tree is no taller than H of their number (RULES 14.9).
pub record Lists (ws : List ℕ) (s : ℕ) (xs : List Entry) : Type 0 where
  pub tree : Tree
  pub version : VersionIs ws s tree
  pub listing_is : listing tree ≡ xs
  pub low : height tree ≤ H (length xs)

abbrev pub SlotAs : List ℕ → ℕ → Option (List Entry) → Type 0
SlotAs ws s none = Held ws s → ⊥
SlotAs ws s (some xs) = Lists ws s xs

-- RULES 14.5: the arena is sound. RULES 14.6: each slot is as the model has it. RULES 14.8: "The
-- free number is N less the number of different nodes that held slots reach."
pub record Keeps (ws : List ℕ) (m : Model) : Type 0 where
  pub sound : Sound ws
  pub n_is : nodes ws ≡ m.n
  pub v_is : slots ws ≡ m.v
  pub slot_as : (s : ℕ) → SlotAs ws s (m.lists s)
  pub free_is : (S : Sound ws) (xs : List ℕ) → AllReached ws xs → free_number S + length xs ≡ m.n
