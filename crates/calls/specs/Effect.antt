-- RULES 4.20: "Six calls write to the arena: format, new, hold, release, insert and remove. The
-- others never do."
use Rattle.std.specs.Prelude.{ℕ}
use Rattle.trees.specs.Edit.{Edit, setting, cutting}
use Rattle.calls.specs.Call.{Call}

pub data Effect : Type 0 where
  formats : (n v : ℕ) → Effect
  makes : Effect
  holds releases : (s : ℕ) → Effect
  edits : (s : ℕ) → Edit → Effect
  reads : Effect

-- RULES 4.20: what a call does where it is accepted.
abbrev pub effect : Call → Effect
effect (Call.format n v) = Effect.formats n v
effect Call.new = Effect.makes
effect (Call.hold s) = Effect.holds s
effect (Call.release s) = Effect.releases s
effect (Call.size s) = Effect.reads
effect Call.free_nodes = Effect.reads
effect (Call.get s k) = Effect.reads
effect (Call.first s) = Effect.reads
effect (Call.last s) = Effect.reads
effect (Call.insert s e) = Effect.edits s (setting e)
effect (Call.remove s k) = Effect.edits s (cutting k)
effect (Call.compare s t) = Effect.reads
effect (Call.equal s t) = Effect.reads
effect (Call.step d w) = Effect.reads
effect (Call.rescale_mark s) = Effect.reads
effect Call.soundness_test = Effect.reads
effect (Call.difference x) = Effect.reads
