-- When two entries, and two next entries, are the same.
use Rattle.std.specs.Prelude.{Bool, false}
use Rattle.std.proofs.Math.Option.{Option, none, some}
use Rattle.trees.specs.Tree.{Entry}
use Rattle.trees.specs.Order.{compare_entries, is_same}

abbrev pub alike_entries : Entry → Entry → Bool
alike_entries e f = is_same (compare_entries e f)

abbrev pub alike_heads : Option Entry → Option Entry → Bool
alike_heads none b = false
alike_heads (some e) none = false
alike_heads (some e) (some f) = alike_entries e f
