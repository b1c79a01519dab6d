-- The ends of a listing, of RULES 7.4 and 6.17: which child of a node lies towards an end, and what
-- the lookup of an end finds.
use Rattle.std.specs.Prelude.{ℕ}
use Rattle.std.proofs.Math.Option.{Option}
use Rattle.trees.specs.Tree as trees
use Rattle.trees.specs.Range as range
use Rattle.trees.specs.Lookup.{first, last}
use Rattle.arena.specs.declared.Node.{Node}
use Rattle.lookup.specs.declared.End.{End}
use Rattle.lookup.specs.declared.End.TheVariants.{Front, Back}

abbrev pub end_of : End → range.End
end_of Front = range.front
end_of Back = range.back

abbrev pub toward : End → Node → ℕ
toward Front d = d.left
toward Back d = d.right

abbrev pub away : End → Node → ℕ
away Front d = d.right
away Back d = d.left

abbrev pub opposite : End → End
opposite Front = Back
opposite Back = Front

abbrev pub entry_at : End → trees.Tree → Option trees.Entry
entry_at Front = first
entry_at Back = last
