use borrow.Author.Rules.{rules}
use Rattle.words.specs.Layout.{entry, left, right, color}
use Rattle.arena.proofs.node_at.Goals as goal

pub returns : goal.returns
unfolding entry left right color
returns c = search rules
