-- The colours of the code, and the nodes that have them.
use Rattle.std.specs.Prelude.{◌≡◌, ℕ, ◌≤◌, ◌<◌, Bool, Result, MatchResult}
use Rattle.trees.specs.Tree as trees
use Rattle.trees.specs.Tree.{red, black, is_red, is_black}
use Rattle.words.specs.Layout.{code}
use Rattle.arena.specs.declared.Node as arena
use Rattle.plan.specs.declared.Color.{Color}
use Rattle.plan.specs.declared.Color.TheVariants.{Red, Black}
use Rattle.plan.specs.declared.NoColor.{NoColor}
use Rattle.plan.specs.declared.Node.{Node}

-- RULES 3.2: "red or black".
abbrev pub color_of : Color → trees.Color
color_of Red = red
color_of Black = black

-- RULES 2.16: the word that stands for a colour.
abbrev pub word_of : Color → ℕ
word_of c = code (color_of c)

-- The colour with this word, or an error where no colour has it.
abbrev pub Decodes : ℕ → Result Color NoColor → Type 0
Decodes w r = MatchResult r (λ c. word_of c ≡ w) (λ e. 1 < w)

abbrev pub HasColor : arena.Node → Type 0
HasColor d = d.color ≤ 1

-- x has these words.
pub record IsNodeOf (d : arena.Node) (x : Node) : Type 0 where
  pub entry_is : x.entry ≡ d.entry
  pub left_is : x.left ≡ d.left
  pub right_is : x.right ≡ d.right
  pub color_is : word_of x.color ≡ d.color

-- The node with these words, or an error where their colour is none.
abbrev pub NodeDecodes : arena.Node → Result Node NoColor → Type 0
NodeDecodes d r = MatchResult r (λ x. IsNodeOf d x) (λ e. 1 < d.color)

-- RULES 6.15: "A missing child is neither red nor black." `Some(Color::Red)`, `Some(Color::Black)`.
abbrev pub is_colored : Color → trees.Tree → Bool
is_colored Red t = is_red t
is_colored Black t = is_black t
