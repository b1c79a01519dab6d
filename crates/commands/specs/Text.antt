-- What the program reads, as bytes: RULES 9.2 to 9.12.
use Rattle.std.specs.Prelude.{ℕ, ◌≤◌, ◌≡◌, List, [], ◌∷◌, ◌++◌, Option, None, Some}
use Rattle.decimal.specs.Decimal.{largest, digits}
use Rattle.commands.specs.declared.Command.{Command}

-- The words of RULES 9.6 to 9.12, letter by letter.
abbrev pub name : Command → List ℕ
name Command.New = 110 ∷ 101 ∷ 119 ∷ []
name (Command.Hold s) = 104 ∷ 111 ∷ 108 ∷ 100 ∷ []
name (Command.Set s k v) = 115 ∷ 101 ∷ 116 ∷ []
name (Command.Cut s k) = 99 ∷ 117 ∷ 116 ∷ []
name (Command.Drop s) = 100 ∷ 114 ∷ 111 ∷ 112 ∷ []
name (Command.Get s k) = 103 ∷ 101 ∷ 116 ∷ []
name (Command.List s) = 108 ∷ 105 ∷ 115 ∷ 116 ∷ []

-- RULES 9.6 to 9.12, the column "line": `new`, `hold S`, `set S K V`, `cut S K`, `drop S`,
-- `get S K`, `list S`.
abbrev pub numbers : Command → List ℕ
numbers Command.New = []
numbers (Command.Hold s) = s ∷ []
numbers (Command.Set s k v) = s ∷ k ∷ v ∷ []
numbers (Command.Cut s k) = s ∷ k ∷ []
numbers (Command.Drop s) = s ∷ []
numbers (Command.Get s k) = s ∷ k ∷ []
numbers (Command.List s) = s ∷ []

-- RULES 9.4: each number after one space.
unfoldable pub spaced : List ℕ → List ℕ
spaced [] = []
spaced (n ∷ ns) = 32 ∷ digits n ++ spaced ns

-- The line of a command, without its line end: "none before or after them", RULES 9.4.
abbrev pub text : Command → List ℕ
text c = name c ++ spaced (numbers c)

-- RULES 9.5: each number is "at most 4,294,967,295".
abbrev pub Within : List ℕ → Type 0
Within [] = Unit {0}
Within (n ∷ ns) = (n ≤ largest) × Within ns

-- A line says a command exactly when it is the command's text and no number is above the largest;
-- any other line is unknown, "none of these commands" (RULES 9.14).
abbrev pub Said : List ℕ → Option Command → Type 0
Said line (Some c) = (line ≡ text c) × Within (numbers c)
Said line None = (c : Command) → Within (numbers c) → line ≡ text c → ⊥

pub record Reads (line : List ℕ) (r : Option Command) : Type 0 where
  pub said : Said line r
