-- What the program writes, as bytes: RULES 9.6 to 9.15.
use Rattle.std.specs.Prelude.{ℕ, List, [], ◌∷◌, ◌++◌}
use Rattle.decimal.specs.Decimal.{digits}
use Rattle.replies.specs.declared.Reply.{Reply}

-- RULES 9.6 to 9.12, the last column. RULES 9.13: "`R`, one space and its number". RULES 9.14: `?`.
-- RULES 9.15: "Each answer is a line of its own".
abbrev pub reply : Reply → List ℕ
reply (Reply.Number n) = digits n ++ 10 ∷ []
reply Reply.Done = 111 ∷ 107 ∷ 10 ∷ []
reply (Reply.Refused n) = 82 ∷ 32 ∷ digits n ++ 10 ∷ []
reply (Reply.Entry k v) = digits k ++ (32 ∷ digits v ++ 10 ∷ [])
reply Reply.End = 101 ∷ 110 ∷ 100 ∷ 10 ∷ []
reply Reply.Unknown = 63 ∷ 10 ∷ []

-- The most bytes that an answer's line takes: two numbers of ten digits, a space and the line end.
abbrev pub longest : ℕ
longest = 22
