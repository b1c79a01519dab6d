-- RULES 4.22 to 4.29: the refusals and their numbers.
use Rattle.std.specs.Prelude.{ℕ}

-- In the order of the table: BAD_SHAPE, UNSOUND, NO_VERSION, BAD_RANGE, ABSENT, NO_SLOT, NO_ROOM,
-- END.
pub data Refusal : Type 0 where
  bad_shape unsound no_version bad_range absent no_slot no_room ended : Refusal

-- The column "no." of that table.
abbrev pub number : Refusal → ℕ
number Refusal.bad_shape = 1
number Refusal.unsound = 2
number Refusal.no_version = 3
number Refusal.bad_range = 4
number Refusal.absent = 5
number Refusal.no_slot = 6
number Refusal.no_room = 7
number Refusal.ended = 8
