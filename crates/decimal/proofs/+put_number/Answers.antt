use native.Mathlib.Omega.{arith}
use Rattle.decimal.proofs.Writing.{first_inside, higher_room, last_inside, one_written, last_written}
use Rattle.decimal.proofs.+put_number.Goals as goal

pub bounds-out-at : goal.bounds-out-at
bounds-out-at t c = search first_inside

pub returns-then-n-lt10 : goal.returns-then-n-lt10
returns-then-n-lt10 t c = search one_written

pub put_number-next-requires : goal.put_number-next-requires
put_number-next-requires t c = (omega arith, search higher_room)

pub bounds-out-next : goal.bounds-out-next
bounds-out-next t c = search last_inside

pub returns : goal.returns
returns t c = search last_written
