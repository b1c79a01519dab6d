use native.Mathlib.Omega.{arith}
use Rattle.plan.proofs.Looking.{held_left, held_right}
use Rattle.insertion.proofs.Inserting.{ins_none, news_none, less_down, room_down, ins_here, news_here, ins_left, news_left, ins_right, news_right}
use Rattle.insertion.proofs.+ins.Goals as goal

pub returns-in_default : goal.returns-in_default
returns-in_default t c = record { turns = ins_none c.in_default.ensures c.args.h c.push.ensures; news = news_none c.in_default.ensures }

pub ins-l-requires : goal.ins-l-requires
ins-l-requires t c =
    let x = c.in-Some.ensures in
    let h = c.requires.held in
    (less_down x h c.decreases, (room_down x h c.requires.room, held_left x.found h))

pub returns-then-e-x : goal.returns-then-e-x
returns-then-e-x t c = record {
  turns = ins_left c.in-Some.ensures c.args.e (omega arith) c.ins-l.ensures.news c.requires.held c.ins-l.ensures.turns c.settle.ensures;
  news = news_left c.in-Some.ensures (omega arith) c.ins-l.ensures.news;
}

pub ins-r-requires : goal.ins-r-requires
ins-r-requires t c =
    let x = c.in-Some.ensures in
    let h = c.requires.held in
    (less_down x h c.decreases, (room_down x h c.requires.room, held_right x.found h))

pub returns-then-x-e : goal.returns-then-x-e
returns-then-x-e t c = record {
  turns = ins_right c.in-Some.ensures c.args.e (omega arith) c.ins-r.ensures.news c.requires.held c.ins-r.ensures.turns c.settle-then-x-e.ensures;
  news = news_right c.in-Some.ensures (omega arith) c.ins-r.ensures.news;
}

pub returns : goal.returns
returns t c = record {
  turns = ins_here c.in-Some.ensures c.args.h (omega arith) (omega arith) c.push-2.ensures;
  news = news_here c.in-Some.ensures (omega arith) (omega arith);
}
