use mathlib.Core.Path.{◌∙◌, refl}
use native.Mathlib.Omega.{arith}
use Rattle.soundness_laws.proofs.Packing.{places, room_kept, empty_noted}
use Rattle.soundness_laws.proofs.Settling.{settling_start, settling_asks, settling_no, settling_more, settling_end}
use Rattle.soundness.proofs.settling.settle_all.Goals as goal

pub loop-k-init : goal.loop-k-init
loop-k-init c = let p = places _ _ _ 0 c.requires.1 (omega arith) in
    record { settling = settling_start _ _ _ c.requires.0 _ _ (empty_noted _ _ p _ _ c.put.ensures); memo_long = refl; ends_long = refl }

pub settle-requires : goal.settle-requires
settle-requires c = (settling_asks _ _ _ c.requires.0 _ _ c.loop-k.invariant.settling c.loop-k-test.true _ refl _ refl, room_kept _ _ _ _ _ c.requires.1 (c.loop-k.invariant.memo_long ∙ c.put.auto.memo) (c.loop-k.invariant.ends_long ∙ c.put.auto.ends))

pub returns-then-not-settle : goal.returns-then-not-settle
returns-then-not-settle c = settling_no _ _ _ c.requires.0 _ _ c.loop-k.invariant.settling c.loop-k-test.true _ refl _ refl _ _ c.settle.ensures c.if-not-settle.true

pub loop-k-preserved : goal.loop-k-preserved
loop-k-preserved c = record {
  settling = settling_more _ _ _ c.requires.0 _ _ c.loop-k.invariant.settling c.loop-k-test.true _ refl _ refl _ _ c.settle.ensures c.if-not-settle.false;
  memo_long = c.settle.auto.memo ∙ c.loop-k.invariant.memo_long;
  ends_long = c.settle.auto.ends ∙ c.loop-k.invariant.ends_long;
}

pub returns : goal.returns
returns c = settling_end _ _ _ c.requires.0 _ _ c.loop-k.invariant.settling c.loop-k-test.false
