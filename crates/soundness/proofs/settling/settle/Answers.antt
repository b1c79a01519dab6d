use Rattle.soundness_laws.proofs.Knowing.{settle_no, settle_no_left, settle_no_right, settle_word, settle_both}
use Rattle.soundness_laws.proofs.Packing.{places}
use Rattle.soundness.proofs.NodeWords.{key_is}
use Rattle.soundness.proofs.settling.settle.Goals as goal

pub returns-then-not-shapes_fit : goal.returns-then-not-shapes_fit
returns-then-not-shapes_fit c = let read = c.node_at-d.ensures in
    settle_no _ _ _ _ c.requires.0 _ _ _ _ read.color_is (key_is _ _ _ read) read.left_is read.right_is _ _ c.word_of-l.ensures c.word_of-r.ensures _ c.shapes_fit.ensures c.if-not-shapes_fit.true

pub word_above-requires : goal.word_above-requires
word_above-requires c = let read = c.node_at-d.ensures in
    settle_word _ _ _ _ c.requires.0 _ _ _ _ read.color_is (key_is _ _ _ read) read.left_is read.right_is _ _ c.word_of-l.ensures c.word_of-r.ensures _ c.shapes_fit.ensures c.if-not-shapes_fit.false

pub returns-in_default : goal.returns-in_default
returns-in_default c = let read = c.node_at-d.ensures in
    settle_no_left _ _ _ _ c.requires.0 _ _ _ _ read.color_is (key_is _ _ _ read) read.left_is read.right_is _ _ c.word_of-l.ensures c.word_of-r.ensures (c.least_key.ensures.stop c.in_default.is)

pub returns-in_default-greatest_key : goal.returns-in_default-greatest_key
returns-in_default-greatest_key c = let read = c.node_at-d.ensures in
    settle_no_right _ _ _ _ c.requires.0 _ _ _ _ read.color_is (key_is _ _ _ read) read.left_is read.right_is _ _ c.word_of-l.ensures c.word_of-r.ensures (c.greatest_key.ensures.stop c.in_default-greatest_key.is)

pub returns : goal.returns
returns c = let read = c.node_at-d.ensures in
    settle_both _ _ _ _ c.requires.0 _ _ _ _ read.color_is (key_is _ _ _ read) read.left_is read.right_is _ _ c.word_of-l.ensures c.word_of-r.ensures _ c.shapes_fit.ensures c.if-not-shapes_fit.false _ c.word_above.ensures _ (c.least_key.ensures.on _ c.in-Some.is) _ (c.greatest_key.ensures.on _ c.in-Some-greatest_key.is) (places _ _ _ _ c.requires.1 c.requires.0.high) _ _ c.put.ensures
