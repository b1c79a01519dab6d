use Rattle.commands.proofs.Parsing.{begins_is, wrong, right, as_new, word_new, new_read, as_hold, word_hold, hold_read, as_set, word_set, set_read, as_cut, word_cut, cut_read, as_drop, word_drop, drop_read, as_get, word_get, get_read, as_list, word_list, list_read}
use Rattle.commands.proofs.parse.Goals as goal

pub returns-in_err-fields : goal.returns-in_err-fields
returns-in_err-fields c = wrong as_new (new_read (begins_is word_new _ c.in-Some.ensures.cases.0 c.in-Some.ensures.cases.1) c.fields.ensures) c.in_err-fields.was c.from_residual.ensures

pub returns-in-Some : goal.returns-in-Some
returns-in-Some c = right as_new (new_read (begins_is word_new _ c.in-Some.ensures.cases.0 c.in-Some.ensures.cases.1) c.fields.ensures) c.in_ok-fields.was

pub returns-in_err-slot : goal.returns-in_err-slot
returns-in_err-slot c = wrong as_hold (hold_read (begins_is word_hold _ c.in-Some-strip_prefix.ensures.cases.0 c.in-Some-strip_prefix.ensures.cases.1) c.fields-in-Some-strip_prefix.ensures) c.in_err-slot.was c.from_residual-in_err-slot.ensures

pub returns-in-Some-strip_prefix : goal.returns-in-Some-strip_prefix
returns-in-Some-strip_prefix c = right as_hold (hold_read (begins_is word_hold _ c.in-Some-strip_prefix.ensures.cases.0 c.in-Some-strip_prefix.ensures.cases.1) c.fields-in-Some-strip_prefix.ensures) c.in_ok-slot.was

pub returns-in_err-slot-2 : goal.returns-in_err-slot-2
returns-in_err-slot-2 c = wrong as_set (set_read (begins_is word_set _ c.in-Some-strip_prefix-2.ensures.cases.0 c.in-Some-strip_prefix-2.ensures.cases.1) c.fields-in-Some-strip_prefix-2.ensures) c.in_err-slot-2.was c.from_residual-in_err-slot-2.ensures

pub returns-in-Some-strip_prefix-2 : goal.returns-in-Some-strip_prefix-2
returns-in-Some-strip_prefix-2 c = right as_set (set_read (begins_is word_set _ c.in-Some-strip_prefix-2.ensures.cases.0 c.in-Some-strip_prefix-2.ensures.cases.1) c.fields-in-Some-strip_prefix-2.ensures) c.in_ok-slot-2.was

pub returns-in_err-slot-3 : goal.returns-in_err-slot-3
returns-in_err-slot-3 c = wrong as_cut (cut_read (begins_is word_cut _ c.in-Some-strip_prefix-3.ensures.cases.0 c.in-Some-strip_prefix-3.ensures.cases.1) c.fields-in-Some-strip_prefix-3.ensures) c.in_err-slot-3.was c.from_residual-in_err-slot-3.ensures

pub returns-in-Some-strip_prefix-3 : goal.returns-in-Some-strip_prefix-3
returns-in-Some-strip_prefix-3 c = right as_cut (cut_read (begins_is word_cut _ c.in-Some-strip_prefix-3.ensures.cases.0 c.in-Some-strip_prefix-3.ensures.cases.1) c.fields-in-Some-strip_prefix-3.ensures) c.in_ok-slot-3.was

pub returns-in_err-slot-4 : goal.returns-in_err-slot-4
returns-in_err-slot-4 c = wrong as_drop (drop_read (begins_is word_drop _ c.in-Some-strip_prefix-4.ensures.cases.0 c.in-Some-strip_prefix-4.ensures.cases.1) c.fields-in-Some-strip_prefix-4.ensures) c.in_err-slot-4.was c.from_residual-in_err-slot-4.ensures

pub returns-in-Some-strip_prefix-4 : goal.returns-in-Some-strip_prefix-4
returns-in-Some-strip_prefix-4 c = right as_drop (drop_read (begins_is word_drop _ c.in-Some-strip_prefix-4.ensures.cases.0 c.in-Some-strip_prefix-4.ensures.cases.1) c.fields-in-Some-strip_prefix-4.ensures) c.in_ok-slot-4.was

pub returns-in_err-slot-5 : goal.returns-in_err-slot-5
returns-in_err-slot-5 c = wrong as_get (get_read (begins_is word_get _ c.in-Some-strip_prefix-5.ensures.cases.0 c.in-Some-strip_prefix-5.ensures.cases.1) c.fields-in-Some-strip_prefix-5.ensures) c.in_err-slot-5.was c.from_residual-in_err-slot-5.ensures

pub returns-in-Some-strip_prefix-5 : goal.returns-in-Some-strip_prefix-5
returns-in-Some-strip_prefix-5 c = right as_get (get_read (begins_is word_get _ c.in-Some-strip_prefix-5.ensures.cases.0 c.in-Some-strip_prefix-5.ensures.cases.1) c.fields-in-Some-strip_prefix-5.ensures) c.in_ok-slot-5.was

pub returns-in_err-slot-6 : goal.returns-in_err-slot-6
returns-in_err-slot-6 c = wrong as_list (list_read (begins_is word_list _ c.in-Some-strip_prefix-6.ensures.cases.0 c.in-Some-strip_prefix-6.ensures.cases.1) c.fields-in-Some-strip_prefix-6.ensures) c.in_err-slot-6.was c.from_residual-in_err-slot-6.ensures

pub returns-in-Some-strip_prefix-6 : goal.returns-in-Some-strip_prefix-6
returns-in-Some-strip_prefix-6 c = right as_list (list_read (begins_is word_list _ c.in-Some-strip_prefix-6.ensures.cases.0 c.in-Some-strip_prefix-6.ensures.cases.1) c.fields-in-Some-strip_prefix-6.ensures) c.in_ok-slot-6.was
