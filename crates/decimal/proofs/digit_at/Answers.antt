use mathlib.Core.Path.{◌∙◌}
use Rattle.decimal.proofs.Finding.{digit_none, digit_read}
use Rattle.decimal.proofs.digit_at.Goals as goal

pub returns-in_err-b : goal.returns-in_err-b
returns-in_err-b c = c.from_residual.ensures ∙ digit_none _ _ c.in_err-b.ensures.lookup.3

pub returns : goal.returns
returns c =
    let at = c.in_ok-b.ensures.lookup.3 in
    digit_read _ _ _ _ at.0 (c.from.ensures ∙ at.1 0) c.to_digit.ensures.value c.to_digit.ensures.cases
