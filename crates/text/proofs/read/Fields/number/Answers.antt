use Rattle.std.proofs.Common.{refl}
use Rattle.text.proofs.Places.{end_low, passed}
use Rattle.text.proofs.Numbers.{number_miss, number_hit}
use Rattle.text.proofs.read.Fields.number.Goals as goal

pub returns-in_err-number : goal.returns-in_err-number
returns-in_err-number c =
    let h = c.in_err-number.ensures in
    passed _ _ _ _ _ _ _ c.from_residual.ensures.1 h.0 refl (number_miss _ (end_low c.args.end) _ _ _ c.rest.ensures.is h.1)

pub returns : goal.returns
returns c =
    let h = c.in_ok-number.ensures in
    (refl, number_hit _ (end_low c.args.end) _ _ _ c.rest.ensures.is _ _ h.0 h.1 h.2 h.3)
