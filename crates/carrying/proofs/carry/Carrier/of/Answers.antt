use Rattle.text.proofs.Fields.{hit_in}
use Rattle.carrying.proofs.Steps.{is_label}
use Rattle.carrying.proofs.carry.Carrier.of.Goals as goal

pub returns-in_err-label : goal.returns-in_err-label
returns-in_err-label c =
    let sign = c.in_ok-sign.ensures in
    is_label _ _ _ sign.1 _ _ (hit_in sign.0 c.in_ok-letters.ensures.1) _ c.if-letters-gt64.false c.in_err-label.ensures
