use Rattle.std.proofs.Common.{◌≡◌, sym, ◌∙◌, arith}
use Rattle.pauli.specs.declared.fault.Fault.TheVariants.{BadForm}
use Rattle.text.specs.Ends.{end_byte}
use Rattle.text.specs.Texts.{NumberFirst}
use Rattle.text.proofs.Places.{end_low, goes_up}
use Rattle.text.proofs.Numbers.{first_none, first_not, first_ends}
use Rattle.text.proofs.read.number_first.Goals as goal

pub returns-in_err-count : goal.returns-in_err-count
returns-in_err-count c =
    let none = sym c.in_err-count.ensures.ok_part ∙ c.first.ensures in
    let fault : c.in_err-count.field-0.0 ≡ BadForm = grind arith in
    goes_up (NumberFirst c.args.rest.now (end_byte c.args.end)) _ _ c.from_residual.ensures.1 (fault, first_none _ (end_low c.args.end) _ _ c.byte.ensures _ c.min.ensures none)

pub returns-in_err-number : goal.returns-in_err-number
returns-in_err-number c =
    let found = sym c.in_ok-count.ensures.ok_part ∙ c.first.ensures in
    let h = c.in_err-number.ensures in
    goes_up (NumberFirst c.args.rest.now (end_byte c.args.end)) _ _ c.from_residual-in_err-number.ensures.1
    (h.0, first_not _ (end_low c.args.end) _ _ c.byte.ensures _ c.min.ensures _ found h.1)

pub returns : goal.returns
returns c =
    let found = sym c.in_ok-count.ensures.ok_part ∙ c.first.ensures in
    let ends = first_ends _ (end_low c.args.end) _ _ c.byte.ensures _ c.min.ensures _ found in
    let n = c.in_ok-number.ensures in
    (n.0, ends.0, n.1, ends.1)
