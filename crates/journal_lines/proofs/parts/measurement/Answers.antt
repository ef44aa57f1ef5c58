use Rattle.std.proofs.Common.{◌∙◌}
use Rattle.text.specs.Texts.{Any, sign_text}
use Rattle.text.proofs.Places.{let_go}
use Rattle.text.proofs.Fields.{hit_in, miss_in, both_hit, both_first, both_second}
use Rattle.journal_lines.specs.Parts.{case_text, bit_text, sized_text, Sized, drawn_text, Drawn}
use Rattle.journal_lines.proofs.Measured.{text2, Law2, text3, Law3, text4, Law4, measured_hit, measured_miss}
use Rattle.journal_lines.proofs.parts.measurement.Goals as goal

pub returns-in_err-size : goal.returns-in_err-size
returns-in_err-size c =
    let sign = c.in_ok-sign.ensures in
    let e = c.in_err-size.ensures in
    let_go _ _ _ _ _ _ _ c.from_residual-in_err-size.ensures.1 e.0
    (measured_miss (both_second sign_text Any text2 Law2 sign.1 (miss_in sign.0 (both_first sized_text Sized text3 Law3 e.1))))

pub returns-in_err-case : goal.returns-in_err-case
returns-in_err-case c =
    let sign = c.in_ok-sign.ensures in
    let sized = c.in_ok-size.ensures in
    let e = c.in_err-case.ensures in
    let_go _ _ _ _ _ _ _ c.from_residual-in_err-case.ensures.1 e.0
    (measured_miss (both_second sign_text Any text2 Law2 sign.1
    (miss_in sign.0 (both_second sized_text Sized text3 Law3 sized.1
    (miss_in sized.0 (both_first case_text Any text4 Law4 e.1))))))

pub returns-in_err-outcome : goal.returns-in_err-outcome
returns-in_err-outcome c =
    let sign = c.in_ok-sign.ensures in
    let sized = c.in_ok-size.ensures in
    let case = c.in_ok-case.ensures in
    let e = c.in_err-outcome.ensures in
    let_go _ _ _ _ _ _ _ c.from_residual-in_err-outcome.ensures.1 e.0
    (measured_miss (both_second sign_text Any text2 Law2 sign.1
    (miss_in sign.0 (both_second sized_text Sized text3 Law3 sized.1
    (miss_in sized.0 (both_second case_text Any text4 Law4 case.1
    (miss_in case.0 (both_first bit_text Any drawn_text Drawn e.1))))))))

pub returns-in_err-count : goal.returns-in_err-count
returns-in_err-count c =
    let sign = c.in_ok-sign.ensures in
    let sized = c.in_ok-size.ensures in
    let case = c.in_ok-case.ensures in
    let outcome = c.in_ok-outcome.ensures in
    let e = c.in_err-count.ensures in
    let_go _ _ _ _ _ _ _ c.from_residual-in_err-count.ensures.1 e.0
    (measured_miss (both_second sign_text Any text2 Law2 sign.1
    (miss_in sign.0 (both_second sized_text Sized text3 Law3 sized.1
    (miss_in sized.0 (both_second case_text Any text4 Law4 case.1
    (miss_in case.0 (both_second bit_text Any drawn_text Drawn outcome.1 (miss_in outcome.0 e.1)))))))))

pub returns : goal.returns
returns c =
    let sign = c.in_ok-sign.ensures in
    let sized = c.in_ok-size.ensures in
    let case = c.in_ok-case.ensures in
    let outcome = c.in_ok-outcome.ensures in
    let drawn = c.in_ok-count.ensures in (
      drawn.0 ∙ outcome.0 ∙ case.0 ∙ sized.0 ∙ sign.0,
      measured_hit _
          (both_hit sign_text Any text2 Law2 sign.1
          (hit_in sign.0 (both_hit sized_text Sized text3 Law3 sized.1
          (hit_in sized.0 (both_hit case_text Any text4 Law4 case.1
          (hit_in case.0 (both_hit bit_text Any drawn_text Drawn outcome.1 (hit_in outcome.0 drawn.1)))))))),
    )
