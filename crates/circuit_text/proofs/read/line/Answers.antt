use Rattle.std.proofs.Common.{ℕ, List, Bor, ◌+◌, drop, sym, refl, ap, ◌∙◌}
use Rattle.text.specs.Texts.{num, Short, turn_text, Turn}
use Rattle.text.proofs.Fields.{hit_in, miss_in, both_hit, both_second}
use Rattle.text.proofs.Places.{goes_up}
use Rattle.circuit_text.specs.Reading.{LineAt}
use Rattle.circuit_text.proofs.Lines.{body_is, gate_hit, sign_at, measure_hit, conditional_miss, conditional_hit, read_as}
use Rattle.circuit_text.proofs.read.line.Goals as goal
use Rattle.circuit_text.proofs.read.line.Goals.{in-71+in_ok-gate-in-71, in-77+in_ok-sign-in-77+in_ok-letters-in-77, in-70+in_ok-outcome-in-70+in_ok-gate-in-70}

pub returns-in_err-gate-in-70 : goal.returns-in_err-gate-in-70
returns-in_err-gate-in-70 c =
    let kind = c.in_ok-byte.ensures in
    let outcome = c.in_ok-outcome-in-70.ensures in
    let e = c.in_err-gate-in-70.ensures in
    goes_up (λ r. LineAt c.args.line.now r c.args.line.now) _ _ c.from_residual-in_err-gate-in-70.ensures.1 (
      e.0,
      refl,
      conditional_miss _ _ _ _ kind.1 c.in-70.is
          (both_second num Short turn_text Turn (hit_in kind.0 outcome.1) (miss_in (outcome.0 ∙ kind.0) e.2)),
    )

pub returns : goal.returns
returns c =
    let kind = c.in_ok-byte.ensures in
    elim c.match-branch-2.branch [
      | in-71+in_ok-gate-in-71 w ↦
          let gate = w.in_ok-gate-in-71.ensures in
          let h = hit_in kind.0 gate.1 in
          read_as _ w.said-is w.fields-is (gate.0 ∙ kind.0, gate_hit _ _ _ _ kind.1 w.in-71.is _ _ h, body_is _ _ _ _ kind.1 ∙ h.is)
      | in-77+in_ok-sign-in-77+in_ok-letters-in-77 w ↦
          let sign = w.in_ok-sign-in-77.ensures in
          let letters = w.in_ok-letters-in-77.ensures in
          let same = sign.0 ∙ kind.0 in
          let s = hit_in kind.0 sign.1 in
          let h = hit_in same letters.1 in
          let place = sign_at _ _ _ _ kind.1 w.in-77.is _ _ s in
          read_as _ w.said-is w.fields-is (
            letters.0 ∙ same,
            measure_hit _ _ _ _ kind.1 w.in-77.is _ _ s _ _ h,
            (
              place.0,
              ap (λ (i : ℕ). drop i c.args.line.now.text.now) (sym place.1) ∙ h.is,
              letters.2 ∙ ap (λ (b : Bor (List ℕ)). b.ref_ptr.0) same,
              letters.3 ∙ (λ i. place.1 i + (same i).ref_ptr.1),
            ),
          )
      | in-70+in_ok-outcome-in-70+in_ok-gate-in-70 w ↦
          let outcome = w.in_ok-outcome-in-70.ensures in
          let turn = w.in_ok-gate-in-70.ensures in
          let same = outcome.0 ∙ kind.0 in
          let h = both_hit num Short turn_text Turn (hit_in kind.0 outcome.1) (hit_in same turn.1) in
          read_as _ w.said-is w.fields-is (turn.0 ∙ same, conditional_hit _ _ _ _ kind.1 w.in-70.is _ _ _ _ h, body_is _ _ _ _ kind.1 ∙ h.is)
    ]
