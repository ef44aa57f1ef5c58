use Rattle.std.proofs.Common.{ℕ, refl, ap, ◌∙◌, subst, rules}
use Rattle.pauli.specs.Labels.{Within, label_text}
use Rattle.circuit_text.specs.Lines.{said}
use Rattle.circuit.proofs.Chains.{gate_performed, measure_done, measure_refused, conditional_done, conditional_refused, performed_stops, as_said, done_said}
use Rattle.circuit.proofs.play.perform.Goals as goal

pub returns-in_err-measure-in-Measure : goal.returns-in_err-measure-in-Measure
returns-in_err-measure-in-Measure g c =
    let n = c.size.ensures in
    let read = c.in_ok-label-in-Measure.ensures.1 in
    record {
      done =
          as_said _ _ _ (ap said c.in-Measure.is)
          (performed_stops _ _ _ _ _ c.from_residual-in_err-measure-in-Measure.ensures.1
          (measure_refused _ c.in_ok-label-in-Measure.label c.in-Measure.sign c.in-Measure.letters.now
          (subst (λ (k : ℕ). Within k c.in_ok-label-in-Measure.label) n read.0)
          (read.1 ∙ ap (λ (k : ℕ). label_text k c.in_ok-label-in-Measure.label) n)
          _ _ c.in_err-measure-in-Measure.ensures.step));
      kept = λ _. c.in_err-measure-in-Measure.ensures.kept refl;
    }

pub returns-in_err-conditional-in-Conditional : goal.returns-in_err-conditional-in-Conditional
returns-in_err-conditional-in-Conditional g c = record {
  done =
      as_said _ _ _ (ap said c.in-Conditional.is)
      (performed_stops _ _ _ _ _ c.from_residual-in_err-conditional-in-Conditional.ensures.1
      (conditional_refused _ c.in-Conditional.outcome c.in-Conditional.gate c.in-Conditional.qubit _ _ c.in_err-conditional-in-Conditional.ensures.step));
  kept = λ _. c.in_err-conditional-in-Conditional.ensures.kept refl;
}

pub returns-in-Gate : goal.returns-in-Gate
returns-in-Gate g c = record {
  done = as_said _ _ _ (ap said c.in-Gate.is) (gate_performed _ c.in-Gate.gate _ _ c.gate.ensures.step);
  kept = c.gate.ensures.kept;
}

pub returns-in_ok-measure-in-Measure : goal.returns-in_ok-measure-in-Measure
returns-in_ok-measure-in-Measure g c =
    let n = c.size.ensures in
    let read = c.in_ok-label-in-Measure.ensures.1 in
    record {
      done =
          done_said (ap said c.in-Measure.is)
          (measure_done _ c.in_ok-label-in-Measure.label c.in-Measure.sign c.in-Measure.letters.now
          (subst (λ (k : ℕ). Within k c.in_ok-label-in-Measure.label) n read.0)
          (read.1 ∙ ap (λ (k : ℕ). label_text k c.in_ok-label-in-Measure.label) n)
          _ _ c.in_ok-measure-in-Measure.ensures.step);
      kept = search rules;
    }

pub returns-in_ok-conditional-in-Conditional : goal.returns-in_ok-conditional-in-Conditional
returns-in_ok-conditional-in-Conditional g c = record {
  done =
      done_said (ap said c.in-Conditional.is)
      (conditional_done _ c.in-Conditional.outcome c.in-Conditional.gate c.in-Conditional.qubit _ _ c.in_ok-conditional-in-Conditional.ensures.step);
  kept = search rules;
}
