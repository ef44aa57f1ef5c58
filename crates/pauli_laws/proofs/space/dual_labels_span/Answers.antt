-- Spans, by the pigeonhole over all choices of labels.
use Rattle.std.proofs.Common.{rules}
use Rattle.pauli_laws.proofs.Spans.{spans, only_zero}
use Rattle.pauli_laws.proofs.space.dual_labels_span.Goals as goal

pub returns : goal.returns
returns c = record { span = λ n rs vs l h d a w. search (rules, spans n rs vs); only_zero = only_zero }
