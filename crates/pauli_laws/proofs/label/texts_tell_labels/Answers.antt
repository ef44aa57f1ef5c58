-- The laws of texts, by induction over their letters.
use Rattle.std.proofs.Common.{arith}
use Rattle.pauli.proofs.Texts.{text_length, text_at}
use Rattle.pauli_laws.proofs.Texts.{text_codes, text_tells}
use Rattle.pauli_laws.proofs.label.texts_tell_labels.Goals as goal

pub returns : goal.returns
returns c = record {
  long = λ n a. omega (arith, text_length n a);
  lettered = text_codes;
  placed = λ n a i h. omega (arith, text_at n a i h);
  told = text_tells;
}
