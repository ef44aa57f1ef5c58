-- The laws of the phase, counted modulo 4.
use Rattle.std.proofs.Common.{arith}
use Rattle.pauli_laws.proofs.Phases.{us_mod, zero_or_two, twice_beta, beta_lt}
use Rattle.pauli_laws.proofs.label.commuting_labels_have_a_sign.Goals as goal

pub returns : goal.returns
returns c = record {
  parity = λ a b. omega (arith, us_mod a b);
  even = λ a b h. zero_or_two a b h;
  half = λ a b h. omega (arith, twice_beta a b h);
  bit = λ a b. omega (arith, beta_lt a b);
}
