use Rattle.sheet_laws.proofs.CaseFour.{case_four}
use Rattle.sheet_laws.proofs.Central.{opened, closed}
use Rattle.sheet_laws.proofs.Stated.{states}
use Rattle.sheet_laws.proofs.Transport.{transport, gate_law, case_two}
use Rattle.sheet_laws.proofs.laws_are_kept.Goals as goal

pub returns : goal.returns
returns c = record {
  same = record { opened = opened; closed = closed };
  carried = transport;
  gate = gate_law;
  two = case_two;
  four = case_four;
  stated = states;
}
