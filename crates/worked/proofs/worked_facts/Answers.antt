use Rattle.std.proofs.Common.{refl, lit≤}
use lib.Count.{ones}
use Rattle.pauli.specs.Gates.{flips, moved}
use Rattle.pauli.specs.Labels.{beta, ks, pairing, plus, us, ys}
use Rattle.pauli_laws.proofs.Texts.{word_text}
use Rattle.tableau_laws.specs.Opening.{opening}
use Rattle.tableau_laws.proofs.Answered.{lawful}
use Rattle.tableau_laws.proofs.Opening.{opening_pattern}
use Rattle.worked.proofs.Circuit.{four_measurements}
use Rattle.worked.proofs.worked_facts.Goals as goal

pub returns : goal.returns
unfolding ones plus pairing ys ks us beta moved flips
returns c = record {
  letters = word_text;
  product = refl;
  turned = refl;
  crossed = refl;
  opening = refl;
  lawful = lawful 1 (opening 1 1).m (opening 1 1).w (opening 1 1).D (opening 1 1).E (opening 1 1).J (opening_pattern 1 1 (lit≤ tt) (lit≤ tt) (lit≤ tt));
  run = four_measurements;
  third = refl;
  whole = (refl, λ coins. refl);
  replaced = refl;
}
