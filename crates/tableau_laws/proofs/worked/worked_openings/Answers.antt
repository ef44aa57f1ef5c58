use Rattle.std.proofs.Common.{refl, lit≤}
use Rattle.tableau_laws.specs.Opening.{opening}
use Rattle.tableau_laws.proofs.Answered.{lawful}
use Rattle.tableau_laws.proofs.Opening.{opening_pattern}
use Rattle.tableau_laws.proofs.worked.worked_openings.Goals as goal

pub returns : goal.returns
returns c = record {
  two = refl;
  one = refl;
  lawful = lawful 1 (opening 1 1).m (opening 1 1).w (opening 1 1).D (opening 1 1).E (opening 1 1).J (opening_pattern 1 1 (lit≤ tt) (lit≤ tt) (lit≤ tt));
}
