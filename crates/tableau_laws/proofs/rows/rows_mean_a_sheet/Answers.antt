use Rattle.tableau_laws.proofs.Answered.{lawful, reads}
use Rattle.tableau_laws.proofs.Meaning.{centre_is, is_centre, is_ray, ray_is}
use Rattle.tableau_laws.proofs.Same.{same_pattern, same_sheet}
use Rattle.tableau_laws.proofs.rows.rows_mean_a_sheet.Goals as goal

pub returns : goal.returns
returns c = record {
  meaning = λ n R T. record {
    lawful = lawful n R.m R.w R.D R.E R.J T;
    values = reads n R.m R.w R.D R.E R.J T;
    centre = centre_is n R.m R.w R.D R.E R.J T;
    centre_all = is_centre n R.m R.w R.D R.E R.J T;
    rays = ray_is n R.m R.w R.D R.E R.J T;
    rays_all = is_ray n R.m R.w R.D R.E R.J T;
  };
  same = λ n R S A T. (same_pattern n R S A T, same_sheet n R S A);
}
