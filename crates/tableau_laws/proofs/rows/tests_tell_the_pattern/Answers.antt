use Rattle.tableau_laws.proofs.Patterns.{is_pattern, passes, pattern, pattern_is, plain}
use Rattle.tableau_laws.proofs.rows.tests_tell_the_pattern.Goals as goal

pub returns : goal.returns
returns c = record { passed = λ n w R ok. (pattern n w R ok, plain n w R ok); passes = passes; kept = pattern_is; keeps = is_pattern }
