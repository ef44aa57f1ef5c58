-- The number of each case of a measured label.
use Rattle.std.specs.Prelude.{ℕ}
use Rattle.pauli.specs.declared.case.Case.{Case}
use Rattle.pauli.specs.declared.case.Case.TheVariants.{One, Two, Three, Four}

abbrev pub case_number : Case → ℕ
-- valued, in the centre
case_number One = 1
-- valued, outside the centre
case_number Two = 2
-- unvalued, commuting with the centre
case_number Three = 3
-- unvalued, anticommuting with a centre label
case_number Four = 4
