-- The state that a session is in.
use Rattle.std.specs.Prelude.{Bool, List}
use Rattle.phase.specs.Sheets.{Sheet}
use Rattle.runs.specs.States.{State}
use Rattle.session.specs.declared.session.Session.{Session}

abbrev pub seen : {P S : Type 0} → (P → Sheet) → (S → List Bool) → Session P S → State
seen sheet coins s = record { sheet = sheet s.point; coins = coins s.source; events = s.journal }
