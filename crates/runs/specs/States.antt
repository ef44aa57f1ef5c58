-- The state of a session, as far as its calls can tell: the values of its point, the coins still to come, and the events in its journal.
use Rattle.std.specs.Prelude.{Bool, List}
use Rattle.phase.specs.Sheets.{Sheet}
use Rattle.journal_lines.specs.declared.event.Event.{Event}

pub record State : Type 0 where
  pub sheet : Sheet
  pub coins : List Bool
  pub events : List Event

abbrev pub state : Sheet → List Bool → List Event → State
state f cs es = record { sheet = f; coins = cs; events = es }
