-- Where and why the reading of a text stopped.
use Rattle.std.specs.Prelude.{ℕ}
use Rattle.pauli.specs.declared.fault.Fault.{Fault}
use Rattle.text.specs.declared.stop.Stop.{Stop}

-- at line k, by the fault f
abbrev pub stop : ℕ → Fault → Stop
stop k f = record { line = k; fault = f }
