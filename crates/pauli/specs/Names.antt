-- What reading a name answers.
use Rattle.std.specs.Prelude.{◌≡◌, ℕ, Ok, Err, Result, ◌≢◌}
use Rattle.pauli.specs.declared.fault.Fault.{Fault}
use Rattle.pauli.specs.declared.fault.Fault.TheVariants.{BadForm}

-- the value that has the name b, as a byte or a number; it is refused where no value has it
abbrev pub Named : {A : Type 0} (w : A → ℕ) (b : ℕ) → Result A Fault → Type 0
Named {A} w b (Ok a) = b ≡ w a
Named {A} w b (Err f) = (f ≡ BadForm) × ((a : A) → b ≢ w a)
