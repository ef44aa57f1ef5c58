-- Why a session refuses a call. Of two reasons the one of the smaller number counts.
use Rattle.std.specs.Prelude.{ℕ, cond, List, length, Some, None, Option, nat_lt}
use Rattle.pauli.specs.declared.fault.Fault.{Fault}
use Rattle.pauli.specs.declared.fault.Fault.TheVariants.{BadLabel, NoOutcome, JournalFull}
use Rattle.pauli.specs.declared.gate.Gate.{Gate}
use Rattle.pauli.specs.declared.gate.OneQubit.{OneQubit}
use Rattle.pauli.specs.declared.gate.Gate.TheVariants.{One}
use Rattle.pauli.specs.declared.label.Label.{Label}
use Rattle.pauli.specs.Gates.{gate_fault}
use Rattle.pauli.specs.Labels.{fits}
use Rattle.journal_lines.specs.declared.event.Event.{Event}
use Rattle.journal.specs.Journals.{outcomes, kth}
use Rattle.runs.specs.States.{State}

abbrev pub before : Option Fault → Option Fault → Option Fault
before (Some e) later = Some e
before None later = later

abbrev pub label_fault : ℕ → Label → Option Fault
label_fault n b = cond (fits n b) None (Some BadLabel)

-- there is no k-th outcome
abbrev pub outcome_fault : List Event → ℕ → Option Fault
outcome_fault es k = elim (kth (outcomes es) k) [ Some o ↦ None | None ↦ Some NoOutcome ]

abbrev pub full_fault : List Event → Option Fault
full_fault es = cond (nat_lt (length es) 512) None (Some JournalFull)

abbrev pub gate_refusal : State → Gate → Option Fault
gate_refusal s g = before (gate_fault s.sheet.n g) (full_fault s.events)

abbrev pub conditional_refusal : State → ℕ → OneQubit → ℕ → Option Fault
conditional_refusal s k g q = before (gate_fault s.sheet.n (One g q)) (before (outcome_fault s.events k) (full_fault s.events))

-- a measurement can also be refused for want of coins, after these
abbrev pub measure_refusal : State → Label → Option Fault
measure_refusal s b = before (label_fault s.sheet.n b) (full_fault s.events)
