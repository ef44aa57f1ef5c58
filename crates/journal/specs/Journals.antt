-- What a journal holds, and what it answers.
use Rattle.std.specs.Prelude.{◌≡◌, ℕ, zero, suc, ◌+◌, Bool, cond, List, length, filter_map, Some, None, Ok, Err, Option, Result, nat_le}
use Rattle.std.specs.List.{slice_get}
use Rattle.pauli.specs.declared.fault.Fault.{Fault}
use Rattle.pauli.specs.declared.fault.Fault.TheVariants.{BadForm, JournalFull, NoEntry}
use Rattle.journal_lines.specs.declared.entry.Entry.{Entry}
use Rattle.journal_lines.specs.declared.event.Event.{Event}
use Rattle.journal_lines.specs.declared.event.Event.TheVariants as E
use Rattle.journal_lines.specs.Lawful.{sound}

-- the outcome of an event, which only a measurement has
abbrev pub outcome_of : Event → Option Bool
outcome_of (E.Gate g) = None
outcome_of (E.Conditional done outcome g q) = None
outcome_of (E.Measurement m) = Some m.outcome

abbrev pub outcomes : List Event → List Bool
outcomes = filter_map outcome_of

-- the k-th, counted from 1
abbrev pub kth : {X : Type 0} → List X → ℕ → Option X
kth xs zero = None
kth xs (suc i) = slice_get xs i

-- what is there, or a refusal
abbrev pub answer : {X : Type 0} → Fault → Option X → Result X Fault
answer f (Some x) = Ok x
answer f None = Err f

-- why an event cannot be the next
abbrev pub adding_fault : List Event → Event → Option Fault
adding_fault es e = cond (sound (length es + 1) e) (cond (nat_le 512 (length es)) (Some JournalFull) None) (Some BadForm)

-- the k-th entry: its number is k, and it tells the k-th event
abbrev pub Reading : List Event → ℕ → Result Entry Fault → Type 0
Reading es k (Ok e) = (e.number ≡ k) × (kth es k ≡ Some e.event)
Reading es k (Err f) = (f ≡ NoEntry) × (kth es k ≡ None)
