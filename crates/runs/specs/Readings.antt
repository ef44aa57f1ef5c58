-- What the readings of a journal show.
use Rattle.std.specs.Prelude.{◌≡◌, ℕ, suc, ◌≤◌, min, cond, List, [], ◌∷◌, ◌++◌, length, drop, replicate, Some, None, Ok, Err, Option, Result, nat_le}
use Rattle.pauli.specs.declared.fault.Fault.{Fault}
use Rattle.pauli.specs.declared.fault.Fault.TheVariants.{NoEntry, ShortBuffer}
use Rattle.text.specs.Lines.{Filled}
use Rattle.journal_lines.specs.declared.event.Event.{Event}
use Rattle.journal_lines.specs.Lines.{line}
use Rattle.journal.specs.Journals.{kth}
use Rattle.runs.specs.declared.answer.Line.{Line}

abbrev pub lines_from : ℕ → List Event → List (List ℕ)
lines_from k [] = []
lines_from k (e ∷ es) = line k e ∷ lines_from (suc k) es

-- the lines of the entries, first entry first. Entries count from 1
abbrev pub readings : List Event → List (List ℕ)
readings es = lines_from 1 es

-- why a reading of the k-th entry into a buffer of so many bytes is refused, if it is
abbrev pub reading_fault : List Event → ℕ → ℕ → Option Fault
reading_fault es k room = elim (kth (readings es) k) [ Some t ↦ cond (nat_le (length t) room) None (Some ShortBuffer) | None ↦ Some NoEntry ]

-- a reading of the k-th entry: its line fills the start of the buffer and the rest stays; or it is refused, and the buffer stays as it was
abbrev pub Read : List Event → ℕ → (before after : List ℕ) → Result ℕ Fault → Type 0
Read es k before after (Ok n) = (t : List ℕ) × (kth (readings es) k ≡ Some t) × Filled t before after (Ok n)
Read es k before after (Err e) = (reading_fault es k (length before) ≡ Some e) × (after ≡ before)

-- a reading into the first `room` bytes of a longer buffer
abbrev pub ReadWithin : List Event → ℕ → (room : ℕ) → (before after : List ℕ) → Result ℕ Fault → Type 0
ReadWithin es k room before after (Ok n) = (t : List ℕ) × (kth (readings es) k ≡ Some t) × (n ≡ length t) × (n ≤ room) × (after ≡ t ++ drop n before)
ReadWithin es k room before after (Err e) = reading_fault es k room ≡ Some e

-- 144 bytes, all 0
abbrev pub blank : List ℕ
blank = replicate 144 0

-- a reading into the answer's own buffer: into `room` of its 144 bytes, which begin blank
abbrev pub ReadLine : List Event → ℕ → ℕ → Result Line Fault → Type 0
ReadLine es k room (Ok l) = ReadWithin es k (min room 144) blank l.text (Ok l.length)
ReadLine es k room (Err e) = reading_fault es k (min room 144) ≡ Some e
