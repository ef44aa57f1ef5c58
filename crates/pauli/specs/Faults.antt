-- The number of each refusal, and what a call that can refuse answers.
use Rattle.std.specs.Prelude.{◌≡◌, ℕ, Some, None, Ok, Err, Option, Result}
use Rattle.pauli.specs.declared.fault.Fault.{Fault}
use Rattle.pauli.specs.declared.fault.Fault.TheVariants.{BadForm, TextEnded, BadSize, BadWidth, BadRows, BadStart, BadQubit, SameQubit, BadLabel, NoOutcome, JournalFull, TooFewCoins, NoEntry, ShortBuffer}

abbrev pub number_of : Fault → ℕ
-- a text or line is not of its form, or a text has more than 32,768 bytes
number_of BadForm = 1
-- the text has ended where its first or second line is looked for
number_of TextEnded = 2
-- the qubit count is 0 or above 64 (above 4 for a value table)
number_of BadSize = 3
-- the width exceeds the qubit count
number_of BadWidth = 4
-- the opening rows are not 2n+1 rows of the tableau pattern
number_of BadRows = 5
-- the register start is 0
number_of BadStart = 6
-- a gate's qubit is 0 or above the qubit count
number_of BadQubit = 7
-- a two-qubit gate names one qubit twice
number_of SameQubit = 8
-- a label has a letter beyond the qubit count, or its text has another length
number_of BadLabel = 9
-- the outcome number is 0 or not yet reached
number_of NoOutcome = 10
-- the journal has 512 entries
number_of JournalFull = 11
-- the source has fewer coins left than needed
number_of TooFewCoins = 12
-- the entry number is 0 or not yet reached
number_of NoEntry = 13
-- the buffer is shorter than the line
number_of ShortBuffer = 14

-- a call refuses exactly where there is a reason to, and by that reason; else its answer is as `good` says
abbrev pub Answers : {A : Type 0} → Option Fault → (A → Type 0) → Result A Fault → Type 0
Answers why good (Ok a) = (why ≡ None) × good a
Answers why good (Err e) = why ≡ Some e
