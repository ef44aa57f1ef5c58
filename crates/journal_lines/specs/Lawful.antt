-- Which entries are lawful.
use Rattle.std.specs.Prelude.{ℕ, ◌^◌, Bool, true, cond, ◌&&◌, Some, None, Option, ◌==◌, nat_le, nat_lt}
use Rattle.std.specs.Bool.{beq}
use Rattle.pauli.specs.declared.fault.Fault.{Fault}
use Rattle.pauli.specs.declared.fault.Fault.TheVariants.{BadForm}
use Rattle.pauli.specs.declared.case.Case.{Case}
use Rattle.pauli.specs.declared.case.Case.TheVariants.{One, Two, Three, Four}
use Rattle.pauli.specs.Bits.{odd}
use Rattle.pauli.specs.Labels.{size_ok, on_board, fits}
use Rattle.pauli.specs.Gates.{placeable}
use Rattle.journal_lines.specs.declared.event.Event.{Event}
use Rattle.journal_lines.specs.declared.event.Event.TheVariants as E
use Rattle.journal_lines.specs.declared.event.Measurement.{Measurement}

-- an entry's number: 1 to 512
abbrev pub numbered : ℕ → Bool
numbered k = nat_le 1 k && nat_le k 512

-- as many coins as the case takes, for n letters
abbrev pub count_ok : Case → ℕ → ℕ → Bool
count_ok One n count = count == 0
count_ok Two n count = count == 1
count_ok Three n count = nat_le 1 count && nat_lt count n
count_ok Four n count = count == 1

-- in Cases 3 and 4 the outcome is the first coin
abbrev pub first_ok : Case → Bool → ℕ → Bool
first_ok One outcome coins = true
first_ok Two outcome coins = true
first_ok Three outcome coins = beq outcome (odd coins)
first_ok Four outcome coins = beq outcome (odd coins)

-- 1 to 64 letters, none beyond the size; the right number of coins, and no bit beyond them
unfoldable pub measured_ok : Measurement → Bool
measured_ok m =
    (size_ok m.size && fits m.size m.label)
    && ((count_ok m.case m.size m.count && nat_lt m.coins (2 ^ m.count))
    && first_ok m.case m.outcome m.coins)

-- an event that entry k may tell, but for the bound on k. Qubits are 1 to 64 and never one twice; an outcome's number is at least 1 and below the entry's own
abbrev pub sound : ℕ → Event → Bool
sound k (E.Gate g) = placeable g
sound k (E.Conditional done outcome g q) = (nat_le 1 outcome && nat_lt outcome k) && on_board 64 q
sound k (E.Measurement m) = measured_ok m

abbrev pub lawful : ℕ → Event → Bool
lawful k e = numbered k && sound k e

-- why there is no entry of this number and event
abbrev pub making_fault : ℕ → Event → Option Fault
making_fault k e = cond (lawful k e) None (Some BadForm)
