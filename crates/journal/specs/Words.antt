-- An entry in plain words.
use Rattle.std.specs.Prelude.{ℕ, ◌+◌, Bool, true, false, cond, List, [], ◌∷◌, ◌++◌, codes, decimal, ◌==◌}
use Rattle.pauli.specs.declared.case.Case.{Case}
use Rattle.pauli.specs.declared.case.Case.TheVariants.{One, Two, Three, Four}
use Rattle.pauli.specs.declared.gate.Gate.TheVariants as G
use Rattle.pauli.specs.declared.gate.OneQubit.{OneQubit}
use Rattle.pauli.specs.Labels.{label_text}
use Rattle.text.specs.Texts.{gate_byte, sign_byte, coins}
use Rattle.journal_lines.specs.declared.entry.Entry.{Entry}
use Rattle.journal_lines.specs.declared.event.Event.{Event}
use Rattle.journal_lines.specs.declared.event.Event.TheVariants as E
use Rattle.journal_lines.specs.declared.event.Measurement.{Measurement}
use Rattle.journal_lines.specs.Lines.{bit}

abbrev pub gate_name : OneQubit → List ℕ
gate_name g = gate_byte g ∷ []

abbrev pub digit_word : Bool → List ℕ
digit_word b = (48 + bit b) ∷ []

abbrev pub case_words : Case → List ℕ
case_words One = codes "a valued label of the centre (Case 1)"
case_words Two = codes "a valued label outside the centre (Case 2)"
case_words Three = codes "an unvalued label that commutes with the centre (Case 3)"
case_words Four = codes "an unvalued label that does not commute with the centre (Case 4)"

-- the digits of the coins, first coin first
abbrev pub coin_words : ℕ → ℕ → List ℕ
coin_words count word = cond (count == 0) (codes "none") (coins count word)

abbrev pub turn_words : OneQubit → ℕ → List ℕ
turn_words g q = codes "the gate " ++ (gate_name g ++ (codes " acted on qubit " ++ (decimal q ++ codes ".")))

abbrev pub cross_words : ℕ → ℕ → List ℕ
cross_words c t = codes "the gate CX acted on qubit " ++ (decimal t ++ (codes " under the control of qubit " ++ (decimal c ++ codes ".")))

abbrev pub done_words : ℕ → OneQubit → ℕ → List ℕ
done_words o g q = codes "outcome number " ++ (decimal o ++ (codes " was 1, so the gate " ++ (gate_name g ++ (codes " acted on qubit " ++ (decimal q ++ codes ".")))))

abbrev pub passed_words : ℕ → OneQubit → ℕ → List ℕ
passed_words o g q = codes "outcome number " ++ (decimal o ++ (codes " was 0, so the gate " ++ (gate_name g ++ (codes " on qubit " ++ (decimal q ++ codes " was passed over.")))))

abbrev pub measured_words : Measurement → List ℕ
measured_words m =
    (sign_byte m.sign ∷ []) ++ (label_text m.size m.label ++ (codes " was measured, " ++ (case_words m.case
    ++ (codes "; the outcome was " ++ (digit_word m.outcome ++ (codes "; coins drawn: " ++ (coin_words m.count m.coins ++ codes ".")))))))

abbrev pub event_words : Event → List ℕ
event_words (E.Gate (G.One g q)) = turn_words g q
event_words (E.Gate (G.Cx c t)) = cross_words c t
event_words (E.Conditional true o g q) = done_words o g q
event_words (E.Conditional false o g q) = passed_words o g q
event_words (E.Measurement m) = measured_words m

abbrev pub entry_words : Entry → List ℕ
entry_words e = codes "Entry " ++ (decimal e.number ++ (codes ": " ++ event_words e.event))
