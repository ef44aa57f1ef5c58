-- The line of an entry.
use Rattle.std.specs.Prelude.{ℕ, Bool, true, false, List, [], ◌∷◌}
use Rattle.pauli.specs.declared.gate.Gate.TheVariants.{One}
use Rattle.pauli.specs.Cases.{case_number}
use Rattle.text.specs.declared.write.Field.{Field}
use Rattle.text.specs.declared.write.Field.TheVariants.{Number, Mark, Sign, Gate, Letters, Coins}
use Rattle.text.specs.Lines.{line_of}
use Rattle.journal_lines.specs.declared.event.Event.{Event}
use Rattle.journal_lines.specs.declared.event.Event.TheVariants as E

-- D for a conditional gate done, P for one passed over
abbrev pub done_mark : Bool → ℕ
done_mark true = 68
done_mark false = 80

abbrev pub bit : Bool → ℕ
bit false = 0
bit true = 1

-- the fields of the line of entry k: its number, then G, D, P or M, then what it tells
abbrev pub fields : ℕ → Event → List Field
fields k (E.Gate g) = Number k ∷ Mark 71 ∷ Gate g ∷ []
fields k (E.Conditional done outcome g q) = Number k ∷ Mark (done_mark done) ∷ Number outcome ∷ Gate (One g q) ∷ []
fields k (E.Measurement m) =
    Number k ∷ Mark 77 ∷ Sign m.sign ∷ Letters m.size m.label ∷ Number (case_number m.case) ∷ Number (bit m.outcome)
    ∷ Number m.count ∷ Coins m.count m.coins ∷ []

abbrev pub line : ℕ → Event → List ℕ
line k e = line_of (fields k e)
