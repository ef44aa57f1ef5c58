-- The one line of an entry.
use Rattle.std.specs.Prelude.{◌≡◌, ℕ, ◌<◌, ◌≤◌, List, ◌++◌, length, drop, Ok, Err, Result, ◌≢◌}
use Rattle.pauli.specs.declared.fault.Fault.{Fault}
use Rattle.pauli.specs.declared.fault.Fault.TheVariants.{BadForm}
use Rattle.text.specs.declared.read.Fields.{Fields}
use Rattle.journal_lines.specs.declared.entry.Entry.{Entry}
use Rattle.journal_lines.specs.Lines.{line}

abbrev pub entry_line : Entry → List ℕ
entry_line e = line e.number e.event

-- a reader answers the entry whose line begins at its place, and no other's does, and moves past it; or no entry's line begins there, and it stays
abbrev pub ReadsEntry : (old : Fields) → Result Entry Fault → (new : Fields) → Type 0
ReadsEntry old (Ok e) new =
    (new.text ≡ old.text) × (old.at < new.at) × (new.at ≤ length old.text.now) × (drop old.at old.text.now ≡ entry_line e ++ drop new.at old.text.now)
    × ((f : Entry) (rest : List ℕ) → drop old.at old.text.now ≡ entry_line f ++ rest → (f ≡ e) × (rest ≡ drop new.at old.text.now))
ReadsEntry old (Err x) new = (x ≡ BadForm) × (new ≡ old) × ((f : Entry) (rest : List ℕ) → drop old.at old.text.now ≢ entry_line f ++ rest)

-- n bytes have room for every line, and one line fills them
pub record Longest (n : ℕ) : Type 0 where
  pub every : (e : Entry) → length (entry_line e) ≤ n
  pub some : (e : Entry) × (length (entry_line e) ≡ n)
