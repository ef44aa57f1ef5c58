-- A text of journal lines in plain words.
use Rattle.std.specs.Prelude.{◌≡◌, ℕ, suc, ◌<◌, List, [], ◌∷◌, ◌++◌, length, codes, decimal, ◌≢◌}
use Rattle.journal_lines.specs.declared.entry.Entry.{Entry}
use Rattle.journal_lines.specs.Entries.{entry_line}
use Rattle.journal.specs.Words.{entry_words}

-- what is said of line k where it is no entry's
abbrev pub stop_words : ℕ → List ℕ
stop_words k = codes "line " ++ (decimal k ++ codes " is not a journal entry\n")

-- the text t, whose first line is line k, is told by the text `told`
pub data Explained : ℕ → List ℕ → List ℕ → Type 0 where
  -- no line is left
  ends : (k : ℕ) → Explained k [] []
  -- an entry's line: its words stand on a line of their own, and then the other lines'
  tells : (k : ℕ) (t : List ℕ) (e : Entry) (rest told : List ℕ) → t ≡ entry_line e ++ rest → Explained (suc k) rest told → Explained k t (entry_words e ++ 10 ∷ told)
  -- no entry's line: nothing more is told
  stops : (k : ℕ) (t : List ℕ) → 0 < length t → ((e : Entry) (rest : List ℕ) → t ≢ entry_line e ++ rest) → Explained k t (stop_words k)
