use Rattle.std.proofs.Common.{◌≡◌, ℕ, ◌+◌, ◌-◌, ◌≤◌, List, ◌++◌, length, drop, string_bytes}
use Rattle.journal.specs.Explained.{Explained}
use Rattle.journal.proofs.explain.explain.Given as goal

-- what tells the rest of the text, after what is told, tells the whole
abbrev pub invariant-loop-fields : goal.invariant-loop-fields
invariant-loop-fields l =
    (l.fields.text.now ≡ l.text) × (l.line ≤ l.fields.at + 1)
    × ((more : List ℕ) → Explained l.line (drop l.fields.at l.text) more → Explained 1 l.text (string_bytes l.told ++ more))

abbrev pub decreases-loop-fields : goal.decreases-loop-fields
decreases-loop-fields l = length l.text - l.fields.at
