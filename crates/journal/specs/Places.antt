-- Events that are each lawful at their place.
use Rattle.std.specs.Prelude.{◌≡◌, ℕ, suc, ◌≤◌, Bool, true, ◌&&◌, List, [], ◌∷◌, length, take, slice_index_or}
use Rattle.journal_lines.specs.declared.event.Event.{Event}
use Rattle.journal_lines.specs.declared.event.Event.TheVariants as E
use Rattle.journal_lines.specs.Lawful.{lawful}
use Rattle.pauli.specs.declared.gate.Gate.TheVariants.{Cx}

-- the first of them at place k
abbrev pub all_lawful : ℕ → List Event → Bool
all_lawful k [] = true
all_lawful k (e ∷ es) = lawful k e && all_lawful (suc k) es

-- what a slot holds that no event has taken yet
abbrev pub blank : Event
blank = E.Gate (Cx 0 0)

-- the first `len` of 512 slots hold events, each lawful at its place, and the others are blank: so the events tell all of a journal's memory
pub record Kept (len : ℕ) (slots : List Event) : Type 0 where
  pub room : len ≤ 512
  pub whole : length slots ≡ 512
  pub lawful : all_lawful 1 (take len slots) ≡ true
  pub others : (i : ℕ) → len ≤ i → slice_index_or slots i blank ≡ blank
