use Rattle.std.proofs.Common.{◌≡◌, ◌+◌, length, drop}
use Rattle.text.specs.Lines.{line_of}
use Rattle.text.proofs.write.fits.Given as goal

-- what the fields so far have taken of the room is what the rest leaves of the line
abbrev pub invariant-loop-field : goal.invariant-loop-field
invariant-loop-field l = l.left + length (line_of l.fields) ≡ l.room + length (line_of (drop l.field-index l.fields))
