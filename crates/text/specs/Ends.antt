-- The byte that ends a field.
use Rattle.std.specs.Prelude.{ℕ}
use Rattle.text.specs.declared.end.End.{End}
use Rattle.text.specs.declared.end.End.TheVariants.{Comma, LineFeed}

abbrev pub end_byte : End → ℕ
end_byte Comma = 44
end_byte LineFeed = 10
