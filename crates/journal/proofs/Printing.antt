-- Texts that are written part by part.
use Rattle.std.proofs.Common.{◌≡◌, ℕ, Bool, true, false, ap, ◌+◌, ◌<◌, List, [], ◌∷◌, ◌++◌, decimal, length, get_or, drop, ◌≤◌, sym, ◌∙◌, arith}
use Rattle.std.proofs.lemmas.Fmt.{decimal_digit}
use Rattle.std.proofs.lemmas.List.{drop_more, drop_all}
use Rattle.std.proofs.Output.{has_written_append, has_written_of_eq, writes_in_calls_nil}
use Rattle.std.specs.Int.{from_bool}
use Rattle.std.specs.Fmt.{HasWritten, IsPlainFormatter}
use Rattle.std.specs.declared.fmt.Formatter.{Formatter}
use Rattle.journal.specs.Words.{digit_word}

-- f is plain, and what writes `rest` from there on has written `whole` since the start
pub record Left {W : Type 0} (took : W → List ℕ → W → Type 0) (start f : Formatter W) (rest whole : List ℕ) : Type 0 where
  pub plain : IsPlainFormatter f
  pub completes : (g : Formatter W) → HasWritten took f rest g → HasWritten took start whole g

module _ {W : Type 0} (took : W → List ℕ → W → Type 0) (start f : Formatter W) (rest whole : List ℕ) where
  pub part_written : (g : Formatter W) (part more : List ℕ) → Left took start f rest whole → rest ≡ part ++ more → HasWritten took f part g → Left took start g more whole
  part_written g part more left is w = record {
    plain = w.plain;
    completes = λ h m. left.completes h (has_written_of_eq took f (part ++ more) rest h (sym is) (has_written_append took f part g more h w m));
  }

  pub all_written : Left took start f rest whole → rest ≡ [] → HasWritten took start whole f
  all_written left none = left.completes f (has_written_of_eq took f [] rest f (sym none) (record { wrote = writes_in_calls_nil took f.writer; plain = left.plain }))

-- what is left from place i on of a text that is written byte by byte
pub byte_left : {W : Type 0} (took : W → List ℕ → W → Type 0) (start f : Formatter W) (whole : List ℕ) (i : ℕ) (g : Formatter W) (part : List ℕ) → i < length whole
    → part ≡ get_or whole i 0 ∷ [] → Left took start f (drop i whole) whole → HasWritten took f part g → Left took start g (drop (i + 1) whole) whole
byte_left took start f whole i g part more is left w =
    part_written took start f (drop i whole) whole g part (drop (i + 1) whole) left (drop_more whole i 0 more ∙ ap (λ (p : List ℕ). p ++ drop (i + 1) whole) (sym is)) w

pub bytes_written : {W : Type 0} (took : W → List ℕ → W → Type 0) (start f : Formatter W) (whole : List ℕ) (i : ℕ) → length whole ≤ i → Left took start f (drop i whole) whole
    → HasWritten took start whole f
bytes_written took start f whole i all left = all_written took start f (drop i whole) whole left (drop_all i whole all)

-- a bit's decimal is its digit
pub bit_digit : (b : Bool) (n : ℕ) → n ≡ from_bool b → decimal n ≡ digit_word b
bit_digit b n is = ap decimal is ∙ go b
  where
    go : (b : Bool) → decimal (from_bool b) ≡ digit_word b
    go true = decimal_digit 1 (omega arith)
    go false = decimal_digit 0 (omega arith)
