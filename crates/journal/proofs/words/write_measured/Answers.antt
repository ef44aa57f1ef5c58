use Rattle.std.proofs.Common.{◌≡◌, ◌∷◌, [], decimal, refl, rules}
use Rattle.std.proofs.Output.{has_written_of_eq}
use Rattle.text.specs.Texts.{sign_byte}
use Rattle.journal.specs.Words.{digit_word}
use Rattle.journal.proofs.Printing.{bit_digit}
use Rattle.journal.proofs.words.write_measured.Goals as goal
use Rattle.journal.proofs.words.write_measured.Goals.{then-m, else-m}

pub returns : goal.returns
returns g c = λ plain ok.
    let m = c.args.m.now in
    let sign : c.if-m.sign.now ≡ sign_byte m.sign ∷ [] = elim c.if-m.branch [ then-m w ↦ search rules | else-m w ↦ search rules ] in
    let outcome : decimal c.from-outcome.result ≡ digit_word m.outcome = bit_digit m.outcome _ c.from-outcome.ensures in
    has_written_of_eq _ _ _ _ _ (rw (sign, c.case_words-case.ensures, outcome) refl) (c.write.ensures.writes plain ok)
