use Rattle.std.proofs.Common.{◌≡◌, ◌+◌, Bool, true, false, [], ◌∷◌, refl, ap, sym, ◌∙◌, arith, rules}
use mir.Val.{bool_byte}
use Rattle.std.proofs.Output.{has_written_of_eq}
use Rattle.text.specs.Texts.{coins}
use Rattle.text.proofs.Words.{length_coins, coin_at}
use Rattle.journal.specs.Words.{coin_words, digit_word}
use Rattle.journal.proofs.Printing.{byte_left, bytes_written}
use Rattle.journal.proofs.words.CoinsDisplay.fmt.Goals as goal

digits : (b : Bool) → digit_word b ≡ (48 + bool_byte b) ∷ []
digits true = refl
digits false = refl

pub loop-i-preserved : goal.loop-i-preserved
loop-i-preserved g c = λ plain.
    let m = c.args.self.now.0.now in
    let n = length_coins m.count m.coins in
    let coin = coin_at m.count m.coins c.loop-i.i c.loop-i-test.true in
    let left = c.loop-i.invariant plain in
    byte_left _ _ _ (coins m.count m.coins) c.loop-i.i _ _ (omega arith) (c.digit.ensures ∙ digits c.bit.result ∙ ap (λ b. (48 + bool_byte b) ∷ []) c.bit.ensures ∙ ap (λ d. d ∷ []) (sym coin)) left (c.write_str-in-loop-i.ensures.writes left.plain (search rules))

pub returns-clause-writes : goal.returns-clause-writes
returns-clause-writes g c = λ plain _.
    let m = c.args.self.now.0.now in
    let n = length_coins m.count m.coins in
    let some : coin_words m.count m.coins ≡ coins m.count m.coins = search rules in
    has_written_of_eq _ _ _ _ _ (sym some) (bytes_written _ _ _ (coins m.count m.coins) c.loop-i.i (omega arith) (c.loop-i.invariant plain))
