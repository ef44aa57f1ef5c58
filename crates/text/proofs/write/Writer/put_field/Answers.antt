use Rattle.std.proofs.Common.{◌≡◌, length, sym, ap, ◌∙◌, arith}
use Rattle.text.specs.Lines.{field_text}
use Rattle.pauli.proofs.Texts.{text_length}
use Rattle.text.proofs.Words.{length_coins, coin_some, coin_none}
use Rattle.text.proofs.Writing.{recast}
use Rattle.text.proofs.write.Writer.put_field.Goals as goal

pub put_letters-requires : goal.put_letters-requires
put_letters-requires c =
    let e = ap (λ f. length (field_text f)) c.in-Letters.is in
    let n = text_length c.in-Letters.size c.in-Letters.label in
    omega arith

pub put-requires-in-Coins-eq0-default : goal.put-requires-in-Coins-eq0-default
put-requires-in-Coins-eq0-default c =
    let e = ap (λ f. length (field_text f)) c.in-Coins-eq0-default.is in
    let n = ap length (coin_none c.in-Coins-eq0-default.count c.in-Coins-eq0-default.word (omega arith)) in
    omega arith

pub put_coins-requires : goal.put_coins-requires
put_coins-requires c =
    let e = ap (λ f. length (field_text f)) c.in-Coins.is in
    let some : c.in-Coins.count ≡ 0 → ⊥ = λ z. c.in-Coins.count-test.1 (let at = c.in-Coins.count-is in cc) in
    let n = ap (λ f. length (f c.in-Coins.word)) (coin_some c.in-Coins.count (omega (arith, some))) in
    let m = length_coins c.in-Coins.count c.in-Coins.word in
    omega arith

pub returns-in-Coins-eq0-default : goal.returns-in-Coins-eq0-default
returns-in-Coins-eq0-default c =
    recast _ (sym (ap field_text c.in-Coins-eq0-default.is ∙ coin_none c.in-Coins-eq0-default.count c.in-Coins-eq0-default.word (omega arith))) c.put-in-Coins-eq0-default.ensures

pub returns-in-Coins : goal.returns-in-Coins
returns-in-Coins c =
    let some : c.in-Coins.count ≡ 0 → ⊥ = λ z. c.in-Coins.count-test.1 (let at = c.in-Coins.count-is in cc) in
    recast _ (sym (ap field_text c.in-Coins.is ∙ ap (λ f. f c.in-Coins.word) (coin_some c.in-Coins.count (omega (arith, some))))) c.put_coins.ensures
