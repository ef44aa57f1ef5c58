use Rattle.std.proofs.Common.{◌≡◌, length, ap, arith, rules}
use Rattle.pauli.proofs.Texts.{text_length}
use Rattle.text.specs.Lines.{field_text}
use Rattle.text.proofs.Words.{length_coins, coin_some, coin_none}
use Rattle.text.proofs.write.field_len.Goals as goal

pub returns-in-Letters : goal.returns-in-Letters
returns-in-Letters c =
    let e = ap (λ f. length (field_text f)) c.in-Letters.is in
    let n = text_length c.in-Letters.size c.in-Letters.label in
    record { is = omega arith; few = search rules }

pub returns-in-Coins-eq0-default-clause-is : goal.returns-in-Coins-eq0-default-clause-is
returns-in-Coins-eq0-default-clause-is c =
    let e = ap (λ f. length (field_text f)) c.in-Coins-eq0-default.is in
    let n = ap length (coin_none c.in-Coins-eq0-default.count c.in-Coins-eq0-default.word (omega arith)) in
    omega arith

pub returns-in-Coins-clause-is : goal.returns-in-Coins-clause-is
returns-in-Coins-clause-is c =
    let some : c.in-Coins.count ≡ 0 → ⊥ = λ z. c.in-Coins.count-test.1 (let at = c.in-Coins.count-is in cc) in
    let e = ap (λ f. length (field_text f)) c.in-Coins.is in
    let n = ap (λ f. length (f c.in-Coins.word)) (coin_some c.in-Coins.count (omega (arith, some))) in
    let m = length_coins c.in-Coins.count c.in-Coins.word in
    omega arith
