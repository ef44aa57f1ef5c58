use Rattle.std.proofs.Common.{refl, sym, ◌∙◌, arith}
use Rattle.text.proofs.Places.{let_go}
use Rattle.journal_lines.proofs.Coins.{coins_miss, coins_other, coins_hit, dash_miss, dash_not, dash_hit}
use Rattle.journal_lines.proofs.parts.coins.Goals as goal

pub returns-in_err-byte : goal.returns-in_err-byte
returns-in_err-byte c =
    let_go _ _ _ _ _ _ _ c.from_residual.ensures.1 c.in_err-byte.ensures.0 (dash_miss _ c.if-count-eq0.true c.in_err-byte.ensures.2)

pub returns-in-45 : goal.returns-in-45
returns-in-45 c =
    let h = c.in_ok-byte.ensures in
    (h.0, dash_hit _ c.if-count-eq0.true h.1 c.in-45.is)

pub returns-in_default : goal.returns-in_default
returns-in_default c = (refl, dash_not _ c.if-count-eq0.true c.in_ok-byte.ensures.1 (λ e. omega arith))

pub returns-in_err-digits : goal.returns-in_err-digits
returns-in_err-digits c =
    let_go _ _ _ _ _ _ _ c.from_residual-in_err-digits.ensures.1 c.in_err-digits.ensures.0 (coins_miss _ (omega arith) c.in_err-digits.ensures.2)

pub returns-then-not-are_coins : goal.returns-then-not-are_coins
returns-then-not-are_coins c = (refl, coins_other _ (omega arith) c.in_ok-digits.ensures.1 (sym c.are_coins.ensures ∙ c.if-not-are_coins.true))

pub returns : goal.returns
returns c =
    let h = c.in_ok-digits.ensures in
    (h.0, coins_hit _ (omega arith) h.1 _ (sym c.are_coins.ensures ∙ c.if-not-are_coins.false) c.word_of.ensures)
