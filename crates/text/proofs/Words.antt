-- Letters and coins, one by one, and the lengths of what is written.
use Rattle.std.proofs.Common.{◌≡◌, ℕ, zero, suc, ◌+◌, ◌/◌, ◌%◌, ◌<◌, cond, [], ◌∷◌, length, refl, ap, arith, Bool, true, false, get_or, sym, ◌∙◌}
use Rattle.std.proofs.lemmas.Bool.{ne_eqb, eqb-true, eqb-false}
use mir.Val.{bool_byte}
use Rattle.pauli.proofs.Texts.{text_length}
use Rattle.pauli.proofs.Words.{bit_half, bit_low}
use Rattle.pauli.specs.Bits.{odd, bit_of}
use Rattle.pauli.specs.Labels.{letters}
use Rattle.text.specs.Texts.{coins, coin_text}

pub length_letters : (n x z : ℕ) → length (letters n x z) ≡ n
length_letters n x z = text_length n (record { x = x; z = z })

pub length_coins : (n c : ℕ) → length (coins n c) ≡ n
length_coins zero c = refl
length_coins (suc n) c = ap suc (length_coins n (c / 2))

-- coins, or `-`
pub coin_some : (n : ℕ) → 0 < n → coin_text n ≡ coins n
unfolding coin_text
coin_some n h = let e = ne_eqb n 0 (λ z. omega arith) in (λ i c. cond (e i) (45 ∷ []) (coins n c))

pub coin_none : (n c : ℕ) → n ≡ 0 → coin_text n c ≡ 45 ∷ []
unfolding coin_text
coin_none zero c z = refl
coin_none (suc n) c z = absurd (omega arith)

-- the coin at a place
pub coin_at : (n c i : ℕ) → i < n → get_or (coins n c) i 0 ≡ 48 + bool_byte (bit_of c i)
coin_at zero c i h = absurd (omega arith)
coin_at (suc n) c zero h = ap (λ d. 48 + d) (low c (odd c) refl ∙ ap bool_byte (sym (bit_low c)))
  where
    low : (c : ℕ) (b : Bool) → odd c ≡ b → c % 2 ≡ bool_byte b
    low c true e = eqb-true _ _ e
    low c false e = let n = eqb-false (c % 2) 1 e in omega arith
coin_at (suc n) c (suc i) h = coin_at n (c / 2) i (omega arith) ∙ ap (λ b. 48 + bool_byte b) (bit_half c i)
