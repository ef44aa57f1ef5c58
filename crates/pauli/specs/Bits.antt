-- Single bits, and the bits of a word.
use Rattle.std.specs.Prelude.{ℕ, ◌/◌, ◌%◌, ◌^◌, Bool, true, false, cond, ◌==◌, bit_xor}

-- the sum of two bits modulo 2
abbrev pub xorb : Bool → Bool → Bool
xorb true true = false
xorb true false = true
xorb false b = b

abbrev pub odd : ℕ → Bool
odd n = n % 2 == 1

-- the bit of value 2 ^ i
abbrev pub bit_of : ℕ → ℕ → Bool
bit_of w i = odd (w / 2 ^ i)

-- w with that bit made b
abbrev pub with_bit : ℕ → ℕ → Bool → ℕ
with_bit w i b = cond (xorb (bit_of w i) b) (bit_xor w (2 ^ i)) w
