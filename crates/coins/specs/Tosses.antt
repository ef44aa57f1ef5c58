-- The shift register of 16 bits, and the coins that it gives.
use Rattle.std.specs.Prelude.{ℕ, zero, suc, ◌+◌, ◌/◌, ◌^◌, Bool, cond, List, [], ◌∷◌}
use Rattle.coins.specs.declared.register.Register.{Register}
use Rattle.pauli.specs.Bits.{xorb, odd, bit_of}

-- the exclusive or of bits 0, 2, 3 and 5
abbrev pub mixed : ℕ → Bool
mixed w = xorb (xorb (xorb (bit_of w 0) (bit_of w 2)) (bit_of w 3)) (bit_of w 5)

-- the word shifted right, with that as the new top bit (15)
abbrev pub next : ℕ → ℕ
next w = w / 2 + cond (mixed w) (2 ^ 15) 0

-- each draw answers the lowest bit and shifts
abbrev pub tosses : ℕ → ℕ → List Bool
tosses w zero = []
tosses w (suc n) = odd w ∷ tosses (next w) n

-- the coins still to come from a register
abbrev pub register_coins : Register → List Bool
register_coins r = tosses r.word r.draws
