-- The register gives as many coins as it has draws, and the first is its lowest bit.
use Rattle.std.proofs.Common.{◌≡◌, ℕ, zero, suc, ◌-◌, ◌<◌, ◌∷◌, length, refl, ap, arith}
use Rattle.pauli.specs.Bits.{odd}
use Rattle.coins.specs.Tosses.{next, tosses}

pub length_tosses : (n w : ℕ) → length (tosses w n) ≡ n
length_tosses zero w = refl
length_tosses (suc n) w = ap suc (length_tosses n (next w))

pub first_toss : (w n : ℕ) → 0 < n → tosses w n ≡ odd w ∷ tosses (next w) (n - 1)
first_toss w n h =
    let e : n ≡ suc (n - 1) = omega arith in
    ap (tosses w) e
