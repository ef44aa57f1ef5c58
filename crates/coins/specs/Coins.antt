-- Lists of coins: drawing from one, and coins as a word.
use Rattle.std.specs.Prelude.{◌≡◌, ℕ, zero, suc, ◌/◌, ◌^◌, ◌<◌, ◌≤◌, Bool, ◌⊎◌, List, [], ◌∷◌, ◌++◌, length, Some, None, Option}
use Rattle.pauli.specs.Bits.{odd}

-- a draw takes the first coin, or finds none exactly where there is none
abbrev pub Drawn : List Bool → Option Bool → List Bool → Type 0
Drawn before (Some c) after = before ≡ c ∷ after
Drawn before None after = (before ≡ []) × (after ≡ [])

-- the k lowest bits of a word, lowest first
abbrev pub bits : ℕ → ℕ → List Bool
bits zero w = []
bits (suc k) w = odd w ∷ bits k (w / 2)

-- k coins drawn into a word, first coin lowest; or none drawn, since fewer are left or k is more than a word holds
abbrev pub WordDrawn : ℕ → List Bool → Option ℕ → List Bool → Type 0
WordDrawn k before (Some w) after = (k ≤ 64) × (w < 2 ^ k) × (before ≡ bits k w ++ after)
WordDrawn k before None after = ((64 < k) ⊎ (length before < k)) × (after ≡ before)
