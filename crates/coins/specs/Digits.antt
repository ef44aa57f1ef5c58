-- Coins as written digits.
use Rattle.std.specs.List.{list_all}
use Rattle.std.specs.Prelude.{ℕ, Bool, true, false, ◌||◌, List, [], ◌∷◌, ◌==◌}
use Rattle.coins.specs.declared.text.TextCoins.{TextCoins}

-- a coin is written as the digit 0 or 1, in ASCII
abbrev pub digit : Bool → ℕ
digit false = 48
digit true = 49

-- coins are written one after the other
abbrev pub digits : List Bool → List ℕ
digits [] = []
digits (c ∷ cs) = digit c ∷ digits cs

abbrev pub is_digit : ℕ → Bool
is_digit d = d == 48 || d == 49

-- whether every byte is such a digit
abbrev pub all_digits : List ℕ → Bool
all_digits = list_all is_digit

-- the coins of written digits
abbrev pub coins_of : List ℕ → List Bool
coins_of [] = []
coins_of (d ∷ ds) = (d == 49) ∷ coins_of ds

-- the coins still to come from a text are those of what has not been read
abbrev pub text_coins : TextCoins → List Bool
text_coins s = coins_of s.rest.now
