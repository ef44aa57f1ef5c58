-- The coins spent, as the lines of a journal show them.
use Rattle.std.specs.Prelude.{ℕ, Bool, true, false, cond, List, [], ◌∷◌, ◌++◌, ◌==◌}

-- a line's text after its first comma
abbrev pub after_comma : List ℕ → List ℕ
after_comma [] = []
after_comma (b ∷ t) = cond (b == 44) t (after_comma t)

-- a text after its last comma, or `whole` where it has none
abbrev pub since_comma : List ℕ → List ℕ → List ℕ
since_comma whole [] = whole
since_comma whole (b ∷ t) = cond (b == 44) (since_comma t t) (since_comma whole t)

-- the digits 0 and 1 of a text, as coins
abbrev pub coins_in : List ℕ → List Bool
coins_in [] = []
coins_in (b ∷ t) = cond (b == 48) (false ∷ coins_in t) (cond (b == 49) (true ∷ coins_in t) (coins_in t))

-- whether a text begins with M
abbrev pub begins_with_M : List ℕ → Bool
begins_with_M [] = false
begins_with_M (b ∷ t) = b == 77

-- the coins that a line shows: those of its last field, if its second is M; other lines show none
abbrev pub shown : List ℕ → List Bool
shown t = cond (begins_with_M (after_comma t)) (coins_in (since_comma t t)) []

-- the coins that some lines show, first line first
abbrev pub spent : List (List ℕ) → List Bool
spent [] = []
spent (t ∷ ts) = shown t ++ spent ts
