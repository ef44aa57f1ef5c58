-- Written coins: reading gives back what was written, and nothing else is accepted.
use Rattle.std.proofs.Common.{◌≡◌, ℕ, suc, Bool, true, false, eqb, List, [], ◌∷◌, length, refl, ap, ◌∙◌, inl, inr}
use Rattle.std.proofs.lemmas.Bool.{and_parts, or_cases, eqb-true, both_ways}
use Rattle.coins.specs.Digits.{digit, digits, is_digit, all_digits, coins_of}

read_digit : (d : ℕ) → is_digit d ≡ true → d ≡ digit (eqb d 49)
read_digit d h =
    elim (or_cases _ _ h) [ inl p ↦ rw (eqb-true d 48 p) refl | inr q ↦ rw (eqb-true d 49 q) refl ]

-- a text of digits is the text of its coins
pub written : (ds : List ℕ) → all_digits ds ≡ true → ds ≡ digits (coins_of ds)
written [] h = refl
written (d ∷ ds) h =
    let p = and_parts (is_digit d) (all_digits ds) h in
    ap (λ x. x ∷ ds) (read_digit d p.0) ∙ ap (λ xs. digit (eqb d 49) ∷ xs) (written ds p.1)

-- the text of coins is of digits
all_written : (cs : List Bool) → all_digits (digits cs) ≡ true
all_written [] = refl
all_written (false ∷ cs) = all_written cs
all_written (true ∷ cs) = all_written cs

pub unwritten : (ds : List ℕ) → all_digits ds ≡ false → (cs : List Bool) → ds ≡ digits cs → ⊥
unwritten ds h cs e = both_ways (all_digits ds) h (ap all_digits e ∙ all_written cs)

pub length_coins : (ds : List ℕ) → length (coins_of ds) ≡ length ds
length_coins [] = refl
length_coins (d ∷ ds) = ap suc (length_coins ds)
