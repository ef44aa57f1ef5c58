-- Sums of labels, dependence and duals.
use Rattle.std.specs.Prelude.{◌≡◌, ◌⊎◌, List, [], ◌∷◌}
use Rattle.pauli.specs.declared.label.Label.{Label}
use Rattle.pauli.specs.Labels.{plus, pairing, zero_label}

abbrev pub All : {A : Type 0} → (A → Type 0) → List A → Type 0
All P [] = Unit {0}
All P (x ∷ xs) = P x × All P xs

-- a is the sum of some of the labels
abbrev pub Span : List Label → Label → Type 0
Span [] a = a ≡ zero_label
Span (r ∷ rs) a = Span rs a ⊎ Span rs (plus r a)

-- one of them is the sum of some that follow it
abbrev pub Dependent : List Label → Type 0
Dependent [] = ⊥
Dependent (r ∷ rs) = Dependent rs ⊎ Span rs r

-- the i-th of the one list and the j-th of the other anticommute exactly if i = j
abbrev pub Duals : List Label → List Label → Type 0
Duals [] [] = Unit {0}
Duals [] (v ∷ vs) = ⊥
Duals (r ∷ rs) [] = ⊥
Duals (r ∷ rs) (v ∷ vs) = (pairing r v ≡ 1) × All (λ w. pairing r w ≡ 0) vs × All (λ s. pairing s v ≡ 0) rs × Duals rs vs
