-- No two values share a field.
use Rattle.std.proofs.Common.{◌≡◌, ℕ, ◌<◌, true, false, List, ◌∷◌, ◌++◌, sym, refl, ap, ◌∙◌, append_assoc, arith}
use Rattle.pauli.specs.declared.gate.Gate.TheVariants as G
use Rattle.text.specs.Texts.{Any, num, Short, sign_text, gate_byte, turn_text, Turn, pair_text, gate_text, Gated}
use Rattle.text.proofs.Fields.{both, Both}
use Rattle.text.proofs.Gates.{gate_same, not_c}
use Rattle.text.proofs.Cuts.{apart}
use Rattle.text.proofs.Numbers.{num_same, num_without}

-- fields of the same text are of one value, and end together
abbrev pub Apart : {A : Type 0} (w : A → List ℕ) (L : A → Type 0) (end : ℕ) → Type 0
Apart {A} w L end = (a b : A) (r s : List ℕ) → L a → L b → w a ++ end ∷ r ≡ w b ++ end ∷ s → (a ≡ b) × (r ≡ s)

pub num_apart : (end : ℕ) → end < 48 → Apart num Short end
num_apart end low a b r s l k e =
    let o = apart end (num a) (num b) r s (num_without end low a l) (num_without end low b k) e in
    (num_same a b l k o.0, o.1)

pub both_apart : {A B : Type 0} (w : A → List ℕ) (L : A → Type 0) (v : B → List ℕ) (M : B → Type 0) (end : ℕ) → Apart w L 44 → Apart v M end → Apart (both w L v M) (Both w L v M) end
both_apart w L v M end x y a b r s l k e =
    let p = x a.0 b.0 (v a.1 ++ end ∷ r) (v b.1 ++ end ∷ s) l.0 k.0 (sym (append_assoc (w a.0) (44 ∷ v a.1) (end ∷ r)) ∙ e ∙ append_assoc (w b.0) (44 ∷ v b.1) (end ∷ s)) in
    let q = y a.1 b.1 r s l.1 k.1 p.1 in
    ((λ i. (p.0 i, q.0 i)), q.1)

pub sign_apart : (end : ℕ) → Apart sign_text Any end
sign_apart end true true r s l k e = (refl, cc)
sign_apart end true false r s l k e = let z : ◌≡◌ {A = ℕ} 45 43 = cc in absurd (omega arith)
sign_apart end false true r s l k e = let z : ◌≡◌ {A = ℕ} 43 45 = cc in absurd (omega arith)
sign_apart end false false r s l k e = (refl, cc)

pub turn_apart : (end : ℕ) → end < 48 → Apart turn_text Turn end
turn_apart end low a b r s l k e =
    let head : gate_byte a.0 ≡ gate_byte b.0 = cc in
    let tail : num a.1 ++ end ∷ r ≡ num b.1 ++ end ∷ s = cc in
    let p = num_apart end low a.1 b.1 r s l k tail in
    let g = gate_same a.0 b.0 head in
    ((λ i. (g i, p.0 i)), p.1)

pub gate_apart : (end : ℕ) → end < 48 → Apart gate_text Gated end
gate_apart end low (G.One g q) (G.One h p) r s l k e = let o = turn_apart end low (g, q) (h, p) r s l k e in (ap (λ x. G.One x.0 x.1) o.0, o.1)
gate_apart end low (G.One g q) (G.Cx c t) r s l k e = let z : gate_byte g ≡ 67 = cc in absurd (not_c g z)
gate_apart end low (G.Cx c t) (G.One g q) r s l k e = let z : gate_byte g ≡ 67 = cc in absurd (not_c g z)
gate_apart end low (G.Cx c t) (G.Cx d u) r s l k e =
    let tail : pair_text (c, t) ++ end ∷ r ≡ pair_text (d, u) ++ end ∷ s = cc in
    let o = both_apart num Short num Short end (num_apart 44 (omega arith)) (num_apart end low) (c, t) (d, u) r s l k tail in
    (ap (λ x. G.Cx x.0 x.1) o.0, o.1)
