-- 2n labels of n qubits with duals span every label of n qubits.
use Rattle.std.proofs.Common.{◌≡◌, ℕ, ◌+◌, ◌*◌, ◌/◌, ◌%◌, ◌^◌, ◌<◌, Bool, true, false, cond, List, [], ◌∷◌, length, sym, refl, ap, ◌∙◌, subst, ap₂, inl, inr, pow-suc, arith, pow-add}
use lib.Arith.{digits_lt, digits_div, digits_mod}
use Rattle.pauli.specs.declared.label.Label.{Label}
use Rattle.pauli.specs.Bits.{odd}
use Rattle.pauli.specs.Labels.{plus, pairing, zero_label, Within}
use Rattle.pauli_laws.specs.Spaces.{All, Span, Duals}
use Rattle.pauli_laws.proofs.Signs.{num, num_odd, odd_mod}
use Rattle.pauli_laws.proofs.Algebra.{label, zero_plus, plus_cancel, label_discrete, zero_within, plus_within, pairing_l, pairing_comm, pairing_zero}
use Rattle.pauli_laws.proofs.Pigeons.{onto}
use Rattle.pauli_laws.proofs.Duals.{span_pairing, partner}

-- a label that is taken or left
abbrev pub chosen : Bool → Label → Label
chosen b r = cond b r zero_label

-- the sum of the labels that the bits of m choose, the first by the lowest
unfoldable pub comb : List Label → ℕ → Label
comb [] m = zero_label
comb (r ∷ rs) m = plus (chosen (odd m) r) (comb rs (m / 2))

pub comb_span : (rs : List Label) (m : ℕ) → Span rs (comb rs m)
unfolding comb
comb_span [] m = refl
comb_span (r ∷ rs) m = go (comb_span rs (m / 2)) (odd m)
  where
    go : Span rs (comb rs (m / 2)) → (b : Bool) → Span (r ∷ rs) (plus (chosen b r) (comb rs (m / 2)))
    go s true = inr (subst (Span rs) (sym (plus_cancel r (comb rs (m / 2)))) s)
    go s false = inl (subst (Span rs) (sym (zero_plus (comb rs (m / 2)))) s)

pub comb_pairing : (rs : List Label) (m : ℕ) (w : Label) → All (λ s. pairing s w ≡ 0) rs → pairing (comb rs m) w ≡ 0
comb_pairing rs m w h = span_pairing rs w (comb rs m) h (comb_span rs m)

-- with duals, the sum says which labels were chosen
pub comb_inj : (rs vs : List Label) → Duals rs vs → (m k : ℕ) → m < 2 ^ length rs → k < 2 ^ length rs → comb rs m ≡ comb rs k → m ≡ k
unfolding comb
comb_inj [] [] d m k hm hk e = omega arith
comb_inj [] (v ∷ vs) d m k hm hk e = absurd d
comb_inj (r ∷ rs) [] d m k hm hk e = absurd d
comb_inj (r ∷ rs) (v ∷ vs) d m k hm hk e =
    let low : (j : ℕ) → pairing (plus (chosen (odd j) r) (comb rs (j / 2))) v ≡ j % 2
    = λ j. pairing_l (chosen (odd j) r) (comb rs (j / 2)) v ∙ omega (arith, comb_pairing rs (j / 2) v d.2, head j (odd j) refl) in
    let lows : m % 2 ≡ k % 2 = sym (low m) ∙ ap (λ (l : Label). pairing l v) e ∙ low k in
    let bits : odd m ≡ odd k = odd_mod m k lows in
    let rest : comb rs (m / 2) ≡ comb rs (k / 2)
    = sym (plus_cancel (chosen (odd m) r) (comb rs (m / 2))) ∙ ap (plus (chosen (odd m) r)) e
    ∙ ap (λ (b : Bool). plus (chosen b r) (plus (chosen (odd k) r) (comb rs (k / 2)))) bits
    ∙ plus_cancel (chosen (odd k) r) (comb rs (k / 2)) in
    omega (arith, lows, comb_inj rs vs d.3 (m / 2) (k / 2) (omega (arith, pow-suc 2 (length rs))) (omega (arith, pow-suc 2 (length rs))) rest)
  where
    head : (j : ℕ) (b : Bool) → odd j ≡ b → pairing (chosen b r) v ≡ j % 2
    head j true e = d.0 ∙ sym (sym (num_odd j) ∙ ap num e)
    head j false e = pairing_zero v ∙ sym (sym (num_odd j) ∙ ap num e)

-- a label of n qubits as one number
unfoldable pub code : ℕ → Label → ℕ
code n a = a.z * 2 ^ n + a.x

pub code_lt : (n : ℕ) (a : Label) → Within n a → code n a < 2 ^ (n + n)
unfolding code
code_lt n a w = subst (λ (v : ℕ). a.z * 2 ^ n + a.x < v) (sym (pow-add 2 n n)) (digits_lt w.z w.x)

pub code_inj : (n : ℕ) (a b : Label) → Within n a → Within n b → code n a ≡ code n b → a ≡ b
unfolding code
code_inj n a b ha hb e =
    ap₂ label (sym (digits_mod a.z ha.x) ∙ ap (λ (v : ℕ). v % 2 ^ n) e ∙ digits_mod b.z hb.x)
    (sym (digits_div a.z ha.x) ∙ ap (λ (v : ℕ). v / 2 ^ n) e ∙ digits_div b.z hb.x)

pub comb_within : (n : ℕ) (rs : List Label) (m : ℕ) → All (Within n) rs → Within n (comb rs m)
unfolding comb
comb_within n [] m h = zero_within n
comb_within n (r ∷ rs) m h = plus_within n (chosen (odd m) r) (comb rs (m / 2)) (go (odd m)) (comb_within n rs (m / 2) h.1)
  where
    go : (b : Bool) → Within n (chosen b r)
    go true = h.0
    go false = zero_within n

pub spans : (n : ℕ) (rs vs : List Label) → length rs ≡ n + n → All (Within n) rs → Duals rs vs → (a : Label) → Within n a → Span rs a
spans n rs vs l h d a w =
    let f : ℕ → ℕ = λ m. code n (comb rs m) in
    let p = onto (2 ^ (n + n)) f (λ m k. code_lt n (comb rs m) (comb_within n rs m h))
    (λ m k hm hk e. comb_inj rs vs d m k (rw l hm) (rw l hk)
    (code_inj n (comb rs m) (comb rs k) (comb_within n rs m h) (comb_within n rs k h) e))
    (code n a) (code_lt n a w) in
    subst (Span rs) (code_inj n (comb rs p.0) a (comb_within n rs p.0 h) w p.2) (comb_span rs p.0)

-- so a label of n qubits that commutes with all of them is zero
pub only_zero : (n : ℕ) (rs vs : List Label) → length rs ≡ n + n → All (Within n) rs → Duals rs vs
    → (a : Label) → Within n a → All (λ s. pairing s a ≡ 0) rs → a ≡ zero_label
only_zero n rs vs l h d a w all = go (label_discrete a)
  where
    go : Dec (a ≡ zero_label) → a ≡ zero_label
    go (yes e) = e
    go (no ne) =
        let p = partner n a w.x w.z ne in
        let z : pairing p.0 a ≡ 0 = span_pairing rs a p.0 all (spans n rs vs l h d p.0 (record { x = p.1; z = p.2 })) in
        absurd (omega (arith, p.3, z, pairing_comm a p.0))
