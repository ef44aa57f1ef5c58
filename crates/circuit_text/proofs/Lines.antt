-- Lines made of fields.
use Rattle.std.proofs.Common.{◌≡◌, ℕ, ◌+◌, ◌≤◌, Bool, List, ◌∷◌, ◌++◌, length, get_or, drop, Ok, sym, refl, ap, ◌∙◌, subst, ap₂, arith, length-drop}
use Rattle.pauli.specs.declared.gate.Gate.{Gate}
use Rattle.pauli.specs.declared.gate.OneQubit.{OneQubit}
use Rattle.text.specs.Reading.{Hit, Miss}
use Rattle.text.specs.Texts.{Any, one, num, Short, sign_text, sign_byte, gate_text, Gated, turn_text, Turn, same, Letters, Coins}
use Rattle.text.proofs.Fields.{both, Both}
use Rattle.text.proofs.Places.{peel}
use Rattle.text.specs.declared.read.Fields.{Fields}
use Rattle.circuit_text.specs.declared.line.Line.{Line}
use Rattle.circuit_text.specs.Reading.{LineAt}
use Rattle.circuit_text.specs.Lines.{coins_line, CoinsLaw, Said, gate, measure, conditional, kind_of, body_of, said_text, SaidLaw}

-- a line under another name
pub read_as : (old : Fields) {l m : Line} {f g : Fields} → l ≡ m → f ≡ g → LineAt old (Ok m) g → LineAt old (Ok l) f
read_as old {l} {m} {f} {g} e d h = subst (λ (z : Line). LineAt old (Ok z) f) (sym e) (subst (λ (z : Fields). LineAt old (Ok m) z) (sym d) h)

-- ---- the kind, and a comma

module _ (t : List ℕ) (at b mid : ℕ) (kind : Hit one Any 44 t at b mid) where
  -- the line's body begins two places on
  pub body_at : mid ≡ at + 2
  body_at = place t at b 44 mid kind.is kind.within
    where
      place : (t : List ℕ) (at b d mid : ℕ) → drop at t ≡ b ∷ d ∷ drop mid t → mid ≤ length t → mid ≡ at + 2
      place t at b d mid e h = omega (arith, ap length e, length-drop at t, length-drop mid t)

  pub body_is : drop (at + 2) t ≡ drop mid t
  body_is = ap (λ i. drop i t) (sym body_at)

  -- ---- line 2

  module _ (q : b ≡ 66) where
    pub coins_hit : (l : List ℕ) (to : ℕ) → length l ≤ 4096 → Hit same Coins 10 t mid l to → Hit coins_line CoinsLaw 10 t at l to
    coins_hit l to few h = record {
      law = record { coins = h.law; few = few };
      within = h.within;
      is = kind.is ∙ ap₂ (λ (x : ℕ) (y : List ℕ). x ∷ 44 ∷ y) q h.is;
      only = λ l' rest law e. h.only l' rest law.coins (sym (kind.only 66 (l' ++ 10 ∷ rest) tt e).1);
    }

  -- ---- any later line

  module _ (s : Said) (to : ℕ) where
    -- a line is read where its body is
    said_hit : SaidLaw s → to ≤ length t → b ≡ kind_of s → drop mid t ≡ body_of s ++ 10 ∷ drop to t
        → ((x : Said) (rest : List ℕ) → SaidLaw x → kind_of x ≡ b → drop mid t ≡ body_of x ++ 10 ∷ rest → (x ≡ s) × (rest ≡ drop to t))
        → Hit said_text SaidLaw 10 t at s to
    said_hit law h k e only = record {
      law = law;
      within = h;
      is = kind.is ∙ ap₂ (λ (x : ℕ) (y : List ℕ). x ∷ 44 ∷ y) k e;
      only = λ x rest l d. let o = kind.only (kind_of x) (body_of x ++ 10 ∷ rest) tt d in only x rest l o.0 (sym o.1);
    }

  said_miss : ((x : Said) (rest : List ℕ) → SaidLaw x → kind_of x ≡ b → drop mid t ≡ body_of x ++ 10 ∷ rest → ⊥) → Miss said_text SaidLaw 10 t at
  said_miss never = record { never = λ x rest l d. let o = kind.only (kind_of x) (body_of x ++ 10 ∷ rest) tt d in never x rest l o.0 (sym o.1) }

  module _ (q : b ≡ 71) where
    pub gate_hit : (g : Gate) (to : ℕ) → Hit gate_text Gated 10 t mid g to → Hit said_text SaidLaw 10 t at (gate g) to
    gate_hit g to h = said_hit (gate g) to h.law h.within q h.is go
      where
        go : (x : Said) (rest : List ℕ) → SaidLaw x → kind_of x ≡ b → drop mid t ≡ body_of x ++ 10 ∷ rest → (x ≡ gate g) × (rest ≡ drop to t)
        go (gate a) rest l k d = let o = h.only a rest l d in (ap gate o.0, o.1)
        go (measure a c) rest l k d = absurd (omega (arith, k, q))
        go (conditional a c d) rest l k e = absurd (omega (arith, k, q))

  module _ (q : b ≡ 77) where
    module _ (s : Bool) (m2 : ℕ) (sign : Hit sign_text Any 44 t mid s m2) where
      pub measure_hit : (l : List ℕ) (to : ℕ) → Hit same Letters 10 t m2 l to → Hit said_text SaidLaw 10 t at (measure s l) to
      measure_hit l to h = said_hit (measure s l) to h.law h.within q (sign.is ∙ ap (λ (y : List ℕ). sign_byte s ∷ 44 ∷ y) h.is) go
        where
          go : (x : Said) (rest : List ℕ) → SaidLaw x → kind_of x ≡ b → drop mid t ≡ body_of x ++ 10 ∷ rest → (x ≡ measure s l) × (rest ≡ drop to t)
          go (gate a) rest l k d = absurd (omega (arith, k, q))
          go (measure a c) rest law k d =
              let o = sign.only a (c ++ 10 ∷ rest) tt d in
              let p = h.only c rest law (sym o.1) in
              (ap₂ measure o.0 p.0, p.1)
          go (conditional a c d) rest l k e = absurd (omega (arith, k, q))

      -- the sign stands at the third place, and the letters begin at the fifth
      pub sign_at : (get_or t (at + 2) 0 ≡ sign_byte s) × (m2 ≡ at + 4)
      sign_at =
          let p = peel t mid (mid + 1) (sign_byte s) (44 ∷ drop m2 t) refl sign.is in
          (ap (λ i. get_or t i 0) (sym body_at) ∙ p.0, omega (arith, ap length sign.is, length-drop mid t, length-drop m2 t, sign.within, body_at))

  module _ (q : b ≡ 70) where
    Number : ℕ × (OneQubit × ℕ) → List ℕ
    Number = both num Short turn_text Turn

    pub conditional_miss : Miss (both num Short turn_text Turn) (Both num Short turn_text Turn) 10 t mid → Miss said_text SaidLaw 10 t at
    conditional_miss m = said_miss go
      where
        go : (x : Said) (rest : List ℕ) → SaidLaw x → kind_of x ≡ b → drop mid t ≡ body_of x ++ 10 ∷ rest → ⊥
        go (gate a) rest l k d = omega (arith, k, q)
        go (measure a c) rest l k d = omega (arith, k, q)
        go (conditional n g p) rest l k e = m.never (n, (g, p)) rest l e

    pub conditional_hit : (n : ℕ) (g : OneQubit) (p to : ℕ) → Hit (both num Short turn_text Turn) (Both num Short turn_text Turn) 10 t mid (n, (g, p)) to
        → Hit said_text SaidLaw 10 t at (conditional n g p) to
    conditional_hit n g p to h = said_hit (conditional n g p) to h.law h.within q h.is go
      where
        go : (x : Said) (rest : List ℕ) → SaidLaw x → kind_of x ≡ b → drop mid t ≡ body_of x ++ 10 ∷ rest → (x ≡ conditional n g p) × (rest ≡ drop to t)
        go (gate a) rest l k d = absurd (omega (arith, k, q))
        go (measure a c) rest l k d = absurd (omega (arith, k, q))
        go (conditional n' g' p') rest l k e =
            let o = h.only (n', (g', p')) rest l e in
            (ap (λ z. conditional z.0 z.1.0 z.1.1) o.0, o.1)
