-- What stands behind an entry's number: by its first byte a gate, a conditional gate or a measurement.
use Rattle.std.proofs.Common.{◌≡◌, ℕ, ◌==◌, ◌⊎◌, Bool, true, false, List, ◌∷◌, ◌++◌, drop, sym, refl, ap, ◌∙◌, inl, inr, arith}
use Rattle.pauli.specs.declared.gate.OneQubit.{OneQubit}
use Rattle.text.specs.Reading.{Hit, Miss}
use Rattle.text.specs.Texts.{Any, one, gate_text}
use Rattle.journal_lines.specs.declared.event.Event.{Event}
use Rattle.journal_lines.specs.declared.event.Event.TheVariants as E
use Rattle.journal_lines.specs.Lines.{done_mark}
use Rattle.journal_lines.specs.Parts.{measured_text, asked_text, Asked, event_text, Readable}

-- the byte of a conditional gate tells whether it was done, and is no other's
pub done_same : (a b : Bool) → done_mark a ≡ done_mark b → a ≡ b
done_same true true e = refl
done_same true false e = absurd (omega arith)
done_same false true e = absurd (omega arith)
done_same false false e = refl

pub marked : (k : ℕ) → (k ≡ 68) ⊎ (k ≡ 80) → k ≡ done_mark (k == 68)
marked k (inl e) = e ∙ ap (λ (n : ℕ). done_mark (n == 68)) (sym e)
marked k (inr e) = e ∙ ap (λ (n : ℕ). done_mark (n == 68)) (sym e)

pub not_gate : (d : Bool) → 71 ≡ done_mark d → ⊥
not_gate true e = omega arith
not_gate false e = omega arith

pub not_measured : (d : Bool) → 77 ≡ done_mark d → ⊥
not_measured true e = omega arith
not_measured false e = omega arith

module _ (t : List ℕ) (at k mid : ℕ) (done : Bool) (kind : Hit one Any 44 t at k mid) (is : k ≡ done_mark done) where
  cond_seen : (e : Event) (rest : List ℕ) → Readable e → drop at t ≡ event_text e ++ 10 ∷ rest → (p : ℕ × (OneQubit × ℕ)) × (e ≡ E.Conditional done p.0 p.1.0 p.1.1) × Asked p × (drop mid t ≡ asked_text p ++ 10 ∷ rest)
  cond_seen (E.Gate g) rest l d = absurd (not_gate done ((kind.only 71 (gate_text g ++ 10 ∷ rest) tt d).0 ∙ is))
  cond_seen (E.Conditional b o g q) rest l d =
      let s = kind.only (done_mark b) (asked_text (o, (g, q)) ++ 10 ∷ rest) tt d in
      ((o, (g, q)), ap (λ x. E.Conditional x o g q) (done_same b done (s.0 ∙ is)), l, sym s.1)
  cond_seen (E.Measurement m) rest l d = absurd (not_measured done ((kind.only 77 (measured_text m ++ 10 ∷ rest) tt d).0 ∙ is))

  pub cond_miss : Miss asked_text Asked 10 t mid → Miss event_text Readable 10 t at
  cond_miss miss = record { never = λ e rest l d. let s = cond_seen e rest l d in miss.never s.0 rest s.2 s.3 }

  pub cond_hit : (o : ℕ) (g : OneQubit) (q to : ℕ) → Hit asked_text Asked 10 t mid (o, (g, q)) to → Hit event_text Readable 10 t at (E.Conditional done o g q) to
  cond_hit o g q to hit = record {
    law = hit.law;
    within = hit.within;
    is = kind.is ∙ (λ i. is i ∷ 44 ∷ hit.is i);
    only = λ e rest l d.
        let s = cond_seen e rest l d in
        let u = hit.only s.0 rest s.2 s.3 in
        (s.1 ∙ ap (λ p. E.Conditional done p.0 p.1.0 p.1.1) u.0, u.1);
  }
