-- A measurement's fields, one after another.
use Rattle.std.proofs.Common.{◌≡◌, ℕ, Bool, List, refl}
use Rattle.pauli.specs.declared.case.Case.{Case}
use Rattle.pauli.specs.declared.label.Label.{Label}
use Rattle.text.specs.Reading.{Hit, Miss}
use Rattle.text.specs.Texts.{Any, sign_text}
use Rattle.text.proofs.Fields.{named_hit, named_miss, both, Both}
use Rattle.journal_lines.specs.declared.event.Measurement.{Measurement}
use Rattle.journal_lines.specs.Parts.{case_text, bit_text, sized_text, Sized, drawn_text, Drawn, measured_text, Measured}

-- from the outcome on, from the case on, from the letters on, and all
abbrev pub text4 : Bool × (ℕ × ℕ) → List ℕ
text4 = both bit_text Any drawn_text Drawn

abbrev pub Law4 : Bool × (ℕ × ℕ) → Type 0
Law4 = Both bit_text Any drawn_text Drawn

abbrev pub text3 : Case × (Bool × (ℕ × ℕ)) → List ℕ
text3 = both case_text Any text4 Law4

abbrev pub Law3 : Case × (Bool × (ℕ × ℕ)) → Type 0
Law3 = Both case_text Any text4 Law4

abbrev pub text2 : (ℕ × Label) × (Case × (Bool × (ℕ × ℕ))) → List ℕ
text2 = both sized_text Sized text3 Law3

abbrev pub Law2 : (ℕ × Label) × (Case × (Bool × (ℕ × ℕ))) → Type 0
Law2 = Both sized_text Sized text3 Law3

abbrev pub text1 : Bool × ((ℕ × Label) × (Case × (Bool × (ℕ × ℕ)))) → List ℕ
text1 = both sign_text Any text2 Law2

abbrev pub Law1 : Bool × ((ℕ × Label) × (Case × (Bool × (ℕ × ℕ)))) → Type 0
Law1 = Both sign_text Any text2 Law2

abbrev pub parts : Measurement → Bool × ((ℕ × Label) × (Case × (Bool × (ℕ × ℕ))))
parts m = (m.sign, ((m.size, m.label), (m.case, (m.outcome, (m.count, m.coins)))))

pub parts_law : (m : Measurement) → Measured m → Law1 (parts m)
parts_law m l = (tt, (l.0, (tt, (tt, l.1))))

pub parts_apart : (m n : Measurement) → parts m ≡ parts n → m ≡ n
parts_apart m n e = λ i. record {
  sign = (e i).0;
  size = (e i).1.0.0;
  label = (e i).1.0.1;
  case = (e i).1.1.0;
  outcome = (e i).1.1.1.0;
  count = (e i).1.1.1.1.0;
  coins = (e i).1.1.1.1.1;
}

pub measured_miss : {t : List ℕ} {at : ℕ} → Miss text1 Law1 10 t at → Miss measured_text Measured 10 t at
measured_miss miss = named_miss text1 Law1 measured_text Measured parts (λ m. refl) parts_law miss

pub measured_hit : {t : List ℕ} {at to : ℕ} (m : Measurement) → Hit text1 Law1 10 t at (parts m) to → Hit measured_text Measured 10 t at m to
measured_hit m hit =
    let l = hit.law in
    named_hit text1 Law1 measured_text Measured parts (λ m. refl) parts_law parts_apart m (l.1.0, l.1.1.1.1) refl hit
