-- Entries and their lines: what is lawful can be read, and the line of an entry is its number and its event.
use Rattle.std.proofs.Common.{◌≡◌, ℕ, ◌^◌, ◌<◌, ◌≤◌, Bool, true, false, cond, ◌&&◌, ltb, List, [], ◌∷◌, ◌++◌, length, drop, Some, None, sym, refl, ap, ◌∙◌, append_assoc, arith, length-append, length-drop}
use mathlib.Core.HLevel.{is_prop→PathP}
use mathlib.Core.Bool.{Bool-set}
use Rattle.std.proofs.lemmas.List.{append-nil}
use Rattle.std.proofs.lemmas.Bool.{and_parts, ltb-true, both_ways}
use Rattle.std.proofs.lemmas.Bool.Decides.{nat_tests}
use Rattle.pauli.specs.declared.fault.Fault.{Fault}
use Rattle.pauli.specs.declared.fault.Fault.TheVariants.{BadForm}
use Rattle.pauli.specs.declared.case.Case.{Case}
use Rattle.pauli.specs.declared.case.Case.TheVariants.{One, Two, Three, Four}
use Rattle.pauli.specs.declared.gate.Gate.{Gate}
use Rattle.pauli.specs.declared.gate.Gate.TheVariants as G
use Rattle.pauli.specs.declared.label.Label.{Label}
use Rattle.pauli.specs.Gates.{placeable}
use Rattle.pauli.specs.Labels.{Within, fits, size_ok}
use Rattle.text.specs.Reading.{Hit, Miss}
use Rattle.text.specs.Texts.{num, Short, Gated}
use Rattle.journal_lines.specs.declared.entry.Entry.{Entry}
use Rattle.journal_lines.specs.declared.event.Event.{Event}
use Rattle.journal_lines.specs.declared.event.Event.TheVariants as E
use Rattle.journal_lines.specs.declared.event.Measurement.{Measurement}
use Rattle.journal_lines.specs.Entries.{entry_line}
use Rattle.journal_lines.specs.Lawful.{count_ok, first_ok, measured_ok, numbered, sound, lawful, making_fault}
use Rattle.journal_lines.specs.Lines.{line}
use Rattle.journal_lines.specs.Parts.{Measured, event_text, Readable}

-- an entry is its number and its event
pub entry_same : (e f : Entry) → e.number ≡ f.number → e.event ≡ f.event → e ≡ f
entry_same e f p q = λ i. record {
  number = p i;
  event = q i;
  lawful = is_prop→PathP (λ j. lawful (p j) (q j) ≡ true) (λ j. Bool-set (lawful (p j) (q j)) true) e.lawful f.lawful i;
}

-- ---- what is lawful can be read

gate_read : (g : Gate) → placeable g ≡ true → Gated g
gate_read (G.One g q) e = grind (arith, nat_tests)
gate_read (G.Cx c t) e = (grind (arith, nat_tests), grind (arith, nat_tests))

within : (n : ℕ) (a : Label) → fits n a ≡ true → Within n a
unfolding fits
within n a e =
    let p = and_parts (ltb a.x (2 ^ n)) (ltb a.z (2 ^ n)) e in
    record { x = ltb-true a.x (2 ^ n) p.0; z = ltb-true a.z (2 ^ n) p.1 }

few_coins : (c : Case) (n count : ℕ) → size_ok n ≡ true → count_ok c n count ≡ true → count ≤ 64
few_coins One n count s e = grind (arith, nat_tests)
few_coins Two n count s e = grind (arith, nat_tests)
few_coins Three n count s e = grind (arith, nat_tests)
few_coins Four n count s e = grind (arith, nat_tests)

measured_read : (m : Measurement) → measured_ok m ≡ true → Measured m
unfolding measured_ok
measured_read m e =
    let a = and_parts (size_ok m.size && fits m.size m.label) _ e in
    let b = and_parts (size_ok m.size) (fits m.size m.label) a.0 in
    let c = and_parts (count_ok m.case m.size m.count && ltb m.coins (2 ^ m.count)) (first_ok m.case m.outcome m.coins) a.1 in
    let d = and_parts (count_ok m.case m.size m.count) (ltb m.coins (2 ^ m.count)) c.0 in (
      record { size = b.0; label = within m.size m.label b.1 },
      record { few = few_coins m.case m.size m.count b.0 d.0; bits = ltb-true m.coins (2 ^ m.count) d.1 },
    )

pub number_read : (k : ℕ) → numbered k ≡ true → Short k
number_read k e = grind (arith, nat_tests)

pub event_read : (k : ℕ) (e : Event) → numbered k ≡ true → sound k e ≡ true → Readable e
event_read k (E.Gate g) n s = gate_read g s
event_read k (E.Conditional done o g q) n s = (grind (arith, nat_tests), grind (arith, nat_tests))
event_read k (E.Measurement m) n s = measured_read m s

-- ---- lines

pub line_event : (k : ℕ) (e : Event) → line k e ≡ num k ++ 44 ∷ (event_text e ++ 10 ∷ [])
line_event k (E.Gate g) = refl
line_event k (E.Conditional done o g q) = simp append_assoc
line_event k (E.Measurement m) = simp append_assoc

-- the line of an entry, and what follows it
line_rest : (f : Entry) (rest : List ℕ) → entry_line f ++ rest ≡ num f.number ++ 44 ∷ (event_text f.event ++ 10 ∷ rest)
line_rest f rest =
    ap (λ l. l ++ rest) (line_event f.number f.event) ∙ append_assoc (num f.number) (44 ∷ (event_text f.event ++ 10 ∷ [])) rest
    ∙ ap (λ l. num f.number ++ 44 ∷ l) (append_assoc (event_text f.event) (10 ∷ []) rest)

module _ (t : List ℕ) (at : ℕ) where
  module _ (n from : ℕ) (number : Hit num Short 44 t at n from) where
    entry_seen : (f : Entry) (rest : List ℕ) → drop at t ≡ entry_line f ++ rest → (f.number ≡ n) × Readable f.event × (drop from t ≡ event_text f.event ++ 10 ∷ rest)
    entry_seen f rest e =
        let l = and_parts (numbered f.number) (sound f.number f.event) f.lawful in
        let o = number.only f.number (event_text f.event ++ 10 ∷ rest) (number_read f.number l.0) (e ∙ line_rest f rest) in
        (o.0, event_read f.number f.event l.0 l.1, sym o.1)

    pub no_event : Miss event_text Readable 10 t from → (f : Entry) (rest : List ℕ) → drop at t ≡ entry_line f ++ rest → ⊥
    no_event miss f rest e = let s = entry_seen f rest e in miss.never f.event rest s.1 s.2

    module _ (v : Event) (to : ℕ) (event : Hit event_text Readable 10 t from v to) where
      entry_only : (f : Entry) (rest : List ℕ) → drop at t ≡ entry_line f ++ rest → (f.number ≡ n) × (f.event ≡ v) × (rest ≡ drop to t)
      entry_only f rest e = let s = entry_seen f rest e in let o = event.only f.event rest s.1 s.2 in (s.0, o.0, o.1)

      -- a line of the form whose entry is not lawful
      pub not_lawful : (x : Fault) → making_fault n v ≡ Some x → (x ≡ BadForm) × ((f : Entry) (rest : List ℕ) → drop at t ≡ entry_line f ++ rest → ⊥)
      not_lawful x told = (
        why (lawful n v) told,
        λ f rest g.
            let o = entry_only f rest g in
            unlawful (lawful n v) told (sym (λ i. lawful (o.0 i) (o.1 i)) ∙ f.lawful),
      )
        where
          why : (b : Bool) → cond b None (Some BadForm) ≡ Some x → x ≡ BadForm
          why true e = let z : ◌≡◌ {A = ℕ} 0 1 = cc in absurd (omega arith)
          why false e = cc

          unlawful : (b : Bool) → cond b None (Some BadForm) ≡ Some x → b ≡ true → ⊥
          unlawful true e t = let z : ◌≡◌ {A = ℕ} 0 1 = cc in omega arith
          unlawful false e t = both_ways false refl t

      -- and one whose entry is
      pub read_entry : (e : Entry) → e.number ≡ n → e.event ≡ v
          → (at < to) × (to ≤ length t) × (drop at t ≡ entry_line e ++ drop to t)
          × ((f : Entry) (rest : List ℕ) → drop at t ≡ entry_line f ++ rest → (f ≡ e) × (rest ≡ drop to t))
      read_entry e p q =
          let is : drop at t ≡ entry_line e ++ drop to t
          = number.is ∙ ap (λ x. num n ++ 44 ∷ x) event.is ∙ (λ i. num (sym p i) ++ 44 ∷ (event_text (sym q i) ++ 10 ∷ drop to t)) ∙ sym (line_rest e (drop to t)) in
          let long = ap length (is ∙ line_rest e (drop to t)) ∙ length-append (num e.number) (44 ∷ (event_text e.event ++ 10 ∷ drop to t)) in
          let more = length-append (event_text e.event) (10 ∷ drop to t) in (
            omega (arith, long, more, length-drop at t, length-drop to t, event.within),
            event.within,
            is,
            λ f rest g.
                let o = entry_only f rest g in (entry_same f e (o.0 ∙ sym p) (o.1 ∙ sym q), o.2),
          )

-- where a text is longer than the line that begins it, it is no line
pub not_whole : (t : List ℕ) (e : Entry) (to : ℕ) → ((f : Entry) (rest : List ℕ) → t ≡ entry_line f ++ rest → (f ≡ e) × (rest ≡ drop to t)) → to < length t
    → (f : Entry) → t ≡ entry_line f → ⊥
not_whole t e to only h f g = let o = only f [] (g ∙ sym (append-nil (entry_line f))) in omega (arith, ap length o.1, length-drop to t)

pub no_whole : (t : List ℕ) → ((f : Entry) (rest : List ℕ) → t ≡ entry_line f ++ rest → ⊥) → (f : Entry) → t ≡ entry_line f → ⊥
no_whole t none f g = none f [] (g ∙ sym (append-nil (entry_line f)))
