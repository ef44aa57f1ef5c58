-- No two entries share a line.
use Rattle.std.proofs.Common.{◌≡◌, ℕ, zero, suc, ◌+◌, ◌/◌, ◌%◌, ◌^◌, ◌<◌, Bool, true, false, List, [], ◌∷◌, ◌++◌, sym, refl, ap, ◌∙◌, subst, append_assoc, arith}
use native.Mathlib.Nat.{pow-succ'}
use Rattle.std.proofs.lemmas.Bool.{and_parts}
use Rattle.pauli.specs.declared.case.Case.{Case}
use Rattle.pauli.specs.declared.case.Case.TheVariants.{One, Two, Three, Four}
use Rattle.pauli.specs.Cases.{case_number}
use Rattle.text.specs.Texts.{Any, num, Short, sign_text, turn_text, Turn, gate_text, coins, coin_text}
use Rattle.text.proofs.Apart.{Apart, num_apart, both_apart, sign_apart, turn_apart, gate_apart}
use Rattle.text.proofs.Words.{coin_some, coin_none}
use Rattle.journal_lines.specs.declared.entry.Entry.{Entry}
use Rattle.journal_lines.specs.declared.event.Event.TheVariants as E
use Rattle.journal_lines.specs.Entries.{entry_line}
use Rattle.journal_lines.specs.Lawful.{numbered, sound}
use Rattle.journal_lines.specs.Lines.{done_mark, bit}
use Rattle.journal_lines.specs.Parts.{case_text, bit_text, sized_text, Sized, Bits, drawn_text, Drawn, measured_text, Measured, asked_text, Asked, event_text, Readable}
use Rattle.journal_lines.proofs.Entries.{entry_same, number_read, event_read, line_event}
use Rattle.journal_lines.proofs.Events.{done_same, not_gate, not_measured}
use Rattle.journal_lines.proofs.Labels.{letters_apart}
use Rattle.journal_lines.proofs.Measured.{text2, Law2, text3, Law3, text4, Law4, parts, parts_law, parts_apart}

-- ---- numbers that name a value

case_short : (c : Case) → Short (case_number c)
case_short One = omega arith
case_short Two = omega arith
case_short Three = omega arith
case_short Four = omega arith

case_apart : Apart case_text Any 44
case_apart a b r s l k e = let p = num_apart 44 (omega arith) (case_number a) (case_number b) r s (case_short a) (case_short b) e in (go a b p.0, p.1)
  where
    go : (a b : Case) → case_number a ≡ case_number b → a ≡ b
    go One One e = refl
    go One Two e = absurd (omega arith)
    go One Three e = absurd (omega arith)
    go One Four e = absurd (omega arith)
    go Two One e = absurd (omega arith)
    go Two Two e = refl
    go Two Three e = absurd (omega arith)
    go Two Four e = absurd (omega arith)
    go Three One e = absurd (omega arith)
    go Three Two e = absurd (omega arith)
    go Three Three e = refl
    go Three Four e = absurd (omega arith)
    go Four One e = absurd (omega arith)
    go Four Two e = absurd (omega arith)
    go Four Three e = absurd (omega arith)
    go Four Four e = refl

bit_apart : Apart bit_text Any 44
bit_apart a b r s l k e = let p = num_apart 44 (omega arith) (bit a) (bit b) r s (short a) (short b) e in (go a b p.0, p.1)
  where
    short : (b : Bool) → Short (bit b)
    short true = omega arith
    short false = omega arith

    go : (a b : Bool) → bit a ≡ bit b → a ≡ b
    go true true e = refl
    go true false e = absurd (omega arith)
    go false true e = absurd (omega arith)
    go false false e = refl

-- ---- letters and coins

sized_apart : Apart sized_text Sized 44
sized_apart a b r s l k e =
    let o = letters_apart a.0 b.0 a.1.x a.1.z b.1.x b.1.z r s l.label.x l.label.z k.label.x k.label.z e in
    ((λ i. (o.0 i, record { x = o.1 i; z = o.2 i })), o.3)

coins_apart : (n c d : ℕ) (r s : List ℕ) → c < 2 ^ n → d < 2 ^ n → coins n c ++ 10 ∷ r ≡ coins n d ++ 10 ∷ s → (c ≡ d) × (r ≡ s)
coins_apart zero c d r s hc hd e = (omega arith, cc)
coins_apart (suc n) c d r s hc hd e =
    let p = pow-succ' 2 n in
    let head : 48 + c % 2 ≡ 48 + d % 2 = cc in
    let tail : coins n (c / 2) ++ 10 ∷ r ≡ coins n (d / 2) ++ 10 ∷ s = cc in
    let o = coins_apart n (c / 2) (d / 2) r s (omega arith) (omega arith) tail in
    (omega (arith, o.0), o.1)

coin_apart : (n : ℕ) → Apart (coin_text n) (Bits n) 10
coin_apart zero c d r s hc hd e =
    let f = ap (λ l. l ++ 10 ∷ r) (sym (coin_none 0 c refl)) ∙ e ∙ ap (λ l. l ++ 10 ∷ s) (coin_none 0 d refl) in
    (omega arith, cc)
coin_apart (suc n) c d r s hc hd e =
    let w = coin_some (suc n) (omega arith) in
    coins_apart (suc n) c d r s hc hd (ap (λ f. f c ++ 10 ∷ r) (sym w) ∙ e ∙ ap (λ f. f d ++ 10 ∷ s) w)

drawn_apart : Apart drawn_text Drawn 10
drawn_apart a b r s l k e =
    let p = num_apart 44 (omega arith) a.0 b.0 (coin_text a.0 a.1 ++ 10 ∷ r) (coin_text b.0 b.1 ++ 10 ∷ s) (omega (arith, l.few)) (omega (arith, k.few))
    (sym (append_assoc (num a.0) (44 ∷ coin_text a.0 a.1) (10 ∷ r)) ∙ e ∙ append_assoc (num b.0) (44 ∷ coin_text b.0 b.1) (10 ∷ s)) in
    let q = coin_apart a.0 a.1 b.1 r s l.bits (subst (λ n. Bits n b.1) (sym p.0) k.bits) (p.1 ∙ ap (λ n. coin_text n b.1 ++ 10 ∷ s) (sym p.0)) in
    ((λ i. (p.0 i, q.0 i)), q.1)

measured_apart : Apart measured_text Measured 10
measured_apart a b r s l k e =
    let all =
    both_apart sign_text Any text2 Law2 10 (sign_apart 44)
    (both_apart sized_text Sized text3 Law3 10 sized_apart
    (both_apart case_text Any text4 Law4 10 case_apart (both_apart bit_text Any drawn_text Drawn 10 bit_apart drawn_apart))) in
    let o = all (parts a) (parts b) r s (parts_law a l) (parts_law b k) e in
    (parts_apart a b o.0, o.1)

asked_apart : Apart asked_text Asked 10
asked_apart = both_apart num Short turn_text Turn 10 (num_apart 44 (omega arith)) (turn_apart 10 (omega arith))

-- ---- events and entries

event_apart : Apart event_text Readable 10
event_apart (E.Gate g) (E.Gate h) r s l k e =
    let tail : gate_text g ++ 10 ∷ r ≡ gate_text h ++ 10 ∷ s = cc in
    let o = gate_apart 10 (omega arith) g h r s l k tail in
    (ap (λ x. E.Gate x) o.0, o.1)
event_apart (E.Gate g) (E.Conditional d o h q) r s l k e = let z : 71 ≡ done_mark d = cc in absurd (not_gate d z)
event_apart (E.Gate g) (E.Measurement m) r s l k e = let z : ◌≡◌ {A = ℕ} 71 77 = cc in absurd (omega arith)
event_apart (E.Conditional d o h q) (E.Gate g) r s l k e = let z : 71 ≡ done_mark d = cc in absurd (not_gate d z)
event_apart (E.Conditional d o h q) (E.Conditional b p g t) r s l k e =
    let head : done_mark d ≡ done_mark b = cc in
    let tail : asked_text (o, (h, q)) ++ 10 ∷ r ≡ asked_text (p, (g, t)) ++ 10 ∷ s = cc in
    let u = asked_apart (o, (h, q)) (p, (g, t)) r s l k tail in
    let v = done_same d b head in
    ((λ i. E.Conditional (v i) (u.0 i).0 (u.0 i).1.0 (u.0 i).1.1), u.1)
event_apart (E.Conditional d o h q) (E.Measurement m) r s l k e = let z : 77 ≡ done_mark d = cc in absurd (not_measured d z)
event_apart (E.Measurement m) (E.Gate g) r s l k e = let z : ◌≡◌ {A = ℕ} 71 77 = cc in absurd (omega arith)
event_apart (E.Measurement m) (E.Conditional d o h q) r s l k e = let z : 77 ≡ done_mark d = cc in absurd (not_measured d z)
event_apart (E.Measurement m) (E.Measurement n) r s l k e =
    let tail : measured_text m ++ 10 ∷ r ≡ measured_text n ++ 10 ∷ s = cc in
    let o = measured_apart m n r s l k tail in
    (ap (λ x. E.Measurement x) o.0, o.1)

pub lines_apart : (e f : Entry) → entry_line e ≡ entry_line f → e ≡ f
lines_apart e f is =
    let l = and_parts (numbered e.number) (sound e.number e.event) e.lawful in
    let k = and_parts (numbered f.number) (sound f.number f.event) f.lawful in
    let p = num_apart 44 (omega arith) e.number f.number (event_text e.event ++ 10 ∷ []) (event_text f.event ++ 10 ∷ []) (number_read e.number l.0) (number_read f.number k.0)
    (sym (line_event e.number e.event) ∙ is ∙ line_event f.number f.event) in
    let q = event_apart e.event f.event [] [] (event_read e.number e.event l.0 l.1) (event_read f.number f.event k.0 k.1) p.1 in
    entry_same e f p.0 q.0
