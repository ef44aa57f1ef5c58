-- How long lines are.
use Rattle.std.proofs.Common.{◌≡◌, ℕ, zero, suc, ◌+◌, ◌^◌, ◌<◌, ◌≤◌, Bool, true, false, ◌&&◌, ltb, [], ◌∷◌, ◌++◌, length, refl, ap, arith, length-append}
use Rattle.std.proofs.lemmas.Bool.{and_parts}
use Rattle.std.proofs.lemmas.Bool.Decides.{nat_tests}
use Rattle.pauli.specs.declared.case.Case.{Case}
use Rattle.pauli.specs.declared.case.Case.TheVariants.{One, Two, Three, Four}
use Rattle.pauli.specs.declared.gate.Gate.{Gate}
use Rattle.pauli.specs.declared.gate.Gate.TheVariants as G
use Rattle.pauli.specs.Cases.{case_number}
use Rattle.pauli.specs.Labels.{size_ok, fits}
use Rattle.text.specs.Texts.{num, Short, gate_text, Gated, coin_text}
use Rattle.text.proofs.Numbers.{num_within, num_digit, num_digits}
use Rattle.text.proofs.Words.{length_letters, length_coins, coin_some, coin_none}
use Rattle.journal_lines.specs.declared.entry.Entry.{Entry}
use Rattle.journal_lines.specs.declared.event.Event.{Event}
use Rattle.journal_lines.specs.declared.event.Event.TheVariants as E
use Rattle.journal_lines.specs.declared.event.Measurement.{Measurement}
use Rattle.journal_lines.specs.Entries.{entry_line, Longest}
use Rattle.journal_lines.specs.Lawful.{numbered, count_ok, first_ok, measured_ok, sound, lawful}
use Rattle.journal_lines.specs.Lines.{bit, line}
use Rattle.journal_lines.proofs.Entries.{number_read, event_read}

short : (n : ℕ) → Short n → length (num n) ≤ 3
short n h = num_within 3 n (omega arith) (omega arith) (omega arith)

digit : (n : ℕ) → n < 10 → length (num n) ≡ 1
digit n h = ap length (num_digit n h)

case_digit : (c : Case) → length (num (case_number c)) ≡ 1
case_digit One = digit 1 (omega arith)
case_digit Two = digit 2 (omega arith)
case_digit Three = digit 3 (omega arith)
case_digit Four = digit 4 (omega arith)

bit_digit : (b : Bool) → length (num (bit b)) ≡ 1
bit_digit true = digit 1 (omega arith)
bit_digit false = digit 0 (omega arith)

gate_length : (g : Gate) → Gated g → length (gate_text g) ≤ 10
gate_length (G.One g q) l = omega (arith, short q l)
gate_length (G.Cx c t) l = omega (arith, short c l.0, short t l.1, length-append (num c) (44 ∷ num t))

measured_length : (k : ℕ) (m : Measurement) → length (line k (E.Measurement m)) ≡ length (num k) + m.size + length (num m.count) + length (coin_text m.count m.coins) + 12
measured_length k m =
    let a = length_letters m.size m.label.x m.label.z in
    let b = case_digit m.case in
    let c = bit_digit m.outcome in
    simp length-append (omega arith)

coin_length : (n c : ℕ) → n ≤ 63 → length (coin_text n c) ≤ 63
coin_length zero c h = omega (arith, ap length (coin_none 0 c refl))
coin_length (suc n) c h = omega (arith, ap (λ f. length (f c)) (coin_some (suc n) (omega arith)), length_coins (suc n) c)

few : (c : Case) (n count : ℕ) → size_ok n ≡ true → count_ok c n count ≡ true → (n ≤ 64) × (count ≤ 63)
few One n count s e = (grind (arith, nat_tests), grind (arith, nat_tests))
few Two n count s e = (grind (arith, nat_tests), grind (arith, nat_tests))
few Three n count s e = (grind (arith, nat_tests), grind (arith, nat_tests))
few Four n count s e = (grind (arith, nat_tests), grind (arith, nat_tests))

measured_few : (m : Measurement) → measured_ok m ≡ true → (m.size ≤ 64) × (m.count ≤ 63)
unfolding measured_ok
measured_few m e =
    let a = and_parts (size_ok m.size && fits m.size m.label) _ e in
    let b = and_parts (size_ok m.size) (fits m.size m.label) a.0 in
    let c = and_parts (count_ok m.case m.size m.count && ltb m.coins (2 ^ m.count)) (first_ok m.case m.outcome m.coins) a.1 in
    let d = and_parts (count_ok m.case m.size m.count) (ltb m.coins (2 ^ m.count)) c.0 in
    few m.case m.size m.count b.0 d.0

bound : (k : ℕ) (e : Event) → numbered k ≡ true → sound k e ≡ true → length (line k e) ≤ 144
bound k (E.Gate g) n s =
    omega (arith, short k (number_read k n), gate_length g (event_read k (E.Gate g) n s), length-append (num k) (44 ∷ 71 ∷ 44 ∷ (gate_text g ++ 10 ∷ [])), length-append (gate_text g) (10 ∷ []))
bound k (E.Conditional done o g q) n s =
    let l = event_read k (E.Conditional done o g q) n s in
    let a = short k (number_read k n) in
    let b = short o l.0 in
    let c = short q l.1 in
    simp length-append (omega arith)
bound k (E.Measurement m) n s =
    let f = measured_few m s in
    omega (arith, measured_length k m, short k (number_read k n), num_within 2 m.count (omega arith) (omega (arith, f.1)) (omega (arith, f.1)), coin_length m.count m.coins f.1, f)

every : (e : Entry) → length (entry_line e) ≤ 144
every e =
    let l = and_parts (numbered e.number) (sound e.number e.event) e.lawful in
    bound e.number e.event l.0 l.1

-- 64 letters in Case 3, with 63 coins
unfoldable most : Measurement
most = record { sign = false; size = 64; label = record { x = 0; z = 0 }; case = Three; outcome = false; count = 63; coins = 0 }

most_lawful : lawful 512 (E.Measurement most) ≡ true
unfolding most measured_ok fits
most_lawful = refl

most_length : length (line 512 (E.Measurement most)) ≡ 144
unfolding most
most_length =
    omega (arith, measured_length 512 most, ap length (num_digits 512 (omega arith)), ap length (num_digits 63 (omega arith)), ap (λ f. length (f 0)) (coin_some 63 (omega arith)), length_coins 63 0)

pub longest : Longest 144
longest = record { every = every; some = (record { number = 512; event = E.Measurement most; lawful = most_lawful }, most_length) }
