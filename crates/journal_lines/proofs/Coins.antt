-- Coins read all at once, and `-` for none.
use Rattle.std.proofs.Common.{◌≡◌, ℕ, zero, suc, ◌+◌, ◌*◌, ◌/◌, ◌%◌, ◌^◌, ◌<◌, ◌≤◌, ◌==◌, Bool, true, false, cond, List, [], ◌∷◌, ◌++◌, length, get_or, drop, sym, refl, ap, ◌∙◌, subst, append_assoc, arith, pow_mono}
use native.Mathlib.Nat.{pow-succ'}
use Rattle.std.specs.List.{list_all}
use Rattle.std.proofs.lemmas.Bool.Decides.{nat_tests}
use Rattle.std.proofs.lemmas.List.Elements.{All-get_or, All-from_get_or}
use Rattle.std.proofs.lemmas.List.Sums.{AllPass-from_list_all, list_all-from_AllPass}
use Rattle.text.specs.Reading.{Hit, Miss}
use Rattle.text.specs.Texts.{Any, one, num, Short, is_coin, same, Long, Coins, coins, coin_text}
use Rattle.text.proofs.Words.{length_coins, coin_some, coin_none}
use Rattle.journal_lines.specs.Parts.{Bits, word, drawn_text, Drawn}

-- ---- coins as digits, and back

bit_below : (d : ℕ) → cond (d == 49) 1 0 ≤ 1
bit_below d = grind (arith, nat_tests)

word_below : (l : List ℕ) → word l < 2 ^ length l
word_below [] = omega arith
word_below (d ∷ ds) = omega (arith, pow-succ' 2 (length ds), word_below ds, bit_below d)

-- so all but the first of 64 leave room for one more
pub word_room : (l : List ℕ) → length l < 64 → word l < 2 ^ 63
word_room l h = let more : 2 ^ length l ≤ 2 ^ 63 = pow_mono {i = length l} {j = 63} (omega arith) in omega (arith, word_below l)

coins_are : (n c : ℕ) → Coins (coins n c)
coins_are n c = record { each = go n c }
  where
    digit : (b : ℕ) → b < 2 → is_coin (48 + b) ≡ true
    digit b h = grind (arith, nat_tests)

    go : (n c i : ℕ) → i < length (coins n c) → is_coin (get_or (coins n c) i 0) ≡ true
    go zero c i h = absurd (omega arith)
    go (suc n) c zero h = digit (c % 2) (omega arith)
    go (suc n) c (suc i) h = go n (c / 2) i (omega arith)

word_back : (n c : ℕ) → c < 2 ^ n → word (coins n c) ≡ c
word_back zero c h = omega arith
word_back (suc n) c h =
    let rest = word_back n (c / 2) (omega (arith, pow-succ' 2 n)) in
    let first : cond ((48 + c % 2) == 49) 1 0 ≡ c % 2 = digit (c % 2) (omega arith) in
    omega (arith, rest, first)
  where
    digit : (b : ℕ) → b < 2 → cond ((48 + b) == 49) 1 0 ≡ b
    digit b h = grind (arith, nat_tests)

coins_back : (l : List ℕ) → ((i : ℕ) → i < length l → is_coin (get_or l i 0) ≡ true) → coins (length l) (word l) ≡ l
coins_back [] each = refl
coins_back (d ∷ ds) each =
    let low = bit_below d in
    let first : 48 + (2 * word ds + cond (d == 49) 1 0) % 2 ≡ d = digit d (word ds) (each 0 (omega arith)) in
    let half : (2 * word ds + cond (d == 49) 1 0) / 2 ≡ word ds = omega arith in
    (λ i. first i ∷ coins (length ds) (half i)) ∙ ap (λ (r : List ℕ). d ∷ r) (coins_back ds (λ i h. each (suc i) (omega arith)))
  where
    digit : (d w : ℕ) → is_coin d ≡ true → 48 + (2 * w + cond (d == 49) 1 0) % 2 ≡ d
    digit d w h = grind (arith, nat_tests)

-- ---- where a field is so many coins

coins_seen : (n c : ℕ) (here rest : List ℕ) → 0 < n → here ≡ coin_text n c ++ 10 ∷ rest → here ≡ coins n c ++ 10 ∷ rest
coins_seen n c here rest some d = d ∙ ap (λ f. f c ++ 10 ∷ rest) (coin_some n some)

module _ (n : ℕ) (some : 0 < n) {t : List ℕ} {at : ℕ} where
  pub coins_miss : Miss same (Long n) 10 t at → Miss (coin_text n) (Bits n) 10 t at
  coins_miss miss = record { never = λ c rest h d. miss.never (coins n c) rest (length_coins n c) (coins_seen n c _ rest some d) }

  module _ {l : List ℕ} {to : ℕ} (hit : Hit same (Long n) 10 t at l to) where
    pub coins_other : list_all is_coin l ≡ false → Miss (coin_text n) (Bits n) 10 t at
    coins_other other = record {
      never = λ c rest h d.
          let o = hit.only (coins n c) rest (length_coins n c) (coins_seen n c _ rest some d) in
          let all : list_all is_coin (coins n c) ≡ true = list_all-from_AllPass is_coin (coins n c) (All-from_get_or (λ b. is_coin b ≡ true) (coins n c) 0 (coins_are n c).each) in
          absurd (let z : ◌≡◌ {A = Bool} true false = sym all ∙ ap (list_all is_coin) o.0 ∙ other in cc);
    }

    pub coins_hit : (w : ℕ) → list_all is_coin l ≡ true → w ≡ word l → Hit (coin_text n) (Bits n) 10 t at w to
    coins_hit w all is =
        let long = hit.law in
        let each : (i : ℕ) → i < length l → is_coin (get_or l i 0) ≡ true = λ i h. All-get_or (λ b. is_coin b ≡ true) l i 0 h (AllPass-from_list_all is_coin l all) in
        let back : coins n w ≡ l = (λ i. coins (sym long i) (is i)) ∙ coins_back l each in
        record {
          law = subst (λ k. w < 2 ^ k) long (subst (λ v. v < 2 ^ length l) (sym is) (word_below l));
          within = hit.within;
          is = hit.is ∙ ap (λ x. x ++ 10 ∷ drop to t) (sym back ∙ ap (λ f. f w) (sym (coin_some n some)));
          only = λ c rest h d.
              let o = hit.only (coins n c) rest (length_coins n c) (coins_seen n c _ rest some d) in
              (sym (word_back n c h) ∙ ap word o.0 ∙ sym is, o.1);
        }

-- ---- where it is `-`

dash_seen : (n c : ℕ) (here rest : List ℕ) → n ≡ 0 → here ≡ coin_text n c ++ 10 ∷ rest → here ≡ one 45 ++ 10 ∷ rest
dash_seen n c here rest none d = d ∙ ap (λ l. l ++ 10 ∷ rest) (coin_none n c none)

module _ (n : ℕ) (none : n ≡ 0) {t : List ℕ} {at : ℕ} where
  pub dash_miss : Miss one Any 10 t at → Miss (coin_text n) (Bits n) 10 t at
  dash_miss miss = record { never = λ c rest h d. miss.never 45 rest tt (dash_seen n c _ rest none d) }

  module _ {b to : ℕ} (hit : Hit one Any 10 t at b to) where
    pub dash_not : (b ≡ 45 → ⊥) → Miss (coin_text n) (Bits n) 10 t at
    dash_not other = record { never = λ c rest h d. other (sym (hit.only 45 rest tt (dash_seen n c _ rest none d)).0) }

    pub dash_hit : b ≡ 45 → Hit (coin_text n) (Bits n) 10 t at 0 to
    dash_hit is =
        let few : 2 ^ n ≡ 1 = ap (λ k. 2 ^ k) none in
        record {
          law = omega arith;
          within = hit.within;
          is = hit.is ∙ ap (λ x. x ++ 10 ∷ drop to t) (ap one is ∙ sym (coin_none n 0 none));
          only = λ c rest h d. (omega arith, (hit.only 45 rest tt (dash_seen n c _ rest none d)).1);
        }

-- ---- a count, and as many coins

module _ (t : List ℕ) (at : ℕ) where
  pub drawn_first : Miss num Short 44 t at → Miss drawn_text Drawn 10 t at
  drawn_first miss = record {
    never = λ p rest l d.
        miss.never p.0 (coin_text p.0 p.1 ++ 10 ∷ rest) (omega (arith, l.few)) (d ∙ append_assoc (num p.0) (44 ∷ coin_text p.0 p.1) (10 ∷ rest));
  }

  module _ (n mid : ℕ) (hit : Hit num Short 44 t at n mid) where
    drawn_seen : (p : ℕ × ℕ) (rest : List ℕ) → Drawn p → drop at t ≡ drawn_text p ++ 10 ∷ rest → (p.0 ≡ n) × (drop mid t ≡ coin_text n p.1 ++ 10 ∷ rest)
    drawn_seen p rest l d =
        let o = hit.only p.0 (coin_text p.0 p.1 ++ 10 ∷ rest) (omega (arith, l.few)) (d ∙ append_assoc (num p.0) (44 ∷ coin_text p.0 p.1) (10 ∷ rest)) in
        (o.0, sym o.1 ∙ ap (λ k. coin_text k p.1 ++ 10 ∷ rest) o.0)

    pub drawn_many : 64 < n → Miss drawn_text Drawn 10 t at
    drawn_many h = record { never = λ p rest l d. omega (arith, l.few, (drawn_seen p rest l d).0) }

    pub drawn_miss : Miss (coin_text n) (Bits n) 10 t mid → Miss drawn_text Drawn 10 t at
    drawn_miss miss = record {
      never = λ p rest l d.
          let s = drawn_seen p rest l d in
          miss.never p.1 rest (subst (λ k. Bits k p.1) s.0 l.bits) s.1;
    }

    pub drawn_hit : (c to : ℕ) → n ≤ 64 → Hit (coin_text n) (Bits n) 10 t mid c to → Hit drawn_text Drawn 10 t at (n, c) to
    drawn_hit c to few next = record {
      law = record { few = few; bits = next.law };
      within = next.within;
      is = hit.is ∙ ap (λ r. num n ++ 44 ∷ r) next.is ∙ sym (append_assoc (num n) (44 ∷ coin_text n c) (10 ∷ drop to t));
      only = λ p rest l d.
          let s = drawn_seen p rest l d in
          let o = next.only p.1 rest (subst (λ k. Bits k p.1) s.0 l.bits) s.1 in
          ((λ i. (s.0 i, o.0 i)), o.1);
    }
