-- The digits of a number below 1000, and the fields that they are.
use Rattle.std.proofs.Common.{◌≡◌, ℕ, zero, suc, ◌+◌, ◌*◌, ◌/◌, ◌%◌, ◌^◌, ◌<◌, ◌≤◌, ◌≢◌, ◌==◌, min, Bool, true, false, List, [], ◌∷◌, ◌++◌, length, get_or, take, drop, Some, None, Option, sym, refl, ap, ◌∙◌, subst, ⊎_elim, arith, length-append}
use Rattle.std.specs.List.{position, position_or_len}
use Rattle.std.proofs.lemmas.Bool.{cases_lt, lt-ltb, le-ltb}
use Rattle.std.proofs.lemmas.Bool.Decides.{nat_tests}
use Rattle.std.proofs.lemmas.Grind.{common_steps}
use Rattle.std.proofs.lemmas.List.{get_or_at, get_or_append_left, get_or-take, length-take-le}
use Rattle.std.proofs.lemmas.List.Sums.{position_or_len_is}
use Rattle.std.proofs.lemmas.List.Quantifiers.{position-Some}
use Rattle.std.proofs.lemmas.Fmt.{decimal_digit, decimal_step, decimal_injective, length-decimal-le}
use Rattle.text.specs.Reading.{Hit, Miss}
use Rattle.text.specs.Texts.{num, Short, digits, Without}
use Rattle.std.proofs.Math.Seq.{take-append_seam}
use Rattle.text.proofs.Cuts.{apart, bytes_hit}
use Rattle.text.proofs.Places.{peel}

-- one digit, and one more
pub num_digit : (n : ℕ) → n < 10 → num n ≡ (48 + n) ∷ []
unfolding num
num_digit n h = decimal_digit n h

pub num_step : (n : ℕ) → 10 ≤ n → n < 2 ^ 64 → num n ≡ num (n / 10) ++ (48 + n % 10) ∷ []
unfolding num
num_step n g h = decimal_step n g h

-- a number below 10 ^ k has at most k digits
pub num_within : (k n : ℕ) → 0 < k → n < 10 ^ k → n < 2 ^ 64 → length (num n) ≤ k
unfolding num
num_within k n = length-decimal-le k n

pub length_num : (n : ℕ) → n < 2 ^ 32 → length (num n) ≤ 10
length_num n h = num_within 10 n (omega arith) (omega arith) (omega arith)

-- the three shapes of a number's text
pub data Shape (n : ℕ) : Type 0 where
  one : n < 10 → num n ≡ (48 + n) ∷ [] → Shape n
  two : (a b : ℕ) → 0 < a → a < 10 → b < 10 → n ≡ 10 * a + b → num n ≡ (48 + a) ∷ (48 + b) ∷ [] → Shape n
  three : (a b c : ℕ) → 0 < a → a < 10 → b < 10 → c < 10 → n ≡ 100 * a + 10 * b + c → num n ≡ (48 + a) ∷ (48 + b) ∷ (48 + c) ∷ [] → Shape n

num_two : (a b : ℕ) → 0 < a → a < 10 → b < 10 → num (10 * a + b) ≡ (48 + a) ∷ (48 + b) ∷ []
num_two a b p q r =
    let x : (10 * a + b) / 10 ≡ a = omega arith in
    let y : (10 * a + b) % 10 ≡ b = omega arith in
    num_step (10 * a + b) (omega arith) (omega arith) ∙ (λ i. num (x i) ++ (48 + y i) ∷ []) ∙ ap (λ l. l ++ (48 + b) ∷ []) (num_digit a q)

num_three : (a b c : ℕ) → 0 < a → a < 10 → b < 10 → c < 10 → num (100 * a + 10 * b + c) ≡ (48 + a) ∷ (48 + b) ∷ (48 + c) ∷ []
num_three a b c p q r k =
    let x : (100 * a + 10 * b + c) / 10 ≡ 10 * a + b = omega arith in
    let y : (100 * a + 10 * b + c) % 10 ≡ c = omega arith in
    num_step (100 * a + 10 * b + c) (omega arith) (omega arith) ∙ (λ i. num (x i) ++ (48 + y i) ∷ []) ∙ ap (λ l. l ++ (48 + c) ∷ []) (num_two a b p q r)

pub shape : (n : ℕ) → n < 1000 → Shape n
shape n h =
    ⊎_elim (λ l. one l (num_digit n l))
    (λ g. ⊎_elim
    (λ l.
    let e : n ≡ 10 * (n / 10) + n % 10 = omega arith in
    two (n / 10) (n % 10) (omega arith) (omega arith) (omega arith) e (ap num e ∙ num_two (n / 10) (n % 10) (omega arith) (omega arith) (omega arith)))
    (λ k.
    let e : n ≡ 100 * (n / 100) + 10 * (n / 10 % 10) + n % 10 = omega arith in
    three (n / 100) (n / 10 % 10) (n % 10) (omega arith) (omega arith) (omega arith) (omega arith) e (ap num e ∙ num_three (n / 100) (n / 10 % 10) (n % 10) (omega arith) (omega arith) (omega arith) (omega arith)))
    (cases_lt n 100))
    (cases_lt n 10)

-- the digits as the rule has them
pub num_digits : (n : ℕ) → n < 1000 → num n ≡ digits n
num_digits n h = go (shape n h)
  where
    go : Shape n → num n ≡ digits n
    go (one l s) = rw (lt-ltb n 10 l) s
    go (two a b p q r v s) =
        let g : 10 ≤ n = omega arith in
        let k : n < 100 = omega arith in
        let x : n / 10 ≡ a = omega arith in
        let y : n % 10 ≡ b = omega arith in
        rw (le-ltb n 10 g, lt-ltb n 100 k, x, y) s
    go (three a b c p q r k v s) =
        let g : 10 ≤ n = omega arith in
        let j : 100 ≤ n = omega arith in
        let x : n / 100 ≡ a = omega arith in
        let y : n / 10 % 10 ≡ b = omega arith in
        let z : n % 10 ≡ c = omega arith in
        rw (le-ltb n 10 g, le-ltb n 100 j, x, y, z) s

-- a number's field at a place, byte by byte
pub data At (t : List ℕ) (at end n : ℕ) (rest : List ℕ) : Type 0 where
  one : n < 10 → get_or t at 0 ≡ 48 + n → get_or t (at + 1) 0 ≡ end → drop (at + 2) t ≡ rest → At t at end n rest
  two : (a b : ℕ) → 0 < a → a < 10 → b < 10 → n ≡ 10 * a + b → get_or t at 0 ≡ 48 + a → get_or t (at + 1) 0 ≡ 48 + b → get_or t (at + 2) 0 ≡ end → drop (at + 3) t ≡ rest → At t at end n rest
  three : (a b c : ℕ) → 0 < a → a < 10 → b < 10 → c < 10 → n ≡ 100 * a + 10 * b + c → get_or t at 0 ≡ 48 + a → get_or t (at + 1) 0 ≡ 48 + b → get_or t (at + 2) 0 ≡ 48 + c → get_or t (at + 3) 0 ≡ end → drop (at + 4) t ≡ rest → At t at end n rest

pub seen : (t : List ℕ) (at end n : ℕ) (rest : List ℕ) → n < 1000 → drop at t ≡ num n ++ end ∷ rest → At t at end n rest
seen t at end n rest h e = go (shape n h)
  where
    go : Shape n → At t at end n rest
    go (one l s) =
        let p = peel t at (at + 1) (48 + n) (end ∷ rest) refl (e ∙ ap (λ l. l ++ end ∷ rest) s) in
        let q = peel t (at + 1) (at + 2) end rest (omega arith) p.1 in
        one l p.0 q.0 q.1
    go (two a b h1 h2 h3 v s) =
        let p = peel t at (at + 1) (48 + a) ((48 + b) ∷ end ∷ rest) refl (e ∙ ap (λ l. l ++ end ∷ rest) s) in
        let q = peel t (at + 1) (at + 2) (48 + b) (end ∷ rest) (omega arith) p.1 in
        let r = peel t (at + 2) (at + 3) end rest (omega arith) q.1 in
        two a b h1 h2 h3 v p.0 q.0 r.0 r.1
    go (three a b c h1 h2 h3 h4 v s) =
        let p = peel t at (at + 1) (48 + a) ((48 + b) ∷ (48 + c) ∷ end ∷ rest) refl (e ∙ ap (λ l. l ++ end ∷ rest) s) in
        let q = peel t (at + 1) (at + 2) (48 + b) ((48 + c) ∷ end ∷ rest) (omega arith) p.1 in
        let r = peel t (at + 2) (at + 3) (48 + c) (end ∷ rest) (omega arith) q.1 in
        let u = peel t (at + 3) (at + 4) end rest (omega arith) r.1 in
        three a b c h1 h2 h3 h4 v p.0 q.0 r.0 u.0 u.1

-- no two numbers are written alike
pub num_same : (m n : ℕ) → Short m → Short n → num m ≡ num n → m ≡ n
unfolding num
num_same m n h k e = decimal_injective m n (omega arith) (omega arith) e

-- how long a number's text is, and which bytes it has
pub record Numeral (xs : List ℕ) : Type 0 where
  pub some : 0 < length xs
  pub few : length xs ≤ 3
  pub first : (48 ≤ get_or xs 0 0) × (get_or xs 0 0 ≤ 57)
  pub lead : 1 < length xs → 48 < get_or xs 0 0
  pub second : 1 < length xs → (48 ≤ get_or xs 1 0) × (get_or xs 1 0 ≤ 57)
  pub third : 2 < length xs → (48 ≤ get_or xs 2 0) × (get_or xs 2 0 ≤ 57)

pub numeral : (xs : List ℕ) (n : ℕ) → n < 1000 → xs ≡ num n → Numeral xs
numeral xs n h e = go (shape n h)
  where
    shown : (ys : List ℕ) → Numeral ys → num n ≡ ys → Numeral xs
    shown ys d s = subst Numeral (sym (e ∙ s)) d

    go : Shape n → Numeral xs
    go (one l s) = shown _ (record { some = omega arith; few = omega arith; first = (omega arith, omega arith); lead = λ z. omega arith; second = λ z. absurd (omega arith); third = λ z. absurd (omega arith) }) s
    go (two a b p q r v s) = shown _ (record { some = omega arith; few = omega arith; first = (omega arith, omega arith); lead = λ z. omega arith; second = λ z. (omega arith, omega arith); third = λ z. absurd (omega arith) }) s
    go (three a b c p q r k v s) = shown _ (record { some = omega arith; few = omega arith; first = (omega arith, omega arith); lead = λ z. omega arith; second = λ z. (omega arith, omega arith); third = λ z. (omega arith, omega arith) }) s

-- other bytes are no number's
pub not_spelled : (xs : List ℕ) → (Numeral xs → ⊥) → (n : ℕ) → Short n → xs ≡ num n → ⊥
not_spelled xs other n h e = other (numeral xs n h e)

-- one, two and three digits are
pub spelled_one : (xs : List ℕ) (a : ℕ) → length xs ≡ 1 → a < 10 → get_or xs 0 0 ≡ 48 + a → xs ≡ num a
spelled_one (x ∷ []) a l h e = ap (λ b. b ∷ []) e ∙ sym (num_digit a h)
spelled_one [] a l h e = absurd (omega arith)
spelled_one (x ∷ y ∷ xs) a l h e = absurd (omega arith)

pub spelled_two : (xs : List ℕ) (a b : ℕ) → length xs ≡ 2 → 0 < a → a < 10 → b < 10 → get_or xs 0 0 ≡ 48 + a → get_or xs 1 0 ≡ 48 + b → xs ≡ num (10 * a + b)
spelled_two (x ∷ y ∷ []) a b l p q r e f = (λ i. e i ∷ f i ∷ []) ∙ sym (num_two a b p q r)
spelled_two [] a b l p q r e f = absurd (omega arith)
spelled_two (x ∷ []) a b l p q r e f = absurd (omega arith)
spelled_two (x ∷ y ∷ z ∷ xs) a b l p q r e f = absurd (omega arith)

pub spelled_three : (xs : List ℕ) (a b c : ℕ) → length xs ≡ 3 → 0 < a → a < 10 → b < 10 → c < 10 → get_or xs 0 0 ≡ 48 + a → get_or xs 1 0 ≡ 48 + b → get_or xs 2 0 ≡ 48 + c → xs ≡ num (100 * a + 10 * b + c)
spelled_three (x ∷ y ∷ z ∷ []) a b c l p q r k e f g = (λ i. e i ∷ f i ∷ g i ∷ []) ∙ sym (num_three a b c p q r k)
spelled_three [] a b c l p q r k e f g = absurd (omega arith)
spelled_three (x ∷ []) a b c l p q r k e f g = absurd (omega arith)
spelled_three (x ∷ y ∷ []) a b c l p q r k e f g = absurd (omega arith)
spelled_three (x ∷ y ∷ z ∷ w ∷ xs) a b c l p q r k e f g = absurd (omega arith)

pub ruleset spells = (not_spelled, spelled_one, spelled_two, spelled_three)

-- a number's end stands first among the four bytes from the number's place on
module _ (end : ℕ) (low : end < 48) where
  pub num_without : (n : ℕ) → Short n → Without end (num n)
  num_without n h = let d = numeral (num n) n h refl in record { each = λ i l e. go i d l e }
    where
      go : (i : ℕ) → Numeral (num n) → i < length (num n) → get_or (num n) i 0 ≡ end → ⊥
      go zero d l e = omega (arith, d.first)
      go (suc zero) d l e = omega (arith, d.second l)
      go (suc (suc zero)) d l e = omega (arith, d.third l)
      go (suc (suc (suc i))) d l e = omega (arith, d.few)

  module _ (rest : List ℕ) (stop : ℕ) (ends : stop ≡ end) (room : ℕ) (enough : room ≡ min (length rest) 4) where
    abbrev stops : ℕ → Bool
    stops b = b == stop

    other : (b : ℕ) → b ≢ end → stops b ≡ false
    other b h = grind (arith, nat_tests)

    same_byte : (b : ℕ) → b ≡ end → stops b ≡ true
    same_byte b h = grind (arith, nat_tests)

    is_stop : (b : ℕ) → stops b ≡ true → b ≡ end
    is_stop b h = grind (arith, nat_tests)

    ended : (n : ℕ) (more : List ℕ) → Short n → rest ≡ num n ++ end ∷ more → position stops (take room rest) ≡ Some (length (num n))
    ended n more h whole =
        let few = (numeral (num n) n h refl).few in
        let long : length rest ≡ length (num n) + (length more + 1) = omega (arith, ap length whole, length-append (num n) (end ∷ more)) in
        let wide : length (take room rest) ≡ room = length-take-le room rest (omega arith) in
        let seen : (i : ℕ) → i ≤ length (num n) → get_or (take room rest) i 0 ≡ get_or (num n ++ end ∷ more) i 0 =
        λ i l. get_or-take room rest i 0 (omega arith) ∙ ap (λ x. get_or x i 0) whole in
        let at_end : position_or_len stops (take room rest) ≡ length (num n) =
        position_or_len_is stops (take room rest) (length (num n)) 0 (omega arith)
        (λ i l. other (get_or (take room rest) i 0) (λ b. (num_without n h).each i l (sym (get_or_append_left (num n) (end ∷ more) 0 i l) ∙ sym (seen i (omega arith)) ∙ b)))
        (λ l. same_byte (get_or (take room rest) (length (num n)) 0) (seen (length (num n)) (omega arith) ∙ get_or_at (num n) end more 0 (length (num n)) refl)) in
        let within : length (num n) < length (take room rest) = omega arith in
        grind (arith, common_steps)

    -- so where it stands nowhere there, no number does
    pub first_none : None ≡ position stops (take room rest) → (n : ℕ) (more : List ℕ) → Short n → rest ≢ num n ++ end ∷ more
    first_none none n more h e = let both : ◌≡◌ {A = Option ℕ} None (Some (length (num n))) = none ∙ ended n more h e in absurd (cc)

    -- and a number is the bytes before it
    module _ (count : ℕ) (found : Some count ≡ position stops (take room rest)) where
      pub first_not : ((n : ℕ) → Short n → take count rest ≡ num n → ⊥) → (n : ℕ) (more : List ℕ) → Short n → rest ≢ num n ++ end ∷ more
      first_not none n more h e =
          let both : Some count ≡ Some (length (num n)) = found ∙ ended n more h e in
          let long : count ≡ length (num n) = cc in
          none n h (ap (take count) e ∙ ap (λ k. take k (num n ++ end ∷ more)) long ∙ take-append_seam (num n) (end ∷ more))

      pub first_ends : (count < length rest) × (get_or rest count 0 ≡ end)
      first_ends =
          let p = position-Some stops (take room rest) count 0 (sym found) in
          let wide : length (take room rest) ≡ room = length-take-le room rest (omega (arith, enough)) in
          let low : count < room = omega arith in
          (omega arith, sym (get_or-take room rest count 0 low) ∙ is_stop (get_or (take room rest) count 0) p.1)

  -- what a reader of a number's field answers
  module _ (t rest : List ℕ) (at : ℕ) (here : rest ≡ drop at t) where
    pub number_miss : ((n : ℕ) (more : List ℕ) → Short n → rest ≢ num n ++ end ∷ more) → Miss num Short end t at
    number_miss none = record { never = λ n more h e. none n more h (here ∙ e) }

    pub number_hit : (n count : ℕ) → Short n → count < length rest → take count rest ≡ num n → get_or rest count 0 ≡ end → Hit num Short end t at n (at + (count + 1))
    number_hit n count h some e stops =
        let hit = bytes_hit t rest at end count here some stops in
        let whole = hit.is ∙ ap (λ x. x ++ end ∷ drop (at + (count + 1)) t) e in
        record {
          law = h;
          within = hit.within;
          is = whole;
          only = λ m more k d.
              let o = apart end (num m) (num n) more (drop (at + (count + 1)) t) (num_without m k) (num_without n h) (sym d ∙ whole) in
              (num_same m n k h o.0, o.1);
        }
