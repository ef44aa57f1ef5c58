-- The coins that an entry's line shows are the coins in the entry.
use Rattle.std.proofs.Common.{◌≡◌, ℕ, zero, suc, ◌+◌, ◌/◌, ◌%◌, ◌<◌, Bool, true, false, cond, eqb, List, [], ◌∷◌, ◌++◌, length, sym, refl, ap, ◌∙◌, subst, append_assoc, arith}
use Rattle.std.proofs.lemmas.Bool.Decides.{nat_tests}
use Rattle.pauli.specs.Bits.{odd}
use Rattle.pauli.specs.Cases.{case_number}
use Rattle.pauli.specs.Labels.{label_text}
use Rattle.coins.specs.Coins.{bits}
use Rattle.text.specs.Lines.{line as fields_line}
use Rattle.text.specs.Texts.{num, sign_byte, coins, coin_text}
use Rattle.text.proofs.Numbers.{Shape, one, two, three, shape}
use Rattle.text.proofs.Words.{coin_some, coin_none}
use Rattle.journal_lines.specs.declared.event.Event.{Event}
use Rattle.journal_lines.specs.declared.event.Event.TheVariants.{Gate, Conditional, Measurement as Measured}
use Rattle.journal_lines.specs.Lines.{line, bit}
use Rattle.runs.specs.Readings.{lines_from, readings}
use Rattle.runs.specs.Spent.{after_comma, since_comma, coins_in, begins_with_M, shown, spent}

-- every byte comes after the comma in ASCII, as digits and letters do
abbrev High : List ℕ → Type 0
High [] = Unit {0}
High (b ∷ t) = (44 < b) × High t

no_comma : (b : ℕ) → 44 < b → eqb b 44 ≡ false
no_comma b h = grind (arith, nat_tests)

num_high : (n : ℕ) → n < 1000 → High (num n)
num_high n h = go (shape n h)
  where
    go : Shape n → High (num n)
    go (one l s) = subst High (sym s) (omega arith, tt)
    go (two a b p q r v s) = subst High (sym s) (omega arith, (omega arith, tt))
    go (three a b c p q r k v s) = subst High (sym s) (omega arith, (omega arith, (omega arith, tt)))

-- ---- the fields of a line

after_field : (f rest : List ℕ) → High f → after_comma (f ++ 44 ∷ rest) ≡ rest
after_field [] rest h = refl
after_field (b ∷ f) rest h = ap (λ w. cond w (f ++ 44 ∷ rest) (after_comma (f ++ 44 ∷ rest))) (no_comma b h.0) ∙ after_field f rest h.1

since_field : (whole f rest : List ℕ) → since_comma whole (f ++ 44 ∷ rest) ≡ since_comma rest rest
since_field whole [] rest = refl
since_field whole (b ∷ f) rest = go (eqb b 44) (λ v. since_field v f rest)
  where
    go : (w : Bool) → ((v : List ℕ) → since_comma v (f ++ 44 ∷ rest) ≡ since_comma rest rest)
        → cond w (since_comma (f ++ 44 ∷ rest) (f ++ 44 ∷ rest)) (since_comma whole (f ++ 44 ∷ rest)) ≡ since_comma rest rest
    go true later = later (f ++ 44 ∷ rest)
    go false later = later whole

since_last : (whole f : List ℕ) → High f → since_comma whole (f ++ 10 ∷ []) ≡ whole
since_last whole [] h = refl
since_last whole (b ∷ f) h = ap (λ w. cond w (since_comma (f ++ 10 ∷ []) (f ++ 10 ∷ [])) (since_comma whole (f ++ 10 ∷ []))) (no_comma b h.0) ∙ since_last whole f h.1

-- what follows a line's last comma is its last field, of two or more
since_fields : (f : List ℕ) (fs : List (List ℕ)) (last whole : List ℕ) → High last → since_comma whole (fields_line (f ∷ (fs ++ (last ∷ [])))) ≡ last ++ 10 ∷ []
since_fields f [] last whole h = since_field whole f (last ++ 10 ∷ []) ∙ since_last (last ++ 10 ∷ []) last h
since_fields f (g ∷ fs) last whole h = since_field whole f (fields_line (g ∷ (fs ++ (last ∷ [])))) ∙ since_fields g fs last (fields_line (g ∷ (fs ++ (last ∷ [])))) h

-- ---- coins

coins_high : (n c : ℕ) → High (coins n c)
coins_high zero c = tt
coins_high (suc n) c = (omega arith, coins_high n (c / 2))

text_high : (n c : ℕ) → High (coin_text n c)
text_high zero c = subst High (sym (coin_none 0 c refl)) (omega arith, tt)
text_high (suc n) c = subst (λ (f : ℕ → List ℕ). High (f c)) (sym (coin_some (suc n) (omega arith))) (coins_high (suc n) c)

digit_coin : (d : ℕ) (cs : List Bool) → d < 2 → cond (eqb (48 + d) 48) (false ∷ cs) (cond (eqb (48 + d) 49) (true ∷ cs) cs) ≡ eqb d 1 ∷ cs
digit_coin zero cs h = refl
digit_coin (suc zero) cs h = refl
digit_coin (suc (suc d)) cs h = absurd (omega arith)

coins_back : (n c : ℕ) → coins_in (coins n c ++ 10 ∷ []) ≡ bits n c
coins_back zero c = refl
coins_back (suc n) c = digit_coin (c % 2) (coins_in (coins n (c / 2) ++ 10 ∷ [])) (omega arith) ∙ ap (λ l. odd c ∷ l) (coins_back n (c / 2))

text_back : (n c : ℕ) → coins_in (coin_text n c ++ 10 ∷ []) ≡ bits n c
text_back zero c = ap (λ t. coins_in (t ++ 10 ∷ [])) (coin_none 0 c refl)
text_back (suc n) c = ap (λ (f : ℕ → List ℕ). coins_in (f c ++ 10 ∷ [])) (coin_some (suc n) (omega arith)) ∙ coins_back (suc n) c

-- ---- lines

-- the second field is M, or it is not
shown_M : (f rest : List ℕ) → High f → shown (f ++ 44 ∷ 77 ∷ rest) ≡ coins_in (since_comma (f ++ 44 ∷ 77 ∷ rest) (f ++ 44 ∷ 77 ∷ rest))
shown_M f rest h = ap (λ l. cond (begins_with_M l) (coins_in (since_comma (f ++ 44 ∷ 77 ∷ rest) (f ++ 44 ∷ 77 ∷ rest))) []) (after_field f (77 ∷ rest) h)

shown_other : (f : List ℕ) (b : ℕ) (rest : List ℕ) → High f → eqb b 77 ≡ false → shown (f ++ 44 ∷ b ∷ rest) ≡ []
shown_other f b rest h e =
    ap (λ l. cond (begins_with_M l) (coins_in (since_comma (f ++ 44 ∷ b ∷ rest) (f ++ 44 ∷ b ∷ rest))) []) (after_field f (b ∷ rest) h)
    ∙ ap (λ w. cond w (coins_in (since_comma (f ++ 44 ∷ b ∷ rest) (f ++ 44 ∷ b ∷ rest))) []) e

-- the coins in an entry
abbrev pub coins_of : Event → List Bool
coins_of (Gate g) = []
coins_of (Conditional d k g q) = []
coins_of (Measured m) = bits m.count m.coins

pub shown_line : (k : ℕ) (e : Event) → k < 1000 → shown (line k e) ≡ coins_of e
shown_line k (Gate g) h = shown_other (num k) 71 _ (num_high k h) refl
shown_line k (Conditional true o g q) h = shown_other (num k) 68 _ (num_high k h) refl
shown_line k (Conditional false o g q) h = shown_other (num k) 80 _ (num_high k h) refl
shown_line k (Measured m) h =
    shown_M (num k) _ (num_high k h)
    ∙ ap coins_in (since_fields (num k)
    ((77 ∷ []) ∷ (sign_byte m.sign ∷ []) ∷ label_text m.size m.label ∷ num (case_number m.case) ∷ num (bit m.outcome) ∷ num m.count ∷ [])
    (coin_text m.count m.coins) (line k (Measured m)) (text_high m.count m.coins))
    ∙ text_back m.count m.coins

-- ---- one more entry

append_nil : {X : Type 0} (l : List X) → l ++ [] ≡ l
append_nil [] = refl
append_nil (x ∷ xs) = ap (λ l. x ∷ l) (append_nil xs)

lines_more : (k : ℕ) (es : List Event) (e : Event) → lines_from k (es ++ (e ∷ [])) ≡ lines_from k es ++ (line (length es + k) e ∷ [])
lines_more k [] e = ap (λ n. line n e ∷ []) (omega arith)
lines_more k (x ∷ es) e =
    ap (λ l. line k x ∷ l) (lines_more (suc k) es e ∙ ap (λ n. lines_from (suc k) es ++ (line n e ∷ [])) (omega arith))

spent_append : (ts us : List (List ℕ)) → spent (ts ++ us) ≡ spent ts ++ spent us
spent_append [] us = refl
spent_append (t ∷ ts) us = ap (λ l. shown t ++ l) (spent_append ts us) ∙ sym (append_assoc (shown t) (spent ts) (spent us))

pub spent_more : (es : List Event) (e : Event) → length es < 512 → spent (readings (es ++ (e ∷ []))) ≡ spent (readings es) ++ coins_of e
spent_more es e h =
    ap spent (lines_more 1 es e)
    ∙ spent_append (readings es) (line (length es + 1) e ∷ [])
    ∙ ap (λ l. spent (readings es) ++ l) (append_nil (shown (line (length es + 1) e)) ∙ shown_line (length es + 1) e (omega arith))
