-- One piece written after another.
use Rattle.std.proofs.Common.{◌≡◌, ℕ, ◌+◌, ◌-◌, ◌<◌, ◌≤◌, List, [], ◌∷◌, ◌++◌, length, take, drop, sym, ap, ◌∙◌, append_assoc, arith, length-append, get_or, subst}
use Rattle.std.proofs.lemmas.List.{append-nil, drop-drop, drop_all, drop_more}
use Rattle.text.specs.declared.write.Writer.{Writer}
use Rattle.text.specs.Writing.{Wrote, Room, Writes}

-- two pieces are one
pub then : {xs ys zs : List ℕ} {at mid to : ℕ} {p q : List ℕ} → Wrote xs at p ys mid → Wrote ys mid q zs to → Wrote xs at (p ++ q) zs to
then {xs} {ys} {zs} {at} {mid} {to} {p} {q} a b =
    let far : mid + (to - mid) ≡ to = omega (arith, b.place) in
    let down : (l : List ℕ) → drop to l ≡ drop (to - mid) (drop mid l) = λ l. sym (drop-drop (to - mid) mid l ∙ ap (λ i. drop i l) far) in
    record {
      place = omega (arith, a.place, b.place, length-append p q);
      text = b.text ∙ ap (λ l. l ++ q) a.text ∙ append_assoc (take at xs) p q;
      rest = b.rest ∙ down ys ∙ ap (drop (to - mid)) a.rest ∙ sym (down xs);
    }

-- ---- the same of a writer

pub next : {v w x : Writer} {p q : List ℕ} → Writes v p w → Writes w q x → Writes v (p ++ q) x
next a b = record { same = b.same ∙ a.same; long = b.long ∙ a.long; wrote = then a.wrote b.wrote }

-- the same piece by another name
pub recast : {v w : Writer} {p : List ℕ} (q : List ℕ) → p ≡ q → Writes v p w → Writes v q w
recast {v} {w} q e a = subst (λ l. Writes v l w) e a

-- what room there is after a piece
pub room_after : {v w : Writer} {p : List ℕ} (n : ℕ) → Writes v p w → Room v (length p + n) → Room w n
room_after n a h = omega (arith, a.long, a.wrote.place, h)

-- some of a whole piece is written, and `left` is left of it
pub record Partly (v : Writer) (whole left : List ℕ) (w : Writer) : Type 0 where
  pub done : List ℕ
  pub writes : Writes v done w
  pub parts : done ++ left ≡ whole

pub part_more : {v w x : Writer} {whole left : List ℕ} (p rest : List ℕ) → Partly v whole left w → Writes w p x → left ≡ p ++ rest → Partly v whole rest x
part_more p rest a b e = record {
  done = a.done ++ p;
  writes = next a.writes b;
  parts = append_assoc a.done p rest ∙ ap (λ l. a.done ++ l) (sym e) ∙ a.parts;
}

pub part_all : {v w : Writer} {whole left : List ℕ} → Partly v whole left w → left ≡ [] → Writes v whole w
part_all a e = recast _ (sym (append-nil a.done) ∙ ap (λ l. a.done ++ l) (sym e) ∙ a.parts) a.writes

-- a text written byte by byte
pub byte_more : {v w x : Writer} (t : List ℕ) (i b : ℕ) → i < length t → b ≡ get_or t i 0 → Partly v t (drop i t) w → Writes w (b ∷ []) x → Partly v t (drop (i + 1) t) x
byte_more t i b l e a p = part_more (b ∷ []) _ a p (drop_more t i 0 l ∙ ap (λ c. c ∷ drop (i + 1) t) (sym e))

pub bytes_all : {v w : Writer} (t : List ℕ) (i : ℕ) → length t ≤ i → Partly v t (drop i t) w → Writes v t w
bytes_all t i l a = part_all a (drop_all i t l)
