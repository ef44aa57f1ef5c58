-- The line of some fields, from its first to its last.
use Rattle.std.proofs.Common.{◌≡◌, ℕ, ◌+◌, ◌<◌, ◌≤◌, List, [], ◌∷◌, ◌++◌, map, length, get_or, drop, ap, arith, length-append}
use Rattle.std.proofs.lemmas.List.{drop_more, drop_all}
use Rattle.text.specs.declared.write.Field.{Field}
use Rattle.text.specs.declared.write.Field.TheVariants.{Number}
use Rattle.text.specs.Lines.{field_text, separator, line_of}

-- the field at a place, and the fields after it
pub line_more : (fs : List Field) (i : ℕ) → i < length fs → line_of (drop i fs) ≡ field_text (get_or fs i (Number 0)) ++ separator (map field_text (drop (i + 1) fs)) ∷ line_of (drop (i + 1) fs)
line_more fs i h = ap line_of (drop_more fs i (Number 0) h)

pub line_all : (fs : List Field) (i : ℕ) → length fs ≤ i → line_of (drop i fs) ≡ []
line_all fs i h = ap line_of (drop_all i fs h)

pub length_more : (fs : List Field) (i : ℕ) → i < length fs → length (line_of (drop i fs)) ≡ length (field_text (get_or fs i (Number 0))) + 1 + length (line_of (drop (i + 1) fs))
length_more fs i h =
    let f = field_text (get_or fs i (Number 0)) in
    omega (arith, ap length (line_more fs i h), length-append f (separator (map field_text (drop (i + 1) fs)) ∷ line_of (drop (i + 1) fs)))

-- a comma follows where a field does, and else a line feed
pub separator_more : (fs : List Field) (i : ℕ) → i < length fs → separator (map field_text (drop i fs)) ≡ 44
separator_more fs i h = ap (λ l. separator (map field_text l)) (drop_more fs i (Number 0) h)

pub separator_all : (fs : List Field) (i : ℕ) → length fs ≤ i → separator (map field_text (drop i fs)) ≡ 10
separator_all fs i h = ap (λ l. separator (map field_text l)) (drop_all i fs h)
