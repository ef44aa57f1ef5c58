-- Lines of fields, and what their writer does to a buffer.
use Rattle.std.specs.Prelude.{◌≡◌, ℕ, ◌<◌, ◌≤◌, List, [], ◌∷◌, ◌++◌, map, length, drop, Ok, Err, Result}
use Rattle.pauli.specs.declared.fault.Fault.{Fault}
use Rattle.pauli.specs.declared.fault.Fault.TheVariants.{ShortBuffer}
use Rattle.pauli.specs.Labels.{label_text}
use Rattle.text.specs.declared.write.Field.{Field}
use Rattle.text.specs.declared.write.Field.TheVariants.{Number, Mark, Sign, Gate, Letters, Coins}
use Rattle.text.specs.Texts.{one, num, sign_text, gate_text, coin_text}

abbrev pub field_text : Field → List ℕ
field_text (Number n) = num n
field_text (Mark b) = one b
field_text (Sign s) = sign_text s
field_text (Gate g) = gate_text g
field_text (Letters n a) = label_text n a
field_text (Coins n c) = coin_text n c

-- the byte after a field: a comma, or a line feed where no field follows
abbrev pub separator : List (List ℕ) → ℕ
separator [] = 10
separator (f ∷ fs) = 44

abbrev pub line : List (List ℕ) → List ℕ
line [] = []
line (f ∷ fs) = f ++ separator fs ∷ line fs

-- the line of some fields
abbrev pub line_of : List Field → List ℕ
line_of fs = line (map field_text fs)

-- the text fills the start of the buffer and the rest stays, or the buffer is too short and stays as it was
abbrev pub Filled : (text xs ys : List ℕ) → Result ℕ Fault → Type 0
Filled text xs ys (Ok n) = (n ≡ length text) × (n ≤ length ys) × (ys ≡ text ++ drop n xs)
Filled text xs ys (Err f) = (f ≡ ShortBuffer) × (length xs < length text) × (ys ≡ xs)
