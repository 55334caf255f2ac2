-- Document 02, W-205, "Columns are right-aligned with spaces": the columns of a line, one after another, and a column read back by its position.
use Rattle.std.specs.Prelude.{◌≡◌, ◌≢◌, cond, List, [], ◌∷◌, ◌++◌, ℕ, ◌-◌, ◌≤◌, ◌<◌, eqb, length, get_or, take, drop, replicate}
use Rattle.ascii.specs.Text.{byte}
use Rattle.ascii.specs.Decimal.{decimal, spelt}

abbrev pub spaces : ℕ → List ℕ
spaces n = replicate n (byte " ")

-- a text, right-aligned with spaces in a column of this width
abbrev pub column : ℕ → List ℕ → List ℕ
column width text = spaces (width - length text) ++ text

-- what stands in a column of a line, and the column's width
pub record Field : Type 0 where
  pub width : ℕ
  pub text : List ℕ

-- a number, and a mark
abbrev pub figure : ℕ → ℕ → Field
figure width n = record { width = width; text = decimal n }

abbrev pub symbol : ℕ → ℕ → Field
symbol width byte = record { width = width; text = byte ∷ [] }

-- the columns, one after another
abbrev pub columns : List Field → List ℕ
columns [] = []
columns (f ∷ fs) = column f.width f.text ++ columns fs

-- "lines exactly 60 bytes and a newline": the columns, "then spaces"
abbrev pub line : List Field → List ℕ
line fields = columns fields ++ spaces (60 - length (columns fields)) ++ byte "\n" ∷ []

-- 60 bytes, none of them a newline, and a newline
pub record IsLine (line : List ℕ) : Type 0 where
  pub size : length line ≡ 61
  pub unbroken : (i : ℕ) → i < 60 → get_or line i 0 ≢ byte "\n"
  pub ended : get_or line 60 0 ≡ byte "\n"

-- "Each figure fits its column"
abbrev pub Fits : Field → Type 0
Fits f = length f.text ≤ f.width

-- "Reading a line's columns": the text in the column that starts at a place, without the spaces in front of it; and the number that it spells
abbrev pub unpadded : List ℕ → List ℕ
unpadded [] = []
unpadded (b ∷ bs) = cond (eqb b (byte " ")) (unpadded bs) (b ∷ bs)

abbrev pub text_at : List ℕ → ℕ → ℕ → List ℕ
text_at line place width = unpadded (take width (drop place line))

abbrev pub figure_at : List ℕ → ℕ → ℕ → ℕ
figure_at line place width = spelt 0 (text_at line place width)
