-- What the code of a line needs: a column written over the blank rest of a line, and a line put together column by column.
use mathlib.Core.Path.{◌≡◌, sym, ap, ◌∙◌}
use mathlib.Core.List.{List, [], ◌∷◌, ◌++◌, append_assoc}
use Prim.Native.Nat.{ℕ, ◌+◌, ◌-◌, ◌≤◌}
use native.Mathlib.Omega.{arith}
use lib.ListN.{length, take, drop, length-append, length-replicate}
use lib.Seq.{take_at, drop_at, drop-drop, length-take-le}
use Rattle.std.proofs.lemmas.List.{take-append-drop, append-nil, replicate-append-replicate}
use Rattle.buffers.specs.Bytes.{put}
use Rattle.ascii.specs.Text.{byte}
use Rattle.columns.specs.Columns.{spaces, column, Field, columns, line}

-- ---- a text at the end of a column, in a line that is blank from the column's start on

-- the spaces from a place to the line's end, and the newline
abbrev pub blank : ℕ → List ℕ
blank place = spaces (60 - place) ++ byte "\n" ∷ []

-- the columns so far end at the place
pub size_so_far : (bytes so_far : List ℕ) (place : ℕ) → length bytes ≡ 61 → place ≤ 60 → take place bytes ≡ so_far → length so_far ≡ place
size_so_far bytes so_far place size h e = ap length (sym e) ∙ length-take-le place bytes (omega arith)

-- so many spaces of a blank rest, and what is behind them
blank-split : (place n : ℕ) → place + n ≤ 60 → blank place ≡ spaces n ++ blank (place + n)
blank-split place n h =
    let both : 60 - place ≡ n + (60 - (place + n)) = omega arith in
    ap (λ (k : ℕ). spaces k ++ byte "\n" ∷ []) both
    ∙ ap (λ (l : List ℕ). l ++ byte "\n" ∷ []) (sym (replicate-append-replicate n (60 - (place + n)) (byte " ")))
    ∙ append_assoc (spaces n) (spaces (60 - (place + n))) (byte "\n" ∷ [])

module _ (bytes : List ℕ) (place width : ℕ) (text : List ℕ) (size : length bytes ≡ 61) (room : place + width ≤ 60) (fits : length text ≤ width)
    (rest : drop place bytes ≡ blank place) where
  abbrev start : ℕ
  start = place + width - length text

  front : take start bytes ≡ take place bytes ++ spaces (width - length text)
  front =
      let n = width - length text in
      let at : place + n ≡ start = omega arith in
      let split : bytes ≡ (take place bytes ++ spaces n) ++ blank (place + n) =
      sym (take-append-drop place bytes) ∙ ap (λ (l : List ℕ). take place bytes ++ l) (rest ∙ blank-split place n (omega arith))
      ∙ sym (append_assoc (take place bytes) (spaces n) (blank (place + n))) in
      let long : length (take place bytes ++ spaces n) ≡ start =
      omega (arith, length-append (take place bytes) (spaces n), length-take-le place bytes (omega arith), length-replicate n (byte " ")) in
      ap (λ (l : List ℕ). take start l) split ∙ take_at (take place bytes ++ spaces n) (blank (place + n)) start long

  written : put bytes start text ≡ (take place bytes ++ column width text) ++ blank (place + width)
  unfolding put
  written =
      let n = width - length text in
      let end : start + length text ≡ place + width = omega arith in
      let behind : drop (start + length text) bytes ≡ blank (place + width) =
      ap (λ (k : ℕ). drop k bytes) end ∙ sym (drop-drop width place bytes) ∙ ap (λ (l : List ℕ). drop width l) (rest ∙ blank-split place width room)
      ∙ drop_at (spaces width) (blank (place + width)) width (length-replicate width (byte " ")) in
      ap (λ (l : List ℕ). take start bytes ++ text ++ l) behind
      ∙ ap (λ (l : List ℕ). l ++ text ++ blank (place + width)) front
      ∙ ap (λ (l : List ℕ). l ++ blank (place + width)) (append_assoc (take place bytes) (spaces n) text)

  long : length (take place bytes ++ column width text) ≡ place + width
  long =
      omega (
        arith,
        length-append (take place bytes) (column width text),
        length-take-le place bytes (omega arith),
        length-append (spaces (width - length text)) text,
        length-replicate (width - length text) (byte " "),
      )

  -- the columns, one more, and what is blank then
  pub column_written : (now : List ℕ) → now ≡ put bytes start text → take (place + width) now ≡ take place bytes ++ column width text
  column_written now e = ap (λ (l : List ℕ). take (place + width) l) (e ∙ written) ∙ take_at (take place bytes ++ column width text) (blank (place + width)) (place + width) long

  pub blank_behind : (now : List ℕ) → now ≡ put bytes start text → drop (place + width) now ≡ blank (place + width)
  blank_behind now e = ap (λ (l : List ℕ). drop (place + width) l) (e ∙ written) ∙ drop_at (take place bytes ++ column width text) (blank (place + width)) (place + width) long

-- ---- a line as it is put together, column by column

columns-next : (fs : List Field) (f : Field) → columns (fs ++ f ∷ []) ≡ columns fs ++ column f.width f.text
columns-next [] f = append-nil (column f.width f.text)
columns-next (g ∷ fs) f =
    ap (λ (l : List ℕ). column g.width g.text ++ l) (columns-next fs f) ∙ sym (append_assoc (column g.width g.text) (columns fs) (column f.width f.text))

pub next_column : {before after : List ℕ} (fs : List Field) (f : Field) → before ≡ columns fs → after ≡ before ++ column f.width f.text
    → after ≡ columns (fs ++ f ∷ [])
next_column fs f b a = a ∙ ap (λ (l : List ℕ). l ++ column f.width f.text) b ∙ sym (columns-next fs f)

-- all bytes of a line, from those of its columns
abbrev pub ended : List ℕ → List ℕ
ended so_far = so_far ++ spaces (60 - length so_far) ++ byte "\n" ∷ []

pub line_done : {so_far whole : List ℕ} (fs : List Field) → so_far ≡ columns fs → whole ≡ ended so_far → whole ≡ line fs
line_done fs c w = w ∙ ap ended c
