-- Document 01, "The file": the records of a file, read in order, and the answers 1 to 6. Document 02, request U9: tables whose rows have
-- copies, and answer 19.
use Rattle.std.specs.Prelude.{Bool, true, false, ◌&&◌, ◌||◌, not, List, [], ◌∷◌, ◌++◌, length, drop, get_or}
use Rattle.std.specs.Prelude.{ℕ, zero, suc, ◌+◌, ◌-◌, ◌*◌, ◌/◌, ◌%◌, ◌^◌, min, eqb, ltb}
use Rattle.semantics.specs.Lists.{any, sum, up_to}

-- the 4-byte number at an offset: little-endian
unfoldable pub word_at : List ℕ → ℕ → ℕ
word_at l at = get_or l at 0 + 256 * get_or l (at + 1) 0 + 65536 * get_or l (at + 2) 0 + 16777216 * get_or l (at + 3) 0

-- bit i of a mask, as a number and as a test
unfoldable pub bit : ℕ → ℕ → ℕ
bit m i = m / 2 ^ i % 2

unfoldable pub has_bit : ℕ → ℕ → Bool
has_bit m i = eqb (bit m i) 1

-- "a column's place": the number of ones of the mask below its bit
unfoldable pub ones_below : ℕ → ℕ → ℕ
ones_below m i = sum (bit m) (up_to i)

-- "the number of attributes": the number of ones in the mask
unfoldable pub arity : ℕ → ℕ
arity m = ones_below m 32

-- a table as its record gives it
pub record Table : Type 0 where
  pub mask : ℕ
  pub rows : ℕ
  pub start : ℕ  -- offset of the first attribute column
  pub counted : Bool  -- whether a column of copies stands before it

-- a table without a column of copies
abbrev pub table_with : ℕ → ℕ → ℕ → Table
table_with mask rows start = record { mask = mask; rows = rows; start = start; counted = false }

-- the bytes of all attribute columns of a table
unfoldable pub column_bytes : ℕ → ℕ → ℕ
column_bytes mask rows = 4 * (arity mask * rows)

-- the offset of an attribute's column
unfoldable pub column_start : Table → ℕ → ℕ
column_start t a = t.start + 4 * (ones_below t.mask a * t.rows)

-- the value of an attribute in a row: the word of that row in the column, which is the part of the file from its own offset on
unfoldable pub value : List ℕ → Table → ℕ → ℕ → ℕ
value bytes t a y = word_at (drop (column_start t a) bytes) (4 * y)

-- ---- copies
-- "a table whose first column holds copies .. before the attribute columns": the bytes of that column, none where there is no such column
unfoldable pub copy_bytes : Bool → ℕ → ℕ
copy_bytes counted rows = elim counted [ true ↦ 4 * rows | false ↦ 0 ]

-- the offset of the column of copies
unfoldable pub copy_start : Table → ℕ
copy_start t = t.start - copy_bytes t.counted t.rows

-- "copies, 1 to 65,535"
abbrev pub most_copies : ℕ
most_copies = 65535

unfoldable pub copies_fit : ℕ → Bool
copies_fit c = ltb 0 c && ltb c 65536

-- the copies of a row: the word of that row in the column of copies, held at the most that a row can have; "one copy in a row of a 54 42
-- table"
unfoldable pub copies_at : List ℕ → Table → ℕ → ℕ
copies_at bytes t y = elim t.counted [ true ↦ min (word_at (drop (copy_start t) bytes) (4 * y)) most_copies | false ↦ 1 ]

-- ---- marks
pub data Mark : Type 0 where
  cut_mark : Mark  -- fewer than two bytes are left
  table_mark : Bool → Mark  -- a table, and whether it has a column of copies
  plan_mark : Mark
  other_mark : Mark

-- the mark that the next bytes begin with: how many are left, and the first two
unfoldable pub mark_of : ℕ → ℕ → ℕ → Mark
mark_of left a b =
    elim (ltb left 2) [
      | true ↦ cut_mark
      | false ↦
          elim (eqb a 0x54 && eqb b 0x42) [
            | true ↦ table_mark false
            | false ↦
                elim (eqb a 0x50 && eqb b 0x4C) [
                  | true ↦ plan_mark
                  | false ↦
                      elim (eqb a 0x54 && eqb b 0x43) [ true ↦ table_mark true | false ↦ other_mark ]
                ]
          ]
    ]

abbrev pub next_mark : List ℕ → Mark
next_mark l = mark_of (length l) (get_or l 0 0) (get_or l 1 0)

-- ---- a table record, from its mark on: both fields there (1), 3, 4, columns there (1), copies in range (19)
pub data TableRecord : Type 0 where
  broken : ℕ → TableRecord  -- the number due
  whole : Table → ℕ → TableRecord  -- the table, and the bytes of its record

-- "a copy count is out of range": that of some row, where there are copies
unfoldable pub copies_out : Bool → (ℕ → ℕ) → ℕ → Bool
copies_out counted copies rows = elim counted [ true ↦ any (λ y. not (copies_fit (copies y))) (up_to rows) | false ↦ false ]

-- the bytes of a table record: mark, fields and columns
unfoldable pub record_bytes : Bool → ℕ → ℕ → ℕ
record_bytes counted mask rows = 10 + copy_bytes counted rows + column_bytes mask rows

-- the record at offset o, with that many bytes left from its mark on, that gives this mask and this row count; whether it has copies,
-- and the number of them that it gives for a row
unfoldable pub table_record : Bool → (ℕ → ℕ) → ℕ → ℕ → ℕ → ℕ → TableRecord
table_record counted copies o left mask rows =
    elim (ltb left 10) [
      | true ↦ broken 1
      | false ↦
          elim (eqb (arity mask) 0 || ltb 8 (arity mask)) [
            | true ↦ broken 3
            | false ↦
                elim (ltb 4096 rows) [
                  | true ↦ broken 4
                  | false ↦
                      elim (ltb left (record_bytes counted mask rows)) [
                        | true ↦ broken 1
                        | false ↦
                            elim (copies_out counted copies rows) [
                              | true ↦ broken 19
                              | false ↦
                                  whole (record { mask = mask; rows = rows; start = o + 10 + copy_bytes counted rows; counted = counted })
                                  (record_bytes counted mask rows)
                            ]
                      ]
                ]
          ]
    ]

abbrev pub next_table : Bool → ℕ → List ℕ → TableRecord
next_table counted o l = table_record counted (λ y. word_at (drop 10 l) (4 * y)) o (length l) (word_at l 2) (word_at l 6)

-- ---- how the reading ends
pub data Ending : Type 0 where
  fault : ℕ → ℕ → Ending  -- number, detail
  plan_bytes : List ℕ → Ending  -- the n bytes of the plan

-- the plan record at offset o: 1, then 6
unfoldable pub plan_record : ℕ → List ℕ → Ending
plan_record o l =
    elim (ltb (length l) 3) [
      | true ↦ fault 1 o
      | false ↦
          let n = get_or l 2 0 in
          elim (ltb (length l) (3 + n)) [
            | true ↦ fault 1 o
            | false ↦
                elim (ltb (3 + n) (length l)) [ true ↦ fault 6 (o + (3 + n)) | false ↦ plan_bytes (drop 3 l) ]
          ]
    ]

-- the tables read before the end, in file order, and the end
pub record Reading : Type 0 where
  pub tables : List Table
  pub ending : Ending

-- the reading from offset o on, where the bytes l stand: the tables ts were read before, and k more may come.
-- Within a record: two bytes left (1), mark (2), 17th (5), and then the record's own rules. The first fault decides.
unfoldable pub read_from : ℕ → ℕ → List ℕ → List Table → Reading
read_from zero o l ts =
    elim (next_mark l) [
      | cut_mark ↦ record { tables = ts; ending = fault 1 o }
      | other_mark ↦ record { tables = ts; ending = fault 2 o }
      | table_mark counted ↦ record { tables = ts; ending = fault 5 o }
      | plan_mark ↦ record { tables = ts; ending = plan_record o l }
    ]
read_from (suc k) o l ts =
    elim (next_mark l) [
      | cut_mark ↦ record { tables = ts; ending = fault 1 o }
      | other_mark ↦ record { tables = ts; ending = fault 2 o }
      | table_mark counted ↦
          elim (next_table counted o l) [
            | broken n ↦ record { tables = ts; ending = fault n o }
            | whole t size ↦ read_from k (o + size) (drop size l) (ts ++ (t ∷ []))
          ]
      | plan_mark ↦ record { tables = ts; ending = plan_record o l }
    ]

-- "a file has at most 16 tables"
unfoldable pub read : List ℕ → Reading
read bytes = read_from 16 0 bytes []
