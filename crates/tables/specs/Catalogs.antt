-- What the code gives for what `semantics` defines: the catalog of tables, the end of a reading, one record.
use Rattle.std.specs.Prelude.{◌≡◌, Bool, true, false, List, map, ℕ, ◌-◌, length, get_or, take, leb, Result, Ok, Err}
use Rattle.semantics.specs.Lists.{any}
use Rattle.semantics.specs.Files.{Table, table_with, has_bit, cut_mark, table_mark, plan_mark, other_mark, next_mark}
use Rattle.semantics.specs.Files.{TableRecord, broken, whole}
use Rattle.semantics.specs.Files.{next_table, Ending, fault, plan_bytes, plan_record, read}
use Rattle.semantics.specs.Shapes.{width}
use Rattle.words.specs.Arrays.{padded}
use Rattle.tables.specs.Copies.{counted_bits, copies_start, CopiesBefore}
use Rattle.refusals.specs.declared.Refusal.{Refusal}
use Rattle.refusals.specs.Refusals.{refusal_of}
use Rattle.tables.specs.declared.Catalog.{Catalog}
use Rattle.tables.specs.declared.Contents.{Contents}
use Rattle.tables.specs.declared.Entry.{Entry}
use Rattle.tables.specs.declared.Record.{Record}
use Rattle.tables.specs.declared.Record.TheVariants as kind

unfoldable pub catalog_of : List Table → Catalog
catalog_of ts =
    record {
      count = length ts;
      masks = padded (map (λ t. t.mask) ts);
      rows = padded (map (λ t. t.rows) ts);
      starts = padded (map (λ t. t.start) ts);
      counted = counted_bits ts;
    }

-- what a catalog enters of a table, and the bytes of its record
abbrev pub entry_of : Table → ℕ → Entry
entry_of t size = record { mask = t.mask; rows = t.rows; start = t.start; counted = t.counted; size = size }

-- the plan's bytes are the last ones of a file of that many bytes
abbrev pub end_of : ℕ → Ending → Result ℕ Refusal
end_of size (fault n d) = Err (refusal_of n d)
end_of size (plan_bytes code) = Ok (size - length code)

abbrev pub table_of : ℕ → TableRecord → Result Entry Refusal
table_of o (broken n) = Err (refusal_of n o)
table_of o (whole t size) = Ok (entry_of t size)

-- a record of that kind, or the refusal
abbrev pub found : {A : Type 0} → (A → Record) → Result A Refusal → Result Record Refusal
found kind (Ok x) = Ok (kind x)
found kind (Err e) = Err e

-- the table record at offset o, where the bytes l stand and n tables came before: 5, then the record's own rules
unfoldable pub limited_table : ℕ → Bool → ℕ → List ℕ → Result Entry Refusal
limited_table n counted o l = elim (leb 16 n) [ true ↦ Err (refusal_of 5 o) | false ↦ table_of o (next_table counted o l) ]

-- the record at offset o of a file of that many bytes, where the bytes l stand and n tables came before
unfoldable pub record_of : ℕ → ℕ → ℕ → List ℕ → Result Record Refusal
record_of n size o l =
    elim (next_mark l) [
      | cut_mark ↦ Err (refusal_of 1 o)
      | other_mark ↦ Err (refusal_of 2 o)
      | table_mark counted ↦ found kind.Table (limited_table n counted o l)
      | plan_mark ↦ found kind.Plan (end_of size (plan_record o l))
    ]

unfoldable pub contents_of : List ℕ → Contents
contents_of bytes = record { catalog = catalog_of (read bytes).tables; end = end_of (length bytes) (read bytes).ending }

-- the attribute columns of a table, as a table without copies: it has the same values
abbrev pub columns_of : Table → Table
columns_of t = table_with t.mask t.rows t.start

-- the attribute columns that the catalog's arrays give for the number of a table
abbrev pub table_at : Catalog → ℕ → Table
table_at c t = table_with (get_or c.masks t 0) (get_or c.rows t 0) (get_or c.starts t 0)

-- the offset of the column of copies that the catalog gives for the number of a table, 0 where there is none
abbrev pub counts_at : Catalog → ℕ → ℕ
counts_at c t = copies_start c.counted t (get_or c.starts t 0) (get_or c.rows t 0)

-- that column stands before the table's attribute columns
abbrev pub CopiesAhead : Catalog → ℕ → Type 0
CopiesAhead c t = CopiesBefore c.counted t (get_or c.starts t 0) (get_or c.rows t 0)

-- w of a file: the number of attributes in all of its tables together
abbrev pub file_width : List ℕ → ℕ
file_width bytes = width (read bytes).tables

-- the mask has the attributes of the first n masks, and no others
abbrev pub AttributesTogether : List ℕ → ℕ → ℕ → Type 0
AttributesTogether masks n mask = (a : ℕ) → has_bit mask a ≡ any (λ m. has_bit m a) (take n masks)
