-- The catalog of a list of tables: empty, with one table more, and what it holds of a table.
use mathlib.Core.Path.{◌≡◌, refl, sym, ap, ap₂, ◌∙◌}
use mathlib.Core.List.{List, [], ◌∷◌, ◌++◌, map}
use Prim.Native.Nat.{ℕ, ◌+◌, ◌*◌, ◌%◌, ◌^◌, ◌<◌}
use lib.ListN.{length, get_or, set, length-append}
use lib.Bits.{bit_or}
use Rattle.std.specs.Int.{from_bool}
use mathlib.Core.Bool.{Bool, true, false}
use native.Mathlib.Omega.{arith}
use Rattle.tables.specs.declared.Entry.{Entry}
use Rattle.semantics.specs.Files.{Table, has_bit}
use Rattle.semantics.specs.Shapes.{no_table}
use Rattle.words.specs.Arrays.{padded}
use Rattle.words.proofs.Arrays.{padded_field, padded-map}
use Rattle.tables.specs.declared.Catalog.{Catalog}
use Rattle.theory.specs.Elements.{one_if, Each}
use Rattle.theory.specs.Rules.{Fitting}
use Rattle.tables.specs.Copies.{counts_of, counted_bits, copies_start}
use Rattle.tables.specs.Catalogs.{catalog_of, entry_of, counts_at, CopiesAhead}
use Rattle.tables.proofs.CountedBits.{bits_more, bits_at, start_by, before_each}

pub catalog-count : (ts : List Table) → (catalog_of ts).count ≡ length ts
unfolding catalog_of
catalog-count ts = refl

-- the catalog c with a table at the first free places; b is 1 where it has copies, else 0
abbrev pub with_entry : Catalog → Entry → ℕ → Catalog
with_entry c e b =
    record {
      count = c.count + 1;
      masks = set c.masks c.count e.mask;
      rows = set c.rows c.count e.rows;
      starts = set c.starts c.count e.start;
      counted = bit_or c.counted ((b * 2 ^ c.count) % 18446744073709551616);
    }

one_more : (ts : List Table) (t : Table) (size : ℕ) → length ts < 16 → with_entry (catalog_of ts) (entry_of t size) (one_if t.counted) ≡ catalog_of (ts ++ (t ∷ []))
unfolding catalog_of
one_more ts t size h =
    let n : length ts + 1 ≡ length (ts ++ (t ∷ [])) = simp length-append in
    λ i. record {
      count = n i;
      masks = padded_field (λ t. t.mask) ts t h i;
      rows = padded_field (λ t. t.rows) ts t h i;
      starts = padded_field (λ t. t.start) ts t h i;
      counted = bits_more ts t h i;
    }

pub catalog_more : (c : Catalog) (e : Entry) (b : ℕ) → c.count < 16 → b ≡ from_bool e.counted → (ts : List Table) (t : Table) → c ≡ catalog_of ts → e ≡ entry_of t e.size → with_entry c e b ≡ catalog_of (ts ++ (t ∷ []))
catalog_more c e b room number ts t is entry =
    let few : length ts < 16 = omega (arith, ap (λ c. c.count) is ∙ catalog-count ts) in
    let one : b ≡ one_if t.counted = number ∙ ap (λ e. from_bool e.counted) entry ∙ as_number t.counted in
    ap₂ (λ c e. with_entry c e b) is entry ∙ ap (with_entry (catalog_of ts) (entry_of t e.size)) one ∙ one_more ts t e.size few
  where
    as_number : (b : Bool) → from_bool b ≡ one_if b
    as_number true = refl
    as_number false = refl

-- ---- what the arrays hold of table number i
module _ (ts : List Table) (i : ℕ) where
  pub mask_at : get_or (padded (map (λ t. t.mask) ts)) i 0 ≡ (get_or ts i no_table).mask
  mask_at = padded-map (λ t. t.mask) ts i no_table refl

  pub rows_at : get_or (padded (map (λ t. t.rows) ts)) i 0 ≡ (get_or ts i no_table).rows
  rows_at = padded-map (λ t. t.rows) ts i no_table refl

  pub start_at : get_or (padded (map (λ t. t.start) ts)) i 0 ≡ (get_or ts i no_table).start
  start_at = padded-map (λ t. t.start) ts i no_table refl

  pub counted_at : has_bit (counted_bits ts) i ≡ (get_or ts i no_table).counted
  counted_at = bits_at ts i

-- ---- where the copies of table number i stand
pub counts_at_lem : (ts : List Table) (i : ℕ) → counts_at (catalog_of ts) i ≡ counts_of (get_or ts i no_table)
unfolding catalog_of
counts_at_lem ts i = ap₂ (copies_start (counted_bits ts) i) (start_at ts i) (rows_at ts i) ∙ start_by (counted_bits ts) i (get_or ts i no_table) (counted_at ts i)

pub ahead_at : (n : ℕ) (ts : List Table) → Each (Fitting n) ts → (i : ℕ) → CopiesAhead (catalog_of ts) i
unfolding catalog_of
ahead_at n ts f i e = rw (start_at ts i, rows_at ts i) (before_each n ts f i (sym (counted_at ts i) ∙ e))
