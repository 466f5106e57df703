-- The tables that have a column of copies, as a set of bits: one table more, the bit of a table, and the offset by it.
use mathlib.Core.Path.{◌≡◌, refl, sym, ap, ◌∙◌}
use mathlib.Core.Bool.{Bool, true, false}
use mathlib.Core.List.{List, [], ◌∷◌, ◌++◌}
use Prim.Native.Nat.{ℕ, zero, suc, ◌+◌, ◌-◌, ◌*◌, ◌/◌, ◌%◌, ◌^◌, ◌≤◌, ◌<◌}
use native.Mathlib.Nat.{add_comm, mul_comm, mul_assoc, pow-suc, div-one, div-div-eq-div-mul}
use native.Mathlib.Omega.{arith}
use lib.ListN.{length, get_or}
use lib.Dec.{eqb, lit<}
use borrow.Author.Tests.{eq-eqb, ne_eqb}
use lib.Pow.{shl_exact}
use lib.Bits.{bit_or}
use Rattle.std.proofs.lemmas.Nat.{or_comm, or_shifted}
use Rattle.semantics.specs.Files.{Table, bit, has_bit, copy_bytes, copy_start}
use Rattle.semantics.specs.Shapes.{no_table}
use Rattle.theory.specs.Elements.{Each, one_if}
use Rattle.theory.specs.Rules.{Fitting}
use Rattle.theory.proofs.Cases.{cases}
use Rattle.words.proofs.Masks.{no-attribute}
use Rattle.tables.specs.Copies.{counted_bits, copies_start, counts_of}

-- ---- one table more
one-low : (b : Bool) → one_if b < 2
one-low true = lit< tt
one-low false = lit< tt

bits-add : (ts : List Table) (t : Table) → counted_bits ts + one_if t.counted * 2 ^ length ts ≡ counted_bits (ts ++ (t ∷ []))
bits-add [] t = omega arith
bits-add (u ∷ ts) t = omega (arith, bits-add ts t, twice (one_if t.counted) (length ts))
  where
    twice : (x n : ℕ) → x * 2 ^ suc n ≡ 2 * (x * 2 ^ n)
    twice x n = ap (λ p. x * p) (pow-suc 2 n) ∙ sym (mul_assoc x (2 ^ n) 2) ∙ mul_comm (x * 2 ^ n) 2

bits-low : (ts : List Table) → counted_bits ts < 2 ^ length ts
bits-low [] = lit< tt
bits-low (t ∷ ts) = omega (arith, bits-low ts, one-low t.counted, pow-suc 2 (length ts))

-- as the code sets it
pub bits_more : (ts : List Table) (t : Table) → length ts < 16 → bit_or (counted_bits ts) ((one_if t.counted * 2 ^ length ts) % 18446744073709551616) ≡ counted_bits (ts ++ (t ∷ []))
bits_more ts t h =
    ap (bit_or (counted_bits ts)) (shl_exact {a = one_if t.counted} 1 (length ts) 64 (one-low t.counted) (omega arith))
    ∙ or_comm (counted_bits ts) (one_if t.counted * 2 ^ length ts)
    ∙ or_shifted (one_if t.counted) (length ts) (counted_bits ts) (bits-low ts)
    ∙ add_comm (one_if t.counted * 2 ^ length ts) (counted_bits ts)
    ∙ bits-add ts t

-- ---- the bit of table t
bit_first : (b : Bool) (m : ℕ) → has_bit (one_if b + 2 * m) 0 ≡ b
unfolding has_bit bit
bit_first true m = let e : (1 + 2 * m) / 1 % 2 ≡ 1 = omega (arith, div-one (1 + 2 * m)) in ap (λ n. eqb n 1) e
bit_first false m = let e : (0 + 2 * m) / 1 % 2 ≡ 0 = omega (arith, div-one (0 + 2 * m)) in ap (λ n. eqb n 1) e

bit_rest : (b : Bool) (m i : ℕ) → has_bit (one_if b + 2 * m) (suc i) ≡ has_bit m i
unfolding has_bit bit
bit_rest b m i =
    let half : (one_if b + 2 * m) / 2 ≡ m = omega (arith, one-low b) in
    ap (λ n. eqb (n % 2) 1) (up (one_if b + 2 * m) ∙ ap (λ n. n / 2 ^ i) half)
  where
    up : (u : ℕ) → u / 2 ^ suc i ≡ u / 2 / 2 ^ i
    up u = rw (div-div-eq-div-mul u 2 (2 ^ i), pow-suc 2 i, mul_comm 2 (2 ^ i))

pub bits_at : (ts : List Table) (i : ℕ) → has_bit (counted_bits ts) i ≡ (get_or ts i no_table).counted
bits_at [] i = no-attribute i
bits_at (t ∷ ts) zero = bit_first t.counted (counted_bits ts)
bits_at (t ∷ ts) (suc i) = bit_rest t.counted (counted_bits ts) i ∙ bits_at ts i

-- as the code tests it
pub bit-set : (c t : ℕ) → c / 2 ^ t % 2 ≡ 1 → has_bit c t ≡ true
unfolding has_bit bit
bit-set c t e = eq-eqb (c / 2 ^ t % 2) 1 e

pub bit_clear : (c t : ℕ) → (c / 2 ^ t % 2 ≡ 1 → ⊥) → has_bit c t ≡ false
unfolding has_bit bit
bit_clear c t e = ne_eqb (c / 2 ^ t % 2) 1 e

-- ---- the offset by a set whose bit t is that of the table
pub start_none : (c t start rows : ℕ) → has_bit c t ≡ false → 0 ≡ copies_start c t start rows
unfolding copies_start
start_none c t start rows e = rw (e, copies_start)

pub start_some : (c t start rows : ℕ) → has_bit c t ≡ true → start - 4 * rows ≡ copies_start c t start rows
unfolding copies_start
start_some c t start rows e = rw (e, copies_start)

own-start : (u : Table) → u.counted ≡ true → u.start - 4 * u.rows ≡ copy_start u
unfolding copy_start copy_bytes
own-start u f = ap (λ b. u.start - copy_bytes b u.rows) (sym f)

pub start_by : (c t : ℕ) (u : Table) → has_bit c t ≡ u.counted → copies_start c t u.start u.rows ≡ counts_of u
unfolding counts_of
start_by c t u e = cases u.counted (λ f. sym (start_some c t u.start u.rows (e ∙ f)) ∙ rw (f, counts_of) (own-start u f)) (λ f. sym (start_none c t u.start u.rows (e ∙ f)) ∙ rw (f, counts_of))

-- the column of copies of a table that fits stands before its attribute columns
before_of : {n : ℕ} (u : Table) → Fitting n u → u.counted ≡ true → 4 * u.rows ≤ u.start
before_of u f e = let b : copy_bytes u.counted u.rows ≡ 4 * u.rows = ap (λ b. copy_bytes b u.rows) e ∙ bytes u.rows in omega (arith, b, f.behind)
  where
    bytes : (rows : ℕ) → copy_bytes true rows ≡ 4 * rows
    bytes rows = unfold copy_bytes in refl

pub before_each : (n : ℕ) (ts : List Table) → Each (Fitting n) ts → (i : ℕ) → (get_or ts i no_table).counted ≡ true → 4 * (get_or ts i no_table).rows ≤ (get_or ts i no_table).start
before_each n [] f i e = omega arith
before_each n (u ∷ ts) f zero e = before_of u f.0 e
before_each n (u ∷ ts) f (suc i) e = before_each n ts f.1 i e
