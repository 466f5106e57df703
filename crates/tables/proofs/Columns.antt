-- The columns of a table that fits a file lie inside the file.
use mathlib.Core.Path.{◌≡◌}
use mathlib.Core.Bool.{true}
use Prim.Native.Nat.{ℕ, zero, suc, ◌+◌, ◌*◌, ◌-◌, ◌≤◌, ◌<◌}
use native.Mathlib.Nat.{mul-le-mul, le_refl, add-zero, add-mul, one-mul}
use native.Mathlib.Omega.{arith}
use Rattle.semantics.specs.Lists.{sum, from, up_to}
use Rattle.semantics.specs.Files.{Table, table_with, bit, has_bit, ones_below, arity, column_bytes, column_start}
use Rattle.theory.specs.Rules.{Fitting}
use Rattle.theory.proofs.Numbers.{sum_last}
use Rattle.words.proofs.Masks.{bit_one}
use Rattle.tables.proofs.TableRecords.{values_few}

sum_longer : (f : ℕ → ℕ) (n k : ℕ) → sum f (from 0 n) ≤ sum f (from 0 (n + k))
sum_longer f n zero = rw (add-zero n) (le_refl _)
sum_longer f n (suc k) = let e : n + suc k ≡ suc (n + k) = omega arith in rw e (omega (arith, sum_longer f n k, sum_last f (n + k)))

ones_few : (m a : ℕ) → a ≤ 32 → ones_below m a ≤ arity m
unfolding arity ones_below up_to
ones_few m a h = let e : a + (32 - a) ≡ 32 = omega arith in rw e at (sum_longer (bit m) a (32 - a))

-- the k columns before a column
pub column-inside : (size m n start a k : ℕ) → (a < 32) × Fitting size (table_with m n start) → k ≡ ones_below m a → start + 4 * (k * n) ≤ size
unfolding column_bytes
column-inside size m n start a k (h, f) e =
    let fewer : k ≤ arity m = omega (arith, ones_few m a (omega arith)) in
    let shorter : k * n ≤ arity m * n = mul-le-mul {n₁ = k} {m₁ = n} {n₂ = arity m} {m₂ = n} fewer (le_refl n) in
    omega (arith, f.inside)

-- the values before a column are no more than a table's
pub values_before : (size m n start a k : ℕ) → (a < 32) × Fitting size (table_with m n start) → k ≡ ones_below m a → k * n ≤ 32768
values_before size m n start a k (h, f) e =
    let fewer : k ≤ 8 = omega (arith, ones_few m a (omega arith), f.few) in
    values_few k n fewer f.low

pub column-place : (m n start a k : ℕ) → k ≡ ones_below m a → start + 4 * (k * n) ≡ column_start (table_with m n start) a
unfolding column_start
column-place m n start a k e = rw e

-- ---- the column of an attribute that the table has
ones_more : (m a : ℕ) → a < 32 → has_bit m a ≡ true → ones_below m a + 1 ≤ arity m
ones_more m a h b =
    let s : ones_below m (suc a) ≡ ones_below m a + bit m a = unfold ones_below up_to in sum_last (bit m) a in
    omega (arith, ones_few m (suc a) (omega arith), s, bit_one m a b)

pub column_fits : (size : ℕ) (t : Table) (a : ℕ) → Fitting size t → a < 32 → has_bit t.mask a ≡ true → column_start t a + 4 * t.rows ≤ size
unfolding column_start column_bytes
column_fits size t a f h b =
    let q : (ones_below t.mask a + 1) * t.rows ≤ arity t.mask * t.rows = mul-le-mul (ones_more t.mask a h b) (le_refl t.rows) in
    omega (arith, f.inside, q, add-mul (ones_below t.mask a) 1 t.rows, one-mul t.rows)
