-- The two words of a number, and the number that two words have.
use Prim.Native.Nat.{ℕ, ◌*◌, ◌/◌, ◌%◌, ◌≤◌}
use mathlib.Core.Path.{◌≡◌, ap, ap₂, sym, ◌∙◌}
use native.Mathlib.Omega.{arith}
use Rattle.semantics.specs.Totals.{held}
use Rattle.theory.proofs.Held.{held_exact}
use Rattle.words.specs.WordPairs.{two_words}

pub words_of : (x : ℕ) → two_words (x % 4294967296) (x / 4294967296) ≡ x
unfolding two_words
words_of x = omega arith

-- the number of a lower word alone
pub lower_alone : (x : ℕ) → two_words x 0 ≡ x
unfolding two_words
lower_alone x = omega arith

-- the number of the two words of x, as the code has them
pub words_are : {x l u : ℕ} → l ≡ x % 4294967296 → u ≡ x / 4294967296 → two_words l u ≡ x
words_are {x} e f = ap₂ two_words e f ∙ words_of x

-- a product of 32 bits in two words is held as it is: the upper words u and v of the factors are 0, and w is the lower one of b
pub pair_small : (l u b : ℕ) {v w r : ℕ} → u ≡ 0 → v ≡ b / 4294967296 → v ≡ 0 → w ≡ b % 4294967296 → r ≡ l * w → r ≤ 4294836225 → two_words r 0 ≡ held (two_words l u * b)
pair_small l u b {w = w} {r = r} eu ev ez ew e h =
    let la : l ≡ two_words l u = sym (ap (two_words l) eu ∙ lower_alone l) in
    let lb : w ≡ b = omega (arith, ew, ev, ez) in
    lower_alone r ∙ sym (held_exact r (omega (arith, h))) ∙ ap held (e ∙ ap₂ (λ x y. x * y) la lb)
