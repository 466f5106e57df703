-- What the naming check keeps while it goes through the bytes.
use Rattle.std.specs.Prelude.{◌≡◌, Bool, false, List, [], ℕ, ◌<◌, ◌≤◌, length, drop, get_or, eqb}
use Rattle.semantics.specs.Lists.{any}
use Rattle.semantics.specs.Plans.{misnamed}

-- before index i, with n tables: which are named, and how many
pub record NamedBefore (n : ℕ) (code : List ℕ) (named : List Bool) (count i : ℕ) : Type 0 where
  pub within : i ≤ length code
  pub seen : List ℕ
  pub counted : count ≡ length seen
  pub few : count ≤ i
  pub flags : (t : ℕ) → t < 16 → get_or named t false ≡ any (eqb t) seen
  pub size : length named ≡ 16
  pub ahead : misnamed n [] 0 code ≡ misnamed n seen i (drop i code)
