-- The numbers of the reasons, and the refusal that has a number and a detail.
use Rattle.std.specs.Prelude.{ℕ, eqb, cond, Result, Ok, Err}
use Rattle.std.proofs.Math.Option.{Option as Maybe, none, some}
use Rattle.refusals.specs.declared.Reason.{Reason}
use Rattle.refusals.specs.declared.Reason.TheVariants as reason
use Rattle.refusals.specs.declared.Refusal.{Refusal}

-- the number by which the documents know a reason
abbrev pub number_of : Reason → ℕ
number_of reason.CutOff = 1
number_of reason.NoRecord = 2
number_of reason.AttributeCount = 3
number_of reason.TooManyRows = 4
number_of reason.TooManyTables = 5
number_of reason.BehindPlan = 6
number_of reason.NotAPlan = 7
number_of reason.NotNamedOnce = 8
number_of reason.NoHolder = 9
number_of reason.ScratchShort = 10
number_of reason.OutputShort = 11
number_of reason.InputLong = 13
number_of reason.NoPlanFound = 14
number_of reason.TooManyChoices = 15
number_of reason.NoSuchResult = 16
number_of reason.NotAResult = 17
number_of reason.RowShort = 18
number_of reason.CopiesRange = 19

-- the reason with a number; `CutOff` for a number that no other reason has
abbrev pub reason_of : ℕ → Reason
reason_of n =
    cond (eqb n 2) reason.NoRecord (
    cond (eqb n 3) reason.AttributeCount (
    cond (eqb n 4) reason.TooManyRows (
    cond (eqb n 5) reason.TooManyTables (
    cond (eqb n 6) reason.BehindPlan (
    cond (eqb n 7) reason.NotAPlan (
    cond (eqb n 8) reason.NotNamedOnce (
    cond (eqb n 9) reason.NoHolder (
    cond (eqb n 10) reason.ScratchShort (
    cond (eqb n 11) reason.OutputShort (
    cond (eqb n 13) reason.InputLong (
    cond (eqb n 14) reason.NoPlanFound (
    cond (eqb n 15) reason.TooManyChoices (
    cond (eqb n 16) reason.NoSuchResult (
    cond (eqb n 17) reason.NotAResult (
    cond (eqb n 18) reason.RowShort (
    cond (eqb n 19) reason.CopiesRange (
    reason.CutOff)))))))))))))))))

-- the refusal of that number, with that detail
abbrev pub refusal_of : ℕ → ℕ → Refusal
refusal_of n d = record { reason = reason_of n; detail = d }

-- the refusal of that number with the detail that is found, where one is
abbrev pub refused_at : ℕ → Maybe ℕ → Result (Unit {0}) Refusal
refused_at n none = Ok tt
refused_at n (some i) = Err (refusal_of n i)
