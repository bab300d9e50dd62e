-- What the code answers, beside what a verdict shows of its check.
use Rattle.std.specs.Prelude.{ℕ, ◌+◌, ◌≤◌, Bool, true, false, List, [], ◌∷◌, ◌≡◌, Option as Optional, Some, None, Result, Ok, Err}
use Rattle.std.proofs.Math.Option.{Option, none, some}
use Rattle.walk.specs.Answers.{reference_detail, collection_detail}
use Rattle.validation.specs.Check.{Check}
use Rattle.validation.specs.Judge.{Failure, failure, CheckOutcome, judge_from}
use Rattle.validation.specs.Result.{over_of}
use Rattle.value_checks.specs.Shown.{Shown, passes, fails, shown_of, go_on}
use Rattle.value_checks.specs.declared.verdict.Side.{Side}
use Rattle.value_checks.specs.declared.verdict.Side.TheVariants.{Left, Right}
use Rattle.value_checks.specs.declared.verdict.InstantFault.{InstantFault}
use Rattle.value_checks.specs.declared.verdict.InstantFault.TheVariants.{Escaped, Unreadable}
use Rattle.value_checks.specs.declared.verdict.Fault.{Fault}
use Rattle.value_checks.specs.declared.verdict.Fault.TheVariants.{Name, Message, Deep, Literal, Operator, Empty, Operand, Reference, Affix, Instant, Bind, Collection}
use Rattle.value_checks.specs.declared.verdict.Progress.{Progress}

unfoldable pub number_of : Fault → ℕ
number_of Name = 11
number_of Message = 12
number_of Deep = 13
number_of Literal = 14
number_of Operator = 15
number_of Empty = 16
number_of (Operand side) = 17
number_of (Reference fault at) = 18
number_of Affix = 19
number_of (Instant fault) = 20
number_of Bind = 21
number_of (Collection fault at) = 22

-- the details of number 17
unfoldable pub side_detail : Side → ℕ
side_detail Left = 1
side_detail Right = 2

-- the details of number 20
unfoldable pub instant_detail : InstantFault → ℕ
instant_detail Escaped = 1
instant_detail Unreadable = 2

unfoldable pub detail_of : Fault → ℕ
detail_of Name = 0
detail_of Message = 0
detail_of Deep = 0
detail_of Literal = 0
detail_of Operator = 0
detail_of Empty = 0
detail_of (Operand side) = side_detail side
detail_of (Reference fault at) = reference_detail fault
detail_of Affix = 0
detail_of (Instant fault) = instant_detail fault
detail_of Bind = 0
detail_of (Collection fault at) = collection_detail fault

-- the entry of the field that refused
unfoldable pub refused_at : Fault → ℕ
refused_at Name = 0
refused_at Message = 0
refused_at Deep = 0
refused_at Literal = 0
refused_at Operator = 0
refused_at Empty = 0
refused_at (Operand side) = 0
refused_at (Reference fault at) = at
refused_at Affix = 0
refused_at (Instant fault) = 0
refused_at Bind = 0
refused_at (Collection fault at) = at

unfoldable pub failure_of : Fault → Failure
unfolding detail_of refused_at
failure_of fault = failure (detail_of fault) (refused_at fault)

unfoldable pub over_by : Optional ℕ → Option ℕ
over_by None = none
over_by (Some e) = some e

unfoldable pub shown_with : ℕ → Result Unit (Fault × ℕ × Optional ℕ) → Shown
shown_with n (Ok tt) = passes n
shown_with n (Err (f, place, over)) = fails n (number_of f) place (over_by over) (failure_of f)

unfoldable pub shown_by : Progress → Shown
shown_by a = shown_with a.passed a.verdict

-- no check has failed, and `n` have passed
abbrev pub going : ℕ → Progress
going n = record { passed = n; verdict = Ok tt }

-- `r` goes on from `a`: with the checks, where all passed so far
pub record GoesOn (ask : Check → CheckOutcome) (a : Progress) (checks : List Check) (r : Progress) : Type 0 where
  pub shows : shown_by r ≡ go_on (shown_by a) (λ n. shown_of (judge_from ask n checks))

-- so many checks more cannot make the count too large
pub record HasRoom (a : Progress) (more : ℕ) : Type 0 where
  pub fits : a.passed + more ≤ 65536

-- what fails with that fault, at that place
pub record FailsWith (c : Check) (fault : Fault) (place : ℕ) (over : Optional ℕ) : Type 0 where
  pub numbered : c.number ≡ number_of fault
  pub placed : c.place ≡ place
  pub held : over_of c.binders ≡ over_by over

-- one check more, which passes
pub record PassedOn (a r : Progress) : Type 0 where
  pub at_most : r.passed ≤ a.passed + 1
  pub goes : (ask : Check → CheckOutcome) (c : Check) → ask c ≡ none → GoesOn ask a (c ∷ []) r

-- one check more, which fails: nothing is asked after it
pub record Failed (a : Progress) (fault : Fault) (place : ℕ) (over : Optional ℕ) (r : Progress) : Type 0 where
  pub same : r.passed ≡ a.passed
  pub goes : (ask : Check → CheckOutcome) (c : Check) (checks : List Check)
      → FailsWith c fault place over
      → ask c ≡ some (failure_of fault)
      → GoesOn ask a (c ∷ checks) r

unfoldable pub failed : Bool → Failure → CheckOutcome
failed true why = some why
failed false why = none

pub record Required (a : Progress) (wrong : Bool) (fault : Fault) (place : ℕ) (over : Optional ℕ) (r : Progress) : Type 0 where
  pub at_most : r.passed ≤ a.passed + 1
  pub goes : (ask : Check → CheckOutcome) (c : Check)
      → FailsWith c fault place over
      → ask c ≡ failed wrong (failure_of fault)
      → GoesOn ask a (c ∷ []) r
