-- From kernel/1 to service, by computation: pairs of calls to which the theorem applies, and that neither its converse holds nor one of its
-- premises can be left out.
use Prim.Native.Nat.{ℕ, ◌+◌}
use native.Mathlib.Omega.{arith}
use mathlib.Core.List.{List}
use mathlib.Core.Option.{none}
use mathlib.Core.Path.{◌≡◌, refl}
use Rattle.text.specs.Ascii.{ascii}
use Rattle.definition.specs.Tree.{number, rule, two}
use Rattle.validation.specs.Result.{Call}
use Rattle.validation.specs.Service.{literals_in}
use Rattle.validation.proofs.KernelToService.{kernel-to-service}
use Rattle.validation.proofs.Calls.{ask, heard, accepts, finds}
use Rattle.validation.proofs.Runs.{exact_run, run-meets}
use Rattle.validation.proofs.Edges.{empty, bars}

-- 9 equals 9
unfoldable pub nines : List ℕ
nines = ascii "R,-,-,\nC,8,0,\nV,4,1,9\nV,4,1,9\n"

-- a number that is not finite is looked at by the service semantics alone
unfoldable pub large : List ℕ
large = ascii "R,-,-,\nC,8,0,\nV,4,5,1e309\nV,4,1,9\n"

-- in a template it never is
unfoldable pub large_template : List ℕ
large_template = ascii "T\nV,6,2,\nV,5,3,$id\nV,4,5,1e309\n"

-- whether a list has a count
unfoldable pub counted : List ℕ
counted = ascii "R,-,-,\nC,5,0,\nV,5,18,$fields.bars.count\n"

pub record Moves : Type 0 where
  -- accepted under all four, and each number is one check more under service
  pub rule-kernel : heard (ask 1 1 empty nines) ≡ accepts 4
  pub rule-service-1 : heard (ask 1 2 empty nines) ≡ accepts 6
  pub rule-service-2 : heard (ask 1 3 empty nines) ≡ accepts 6
  pub rule-service-3 : heard (ask 1 4 empty nines) ≡ accepts 6
  pub template-kernel : heard (ask 3 1 empty large_template) ≡ accepts 1
  pub template-service : heard (ask 3 4 empty large_template) ≡ accepts 1
  -- not the other way round: a list has its count under service alone
  pub count-service : heard (ask 1 2 bars counted) ≡ accepts 5
  pub count-kernel : heard (ask 1 1 bars counted) ≡ finds 18 1 10 3 0 4 15 (ascii "r.assert.exists")
  -- and not without finite numbers
  pub large-kernel : heard (ask 1 1 empty large) ≡ accepts 4
  pub large-service : heard (ask 1 2 empty large) ≡ finds 14 1 0 3 0 3 14 (ascii "r.assert.eq[0]")

pub moves : Moves
unfolding heard empty bars nines large large_template counted
moves =
    record {
      rule-kernel = refl;
      rule-service-1 = refl;
      rule-service-2 = refl;
      rule-service-3 = refl;
      template-kernel = refl;
      template-service = refl;
      count-service = refl;
      count-kernel = refl;
      large-kernel = refl;
      large-service = refl;
    }

-- the theorem itself, on the first pair
unfoldable before : Call
before = ask 1 1 empty nines

unfoldable after : Call
after = ask 1 2 empty nines

nines-move : ((exact_run after).result.number ≡ 0) × ((exact_run after).result.passed ≡ (exact_run before).result.passed + 2)
unfolding heard empty nines exact_run before after literals_in
nines-move =
    kernel-to-service (exact_run before) (exact_run after) (rule none none (two 2 8 (number 3 (ascii "9")) (number 4 (ascii "9"))))
    (run-meets before)
    (run-meets after)
    (record { kind = refl; label = refl; rule = refl; schema = refl; table = refl })
    refl (omega arith) (omega arith) refl refl
    (refl, (refl, tt))
    refl refl
