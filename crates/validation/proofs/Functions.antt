-- The promises about two calls, applied to calls of two functions: a rule that is checked by one which takes rules alone, and then by one that takes any
-- rule sheet. A premise that both are of one function would break these instances.
use Prim.Native.Nat.{ℕ, ◌+◌}
use native.Mathlib.Omega.{arith}
use mathlib.Core.List.{List, []}
use mathlib.Core.Option.{none}
use mathlib.Core.Path.{◌≡◌, refl}
use Rattle.text.specs.Ascii.{ascii}
use Rattle.definition.specs.Tree.{number, rule, two}
use Rattle.widening.specs.Widening.{marks, listed, kept, opened, wider, neither, end, keep, without}
use Rattle.validation.specs.Result.{Takes, any, rules, takes_any, Call}
use Rattle.validation.specs.Growth.{Widens, against}
use Rattle.validation.proofs.Demands.{Demand3, demand-3}
use Rattle.validation.proofs.Upgrade.{upgrade, marks-decided}
use Rattle.validation.specs.Service.{literals_in}
use Rattle.validation.proofs.KernelToService.{kernel-to-service, accepted-taken}
use Rattle.validation.proofs.Calls.{ask, heard}
use Rattle.validation.proofs.Runs.{exact_run, run-meets, run-unrefused}
use Rattle.validation.proofs.Edges.{empty}
use Rattle.validation.proofs.Moves.{nines}
use Rattle.validation.proofs.Widened.{roomy}

-- the same call of a function that takes these rule sheets
unfoldable asked_by : Takes → Call → Call
asked_by takes c =
    record {
      asked =
          record {
            takes = takes;
            kind = c.asked.kind;
            semantics = c.asked.semantics;
            label = c.asked.label;
            rule = c.asked.rule;
          };
      table = c.table;
      schema = c.schema;
      lent = c.lent;
    }

unfoldable closed_sheet : List ℕ
closed_sheet = ascii "H,0,1,-,0\nF,7,0,0,0,1,-,o\n"

unfoldable open_sheet : List ℕ
open_sheet = ascii "H,0,1,-,0\nF,7,1,0,0,1,-,o\n"

unfoldable first : Call
first = asked_by rules (ask 1 2 closed_sheet (ascii "R,-,-,\nC,5,0,\nV,5,11,$fields.o.x\n"))

unfoldable second : Call
second = asked_by any (against first [] open_sheet roomy)

widens : Widens marks closed_sheet open_sheet
unfolding heard closed_sheet open_sheet
widens =
    record {
      first = _;
      second = _;
      decodes_first = refl;
      decodes_second = refl;
      is_wider = record { fields = record { mark = kept; members = keep (wider (opened (listed refl)) neither end) end }; arguments = without };
    }

two-functions : Demand3 marks (exact_run first) (exact_run second)
unfolding heard exact_run asked_by first second closed_sheet open_sheet roomy
two-functions =
    demand-3 (exact_run first) (exact_run second) (run-meets first) (run-meets second)
    (record { kind = refl; semantics = refl; label = refl; rule = refl; table = refl })
    widens
    (run-unrefused first refl)
    (run-unrefused second refl)

two-functions-decided : Demand3 marks (exact_run first) (exact_run second)
unfolding heard exact_run asked_by first second closed_sheet open_sheet roomy
two-functions-decided =
    upgrade (exact_run first) (exact_run second) (run-meets first) (run-meets second)
    (record { kind = refl; semantics = refl; label = refl; rule = refl; table = refl })
    takes_any
    (marks-decided closed_sheet open_sheet widens)
    (run-unrefused first refl)
    refl

unfoldable under-kernel : Call
under-kernel = asked_by rules (ask 1 1 empty nines)

unfoldable under-service : Call
under-service = asked_by any (ask 1 2 empty nines)

two-functions-move : ((exact_run under-service).result.number ≡ 0) × ((exact_run under-service).result.passed ≡ (exact_run under-kernel).result.passed + 2)
unfolding heard empty nines exact_run asked_by under-kernel under-service literals_in
two-functions-move =
    kernel-to-service (exact_run under-kernel) (exact_run under-service) (rule none none (two 2 8 (number 3 (ascii "9")) (number 4 (ascii "9"))))
    (run-meets under-kernel)
    (run-meets under-service)
    (record { kind = refl; label = refl; rule = refl; schema = refl; table = refl })
    refl (omega arith) (omega arith) refl
    (accepted-taken (exact_run under-kernel) (exact_run under-service) (rule none none (two 2 8 (number 3 (ascii "9")) (number 4 (ascii "9")))) (run-meets under-kernel) takes_any refl refl)
    (refl, (refl, tt))
    refl refl
