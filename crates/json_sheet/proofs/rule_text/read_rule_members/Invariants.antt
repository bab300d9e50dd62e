-- `json_sheet::rule_text::read_rule_members` meets its contract.
use Prim.Native.Nat.{◌-◌}
use mathlib.Core.Path.{◌≡◌}
use lib.ListN.{length}
use Rattle.json_sheet.proofs.RuleMembers.{Gathering}
use Rattle.json_sheet.proofs.rule_text.read_rule_members.Given as goal

abbrev pub invariant-loop-member : goal.invariant-loop-member
invariant-loop-member l = Gathering l.s l.initial.i l.i l.initial.out l.out l.seen l.first l.second × (length l.out ≡ length l.initial.out)

abbrev pub decreases-loop-member : goal.decreases-loop-member
decreases-loop-member l = length l.s - l.i
