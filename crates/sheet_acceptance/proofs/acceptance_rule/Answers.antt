use Rattle.std.specs.Prelude.{ℕ, List, Bool, true, false, Option, Some, None, ◌≡◌, is_some}
use mathlib.Core.Path.{sym, ◌∙◌}
use Rattle.std.proofs.lemmas.Bool.{false≢true}
use Rattle.definition.specs.Decode.{decode_rule}
use Rattle.rule.specs.declared.RuleSheet.{RuleSheet}
use Rattle.rule.specs.Rule.{RuleAnswer}
use Rattle.sheet_acceptance.specs.Accepted.{accepted}
use Rattle.sheet_acceptance.proofs.acceptance_rule.Goals as goal

module _ (sheet before after : List ℕ) {b : Bool} where
  found : (r : Option RuleSheet) → RuleAnswer sheet before after r → b ≡ is_some r → b ≡ true → 1 ≡ accepted (decode_rule sheet)
  found (Some x) a e t = rw a.reads
  found None a e t = absurd (false≢true (sym e ∙ t))

  refused : (r : Option RuleSheet) → RuleAnswer sheet before after r → b ≡ is_some r → b ≡ false → 0 ≡ accepted (decode_rule sheet)
  refused (Some x) a e t = absurd (false≢true (sym t ∙ e))
  refused None a e t = rw a.0

pub returns-then-is_some : goal.returns-then-is_some
returns-then-is_some c = found c.args.sheet.now _ c.read_rule-rule.new.scratch c.read_rule-rule.result c.read_rule-rule.ensures c.is_some.ensures c.if-is_some.true

pub returns-else-is_some : goal.returns-else-is_some
returns-else-is_some c = refused c.args.sheet.now _ c.read_rule-rule.new.scratch c.read_rule-rule.result c.read_rule-rule.ensures c.is_some.ensures c.if-is_some.false
