-- Number, family and detail of a fault.
use Rattle.std.specs.Prelude.{Bool, ◌≡◌}
use Rattle.reference.specs.Setting.{Setting}
use Rattle.validation.specs.Result.{own_family}
use Rattle.value_checks.specs.Verdicts.{number_of, detail_of}
use Rattle.value_checks.specs.declared.verdict.Fault.{Fault}
use Rattle.single_check.specs.declared.finding.Finding.{Finding}

pub record FindingIs (is_rule_kind : Bool) (fault : Fault) (r : Finding) : Type 0 where
  pub number : r.number ≡ number_of fault
  pub family : (setting : Setting) → is_rule_kind ≡ setting.is_rule_kind → r.family ≡ own_family setting (number_of fault)
  pub detail : r.detail ≡ detail_of fault
