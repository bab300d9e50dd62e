-- What a check is set to, and what is refused before a sheet is read.
use Rattle.std.specs.Prelude.{ℕ, List, ◌≡◌, Result, Ok, Err}
use Rattle.std.proofs.Math.Option.{none, some}
use Rattle.reference.specs.Setting as Reference
use Rattle.reference.specs.Setting.{setting_with}
use Rattle.reference.specs.Table.{table_in, setting_under, or_stock}
use Rattle.scope.specs.Names.{may_read_by}
use Rattle.scope.specs.declared.name.Row.{Row}
use Rattle.validation.specs.Result.{Takes, Asked, Widths, Call, of_table, of_settings, first_refusal, number_in}
use Rattle.single_check.specs.declared.settings.Setting.{Setting}

-- the code's setting as one of the definitions; rules and templates are the kernel's
abbrev pub setting_by : Setting → Reference.Setting
setting_by s = record { may_read = may_read_by s.row; reader = Reference.kernel; is_rule_kind = s.rule_kind; is_service = s.service }

-- under a row of the code
abbrev pub setting_in : Row → (kind semantics : ℕ) → Reference.Setting
setting_in row kind semantics = setting_with (may_read_by row) kind semantics

abbrev pub asked_by : (takes : Takes) (kind semantics : ℕ) (label rule : List ℕ) → Asked
asked_by takes kind semantics label rule = record { takes = takes; kind = kind; semantics = semantics; label = label; rule = rule }

abbrev pub widths_by : (path scratch : ℕ) → Widths
widths_by path scratch = record { path = path; scratch = scratch }

abbrev pub call_by : (takes : Takes) (kind semantics : ℕ) (label table schema rule : List ℕ) (path marks scratch : ℕ) → Call
call_by takes kind semantics label table schema rule path marks scratch =
    record {
      asked = asked_by takes kind semantics label rule;
      table = table;
      schema = schema;
      lent = record { widths = widths_by path scratch; marks = marks };
    }

-- the number of the first refusal that is due there, or 0; settings, label and widths decide, whatever the rule is
pub record EarlyIs (kind semantics : ℕ) (label : List ℕ) (path scratch number : ℕ) : Type 0 where
  pub first : (takes : Takes) (rule : List ℕ) → number ≡ number_in (first_refusal (of_settings (asked_by takes kind semantics label rule) (widths_by path scratch)))

-- a refusal of the table, or the setting of a call under it
abbrev pub SettledIs : (kind semantics : ℕ) (table : List ℕ) → Result Setting ℕ → Type 0
SettledIs kind semantics table (Ok s) =
    (first_refusal (of_table table) ≡ none) × (setting_by s ≡ setting_under (or_stock (table_in table)) kind semantics)
SettledIs kind semantics table (Err n) = first_refusal (of_table table) ≡ some n
