-- The rules of a draft as the code goes through them: at each turn those that are left are at the next head and the next text.
use Rattle.std.specs.Prelude.{ℕ, ◌+◌, ◌*◌, ◌/◌, ◌-◌, ◌≤◌, min, Bool, true, false, not, cond, List, [], ◌∷◌, ◌++◌, ◌≡◌, eqb, length, take, drop, Option}
use Rattle.std.proofs.Math.Option.{none, some}
use Rattle.std.proofs.lemmas.List.Edits.{sets}
use Rattle.buffer.specs.Bytes.{bytes_of}
use Rattle.definition.specs.Limits.{max_rule_entries, max_sheet_bytes}
use Rattle.definition.specs.Tree.{Text, Schema}
use Rattle.definition.specs.Decode.{decode_schema, decode_rule}
use Rattle.reference.specs.Table.{table_in, setting_under, or_stock}
use Rattle.schema.specs.Read.{SchemaIs}
use Rattle.rule.specs.Read.{Kept}
use Rattle.validation.specs.Check.{is_none}
use Rattle.validation.specs.Result.{any, Answer, Refusal, Widths, of_table, first_refusal, number_in, numbers_of, max_label_bytes, path_bytes, KeptFrom}
use Rattle.single_check.specs.Outcomes.{numbers_by}
use Rattle.single_check.specs.Settings.{widths_by}
use Rattle.single_check.specs.Sheets.{sheet_answer, FrontOnly}
use Rattle.single_check.specs.declared.outcome.Outcome.{Outcome}
use Rattle.field_changes.specs.Change.{removed}
use Rattle.schema_edits.specs.Place.{GoesFrom}
use Rattle.schema_edits.specs.Edit.{Puts}
use Rattle.drafts.specs.Lent.{LentRule, head_bytes, first_rule, behind_first, rules_in, rules_lent, is_any}
use Rattle.drafts.specs.DraftCalls.{DraftCall, is_unset, is_mislabelled, is_malformed, early_refusals, record_bytes, seven_of, mentions_in}
use Rattle.drafts.specs.declared.lent.Lent.{Lent}
use Rattle.schema.specs.declared.read.Schema as Index

-- a rule of the code, whose texts begin at `at`
abbrev pub rule_by : (texts : List ℕ) (at : ℕ) → Lent → LentRule
rule_by texts at r =
    record {
      kind = r.kind;
      semantics = r.semantics;
      label = take (r.middle - at) (drop at texts);
      sheet = take (r.end - r.middle) (drop r.middle texts);
    }

pub record LentAt (heads texts : List ℕ) (i at : ℕ) (r : Lent) : Type 0 where
  pub is : rule_by texts at r ≡ first_rule (drop (head_bytes * i) heads) (drop at texts)
  pub behind : drop r.end texts ≡ behind_first (drop (head_bytes * i) heads) (drop at texts)
  pub first : at ≤ r.middle
  pub second : r.middle ≤ r.end
  pub within : r.end ≤ length texts

-- those that are left at head `i` and place `at` of the texts
abbrev pub rules_from : (heads texts : List ℕ) (i at : ℕ) → List LentRule
rules_from heads texts i at = rules_in (length heads / head_bytes - i) (drop (head_bytes * i) heads) (drop at texts)

-- Refusals.

-- of two, 0 being none
unfoldable pub sooner : ℕ → ℕ → ℕ
sooner a b = cond (eqb a 0) b (cond (eqb b 0) a (min a b))

-- 1 and 2
unfoldable pub settings_of : List LentRule → ℕ
settings_of rules = cond (is_any is_unset rules) 1 (cond (is_any is_mislabelled rules) 2 0)

unfoldable pub table_number : List ℕ → ℕ
table_number table = number_in (first_refusal (of_table table))

pub record EarlyOf (heads texts table : List ℕ) (buffer records path scratch number : ℕ) : Type 0 where
  pub first : (c : DraftCall)
      → c.rules ≡ rules_lent heads texts
      → c.table ≡ table
      → length c.buffer ≡ buffer
      → length c.records ≡ records
      → c.lent ≡ widths_by path scratch
      → number ≡ number_in (first_refusal (early_refusals c))

-- Marks.

unfoldable pub mark_of : Bool → ℕ
mark_of true = 1
mark_of false = 0

unfoldable pub marks_of : (name : Text) → List LentRule → List ℕ
marks_of name [] = []
marks_of name (r ∷ rules) = mark_of (mentions_in name (decode_rule r.sheet)) ∷ marks_of name rules

pub record RulesRead (name : Text) (rules : List LentRule) (marks_before marks before after : List ℕ) (r : Bool) : Type 0 where
  pub kept : Kept before after 0 max_rule_entries
  pub size : length marks ≡ length marks_before
  pub formed : r ≡ not (is_any is_malformed rules)
  pub marked : r ≡ true → marks ≡ sets marks_before 0 (marks_of name rules)

-- Records.

-- what the check list says of a rule, where nothing is refused before
unfoldable pub record_in : (table schema : List ℕ) → LentRule → List ℕ
record_in table schema r =
    bytes_of (seven_of (numbers_of (sheet_answer any (setting_under (or_stock (table_in table)) r.kind r.semantics) r.label schema r.sheet)))

-- the records of rules that are marked are new
unfoldable pub marked_records : (table schema : List ℕ) → List LentRule → (marks records : List ℕ) → List ℕ
marked_records table schema [] marks records = []
marked_records table schema (r ∷ rules) [] records = []
marked_records table schema (r ∷ rules) (m ∷ marks) records =
    let new = record_in table schema r in
    cond (eqb m 0) (take record_bytes records) new ++ marked_records table schema rules marks (drop record_bytes records)

pub record RecordPut (o : Outcome) (before after : List ℕ) (at : ℕ) : Type 0 where
  pub stands : after ≡ sets before at (bytes_of (seven_of (numbers_by o)))

-- what a check of a rule may rely on
pub record Readied (table schema : List ℕ) (read : Option Index.Schema) (path words : List ℕ) : Type 0 where
  pub sound : first_refusal (of_table table) ≡ none
  pub indexed : SchemaIs schema words read
  pub room : path_bytes ≤ length path

pub record RuleChecked (l : Lent) (texts : List ℕ) (start : ℕ) (table schema : List ℕ) (read : Option Index.Schema) (records records_now : List ℕ) (place : ℕ) (path_before path before after : List ℕ) : Type 0 where
  pub kept : Kept before after 0 max_rule_entries
  pub size : length records_now ≡ length records
  pub size_path : length path ≡ length path_before
  pub put : Readied table schema read path_before before
      → length (rule_by texts start l).label ≤ max_label_bytes
      → (records_now ≡ sets records place (record_in table schema (rule_by texts start l))) × KeptFrom path_bytes path_before path

pub record MarkedChecked (rules : List LentRule) (table schema : List ℕ) (read : Option Index.Schema) (marks records records_now path_before path before after : List ℕ) : Type 0 where
  pub kept : Kept before after 0 max_rule_entries
  pub size : length records_now ≡ length records
  pub size_path : length path ≡ length path_before
  pub put : Readied table schema read path_before before
      → is_any is_mislabelled rules ≡ false
      → (records_now ≡ sets records 0 (marked_records table schema rules marks records)) × KeptFrom path_bytes path_before path

-- Sheets.

abbrev pub sheet_refusals : (schema : List ℕ) → List LentRule → List Refusal
sheet_refusals schema rules = record { number = 4; is_due = is_none (decode_schema schema) } ∷ record { number = 5; is_due = is_any is_malformed rules } ∷ []

-- the schema and all rules have been read
pub record SheetsRead (name : Text) (rules : List LentRule) (schema marks_before marks before after : List ℕ) (number : ℕ) : Type 0 where
  pub front : FrontOnly before after
  pub size : length marks ≡ length marks_before
  pub heard : number ≡ number_in (first_refusal (sheet_refusals schema rules))
  pub marked : number ≡ 0 → marks ≡ sets marks_before 0 (marks_of name rules)

-- the schema has been read, and the rules that are marked checked
pub record SheetsChecked (rules : List LentRule) (table schema marks records records_now path_before path before after : List ℕ) : Type 0 where
  pub front : FrontOnly before after
  pub size : length records_now ≡ length records
  pub size_path : length path ≡ length path_before
  pub put : first_refusal (of_table table) ≡ none
      → path_bytes ≤ length path_before
      → is_any is_mislabelled rules ≡ false
      → (records_now ≡ sets records 0 (marked_records table schema rules marks records)) × KeptFrom path_bytes path_before path

-- the sheet without the field from `at` to `end`, by a copy in the path buffer
pub record FieldRemoved (before after : List ℕ) (size at end : ℕ) (path_before path : List ℕ) (next : ℕ) : Type 0 where
  pub len : length after ≡ length before
  pub size_path : length path ≡ length path_before
  pub puts : (t : Schema) → decode_schema (take size before) ≡ some t
      → max_sheet_bytes ≤ length before
      → path_bytes ≤ length path_before
      → (name : Text) → GoesFrom (take size before) at end name t
      → Puts before after (removed name t) next × KeptFrom path_bytes path_before path
