-- The calls by which fields come and go: their refusals, their answers, and what they leave in the lent buffers (document 02, T-14).
use Rattle.std.specs.Prelude.{ℕ, ◌*◌, Bool, true, false, not, cond, ◌&&◌, ◌||◌, List, [], ◌∷◌, ◌++◌, ◌≡◌, leb, length, take, drop}
use Rattle.std.proofs.Math.Option.{Option, none, some}
use Rattle.text.specs.Utf8.{between, is_utf8}
use Rattle.buffer.specs.Bytes.{bytes_of}
use Rattle.definition.specs.Limits.{max_sheet_bytes}
use Rattle.definition.specs.Tree.{Text, Schema, Rule}
use Rattle.definition.specs.Decode.{decode_schema, decode_rule}
use Rattle.definition.specs.Write.{write_schema}
use Rattle.validation.specs.Check.{is_none}
use Rattle.validation.specs.Result.{any, Widths, Call, Answer, Refusal, Numbers, max_label_bytes, path_bytes, scratch_words, mark_bytes, are_wide, of_table, result_of, numbers_of}
use Rattle.call.specs.Call.{Reply, told, Left, free, holding, if_told, Shape, reply_to, result_numbers, Run, Meets}
use Rattle.field_changes.specs.Mention.{mentions}
use Rattle.field_changes.specs.Change.{is_there, is_too_large}
use Rattle.field_changes.specs.Draft.{Change, adding, removing, name_of, changed}
use Rattle.drafts.specs.Lent.{LentRule, is_any, Given, change_of}

-- the rules that are open, the buffer with the schema sheet, how many of its bytes the sheet has, and the records
pub record DraftCall : Type 0 where
  pub rules : List LentRule
  pub table : List ℕ
  pub buffer : List ℕ
  pub size : ℕ
  pub records : List ℕ
  pub lent : Widths

pub record StepCall : Type 0 where
  pub draft : DraftCall
  pub given : Given

-- a size beyond the buffer counts as its end
unfoldable pub sheet_in : DraftCall → List ℕ
sheet_in c = take c.size c.buffer

unfoldable pub schema_in : DraftCall → Option Schema
schema_in c = decode_schema (sheet_in c)

-- The refusals.

abbrev pub max_rules : ℕ
max_rules = 16

-- a record is the seven numbers of a result, number to path length
abbrev pub record_bytes : ℕ
record_bytes = 28

unfoldable pub is_unset : LentRule → Bool
is_unset r = not (between 1 8 r.kind && between 1 4 r.semantics)

unfoldable pub is_mislabelled : LentRule → Bool
is_mislabelled r = not (leb (length r.label) max_label_bytes && is_utf8 r.label)

unfoldable pub is_malformed : LentRule → Bool
is_malformed r = is_none (decode_rule r.sheet)

unfoldable pub has_room : DraftCall → Bool
has_room c = are_wide c.lent && (leb (record_bytes * length c.rules) (length c.records) && leb max_sheet_bytes (length c.buffer))

-- tried before a sheet is read
unfoldable pub early_refusals : DraftCall → List Refusal
early_refusals c =
    record { number = 1; is_due = is_any is_unset c.rules }
    ∷ record { number = 2; is_due = is_any is_mislabelled c.rules }
    ∷ record { number = 3; is_due = not (has_room c) }
    ∷ record { number = 43; is_due = not (leb (length c.rules) max_rules) }
    ∷ of_table c.table

abbrev pub of_rules : DraftCall → Refusal
of_rules c = record { number = 5; is_due = is_any is_malformed c.rules }

-- of a start
unfoldable pub start_refusals : DraftCall → List Refusal
start_refusals c = early_refusals c ++ (record { number = 4; is_due = is_none (schema_in c) } ∷ of_rules c ∷ [])

unfoldable pub start_refusal_numbers : List ℕ
start_refusal_numbers = 1 ∷ 2 ∷ 3 ∷ 43 ∷ 37 ∷ 38 ∷ 4 ∷ 5 ∷ []

-- a name that is added is there already
unfoldable pub is_twice : Change → Schema → Bool
is_twice (adding name f) t = is_there name t.fields.members
is_twice (removing name) t = false

-- one that is removed is missing
unfoldable pub is_missing : Change → Schema → Bool
is_missing (adding name f) t = false
is_missing (removing name) t = not (is_there name t.fields.members)

unfoldable pub outgrows : Change → Schema → Bool
outgrows c t = is_too_large (changed c t)

-- where field and schema are well formed
unfoldable pub of_both : (Change → Schema → Bool) → Option Change → Option Schema → Bool
of_both p none t = false
of_both p (some c) none = false
of_both p (some c) (some t) = p c t

-- of the change itself
unfoldable pub change_refusals : Option Change → Option Schema → List Refusal
change_refusals c t =
    record { number = 40; is_due = of_both is_twice c t }
    ∷ record { number = 41; is_due = of_both is_missing c t }
    ∷ record { number = 42; is_due = of_both outgrows c t }
    ∷ []

-- of a step
unfoldable pub step_refusals : StepCall → List Refusal
step_refusals c =
    early_refusals c.draft
    ++ (record { number = 4; is_due = is_none (change_of c.given) || is_none (schema_in c.draft) }
    ∷ of_rules c.draft
    ∷ change_refusals (change_of c.given) (schema_in c.draft))

unfoldable pub step_refusal_numbers : List ℕ
step_refusal_numbers = 1 ∷ 2 ∷ 3 ∷ 43 ∷ 37 ∷ 38 ∷ 4 ∷ 5 ∷ 40 ∷ 41 ∷ 42 ∷ []

-- The answers.

-- the call that checks a rule alone; no mark list is lent, so none is too short
unfoldable pub single : DraftCall → (schema : List ℕ) → LentRule → Call
single c schema r =
    record {
      asked = record { takes = any; kind = r.kind; semantics = r.semantics; label = r.label; rule = r.sheet };
      table = c.table;
      schema = schema;
      lent = record { widths = c.lent; marks = mark_bytes };
    }

unfoldable pub seven_of : Numbers → List ℕ
seven_of n = n.number ∷ n.family ∷ n.detail ∷ n.place ∷ n.over_place ∷ n.passed ∷ n.path_length ∷ []

unfoldable pub record_of : Answer → List ℕ
record_of a = bytes_of (seven_of (numbers_of a))

-- by a check from the beginning
unfoldable pub record_for : DraftCall → (schema : List ℕ) → LentRule → List ℕ
record_for c schema r = record_of (result_of (single c schema r))

unfoldable pub all_records : DraftCall → (schema : List ℕ) → List LentRule → List ℕ
all_records c schema [] = []
all_records c schema (r ∷ rules) = record_for c schema r ++ all_records c schema rules

unfoldable pub mentions_in : (name : Text) → Option Rule → Bool
mentions_in name none = false
mentions_in name (some x) = mentions name x

-- the records of rules that mention the field are found anew, the bytes of the others stay
unfoldable pub stepped_records : DraftCall → (name : Text) (schema : List ℕ) → List LentRule → (records : List ℕ) → List ℕ
stepped_records c name schema [] records = []
stepped_records c name schema (r ∷ rules) records =
    let new = record_for c schema r in
    cond (mentions_in name (decode_rule r.sheet)) new (take record_bytes records)
    ++ stepped_records c name schema rules (drop record_bytes records)

-- what a call tells: the schema sheet after it, and the records
pub record Drafted : Type 0 where
  pub schema : List ℕ
  pub records : List ℕ

unfoldable pub start_tells : DraftCall → Drafted
start_tells c = record { schema = sheet_in c; records = all_records c (sheet_in c) c.rules }

unfoldable pub step_in : DraftCall → Option Change → Option Schema → Drafted
step_in c none t = record { schema = []; records = [] }
step_in c (some change) none = record { schema = []; records = [] }
step_in c (some change) (some t) =
    let new = write_schema (changed change t) in
    record { schema = new; records = stepped_records c (name_of change) new c.rules c.records }

unfoldable pub step_tells : StepCall → Drafted
step_tells c = step_in c.draft (change_of c.given) (schema_in c.draft)

-- a result has two numbers, the second the length of the schema sheet
unfoldable pub draft_figures : Drafted → List ℕ
draft_figures d = length d.schema ∷ []

abbrev pub records_left : Reply Drafted → Left
records_left = if_told (λ d. holding d.records)

-- the new sheet is at the buffer's start
abbrev pub sheet_left : Reply Drafted → Left
sheet_left = if_told (λ d. holding d.schema)

-- records, path buffer and scratch
abbrev pub start_shape : Shape DraftCall Drafted
start_shape =
    record {
      refusals = start_refusals;
      tells = start_tells;
      size = 1;
      figures = draft_figures;
      leaves = λ a. records_left a ∷ free path_bytes ∷ free scratch_words ∷ [];
    }

-- the same, and the buffer with the sheet
abbrev pub step_shape : Shape StepCall Drafted
step_shape =
    record {
      refusals = step_refusals;
      tells = step_tells;
      size = 1;
      figures = draft_figures;
      leaves = λ a. records_left a ∷ sheet_left a ∷ free path_bytes ∷ free scratch_words ∷ [];
    }

abbrev pub start_answer : DraftCall → Reply Drafted
start_answer = reply_to start_shape

abbrev pub step_answer : StepCall → Reply Drafted
step_answer = reply_to step_shape

abbrev pub draft_numbers : Reply Drafted → List ℕ
draft_numbers = result_numbers start_shape

abbrev pub MeetsStart : Run DraftCall → Type 0
MeetsStart = Meets start_shape

abbrev pub MeetsStep : Run StepCall → Type 0
MeetsStep = Meets step_shape

-- Each record is that of a check from the beginning.
pub record AllLeft (c : DraftCall) (schema records : List ℕ) : Type 0 where
  pub first : take (record_bytes * length c.rules) records ≡ all_records c schema c.rules
