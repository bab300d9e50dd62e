-- The answer to a whole call, from the bytes and numbers that a caller hands over (docs/FORMAT.md, "Answers").
use Rattle.std.specs.Prelude.{ℕ, Bool, true, false, not, cond, ◌&&◌, ◌||◌, List, [], ◌∷◌, ◌++◌, length, leb, eqb, ◌≡◌}
use Rattle.std.proofs.Math.Option.{Option, none, some}
use Rattle.std.proofs.lemmas.List.Edits.{sets}
use Rattle.text.specs.Utf8.{between, is_utf8}
use Rattle.definition.specs.Tree.{Text, Schema, Rule, rule, template}
use Rattle.definition.specs.Decode.{decode_schema, decode_rule}
use Rattle.reference.specs.Setting.{Setting, one_of}
use Rattle.reference.specs.Table.{table_in, setting_under, or_stock, is_sound_table}
pub use Rattle.call.specs.Call.{Refusal, KeptFrom}
unfoldable pub use Rattle.call.specs.Call.{first_refusal, number_in}
use Rattle.validation.specs.Check.{is_none, Binder, IsDefect, checks, entry_of}
use Rattle.validation.specs.Judge.{Verdict, all_pass, fails_at, judge}
use Rattle.validation.specs.Location.{path_of}

-- which rule sheets an entry point takes
pub data Takes : Type 0 where
  any rules templates : Takes

-- the second entry point takes every rule sheet that the first takes
pub data AlsoTakes : Takes → Takes → Type 0 where
  the_same : {t : Takes} → AlsoTakes t t
  takes_any : {t : Takes} → AlsoTakes t any

-- what is checked, and how
pub record Asked : Type 0 where
  pub takes : Takes
  pub kind : ℕ
  pub semantics : ℕ
  pub label : List ℕ
  pub rule : List ℕ

-- how many elements path buffer and scratch have
pub record Widths : Type 0 where
  pub path : ℕ
  pub scratch : ℕ

-- all that is lent to a call; the mark list is counted in bytes, four for each element
pub record Lent : Type 0 where
  pub widths : Widths
  pub marks : ℕ

pub record Call : Type 0 where
  pub asked : Asked
  -- the name table's bytes, or none
  pub table : List ℕ
  pub schema : List ℕ
  pub lent : Lent

pub record Defect : Type 0 where
  pub number : ℕ
  pub family : ℕ
  pub detail : ℕ
  pub place : ℕ
  pub over_place : ℕ
  pub passed : ℕ
  pub path : List ℕ

pub data Answer : Type 0 where
  refused : (number : ℕ) → Answer
  accepted : (passed : ℕ) → Answer
  defect : Defect → Answer

-- the refusals that are answered instead of a verdict
unfoldable pub refusal_numbers : List ℕ
refusal_numbers = 1 ∷ 2 ∷ 3 ∷ 4 ∷ 5 ∷ 35 ∷ 37 ∷ 38 ∷ []

pub record IsRefusal (n : ℕ) : Type 0 where
  pub listed : one_of n refusal_numbers ≡ true

-- those of the sheets; all others come before a sheet is read
unfoldable pub is_of_sheets : ℕ → Bool
is_of_sheets n = eqb n 4 || eqb n 5

-- the answers that a caller may hear: one of the refusals, acceptance, or a defect with a number from 11 to 22
pub data Heard : Answer → Type 0 where
  refusal : {n : ℕ} → IsRefusal n → Heard (refused n)
  acceptance : {n : ℕ} → Heard (accepted n)
  finding : {d : Defect} → IsDefect d.number → Heard (defect d)

-- Families: 1 InvalidRule, 2 InvalidTemplate, 3 SemanticsKeyNotAvailable, 4 ConditionTooDeep, 5 CompareOperandNotAddressable,
-- 6 QuantifierBindInvalid, 7 QuantifierOverNotCollection, 8 QuantifierBodyScope.

-- the family of a defect outside all quantifier bodies
unfoldable pub own_family : Setting → (number : ℕ) → ℕ
own_family setting n =
    cond (eqb n 18) (cond setting.is_rule_kind 1 2)
    (cond (eqb n 15) 3
    (cond (eqb n 13) 4
    (cond (eqb n 17) 5
    (cond (eqb n 21) 6
    (cond (eqb n 22) 7 1)))))

-- the `in` entry of the innermost quantifier whose body holds a check
unfoldable pub over_of : List Binder → Option ℕ
over_of [] = none
over_of (b ∷ bs) = some (entry_of b.over)

-- family 1 becomes 8 in a body, and the over place is then that entry
unfoldable pub family_in : (over : Option ℕ) → ℕ → ℕ
family_in none family = family
family_in (some e) family = cond (eqb family 1) 8 family

unfoldable pub over_place_in : (over : Option ℕ) → ℕ → ℕ
over_place_in none family = 0
over_place_in (some e) family = cond (eqb family 1) e 0

-- the first check that fails: how many pass before it, its number and place, the `in` entry of the quantifier around it, and the detail
abbrev pub defect_of : Setting → (label : Text) → Rule → (passed number place : ℕ) (over : Option ℕ) (detail : ℕ) → Defect
defect_of setting label r passed number place over d =
    record {
      number = number;
      family = family_in over (own_family setting number);
      detail = d;
      place = place;
      over_place = over_place_in over (own_family setting number);
      passed = passed;
      path = path_of label r number place;
    }

unfoldable pub answer_of : Setting → (label : Text) → Rule → Verdict → Answer
answer_of setting label r (all_pass passed) = accepted passed
answer_of setting label r (fails_at passed c why) =
    defect (defect_of setting label r passed c.number c.place (over_of c.binders) why.detail)

abbrev pub max_label_bytes : ℕ
max_label_bytes = 256

abbrev pub path_bytes : ℕ
path_bytes = 32768

abbrev pub scratch_words : ℕ
scratch_words = 4096

abbrev pub mark_bytes : ℕ
mark_bytes = 8192

unfoldable pub is_taken : Takes → Option Rule → Bool
is_taken takes none = false
is_taken any (some r) = true
is_taken rules (some (rule name message assert)) = true
is_taken rules (some (template v)) = false
is_taken templates (some (rule name message assert)) = false
is_taken templates (some (template v)) = true

abbrev pub setting_for : Call → Setting
setting_for c = setting_under (or_stock (table_in c.table)) c.asked.kind c.asked.semantics

-- whether path buffer and scratch are long enough
abbrev pub are_wide : Widths → Bool
are_wide w = leb path_bytes w.path && leb scratch_words w.scratch

-- of path buffer and scratch
abbrev pub of_widths : Widths → Refusal
of_widths w = record { number = 3; is_due = not (are_wide w) }

-- of the mark list
abbrev pub of_marks : (marks : ℕ) → Refusal
of_marks marks = record { number = 35; is_due = not (leb mark_bytes marks) }

-- of all that is lent
abbrev pub of_buffers : Lent → List Refusal
of_buffers l = of_widths l.widths ∷ of_marks l.marks ∷ []

-- of the name table
abbrev pub of_table : List ℕ → List Refusal
of_table table =
    record { number = 37; is_due = is_none (table_in table) }
    ∷ record { number = 38; is_due = not (is_sound_table (table_in table)) }
    ∷ []

-- of settings, label and widths
unfoldable pub of_settings : Asked → Widths → List Refusal
of_settings a w =
    record { number = 1; is_due = not (between 1 8 a.kind && between 1 4 a.semantics) }
    ∷ record { number = 2; is_due = not (leb (length a.label) max_label_bytes && is_utf8 a.label) }
    ∷ of_widths w
    ∷ []

-- tried before a sheet is read
unfoldable pub early : Call → List Refusal
early c = of_settings c.asked c.lent.widths ++ (of_marks c.lent.marks ∷ of_table c.table)

unfoldable pub of_sheets : Call → List Refusal
of_sheets c =
    record { number = 4; is_due = is_none (decode_schema c.schema) }
    ∷ record { number = 5; is_due = not (is_taken c.asked.takes (decode_rule c.asked.rule)) }
    ∷ []

-- the refusals in the order in which they are tried
unfoldable pub refusals : Call → List Refusal
refusals c = early c ++ of_sheets c

-- none of the refusals is due
abbrev pub Unrefused : Call → Type 0
Unrefused c = first_refusal (refusals c) ≡ none

-- the answer of a schema about a rule or template
unfoldable pub checked : Setting → (label : Text) → Schema → Rule → Answer
checked setting label s r = answer_of setting label r (judge setting s (checks setting r))

-- the same, where both sheets are well formed
unfoldable pub judged : Setting → (label : Text) → Option Schema → Option Rule → Answer
judged setting label none r = refused 4
judged setting label (some s) none = refused 5
judged setting label (some s) (some r) = checked setting label s r

unfoldable pub refused_or : Option ℕ → Answer → Answer
refused_or none a = a
refused_or (some n) a = refused n

-- the whole answer: the first refusal that is due, or what the check list says
unfoldable pub result_of : Call → Answer
result_of c =
    let verdict = judged (setting_for c) c.asked.label (decode_schema c.schema) (decode_rule c.asked.rule) in
    refused_or (first_refusal (refusals c)) verdict

-- the seven numbers of a result
pub record Numbers : Type 0 where
  pub number : ℕ
  pub family : ℕ
  pub detail : ℕ
  pub place : ℕ
  pub over_place : ℕ
  pub passed : ℕ
  pub path_length : ℕ

unfoldable pub numbers_of : Answer → Numbers
numbers_of (refused n) =
    record { number = n; family = 0; detail = 0; place = 0; over_place = 0; passed = 0; path_length = 0 }
numbers_of (accepted n) =
    record { number = 0; family = 0; detail = 0; place = 0; over_place = 0; passed = n; path_length = 0 }
numbers_of (defect d) =
    record {
      number = d.number;
      family = d.family;
      detail = d.detail;
      place = d.place;
      over_place = d.over_place;
      passed = d.passed;
      path_length = length d.path;
    }

-- the path buffer after the call: a defect's path lies at its start, and all other bytes keep their values
unfoldable pub path_after : Answer → List ℕ → List ℕ
path_after (refused n) before = before
path_after (accepted n) before = before
path_after (defect d) before = sets before 0 d.path

-- the scratch after the call: unchanged where no sheet was read, else free in its first elements
unfoldable pub kept_scratch : Answer → ℕ
kept_scratch (refused n) = cond (is_of_sheets n) scratch_words 0
kept_scratch (accepted n) = scratch_words
kept_scratch (defect d) = scratch_words

abbrev pub ScratchAfter : Answer → (before after : List ℕ) → Type 0
ScratchAfter a before after = KeptFrom (kept_scratch a) before after

-- what a caller hands over, and what it has after the call
pub record Run : Type 0 where
  pub asked : Asked
  pub table : List ℕ
  pub schema : List ℕ
  pub path_before : List ℕ
  pub scratch_before : List ℕ
  -- how many bytes of a mark list; a function that is lent none counts as one that is lent enough
  pub marks_lent : ℕ
  pub result : Numbers
  pub path : List ℕ
  pub scratch : List ℕ

unfoldable pub lent_of : Run → Lent
lent_of r =
    record {
      widths = record { path = length r.path_before; scratch = length r.scratch_before };
      marks = r.marks_lent;
    }

unfoldable pub call_of : Run → Call
unfolding lent_of
call_of r = record { asked = r.asked; table = r.table; schema = r.schema; lent = lent_of r }

-- what a whole call promises of its run
pub record Meets (r : Run) : Type 0 where
  pub result : r.result ≡ numbers_of (result_of (call_of r))
  pub path : r.path ≡ path_after (result_of (call_of r)) r.path_before
  pub scratch : ScratchAfter (result_of (call_of r)) r.scratch_before r.scratch
