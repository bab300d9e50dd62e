-- The call that finds the fewest marks to open: its refusals, its answer, and what it leaves in the lent buffers (docs/FORMAT.md, "The fewest marks to open").
use Rattle.std.specs.Prelude.{ℕ, ◌*◌, ◌≤◌, not, cond, List, [], ◌∷◌, ◌++◌, leb, length}
use Rattle.std.proofs.Math.Option.{Option, none, some}
use Rattle.buffer.specs.Bytes.{bytes_of}
use Rattle.definition.specs.Tree.{Schema, Rule}
use Rattle.definition.specs.Decode.{decode_schema, decode_rule}
use Rattle.reference.specs.Setting.{Setting}
use Rattle.validation.specs.Result.{any, Widths, Call, Refusal, path_bytes, scratch_words, mark_bytes, setting_for, of_settings, of_table, of_sheets, is_of_sheets}
use Rattle.call.specs.Call.{Reply, refused_by, told, Left, free, holding, unchanged, if_told, free_if_told, Shape, reply_to, result_numbers, Run, Meets}
use Rattle.call.proofs.CallLaws.{AllWithin}
use Rattle.validation.specs.Openings.{max_marks, fewest_marks}

pub record OpenCall : Type 0 where
  pub kind : ℕ
  pub semantics : ℕ
  pub table : List ℕ
  pub schema : List ℕ
  pub rule : List ℕ
  pub widths : Widths
  -- how many bytes of a list, four for each element
  pub list : ℕ

-- the call that checks the rule or template alone; its label, which no acceptance depends on, is empty, and no mark list is lent
unfoldable pub check_of : OpenCall → Call
check_of c =
    record {
      asked = record { takes = any; kind = c.kind; semantics = c.semantics; label = []; rule = c.rule };
      table = c.table;
      schema = c.schema;
      lent = record { widths = c.widths; marks = mark_bytes };
    }

abbrev pub list_bytes : ℕ
list_bytes = 4 * max_marks

abbrev pub of_list : (list : ℕ) → Refusal
of_list list = record { number = 36; is_due = not (leb list_bytes list) }

-- the refusals in the order in which they are tried; an empty label never meets 2
unfoldable pub open_refusals : OpenCall → List Refusal
open_refusals c = of_settings (check_of c).asked c.widths ++ (of_list c.list ∷ (of_table c.table ++ of_sheets (check_of c)))

-- their numbers
unfoldable pub open_refusal_numbers : List ℕ
open_refusal_numbers = 1 ∷ 2 ∷ 3 ∷ 36 ∷ 37 ∷ 38 ∷ 4 ∷ 5 ∷ []

-- those of them that are heard
unfoldable pub open_heard_numbers : List ℕ
open_heard_numbers = 1 ∷ 3 ∷ 36 ∷ 37 ∷ 38 ∷ 4 ∷ 5 ∷ []

-- the fewest marks, or none where no marks help; that both sheets are well formed is seen before
unfoldable pub marks_for : Setting → Option Schema → Option Rule → Option (List ℕ)
marks_for setting none r = none
marks_for setting (some t) none = none
marks_for setting (some t) (some r) = fewest_marks setting t r

unfoldable pub marks_in : OpenCall → Option (List ℕ)
marks_in c = marks_for (setting_for (check_of c)) (decode_schema c.schema) (decode_rule c.rule)

abbrev pub opens : (set : List ℕ) → Reply (Option (List ℕ))
opens set = told (some set)

abbrev pub nothing_helps : Reply (Option (List ℕ))
nothing_helps = told none

-- a result has three numbers: behind the first, 1 if there is a set, and how many marks it has
unfoldable pub open_figures : Option (List ℕ) → List ℕ
open_figures none = 0 ∷ 0 ∷ []
open_figures (some set) = 1 ∷ length set ∷ []

unfoldable pub or_no_marks : Option (List ℕ) → List ℕ
or_no_marks none = []
or_no_marks (some set) = set

-- of the list: the set is at its start
abbrev pub list_left : Reply (Option (List ℕ)) → Left
list_left = if_told (λ marks. holding (bytes_of (or_no_marks marks)))

-- of the scratch: unchanged where no sheet was read
unfoldable pub scratch_left : Reply (Option (List ℕ)) → Left
scratch_left (refused_by n) = cond (is_of_sheets n) (free scratch_words) unchanged
scratch_left (told marks) = free scratch_words

abbrev pub open_shape : Shape OpenCall (Option (List ℕ))
open_shape =
    record {
      refusals = open_refusals;
      tells = marks_in;
      size = 2;
      figures = open_figures;
      leaves = λ a. free_if_told path_bytes a ∷ list_left a ∷ scratch_left a ∷ [];
    }

-- the whole answer: the first refusal that is due, or the marks
abbrev pub open_answer : OpenCall → Reply (Option (List ℕ))
open_answer = reply_to open_shape

abbrev pub open_numbers : Reply (Option (List ℕ)) → List ℕ
open_numbers = result_numbers open_shape

abbrev pub MeetsOpen : Run OpenCall → Type 0
MeetsOpen = Meets open_shape

pub record SetFits (c : OpenCall) (set : List ℕ) : Type 0 where
  pub low : AllWithin max_marks set
  pub room : 4 * length set ≤ c.list
