-- What a check of one sheet is to the whole call, and to the next sheet.
use Rattle.std.specs.Prelude.{ℕ, ◌≤◌, ◌+◌, ◌-◌, Bool, true, false, not, cond, ◌&&◌, List, ◌≡◌, refl, leb, length, drop, Option as Optional, Some, None}
use Rattle.std.proofs.Common.{arith, sym, ap, ◌∙◌, length-drop, ext_get_or, get_or-drop, leb-true}
use Rattle.std.proofs.Math.Option.{Option, none, some}
use Rattle.text.specs.Utf8.{is_utf8}
use Rattle.text.proofs.Bools.{and-true-0, and-true-1}
use Rattle.definition.specs.Limits.{max_rule_entries}
use Rattle.definition.specs.Tree as Tree
use Rattle.definition.specs.Tree.{Rule}
use Rattle.definition.specs.Decode.{decode_schema, decode_rule}
use Rattle.reference.specs.Setting.{Setting}
use Rattle.schema.specs.Kept as SchemaKept
use Rattle.schema.specs.Read.{SchemaIs}
use Rattle.schema.specs.SchemaLaws.{SchemaAt-kept}
use Rattle.rule.specs.Read as RuleKept
use Rattle.validation.specs.Check.{is_none, checks}
use Rattle.validation.specs.Judge.{Verdict, all_pass, fails_at, judge}
use Rattle.validation.specs.Result as Result
use Rattle.validation.specs.Result.{Asked, Widths, Call, Answer, max_label_bytes, path_bytes, scratch_words, is_taken, setting_for, is_of_sheets, of_settings, early, of_sheets, first_refusal, answer_of, checked, judged, refused_or, result_of, kept_scratch, ScratchAfter}
use Rattle.validation.proofs.RefusalLaws.{is_set, none-due, no-setting-due, sheets-first}
use Rattle.single_check.specs.Answers.{Tells}
use Rattle.single_check.specs.Sheets.{takes_of, taken_of, sheet_answer, FrontOnly, SheetChecked}
use Rattle.single_check.specs.declared.sheets.Takes.{Takes}
use Rattle.single_check.specs.declared.outcome.Outcome.{Outcome}
use Rattle.schema.specs.declared.read.Schema.{Schema}

-- The next sheet: the schema's index still holds where only a rule's words have changed.

pub still_read : (schema : List ℕ) {before after : List ℕ} (read : Optional Schema) → RuleKept.Kept before after 0 max_rule_entries → SchemaIs schema before read → SchemaIs schema after read
still_read schema None k is = is
still_read schema {before} {after} (Some s) k is =
    record {
      tree = is.tree;
      reads = is.reads;
      indexed = SchemaAt-kept schema before after (λ i low high. k.above i (omega arith)) s is.tree is.indexed;
    }

-- The scratch: its first words alone may differ.

pub front-schema : {before after : List ℕ} → SchemaKept.Kept before after → FrontOnly before after
front-schema k = record { size = k.size; kept = λ i h. k.upper i (omega arith) }

pub front-rule : {before after : List ℕ} → RuleKept.Kept before after 0 max_rule_entries → FrontOnly before after
front-rule k = record { size = k.len; kept = λ i h. k.above i (omega arith) }

pub front-both : {before middle after : List ℕ} → FrontOnly before middle → FrontOnly middle after → FrontOnly before after
front-both f g = record { size = g.size ∙ f.size; kept = λ i h. g.kept i h ∙ f.kept i h }

pub front-scratch : {before after : List ℕ} (a : Answer) → FrontOnly before after → kept_scratch a ≡ scratch_words → ScratchAfter a before after
front-scratch {before} {after} a f e =
    record {
      size = f.size;
      kept =
          rw e
          (ext_get_or 0 (drop scratch_words after) (drop scratch_words before)
          (length-drop scratch_words after ∙ ap (λ (n : ℕ). n - scratch_words) f.size ∙ sym (length-drop scratch_words before))
          (λ i low.
          get_or-drop scratch_words after i 0
          ∙ f.kept (scratch_words + i) (omega arith)
          ∙ sym (get_or-drop scratch_words before i 0)));
    }

verdict-kept : (setting : Setting) (label : List ℕ) (x : Rule) (v : Verdict) → kept_scratch (answer_of setting label x v) ≡ scratch_words
unfolding kept_scratch answer_of
verdict-kept setting label x (all_pass n) = refl
verdict-kept setting label x (fails_at n c d) = refl

judged-kept : (setting : Setting) (label : List ℕ) (t : Option Tree.Schema) (x : Option Rule) → kept_scratch (judged setting label t x) ≡ scratch_words
unfolding judged checked kept_scratch is_of_sheets
judged-kept setting label none x = refl
judged-kept setting label (some t) none = refl
judged-kept setting label (some t) (some x) = verdict-kept setting label x (judge setting t (checks setting x))

pub sheet-scratch : {before after : List ℕ} (takes : Result.Takes) (setting : Setting) (label schema sheet : List ℕ)
    → FrontOnly before after
    → ScratchAfter (sheet_answer takes setting label schema sheet) before after
unfolding sheet_answer
sheet-scratch takes setting label schema sheet f =
    front-scratch _ f (judged-kept setting label (decode_schema schema) (taken_of takes (decode_rule sheet)))

-- The whole call: where nothing is refused before the sheets are read, there is room, and the sheets decide.

pub record Roomy (a : Asked) (w : Widths) : Type 0 where
  pub small : length a.label ≤ max_label_bytes
  pub room : path_bytes ≤ w.path
  pub words : scratch_words ≤ w.scratch

pub roomy : (a : Asked) (w : Widths) → first_refusal (of_settings a w) ≡ none → Roomy a w
unfolding of_settings
roomy a w h =
    let due = none-due (of_settings a w) h in
    let labelled = is_set (leb (length a.label) max_label_bytes && is_utf8 a.label) due.1.0 in
    let lent = is_set (leb path_bytes w.path && leb scratch_words w.scratch) due.1.1.0 in
    record {
      small = leb-true (length a.label) max_label_bytes (and-true-0 (leb (length a.label) max_label_bytes) (is_utf8 a.label) labelled);
      room = leb-true path_bytes w.path (and-true-0 (leb path_bytes w.path) (leb scratch_words w.scratch) lent);
      words = leb-true scratch_words w.scratch (and-true-1 (leb path_bytes w.path) (leb scratch_words w.scratch) lent);
    }

by-sheets : (takes : Result.Takes) (setting : Setting) (label : List ℕ) (t : Option Tree.Schema) (x : Option Rule)
    → refused_or (cond (is_none t) (some 4) (cond (not (is_taken takes x)) (some 5) none)) (judged setting label t x)
    ≡ judged setting label t (taken_of takes x)
unfolding refused_or is_none is_taken judged taken_of
by-sheets takes setting label none x = refl
by-sheets takes setting label (some t) none = refl
by-sheets takes setting label (some t) (some x) = by (is_taken takes (some x))
  where
    by : (b : Bool)
        → refused_or (cond (not b) (some 5) none) (checked setting label t x) ≡ judged setting label (some t) (cond b (some x) none)
    by true = refl
    by false = refl

pub sheets-decide : (c : Call) → first_refusal (early c) ≡ none
    → result_of c ≡ sheet_answer c.asked.takes (setting_for c) c.asked.label c.schema c.asked.rule
unfolding result_of of_sheets first_refusal sheet_answer
sheets-decide c h =
    rw (sheets-first c h)
    (by-sheets c.asked.takes (setting_for c) c.asked.label (decode_schema c.schema) (decode_rule c.asked.rule))

-- so the check of a sheet determines what a call with that sheet alone answers
pub single-told : {takes : Takes} {path_before path before after : List ℕ} {read : Optional Schema} {r : Outcome} (c : Call)
    → first_refusal (early c) ≡ none
    → c.asked.takes ≡ takes_of takes
    → c.lent.widths.path ≡ length path_before
    → SchemaIs c.schema before read
    → SheetChecked takes (setting_for c) c.asked.label c.schema read c.asked.rule path_before path before after r
    → Tells (result_of c) path_before path r
single-told c h takes-so lent is s =
    let room = roomy c.asked c.lent.widths (no-setting-due c h) in
    rw (sheets-decide c h, takes-so) (s.tells is room.small (rw lent at room.room))
