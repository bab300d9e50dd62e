-- The rules of a draft one by one: which of them are marked, and the records of those that are.
use Rattle.std.specs.Prelude.{Option, Ok, Err}
use Prim.Native.Nat.{ℕ, zero, suc, ◌+◌, ◌*◌, ◌/◌, ◌-◌, ◌≤◌, ◌<◌}
use native.Mathlib.Omega.{arith}
use mathlib.Core.Bool.{Bool, true, false, not, cond, ◌&&◌, ◌||◌, false≢true}
use mathlib.Core.List.{List, [], ◌∷◌, ◌++◌}
use mathlib.Core.Option.{none, some, none-ne-some, some-injective}
use mathlib.Core.Path.{◌≡◌, refl, sym, ap, ap₂, subst, ◌∙◌}
use lib.Dec.{leb, eqb}
use lib.ListN.{length, take, drop, get_or, set, length-set, length-drop}
use lib.Seq.{sets, length-sets, drop-cons}
use borrow.Author.Tests.{leb-true, eq-eqb, ne_eqb}
use Rattle.text.specs.Utf8.{is_utf8}
use Rattle.text.proofs.Bools.{and-true-0}
use Rattle.buffer.specs.Bytes.{bytes_of}
use Rattle.buffer.specs.BytesLaws.{bytes-length}
use Rattle.buffer.specs.Wrote.{Wrote}
use Rattle.buffer.specs.WroteLaws.{sets-append}
use Rattle.definition.specs.Limits.{max_rule_entries, word_entries}
use Rattle.definition.specs.Tree.{Text, Rule}
use Rattle.definition.specs.Decode.{decode_rule}
use Rattle.reference.specs.Table.{table_in, setting_under, or_stock}
use Rattle.schema.specs.Read.{SchemaIs}
use Rattle.rule.specs.Read.{Kept}
use Rattle.rule.specs.Rule.{RuleIndexed}
use Rattle.rule.specs.declared.RuleSheet.{RuleSheet}
use Rattle.validation.specs.Check.{is_none}
use Rattle.validation.specs.Result.{any, of_table, first_refusal, Numbers, numbers_of, path_bytes, max_label_bytes, KeptFrom}
use Rattle.validation.proofs.RefusalLaws.{is_set}
use Rattle.validation.proofs.KeptLaws.{kept-both}
use Rattle.single_check.specs.Outcomes.{numbers_by}
use Rattle.single_check.specs.Settings.{setting_by, SettledIs}
use Rattle.single_check.specs.Sheets.{takes_of, sheet_answer, SheetChecked}
use Rattle.single_check.specs.SheetLaws.{still_read}
use Rattle.single_check.specs.declared.outcome.Outcome.{Outcome}
use Rattle.single_check.specs.declared.settings.Setting.{Setting}
use Rattle.single_check.specs.declared.sheets.Takes.TheVariants.{Any}
use Rattle.rule_book.proofs.AnswerLaws.{sheet-path}
use Rattle.drafts.specs.Lent.{LentRule, rules_lent, is_any}
use Rattle.drafts.specs.DraftCalls.{record_bytes, is_malformed, is_mislabelled, seven_of, mentions_in}
use Rattle.drafts.specs.Mentions.{RuleNamed}
use Rattle.drafts.specs.Reading.{rule_by, LentAt, rules_from, mark_of, marks_of, RulesRead, record_in, RecordPut, Readied, RuleChecked}
use Rattle.drafts.specs.declared.lent.Lent.{Lent}
use Rattle.drafts.proofs.LentSteps.{from_start, from_next, from_end}
use Rattle.schema.specs.declared.read.Schema.{Schema}

-- only a rule's own words have changed, by one and then by another
pub front-both : {before middle after : List ℕ} → Kept before middle 0 max_rule_entries → Kept middle after 0 max_rule_entries → Kept before after 0 max_rule_entries
front-both f g = record { len = g.len ∙ f.len; below = λ j h. absurd (omega arith); above = λ j h. g.above j h ∙ f.above j h }

pub front-none : (words : List ℕ) → Kept words words 0 max_rule_entries
front-none words = record { len = refl; below = λ j h. refl; above = λ j h. refl }

pub mark-yes : (b : Bool) → b ≡ true → 1 ≡ mark_of b
unfolding mark_of
mark-yes b e = rw e refl

pub mark-no : (b : Bool) → b ≡ false → 0 ≡ mark_of b
unfolding mark_of
mark-no b e = rw e refl

-- Reading: the rules before head `i` are well formed and marked.

pub record ReadSoFar (name heads texts marks₀ before : List ℕ) (i at : ℕ) (marks words : List ℕ) : Type 0 where
  pub kept : Kept before words 0 max_rule_entries
  pub size : length marks ≡ length marks₀
  pub formed : is_any is_malformed (rules_from heads texts i at) ≡ is_any is_malformed (rules_lent heads texts)
  pub marked : sets marks i (marks_of name (rules_from heads texts i at)) ≡ sets marks₀ 0 (marks_of name (rules_lent heads texts))
  pub placed : at ≤ length texts

module _ (name heads texts marks₀ before : List ℕ) where
  pub read-start : ReadSoFar name heads texts marks₀ before 0 0 marks₀ before
  read-start =
      record {
        kept = front-none before;
        size = refl;
        formed = ap (is_any is_malformed) (from_start heads texts);
        marked = ap (λ (rs : List LentRule). sets marks₀ 0 (marks_of name rs)) (from_start heads texts);
        placed = omega arith;
      }

  module _ {i at : ℕ} {marks words : List ℕ} {l : Lent} (k : ReadSoFar name heads texts marks₀ before i at marks words) (less : i < length heads / 16) (r : LentAt heads texts i at l) where
    pub read_next : {after : List ℕ} {s : RuleSheet} {b : Bool} {v : ℕ}
        → RuleIndexed (take (l.end - l.middle) (drop l.middle texts)) words after s
        → RuleNamed name (take (l.end - l.middle) (drop l.middle texts)) after s.is_template s.entries b
        → v ≡ mark_of b
        → ReadSoFar name heads texts marks₀ before (i + 1) l.end (set marks i v) after
    unfolding is_any is_malformed is_none marks_of mentions_in
    read_next {after} {s} {b} {v} is named e =
        let sheet = take (l.end - l.middle) (drop l.middle texts) in
        let more = from_next heads texts i at less r in
        let says : b ≡ mentions_in name (decode_rule sheet) = named.is is.tree is.indexed is.kind is.size ∙ ap (mentions_in name) (sym is.reads) in
        let well : is_none (decode_rule sheet) ≡ false = rw is.reads refl in
        let step : i + 1 ≡ suc i = omega arith in
        record {
          kept = front-both k.kept is.kept;
          size = length-set marks i v ∙ k.size;
          formed = ap (λ (x : Bool). x || is_any is_malformed (rules_from heads texts (i + 1) l.end)) (sym well) ∙ ap (is_any is_malformed) (sym more) ∙ k.formed;
          marked =
              ap (λ (n : ℕ). sets (set marks i v) n (marks_of name (rules_from heads texts (i + 1) l.end))) step
              ∙ ap (λ (x : ℕ). sets (set marks i x) (suc i) (marks_of name (rules_from heads texts (i + 1) l.end))) (e ∙ ap mark_of says)
              ∙ ap (λ (rs : List LentRule). sets marks i (marks_of name rs)) (sym more)
              ∙ k.marked;
          placed = r.within;
        }

    pub read-bad : {after : List ℕ} → decode_rule (take (l.end - l.middle) (drop l.middle texts)) ≡ none → Kept words after 0 max_rule_entries → RulesRead name (rules_lent heads texts) marks₀ marks before after false
    unfolding is_any is_malformed is_none
    read-bad e kept =
        let sheet = take (l.end - l.middle) (drop l.middle texts) in
        let more = from_next heads texts i at less r in
        let bad : is_none (decode_rule sheet) ≡ true = rw e refl in
        record {
          kept = front-both k.kept kept;
          size = k.size;
          formed = ap not (ap (λ (x : Bool). x || is_any is_malformed (rules_from heads texts (i + 1) l.end)) (sym bad) ∙ ap (is_any is_malformed) (sym more) ∙ k.formed);
          marked = λ t. absurd (false≢true t);
        }

  pub read-end : {i at : ℕ} {marks words : List ℕ} → ReadSoFar name heads texts marks₀ before i at marks words → length heads / 16 ≤ i → RulesRead name (rules_lent heads texts) marks₀ marks before words true
  unfolding is_any marks_of
  read-end {i} {at} {marks} k h =
      let nothing = from_end heads texts i at h in
      record {
        kept = k.kept;
        size = k.size;
        formed = ap not (ap (is_any is_malformed) (sym nothing) ∙ k.formed);
        marked = λ t. ap (λ (rs : List LentRule). sets marks i (marks_of name rs)) (sym nothing) ∙ k.marked;
      }

-- One record.

pub record-put : (o : Outcome) {before after : List ℕ} {at next : ℕ} → Wrote before after at (bytes_of (seven_of (numbers_by o))) next → RecordPut o before after at
record-put o w = record { stands = w.stands }

module _ (l : Lent) (texts : List ℕ) (start : ℕ) (table schema : List ℕ) (read : Option Schema) (place : ℕ) where
  pub rule-refused : {records path words : List ℕ} {n : ℕ} → SettledIs l.kind l.semantics table (Err n) → RuleChecked l texts start table schema read records records place path path words words
  rule-refused {words = words} e =
      record { kept = front-none words; size = refl; size_path = refl; put = λ ready small. absurd (none-ne-some _ (sym ready.sound ∙ e)) }

  pub rule-checked : {records records_now path_before path before after : List ℕ} {o : Outcome} (s : Setting)
      → SettledIs l.kind l.semantics table (Ok s)
      → SheetChecked Any (setting_by s) (take (l.middle - start) (drop start texts)) schema read (take (l.end - l.middle) (drop l.middle texts)) path_before path before after o
      → RecordPut o records records_now place
      → length path ≡ length path_before
      → RuleChecked l texts start table schema read records records_now place path_before path before after
  unfolding record_in takes_of
  rule-checked {records} {records_now} {path_before} {path} {before} {after} {o} s settled done put same =
      let label = take (l.middle - start) (drop start texts) in
      let sheet = take (l.end - l.middle) (drop l.middle texts) in
      record {
        kept = done.kept;
        size = ap length put.stands ∙ length-sets records place (bytes_of (seven_of (numbers_by o)));
        size_path = same;
        put =
            λ ready small.
            let tells = done.tells ready.indexed small ready.room in
            let setting = settled.1 in (
              put.stands
                  ∙ ap (λ (n : Numbers). sets records place (bytes_of (seven_of n))) tells.result
                  ∙ ap (λ (x : _). sets records place (bytes_of (seven_of (numbers_of (sheet_answer any x label schema sheet))))) setting,
              subst (λ (p : List ℕ). KeptFrom path_bytes path_before p) (sym tells.path) (sheet-path label path_before small ready.room any (setting_by s) schema sheet),
            );
      }
