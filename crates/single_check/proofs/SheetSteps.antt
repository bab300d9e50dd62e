-- One rule sheet, by each way through its check.
use Rattle.std.specs.Prelude.{Option as Optional, Some, None}
use Prim.Native.Nat.{ℕ}
use mathlib.Core.Bool.{Bool, true, false}
use mathlib.Core.List.{List}
use mathlib.Core.Option.{Option, none, some, some-injective, none-ne-some}
use mathlib.Core.Path.{◌≡◌, refl, sym, ◌∙◌}
use Rattle.definition.specs.Tree.{Rule, rule, template}
use Rattle.definition.specs.Decode.{decode_schema}
use Rattle.definition.proofs.RoundTrip.{rule-round-trip}
use Rattle.reference.specs.Setting.{Setting}
use Rattle.schema.specs.declared.read.Schema.{Schema}
use Rattle.rule.specs.Index.{RuleAt}
use Rattle.rule.specs.Rule.{is_template, RuleAnswer}
use Rattle.rule.specs.declared.RuleSheet.{RuleSheet}
use Rattle.validation.specs.Result as Result
use Rattle.validation.specs.Result.{is_taken, judged, numbers_of, path_after}
use Rattle.single_check.specs.Outcomes.{numbers_by}
use Rattle.single_check.specs.Answers.{Answered}
use Rattle.single_check.specs.Sheets.{takes_of, is_let_in, taken_of, sheet_answer, SheetChecked}
use Rattle.single_check.specs.SheetLaws.{still_read}
use Rattle.single_check.specs.declared.sheets.Takes.{Takes}
use Rattle.single_check.specs.declared.sheets.Takes.TheVariants.{Any, Rules, Templates}
use Rattle.single_check.specs.declared.outcome.Outcome.{Outcome}

taken-let-in : (takes : Takes) (x : Rule) → is_taken (takes_of takes) (some x) ≡ is_let_in takes (is_template x)
unfolding is_taken takes_of is_let_in is_template
taken-let-in Any (rule name message assert) = refl
taken-let-in Any (template v) = refl
taken-let-in Rules (rule name message assert) = refl
taken-let-in Rules (template v) = refl
taken-let-in Templates (rule name message assert) = refl
taken-let-in Templates (template v) = refl

-- the index of what was read is that of what is decoded
indexed-so : (sheet words : List ℕ) (x y : Rule) → ◌≡◌ {A = Option Rule} (some x) (some y) → RuleAt sheet words x → RuleAt sheet words y
indexed-so sheet words x y e h = rw (some-injective x y e) at h

module _ {takes : Takes} {setting : Setting} {label schema sheet path_before before : List ℕ} {q : Optional Schema} where
  pub sheet-no-schema : {r : Outcome}
      → q ≡ None
      → numbers_by r ≡ numbers_of (Result.refused 4)
      → SheetChecked takes setting label schema q sheet path_before path_before before before r
  unfolding sheet_answer judged path_after
  sheet-no-schema e n =
      record {
        kept = record { len = refl; below = λ j h. refl; above = λ j h. refl };
        stands = rw e tt;
        tells = λ is small room.
            let bad : decode_schema schema ≡ none = rw e at is in
            rw bad (record { result = n; path = refl });
      }

  module _ {s : Schema} (e : q ≡ Some s) {after : List ℕ} {a : Optional RuleSheet} (read : RuleAnswer sheet before after a) where
    pub sheet-no-rule : {r : Outcome}
        → a ≡ None
        → numbers_by r ≡ numbers_of (Result.refused 5)
        → SheetChecked takes setting label schema q sheet path_before path_before before after r
    unfolding sheet_answer judged taken_of path_after
    sheet-no-rule f n =
        let bad = rw f at read in
        record {
          kept = bad.1;
          stands = rw e (λ x d. absurd (none-ne-some x (sym bad.0 ∙ d)));
          tells = λ is small room.
              let good = rw e at is in
              rw (good.reads, bad.0) (record { result = n; path = refl });
        }

    module _ {t : RuleSheet} (f : a ≡ Some t) {x : Bool} (g : x ≡ is_let_in takes t.is_template) where
      pub sheet-not-taken : {r : Outcome}
          → x ≡ false
          → numbers_by r ≡ numbers_of (Result.refused 5)
          → SheetChecked takes setting label schema q sheet path_before path_before before after r
      unfolding sheet_answer judged taken_of path_after
      sheet-not-taken h n =
          let rule = rw f at read in
          let let-in : is_let_in takes (is_template rule.tree) ≡ x = rw (sym rule.kind) (sym g) in
          let other = taken-let-in takes rule.tree ∙ let-in ∙ h in
          record {
            kept = rule.kept;
            stands = rw e (λ y d. indexed-so sheet after rule.tree y (sym rule.reads ∙ d) rule.indexed);
            tells = λ is small room.
                let good = rw e at is in
                rw (good.reads, rule.reads, other) (record { result = n; path = refl });
          }

      pub sheet-answered : {path : List ℕ} {r : Outcome}
          → x ≡ true
          → Answered setting label schema sheet s after path_before path r
          → SheetChecked takes setting label schema q sheet path_before path before after r
      unfolding sheet_answer judged taken_of
      sheet-answered h n =
          let rule = rw f at read in
          let let-in : is_let_in takes (is_template rule.tree) ≡ x = rw (sym rule.kind) (sym g) in
          let taken = taken-let-in takes rule.tree ∙ let-in ∙ h in
          record {
            kept = rule.kept;
            stands = rw e (λ y d. indexed-so sheet after rule.tree y (sym rule.reads ∙ d) rule.indexed);
            tells = λ is small room.
                let good = still_read schema (Some s) rule.kept (rw e at is) in
                let written = (rule-round-trip sheet rule.tree).0 rule.reads in
                rw (good.reads, rule.reads, taken)
                (n.tells good.tree rule.tree good.indexed rule.indexed written.1 (rw written.0 written.1.bytes) small room);
          }
