-- The schema and the rules together: what is heard of them, and what is left in the lent buffers.
use Rattle.std.specs.Prelude.{Option, Some, None}
use Prim.Native.Nat.{ℕ, ◌≤◌}
use native.Mathlib.Omega.{arith}
use mathlib.Core.Bool.{Bool, true, false, not}
use mathlib.Core.List.{List}
use mathlib.Core.Option.{none}
use mathlib.Core.Path.{◌≡◌, refl, sym, ◌∙◌}
use lib.ListN.{length}
use borrow.Author.Tests.{not-true}
use Rattle.definition.specs.Tree.{Text}
use Rattle.definition.specs.Decode.{decode_schema}
use Rattle.schema.specs.Read.{SchemaAnswer}
use Rattle.schema.specs.declared.read.Schema.{Schema}
use Rattle.call.specs.Call.{first_refusal, number_in}
use Rattle.validation.specs.Check.{is_none}
use Rattle.validation.proofs.RefusalLaws.{is_set}
use Rattle.single_check.specs.SheetLaws.{front-schema, front-rule, front-both}
use Rattle.drafts.specs.Lent.{LentRule, is_any}
use Rattle.drafts.specs.DraftCalls.{is_malformed}
use Rattle.drafts.specs.Reading.{RulesRead, MarkedChecked, SheetsRead, SheetsChecked}

not_yes : (b : Bool) → true ≡ not b → b ≡ false
not_yes true e = e
not_yes false e = refl

not-no : (b : Bool) → false ≡ not b → b ≡ true
not-no true e = refl
not-no false e = e

module _ {name : Text} {rules : List LentRule} {schema marks₀ before middle : List ℕ} {read : Option Schema} (a : SchemaAnswer schema before middle read) where
  pub no-schema : read ≡ None → SheetsRead name rules schema marks₀ marks₀ before middle 4
  unfolding number_in first_refusal is_none
  no-schema e =
      let d : decode_schema schema ≡ none = rw e at a.answer in
      record { front = front-schema a.kept; size = refl; heard = rw d refl; marked = λ z. absurd (omega arith) }

  module _ {s : Schema} (g : read ≡ Some s) {marks after : List ℕ} {r : Bool} (k : RulesRead name rules marks₀ marks middle after r) where
    pub all_read : r ≡ true → SheetsRead name rules schema marks₀ marks before after 0
    unfolding number_in first_refusal is_none
    all_read e =
        let good = rw g at a.answer in
        let formed = not_yes (is_any is_malformed rules) (sym e ∙ k.formed) in
        record { front = front-both (front-schema a.kept) (front-rule k.kept); size = k.size; heard = rw (good.reads, formed) refl; marked = λ z. k.marked e }

    pub no-rule : r ≡ false → SheetsRead name rules schema marks₀ marks before after 5
    unfolding number_in first_refusal is_none
    no-rule e =
        let good = rw g at a.answer in
        let formed = not-no (is_any is_malformed rules) (sym e ∙ k.formed) in
        record { front = front-both (front-schema a.kept) (front-rule k.kept); size = k.size; heard = rw (good.reads, formed) refl; marked = λ z. absurd (omega arith) }

pub sheets-checked : {rules : List LentRule} {table schema marks records records_now path₀ path before middle after : List ℕ} {read : Option Schema}
    → SchemaAnswer schema before middle read
    → MarkedChecked rules table schema read marks records records_now path₀ path middle after
    → SheetsChecked rules table schema marks records records_now path₀ path before after
sheets-checked a k =
    record {
      front = front-both (front-schema a.kept) (front-rule k.kept);
      size = k.size;
      size_path = k.size_path;
      put = λ sound room labels. k.put (record { sound = sound; indexed = a.answer; room = room }) labels;
    }
