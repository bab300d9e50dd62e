-- What `to_json` answers is what its call says.
use Prim.Native.Nat.{ℕ, ◌≤◌, ◌<◌}
use native.Mathlib.Omega.{arith}
use mathlib.Core.Bool.{true, false, false≢true}
use mathlib.Core.List.{List, [], ◌∷◌}
use mathlib.Core.Option.{Option, none, some, bind}
use mathlib.Core.Path.{◌≡◌, sym, subst, ◌∙◌}
use lib.ListN.{length}
use Rattle.definition.specs.Tree.{Text, Value, Condition, Rule, rule, template}
use Rattle.definition.specs.Decode.{decode_rule}
use Rattle.definition.specs.Within.{rule_entries}
use Rattle.rule.specs.Index.{RuleAt}
use Rattle.rule.specs.Rule.{is_template, RuleIndexed}
use Rattle.rule.specs.declared.RuleSheet.{RuleSheet}
use Rattle.buffer.specs.Laid.{Laid, most_place}
use Rattle.json_text.specs.Escaped.{plain, written}
use Rattle.call.specs.Call.{Meets}
use Rattle.json_rule.specs.AsJson.{condition_as_json, rule_as_json}
use Rattle.json_rule.specs.Conversion.{Conversion, run_of, json_in, text_from, to_json_refusals, to_json}
use Rattle.conversion.specs.FareLaws.{heard-5, heard-short, told_text, meets-refused, meets-told}
use Rattle.conversion.specs.RoundTrip.{json_of_rule}
use Rattle.conversion.specs.SizeLaws.{text-most}
use Rattle.to_json.specs.Lays.{LaysRule, Narrow}
use Rattle.to_json.proofs.PartLaws.{rule-parts}

abbrev call_of : (bytes before : List ℕ) → Conversion
call_of bytes before = record { bytes = bytes; room = length before }

-- The rule in a sheet

module _ (sheet : List ℕ) where
  unreadable : decode_rule sheet ≡ none → json_in sheet ≡ none
  unfolding json_in bind
  unreadable e = rw e

  no-json : (v : Value) → decode_rule sheet ≡ some (template v) → json_in sheet ≡ none
  unfolding json_in bind rule_as_json
  no-json v e = rw e

  module _ (name message : Option Text) (assert : Condition) (e : decode_rule sheet ≡ some (rule name message assert)) where
    json-in : json_in sheet ≡ some (json_of_rule name message assert)
    unfolding json_in bind rule_as_json
    json-in = rw e

-- The code's answers

pub answered-bad : {sheet json : List ℕ} → decode_rule sheet ≡ none → Meets to_json (run_of sheet json json (5 ∷ 0 ∷ []))
answered-bad {sheet} {json} e = meets-refused to_json_refusals text_from sheet json 5 (heard-5 (call_of sheet json) (unreadable sheet e))

module _ {sheet scratch words : List ℕ} {r : RuleSheet} (x : RuleIndexed sheet scratch words r) where
  pub answered-template : {json : List ℕ} → r.is_template ≡ true → Meets to_json (run_of sheet json json (5 ∷ 0 ∷ []))
  unfolding is_template
  answered-template {json} is = go x.tree x.reads (sym x.kind ∙ is)
    where
      go : (t : Rule) → decode_rule sheet ≡ some t → is_template t ≡ true → Meets to_json (run_of sheet json json (5 ∷ 0 ∷ []))
      go (rule name message assert) e k = absurd (false≢true k)
      go (template v) e k = meets-refused to_json_refusals text_from sheet json 5 (heard-5 (call_of sheet json) (no-json sheet v e))

  -- what is laid is the rule's text
  laid-text : {before after : List ℕ} {next : ℕ} (name message : Option Text) (assert : Condition) → RuleAt sheet words (rule name message assert)
      → r.entries ≡ rule_entries (rule name message assert)
      → LaysRule sheet words r.entries before after next
      → Laid before after 0 (written plain (json_of_rule name message assert)) next
  unfolding rule_entries
  laid-text {before} {after} {next} name message assert stands size l =
      subst (λ (t : List ℕ). Laid before after 0 t next) (rule-parts name message (condition_as_json assert)) (l.lays name message assert stands size)

  module _ {before after : List ℕ} {size : ℕ} (is : r.is_template ≡ false) (measured : LaysRule sheet words r.entries before after size) where
    pub answered-full : {json : List ℕ} → length json < size → length json ≤ most_place → Meets to_json (run_of sheet json json (33 ∷ 0 ∷ []))
    unfolding is_template
    answered-full {json} short room = go x.tree x.reads x.indexed x.size (sym x.kind ∙ is)
      where
        go : (t : Rule) → decode_rule sheet ≡ some t → RuleAt sheet words t → r.entries ≡ rule_entries t → is_template t ≡ false → Meets to_json (run_of sheet json json (33 ∷ 0 ∷ []))
        go (rule name message assert) e stands entries k =
            let l = laid-text name message assert stands entries measured in
            meets-refused to_json_refusals text_from sheet json 33
            (heard-short (call_of sheet json) (json_of_rule name message assert) (json-in sheet name message assert e) (omega (arith, l.ends)))
        go (template v) e stands entries k = absurd (false≢true (sym k))

    pub answered-told : {json now : List ℕ} {next n : ℕ} → size ≤ length json → LaysRule sheet words r.entries json now next → Narrow size n
        → Meets to_json (run_of sheet json now (0 ∷ n ∷ []))
    unfolding is_template
    answered-told {json} {now} {next} {n} fits laid same = go x.tree x.reads x.indexed x.size (sym x.kind ∙ is)
      where
        go : (t : Rule) → decode_rule sheet ≡ some t → RuleAt sheet words t → r.entries ≡ rule_entries t → is_template t ≡ false → Meets to_json (run_of sheet json now (0 ∷ n ∷ []))
        go (rule name message assert) e stands entries k =
            let l = laid-text name message assert stands entries measured in
            let m = laid-text name message assert stands entries laid in
            let told = json-in sheet name message assert e in
            let small = text-most sheet (json_of_rule name message assert) told in
            let whole : size ≡ length (written plain (json_of_rule name message assert)) = omega (arith, l.ends) in
            meets-told to_json_refusals text_from sheet json (written plain (json_of_rule name message assert))
            (told_text (call_of sheet json) (json_of_rule name message assert) told (omega arith))
            (m.stands (omega arith))
            (same.same (omega arith) ∙ whole)
        go (template v) e stands entries k = absurd (false≢true (sym k))
