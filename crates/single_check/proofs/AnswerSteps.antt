-- The answer about two sheets: what the code found is what the check list shows, and its numbers are small.
use Rattle.std.specs.Prelude.{Option as Optional, Ok, Err}
use Prim.Native.Nat.{ℕ, ◌+◌, ◌*◌, ◌≤◌}
use native.Mathlib.Omega.{arith}
use mathlib.Core.Bool.{Bool, true, false, cond}
use mathlib.Core.List.{List, [], ◌∷◌}
use mathlib.Core.Option.{Option, none, some, IsSome}
use lib.ListN.{length}
use mathlib.Core.Path.{◌≡◌, refl, sym, ap, ◌∙◌}
use lib.Dec.{eqb}
use Rattle.definition.specs.Limits.{max_sheet_bytes}
use Rattle.definition.specs.Tree as Tree
use Rattle.definition.specs.Tree.{Rule}
use Rattle.definition.specs.Within.{rule_entries, RuleFrom, RuleWithin}
use Rattle.reference.specs.Setting.{Setting}
use Rattle.schema.specs.Read.{SchemaAt}
use Rattle.schema.specs.declared.read.Schema.{Schema}
use Rattle.rule.specs.Index.{RuleAt}
use Rattle.walk.specs.declared.answer.Reader.TheVariants.{Kernel}
use Rattle.scope.specs.Scopes.{Unbound}
use Rattle.scope.specs.ScopeLaws.{scope-unbound}
use Rattle.scope.specs.declared.binder.Scope.{Scope}
use Rattle.validation.specs.Check.{Binder, checks}
use Rattle.validation.specs.Judge as Judge
use Rattle.validation.specs.Judge.{all_pass, fails_at, judge}
use Rattle.validation.proofs.WideningLaws.{passed_of}
use Rattle.validation.proofs.CountLaws.{VerdictIs, every-judged, passes-at-most, checks-at-most, HeldSmall, Small, checks-small}
use Rattle.validation.specs.Location.{behind_label}
use Rattle.validation.specs.Result as Result
use Rattle.validation.specs.Result.{checked, own_family, numbers_of, path_after, over_of, family_in, over_place_in}
use Rattle.value_checks.specs.Shown.{Shown, passes, fails, shown_of, answer_shown, answer-shown}
use Rattle.value_checks.specs.Verdicts.{number_of, failure_of, over_by, shown_with, shown_by}
use Rattle.condition_checks.specs.Rules.{RuleJudged}
use Rattle.value_checks.specs.declared.verdict.Fault.{Fault}
use Rattle.value_checks.specs.declared.verdict.Progress as Judged
use Rattle.defect_path.specs.Path.{PathWritten}
use Rattle.defect_path.specs.PathLaws.{HasPath, checks-have-paths}
use Rattle.defect_path.specs.LengthLaws.{path-length}
use Rattle.defect_path.specs.WholeLaws.{path-stands}
use Rattle.single_check.specs.Outcomes.{numbers_by}
use Rattle.single_check.specs.Settings.{setting_by}
use Rattle.single_check.specs.Findings.{FindingIs}
use Rattle.single_check.specs.Answers.{Narrow, Answered}
use Rattle.single_check.specs.declared.settings.Setting as Code
use Rattle.single_check.specs.declared.finding.Finding.{Finding}
use Rattle.single_check.specs.declared.outcome.Outcome.{Outcome}

-- What a verdict on a rule shows is within the rule's own size.

abbrev OverWithin : ℕ → Option ℕ → Type 0
OverWithin n none = Unit {0}
OverWithin n (some e) = e ≤ n

record FailsWithin (x : Rule) (passed number place : ℕ) (over : Option ℕ) : Type 0 where
  few : passed ≤ 3 * rule_entries x + 3
  placed : place ≤ rule_entries x
  held : OverWithin (rule_entries x) over
  led : IsSome (behind_label number place x)

abbrev ShownWithin : Rule → Shown → Type 0
ShownWithin x (passes n) = n ≤ 3 * rule_entries x + 3
ShownWithin x (fails n number place over d) = FailsWithin x n number place over

held-over : (n : ℕ) (bs : List Binder) → HeldSmall n bs → OverWithin n (over_of bs)
unfolding over_of
held-over n [] h = tt
held-over n (b ∷ bs) h = h

over-small : (n : ℕ) (o : Option ℕ) (family : ℕ) → OverWithin n o → over_place_in o family ≤ n
unfolding over_place_in
over-small n none family h = omega arith
over-small n (some e) family h = either (eqb family 1)
  where
    either : (b : Bool) → cond b e 0 ≤ n
    either true = h
    either false = omega arith

by-verdict : (x : Rule) (v : Judge.Verdict)
    → passed_of v ≤ 3 * rule_entries x + 3
    → VerdictIs (Small (rule_entries x)) v
    → VerdictIs (HasPath x) v
    → ShownWithin x (shown_of v)
unfolding shown_of passed_of
by-verdict x (all_pass n) few small led = few
by-verdict x (fails_at n c d) few small led =
    record { few = few; placed = small.place; held = held-over (rule_entries x) c.binders small.held; led = led }

shown-within : (setting : Setting) (tree : Tree.Schema) (x : Rule) → RuleFrom 1 x → ShownWithin x (shown_of (judge setting tree (checks setting x)))
shown-within setting tree x from =
    let a = passes-at-most setting tree (checks setting x) in
    let b = checks-at-most setting x in
    by-verdict x (judge setting tree (checks setting x)) (omega arith)
    (every-judged (Small (rule_entries x)) setting tree (checks setting x) (checks-small setting x from))
    (every-judged (HasPath x) setting tree (checks setting x) (checks-have-paths setting x from))

module _ (set : Code.Setting) {schema sheet : List ℕ} {s : Schema} {words : List ℕ} {scope : Scope} {a : Judged.Progress} {p : ℕ}
    (u : Unbound set.row set.service Kernel s scope) (j : RuleJudged schema sheet words scope a) (n : Narrow a.passed p)
  where
    abbrev setting : Setting
    setting = setting_by set

    -- what the code shows, of the setting as it was handed over
    shows : (t : Tree.Schema) (x : Rule) → length sheet ≤ max_sheet_bytes → SchemaAt schema words s t → RuleAt sheet words x
        → shown_by a ≡ shown_of (judge setting t (checks setting x))
    shows t x short at rat = j.shows setting t x (scope-unbound schema sheet words set.row set.service Kernel s scope setting t short u refl refl refl at) rat

    checked-shows : (label : List ℕ) (t : Tree.Schema) (x : Rule) {o : Shown} → length sheet ≤ max_sheet_bytes → SchemaAt schema words s t → RuleAt sheet words x → shown_by a ≡ o
        → checked setting label t x ≡ answer_shown setting label x o
    unfolding checked
    checked-shows label t x short at rat f =
        answer-shown setting label x (judge setting t (checks setting x))
        ∙ ap (answer_shown setting label x) (sym (shows t x short at rat) ∙ f)

    shown-small : (t : Tree.Schema) (x : Rule) {o : Shown} → length sheet ≤ max_sheet_bytes → SchemaAt schema words s t → RuleAt sheet words x → RuleWithin x → shown_by a ≡ o → ShownWithin x o
    shown-small t x short at rat within f =
        rw (sym (shows t x short at rat) ∙ f) at (shown-within setting t x within.numbers)

    pub answer-accepted : {label before : List ℕ} {r : Outcome}
        → a.verdict ≡ (Ok tt)
        → numbers_by r ≡ numbers_of (Result.accepted p)
        → Answered setting label schema sheet s words before before r
    unfolding shown_by shown_with answer_shown path_after
    answer-accepted {label} v q =
        record {
          tells = λ t x at rat within short small room.
              let f : shown_by a ≡ passes a.passed = rw v in
              let few = shown-small t x short at rat within f in
              let entries = within.entries in
              let same : p ≡ a.passed = n.same (omega arith) in
              rw (checked-shows label t x short at rat f) (record { result = rw same at q; path = refl });
        }

    pub answer-defect : {label before after : List ℕ} {fault : Fault} {entry : ℕ} {over : Optional ℕ} {found : Finding} {place size family over_place over_place' written : ℕ}
        → a.verdict ≡ Err (fault, entry, over)
        → FindingIs set.rule_kind fault found
        → Narrow entry place
        → PathWritten label sheet words found.number place before after written
        → family ≡ family_in (over_by over) found.family
        → over_place ≡ over_place_in (over_by over) found.family
        → Narrow over_place over_place'
        → Narrow written size
        → Answered setting label schema sheet s words before after
        (record { number = found.number; family = family; detail = found.detail; place = place; over_place = over_place'; passed = p; path_length = size })
    unfolding shown_by shown_with failure_of answer_shown path_after numbers_of
    answer-defect {label} {before} {after} {fault} {entry} {over} {found = found} {place} {size} {family} {over_place} {over_place'} {written} v finding placed wrote family-is over-is over-narrow narrow_Size =
        record {
          tells = λ t x at rat within short small room.
              let f : shown_by a ≡ fails a.passed (number_of fault) entry (over_by over) (failure_of fault) = rw v in
              let w = shown-small t x short at rat within f in
              let entries = within.entries in
              let few = w.few in
              let near = w.placed in
              let passed_is : p ≡ a.passed = n.same (omega arith) in
              let place_is : place ≡ entry = placed.same (omega arith) in
              let own : found.family ≡ own_family setting (number_of fault) = finding.family setting refl in
              let over-own : over_place ≡ over_place_in (over_by over) (own_family setting (number_of fault)) = rw own at over-is in
              let low = over-small (rule_entries x) (over_by over) (own_family setting (number_of fault)) w.held in
              let over-same : over_place' ≡ over_place = over-narrow.same (omega arith) in
              let path : PathWritten label sheet words (number_of fault) entry before after written = rw (place_is, finding.number) at wrote in
              let stands = path-stands x path rat within w.led small room in
              let count = stands.count in
              let fits = path-length label x (number_of fault) entry small within in
              let size_is : size ≡ written = narrow_Size.same (omega arith) in
              rw (checked-shows label t x short at rat f) (record {
                result = λ i.
                    record {
                      number = finding.number i;
                      family = (rw own at family-is) i;
                      detail = finding.detail i;
                      place = place_is i;
                      over_place = (over-same ∙ over-own) i;
                      passed = passed_is i;
                      path_length = (size_is ∙ count) i;
                    };
                path = stands.buffer;
              });
        }
