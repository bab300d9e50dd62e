-- The two further sentences of `collection_element` never occur: whenever a call finds that an `in` value is not a collection, the detail is 1 to 5.
use Prim.Native.Nat.{ℕ, ◌+◌}
use mathlib.Core.List.{List, [], ◌∷◌}
use mathlib.Core.Option.{Option, none, some}
use mathlib.Core.Path.{◌≡◌, refl}
use Rattle.definition.specs.Tree.{Text, Schema, Rule}
use Rattle.definition.specs.Decode.{decode_schema, decode_rule}
use Rattle.reference.specs.Setting.{Setting}
use Rattle.reference.proofs.CollectionLaws.{Listed}
use Rattle.validation.specs.Check.{Check, checks}
use Rattle.validation.proofs.CheckLaws.{Explains, Sure, sure-checks}
use Rattle.validation.specs.Judge.{CheckOutcome, outcome, Verdict, all_pass, fails_at, decide, judge_from, judge}
use Rattle.validation.specs.Result.{Call, Defect, Answer, refused, accepted, defect, answer_of, refusals, first_refusal, setting_for, checked, judged, refused_or, result_of}

abbrev ExplainedVerdict : Verdict → Type 0
ExplainedVerdict (all_pass n) = Unit {0}
ExplainedVerdict (fails_at n c why) = c.number ≡ 22 → Listed why.detail

abbrev ExplainedAnswer : Answer → Type 0
ExplainedAnswer (refused n) = Unit {0}
ExplainedAnswer (accepted n) = Unit {0}
ExplainedAnswer (defect d) = d.number ≡ 22 → Listed d.detail

decide-explained : (o : CheckOutcome) (n : ℕ) (c : Check) (v : Verdict)
    → (c.number ≡ 22 → Explains o)
    → (o ≡ none → ExplainedVerdict v)
    → ExplainedVerdict (decide o n c v)
unfolding decide
decide-explained none n c v h k = k refl
decide-explained (some d) n c v h k = h

judge-explained : (setting : Setting) (schema : Schema) (n : ℕ) (cs : List Check)
    → Sure setting schema cs
    → ExplainedVerdict (judge_from (outcome setting schema) n cs)
unfolding judge_from
judge-explained setting schema n [] s = tt
judge-explained setting schema n (c ∷ cs) s =
    decide-explained (outcome setting schema c) n c _ s.0.explained
    (λ e. judge-explained setting schema (n + 1) cs (s.1 e))

answer-explained : (setting : Setting) (label : Text) (r : Rule) (v : Verdict) → ExplainedVerdict v → ExplainedAnswer (answer_of setting label r v)
unfolding answer_of
answer-explained setting label r (all_pass n) h = tt
answer-explained setting label r (fails_at n c d) h = h

judged-explained : (setting : Setting) (label : Text) (s : Option Schema) (r : Option Rule) → ExplainedAnswer (judged setting label s r)
unfolding judged checked judge
judged-explained setting label none r = tt
judged-explained setting label (some s) none = tt
judged-explained setting label (some s) (some r) =
    answer-explained setting label r (judge setting s (checks setting r))
    (judge-explained setting s 0 (checks setting r) (sure-checks setting s r))

or-explained : (x : Option ℕ) (a : Answer) → ExplainedAnswer a → ExplainedAnswer (refused_or x a)
unfolding refused_or
or-explained none a h = h
or-explained (some n) a h = tt

result-explained : (c : Call) → ExplainedAnswer (result_of c)
unfolding result_of
result-explained c =
    or-explained (first_refusal (refusals c)) _
    (judged-explained (setting_for c) c.asked.label (decode_schema c.schema) (decode_rule c.asked.rule))

pub collection-detail : (c : Call) (d : Defect) → result_of c ≡ defect d → d.number ≡ 22 → Listed d.detail
collection-detail c d e = rw e at (result-explained c)
