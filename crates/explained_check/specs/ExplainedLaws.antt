-- Message and answer belong together: the message is a sentence of the defect that the numbers tell, and the answer and what is checked determine it.
use Rattle.std.specs.Prelude.{ℕ, ◌≡◌}
use Rattle.std.proofs.Math.Option.{Option, none, some}
use Rattle.std.proofs.Math.Path.{refl, ap, sym}
use Rattle.std.proofs.Common.{◌∙◌}
use Rattle.text.specs.CaseLaws.{zero-not-one}
use Rattle.definition.specs.Tree.{Schema, Rule}
use Rattle.definition.specs.Decode.{decode_schema, decode_rule}
use Rattle.definition.proofs.RoundTrip.{rule-round-trip}
use Rattle.reference.specs.Setting.{kernel}
use Rattle.reference.specs.Table.{table_in, setting_under, or_stock}
use Rattle.validation.specs.Check.{IsDefect, Check, checks}
use Rattle.validation.specs.Judge.{Failure, Verdict, all_pass, fails_at, judge}
use Rattle.validation.specs.Result.{Call, Answer, defect, Heard, refusal, acceptance, finding, Defect, Numbers, setting_for, refusals, first_refusal, refused_or, answer_of, checked, judged, numbers_of, result_of, call_of}
use Rattle.validation.proofs.DemandLaws.{heard, number-defect}
use Rattle.message.specs.Message.{message_of}
use Rattle.message.proofs.MessageLaws.{Agrees}
use Rattle.message.proofs.DefectLaws.{defect-explained}
use Rattle.message.specs.Explaining.{message_in, unless_refused, message_by, ExplainedRun, MeetsExplained}
use Rattle.message.proofs.ExplainingLaws.{accepted-unsaid, refused-unsaid}

unrefused : (o : Option ℕ) (a : Answer) {d : Defect} → refused_or o a ≡ defect d → o ≡ none
unfolding refused_or
unrefused none a e = refl
unrefused (some n) a e = zero-not-one cc

-- Two calls about the same sheets under the same table have the same message where they have the same answer; kind and semantics matter only beside a defect.
module _ (c c' : Call) (same : result_of c ≡ result_of c') (table : c.table ≡ c'.table) (schema : c.schema ≡ c'.schema) (rule : c.asked.rule ≡ c'.asked.rule)
    (settings : (d : Defect) → result_of c ≡ defect d → (c.asked.kind ≡ c'.asked.kind) × (c.asked.semantics ≡ c'.asked.semantics))
  where
    by_answer : {a : Answer} → Heard a → result_of c ≡ a → result_of c' ≡ a → message_by c ≡ message_by c'
    unfolding message_by unless_refused result_of
    by_answer (refusal {n} p) e e' = refused-unsaid c n e ∙ sym (refused-unsaid c' n e')
    by_answer (acceptance {n = n}) e e' = accepted-unsaid c n e ∙ sym (accepted-unsaid c' n e')
    by_answer (finding {d = d} f) e e' =
        let (kind, semantics) = settings d e in
        rw (unrefused (first_refusal (refusals c)) _ e, unrefused (first_refusal (refusals c')) _ e')
        (λ i. message_in (kind i) (setting_under (or_stock (table_in (table i))) (kind i) (semantics i)) (decode_schema (schema i)) (decode_rule (rule i)))

    pub same-message : message_by c ≡ message_by c'
    same-message = by_answer (heard c) refl (sym same)

-- The first check that fails, whose message it is.

pub record Explains (c : Call) (n : Numbers) (t : Schema) (r : Rule) (passed : ℕ) (check : Check) (why : Failure) : Type 0 where
  pub fails : judge (setting_for c) t (checks (setting_for c) r) ≡ fails_at passed check why
  pub number : n.number ≡ check.number
  pub detail : n.detail ≡ why.detail
  pub place : n.place ≡ check.place
  pub message : message_by c ≡ message_of c.asked.kind (setting_for c) t r (fails_at passed check why)
  -- a sentence of its detail, about its reference or `in`
  pub agrees : Agrees c.asked.kind check.question why.detail (message_by c)

pub record ExplainsDefect (c : Call) (n : Numbers) : Type 0 where
  pub t : Schema
  pub r : Rule
  pub schema : decode_schema c.schema ≡ some t
  pub rule : decode_rule c.asked.rule ≡ some r
  pub passed : ℕ
  pub check : Check
  pub why : Failure
  pub explains : Explains c n t r passed check why

module _ (c : Call) (n : Numbers) (same : n ≡ numbers_of (result_of c)) (d : Defect) (free : first_refusal (refusals c) ≡ none) where
  by-verdict : (t : Schema) (r : Rule) (v : Verdict)
      → decode_schema c.schema ≡ some t
      → decode_rule c.asked.rule ≡ some r
      → judge (setting_for c) t (checks (setting_for c) r) ≡ v
      → result_of c ≡ answer_of (setting_for c) c.asked.label r v
      → answer_of (setting_for c) c.asked.label r v ≡ defect d
      → ExplainsDefect c n
  unfolding answer_of numbers_of message_by message_in unless_refused setting_under
  by-verdict t r (all_pass passed) schema rule e a is = zero-not-one cc
  by-verdict t r (fails_at passed check why) schema rule e a is =
      let k : (setting_for c).reader ≡ kernel = refl in
      let within = ((rule-round-trip c.asked.rule r).0 rule).1 in
      let numbers = same ∙ ap numbers_of a in
      let message : message_by c ≡ message_of c.asked.kind (setting_for c) t r (fails_at passed check why) = rw (free, schema, rule, e) in
      record {
        t = t;
        r = r;
        schema = schema;
        rule = rule;
        passed = passed;
        check = check;
        why = why;
        explains =
            record {
              fails = e;
              number = ap (λ (n : Numbers). n.number) numbers;
              detail = ap (λ (n : Numbers). n.detail) numbers;
              place = ap (λ (n : Numbers). n.place) numbers;
              message = message;
              agrees = rw message (defect-explained c.asked.kind (setting_for c) t r passed check why k within.numbers e).agrees;
            };
      }

  by-sheets : (x : Option Schema) (y : Option Rule)
      → decode_schema c.schema ≡ x
      → decode_rule c.asked.rule ≡ y
      → result_of c ≡ judged (setting_for c) c.asked.label x y
      → judged (setting_for c) c.asked.label x y ≡ defect d
      → ExplainsDefect c n
  unfolding judged checked
  by-sheets none y schema rule a is = zero-not-one cc
  by-sheets (some t) none schema rule a is = zero-not-one cc
  by-sheets (some t) (some r) schema rule a is = by-verdict t r (judge (setting_for c) t (checks (setting_for c) r)) schema rule refl a is

-- so message, number, detail and place are of one defect
pub defect-said : (e : ExplainedRun) → MeetsExplained e → IsDefect e.marked.run.result.number → ExplainsDefect (call_of e.marked.run) e.marked.run.result
unfolding result_of refused_or
defect-said e meets h =
    let c = call_of e.marked.run in
    let same = meets.meets.meets.result in
    let (d, is) = number-defect (heard c) (rw (ap (λ (n : Numbers). n.number) same) at h) in
    let free = unrefused (first_refusal (refusals c)) _ is in
    let decided : result_of c ≡ judged (setting_for c) c.asked.label (decode_schema c.schema) (decode_rule c.asked.rule) = rw free in
    by-sheets c e.marked.run.result same d free (decode_schema c.schema) (decode_rule c.asked.rule) refl refl decided (sym decided ∙ is)
