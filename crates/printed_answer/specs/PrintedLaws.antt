-- Every path fits the lent buffer, and where there is room, the whole output is written.
use Rattle.std.specs.Prelude.{ℕ, ◌≤◌, Bool, true, false, cond, not, ◌&&◌, List, ◌≡◌, refl, length, take, leb}
use Rattle.std.proofs.Math.Option.{Option, none, some}
use Rattle.std.proofs.Common.{arith, leb-true}
use Rattle.text.specs.Utf8.{between}
use Rattle.text.specs.CaseLaws.{by-test}
use Rattle.definition.specs.Tree.{Text, Schema, Rule}
use Rattle.definition.specs.Decode.{decode_schema, decode_rule}
use Rattle.definition.specs.Within.{RuleWithin}
use Rattle.definition.proofs.RoundTrip.{rule-round-trip}
use Rattle.reference.specs.Setting.{Setting}
use Rattle.validation.specs.Check.{checks}
use Rattle.validation.specs.Judge.{Verdict, all_pass, fails_at, judge}
use Rattle.validation.specs.Result.{Call, Answer, max_label_bytes, path_bytes, setting_for, of_settings, early, refusals, first_refusal, answer_of, checked, judged, refused_or, result_of}
use Rattle.buffer.specs.WroteLaws.{wrote-front}
use Rattle.defect_path.specs.LengthLaws.{path-length}
use Rattle.check_file.specs.Output.{path_in}
use Rattle.printed_answer.specs.Printed.{max_output, Printed}

-- where there is room, the whole output is in front of `next`
pub printed-whole : {output before after : List ℕ} {next : ℕ} → Printed output before after next → max_output ≤ length before
    → take next after ≡ output
printed-whole p room = wrote-front p.wrote (omega (arith, p.short))

-- Paths, by how an answer comes about.

verdict-fits : (setting : Setting) (label : Text) (r : Rule) (v : Verdict) → length label ≤ max_label_bytes → RuleWithin r
    → length (path_in (answer_of setting label r v)) ≤ path_bytes
unfolding answer_of path_in
verdict-fits setting label r (all_pass passed) small within = omega arith
verdict-fits setting label r (fails_at passed c d) small within = path-length label r c.number c.place small within

judged-fits : (setting : Setting) (label : Text) (s : Option Schema) (r : Option Rule) → length label ≤ max_label_bytes
    → ((t : Rule) → r ≡ some t → RuleWithin t) → length (path_in (judged setting label s r)) ≤ path_bytes
unfolding judged checked path_in
judged-fits setting label none r small within = omega arith
judged-fits setting label (some s) none small within = omega arith
judged-fits setting label (some s) (some r) small within =
    verdict-fits setting label r (judge setting s (checks setting r)) small (within r refl)

refused-fits : (o : Option ℕ) (a : Answer) → length (path_in a) ≤ path_bytes → length (path_in (refused_or o a)) ≤ path_bytes
unfolding refused_or path_in
refused-fits none a fits = fits
refused-fits (some n) a fits = omega arith

first-refused : (b : Bool) (a : Answer) → length (path_in (refused_or (cond b (some 1) (some 2)) a)) ≤ path_bytes
unfolding refused_or path_in
first-refused true a = omega arith
first-refused false a = omega arith

pub path-fits : (c : Call) → length (path_in (result_of c)) ≤ path_bytes
unfolding result_of refusals early of_settings first_refusal
path-fits c =
    let verdict = judged (setting_for c) c.asked.label (decode_schema c.schema) (decode_rule c.asked.rule) in
    by-test (leb (length c.asked.label) max_label_bytes)
    (λ e.
    refused-fits (first_refusal (refusals c)) verdict
    (judged-fits (setting_for c) c.asked.label (decode_schema c.schema) (decode_rule c.asked.rule) (leb-true (length c.asked.label) max_label_bytes e)
    (λ t read. ((rule-round-trip c.asked.rule t).0 read).1)))
    (λ e. rw e (first-refused (not (between 1 8 c.asked.kind && between 1 4 c.asked.semantics)) verdict))
