-- From kernel/1 to service: a rule or template that is accepted under kernel/1 is accepted under service/1, 2 and 3 with the same sheets, kind,
-- label and table, if each number that the literal pass meets is finite and the second call's buffers meet no refusal. Each of those numbers is one check more.
-- The second call may be of any function that takes such a sheet: that of the first call does (`accepted-taken`), and so does one that is not refused (`unrefused-taken`).
use Rattle.std.specs.Prelude.{ℕ, ◌+◌, ◌≤◌, true, ◌≡◌, refl, length}
use Rattle.std.proofs.Math.Option.{none, some}
use Rattle.std.proofs.Common.{ap, sym, ◌∙◌}
use Rattle.definition.specs.Tree.{Rule}
use Rattle.definition.specs.Decode.{decode_rule}
use Rattle.validation.specs.Result.{AlsoTakes, Call, accepted, is_taken, result_of, of_buffers, of_sheets, first_refusal, Unrefused, numbers_of, Run, lent_of, call_of, Meets}
use Rattle.validation.proofs.RefusalLaws.{is_set, none-due, none-of-either, also-taken}
use Rattle.validation.proofs.DemandLaws.{heard, number-accepted}
use Rattle.validation.specs.Service.{literals_in, AllFinite, under, SameButSemantics}
use Rattle.validation.proofs.ServiceCallLaws.{accepted-unrefused, service-call}

second_call : {r r' : Run} → SameButSemantics r r' → call_of r' ≡ under r'.asked.takes (call_of r) r'.asked.semantics r'.table (lent_of r')
unfolding call_of under
second_call {r' = r'} s = λ i.
    record {
      asked =
          record {
            takes = r'.asked.takes;
            kind = sym s.kind i;
            semantics = r'.asked.semantics;
            label = sym s.label i;
            rule = sym s.rule i;
          };
      table = r'.table;
      schema = sym s.schema i;
      lent = lent_of r';
    }

more-passed : (r r' : Run) (n more : ℕ)
    → r.result ≡ numbers_of (accepted n)
    → r'.result ≡ numbers_of (accepted (n + more))
    → (r'.result.number ≡ 0) × (r'.result.passed ≡ r.result.passed + more)
unfolding numbers_of
more-passed r r' n more e e' = rw (e, e') (refl, refl)

-- where 5 is not due, the function takes the sheet
pub unrefused-taken : (r : Run) (t : Rule) → decode_rule r.asked.rule ≡ some t → Unrefused (call_of r) → is_taken r.asked.takes (some t) ≡ true
unfolding call_of of_sheets
unrefused-taken r t decodes n = rw decodes at (is_set (is_taken r.asked.takes (decode_rule r.asked.rule)) (none-due (of_sheets (call_of r)) (none-of-either (call_of r) n).1).1.0)

-- so does every function that takes as many
pub accepted-taken : (r r' : Run) (t : Rule)
    → Meets r
    → AlsoTakes r.asked.takes r'.asked.takes
    → decode_rule r.asked.rule ≡ some t
    → r.result.number ≡ 0
    → is_taken r'.asked.takes (some t) ≡ true
unfolding call_of of_sheets
accepted-taken r r' t m also decodes accepts =
    let (n, same) = number-accepted (heard (call_of r)) (rw m.result at accepts) in
    let due = (none-due (of_sheets (call_of r)) (none-of-either (call_of r) (accepted-unrefused (call_of r) n same)).1).1.0 in
    is_set _ (also-taken also (some t) (rw decodes at due))

pub kernel-to-service : (r r' : Run) (t : Rule)
    → Meets r
    → Meets r'
    → SameButSemantics r r'
    → r.asked.semantics ≡ 1
    → 2 ≤ r'.asked.semantics
    → r'.asked.semantics ≤ 4
    → decode_rule r.asked.rule ≡ some t
    → is_taken r'.asked.takes (some t) ≡ true
    → AllFinite (literals_in t)
    → first_refusal (of_buffers (lent_of r')) ≡ none
    → r.result.number ≡ 0
    → (r'.result.number ≡ 0) × (r'.result.passed ≡ r.result.passed + length (literals_in t))
unfolding call_of
kernel-to-service r r' t m m' s kernel low high decodes taken finite room accepts =
    let (n, same) = number-accepted (heard (call_of r)) (rw m.result at accepts) in
    let moved = service-call r'.asked.takes (call_of r) r'.asked.semantics r'.table (lent_of r') t n kernel low high decodes taken finite s.table room same in
    more-passed r r' n (length (literals_in t)) (m.result ∙ ap numbers_of same)
    (m'.result ∙ ap (λ (c : Call). numbers_of (result_of c)) (second_call s) ∙ ap numbers_of moved)
