-- The three demands (crate `validation`, specs/Demands) at the C functions: of every call of `rulecheck_rule`, `rulecheck_template` and `rulecheck_check`; and the
-- move from kernel/1 to service (specs/KernelToService). Where two calls are compared, each may be of any of the three.
-- Each brings a scratch of its own, so that nothing has to be said about what one held before.
use Rattle.std.specs.Prelude.{ℕ, ◌+◌, ◌≤◌, ◌<◌, Bool, true, false, cond, ◌&&◌, List, [], ◌≡◌, leb, length}
use Rattle.std.proofs.Common.{arith, ◌∙◌, leb-true}
use Rattle.std.proofs.Math.Option.{none, some}
use Rattle.std.proofs.Math.Path.{refl, ap, sym}
use Rattle.std.proofs.lemmas.Bool.{lt-leb}
use Rattle.text.specs.Utf8.{between, is_utf8}
use Rattle.text.specs.CaseLaws.{by-test}
use Rattle.definition.specs.Tree.{Schema, Rule}
use Rattle.definition.specs.Decode.{decode_schema, decode_rule}
use Rattle.reference.specs.Setting.{one_of}
use Rattle.reference.specs.Table.{table_in}
use Rattle.widening.specs.Widening.{Level}
use Rattle.validation.specs.Check.{IsDefect}
use Rattle.validation.specs.Result.{Takes, AlsoTakes, any, Lent, Call, refused, refusal_numbers, IsRefusal, is_taken, max_label_bytes, path_bytes, mark_bytes, of_buffers, of_settings, early, first_refusal, Unrefused, Numbers, result_of, numbers_of, path_after, lent_of, call_of, Meets}
use Rattle.validation.proofs.RefusalLaws.{refusal-no-defect, is_set, none-due, none-of-either}
use Rattle.validation.specs.Service.{literals_in, AllFinite, SameButSemantics}
use Rattle.validation.proofs.ServiceCallLaws.{accepted-unrefused}
use Rattle.validation.proofs.KernelToService.{kernel-to-service, accepted-taken}
use Rattle.validation.specs.Growth.{Widens}
use Rattle.validation.proofs.DemandLaws.{heard, number-accepted}
use Rattle.validation.proofs.Demands.{keeps-path, Demand2, demand-2, SameButSchema, Demand3, demand-3}
use Rattle.entity_rules.specs.Entry.{result_bytes, result_after, path_lent, entry_call, entry_answer, EntryAnswered, numbers_in, entry_run}
use Rattle.entity_rules.specs.EntryLaws.{numbers-of-answer, entry-call, short-result-refused}
use Rattle.entity_rules.specs.CheckEntry.{report_bytes, report_after, check_call, CheckAnswered}
use Rattle.entity_rules.specs.CheckEntryLaws.{numbers-of-check}
use Rattle.entity_rules.specs.Exchange.{Exchange, call_by, run_by, ExchangeAnswered, EntryDemand1}

-- What the contracts of the three functions say of an exchange.

module _ (takes : Takes) (kind semantics : ℕ) (label schema rule path_before path result_before result : List ℕ) (returned : ℕ) where
  -- `rulecheck_rule` takes rules, `rulecheck_template` templates
  unfoldable pub entry_exchange : Exchange
  entry_exchange =
      record {
        takes = takes;
        kind = kind;
        semantics = semantics;
        label = label;
        table = [];
        schema = schema;
        rule = rule;
        marks_lent = mark_bytes;
        need = result_bytes;
        path_before = path_before;
        result_before = result_before;
        path = path;
        result = result;
        returned = returned;
      }

  pub entry-answered : EntryAnswered (entry_answer takes kind semantics label schema rule (length path_before) (length result_before)) path_before path result_before result returned
      → ExchangeAnswered entry_exchange
  unfolding entry_exchange call_by entry_answer result_after
  entry-answered a =
      record {
        number = a.number;
        path = a.path;
        numbers = λ room. numbers-of-answer a room;
        unwritten = λ short. a.result ∙ rw (lt-leb result_bytes (length result_before) short) refl;
      }

module _ (kind semantics : ℕ) (label table schema rule path_before path marks_before marks result_before result : List ℕ) (returned : ℕ) where
  unfoldable pub check_exchange : Exchange
  check_exchange =
      record {
        takes = any;
        kind = kind;
        semantics = semantics;
        label = label;
        table = table;
        schema = schema;
        rule = rule;
        marks_lent = length marks_before;
        need = report_bytes;
        path_before = path_before;
        result_before = result_before;
        path = path;
        result = result;
        returned = returned;
      }

  pub check-answered : CheckAnswered (check_call kind semantics label table schema rule (length path_before) (length marks_before) (length result_before)) path_before path marks_before marks result_before result returned
      → ExchangeAnswered check_exchange
  unfolding check_exchange call_by check_call report_after
  check-answered a =
      record {
        number = a.number;
        path = a.path;
        numbers = λ room. numbers-of-check a room;
        unwritten = λ short. a.result ∙ rw (lt-leb report_bytes (length result_before) short) refl;
      }

-- Demand 1

refusal-123 : (a b : Bool) → IsRefusal (numbers_of (refused (cond a (cond b 3 2) 1))).number
unfolding numbers_of refusal_numbers one_of
refusal-123 true true = record { listed = refl }
refusal-123 true false = record { listed = refl }
refusal-123 false b = record { listed = refl }

module _ (e : Exchange) (a : ExchangeAnswered e) where
  keeps : (IsDefect e.returned → ⊥) → e.path ≡ e.path_before
  keeps h = a.path ∙ keeps-path e.path_before (heard (call_by e)) (rw a.number at h)

  short : length e.result_before < e.need → IsRefusal e.returned × (e.path ≡ e.path_before) × (e.result ≡ e.result_before)
  unfolding call_by
  short few =
      let is-refused = short-result-refused e.takes e.kind e.semantics e.label e.table e.schema e.rule e.need (length e.path_before) e.marks_lent (length e.result_before) few in
      let refusal : IsRefusal e.returned = rw (a.number, is-refused)
      (refusal-123 (between 1 8 e.kind && between 1 4 e.semantics) (leb (length e.label) max_label_bytes && is_utf8 e.label))
      in
      (refusal, keeps (λ d. refusal-no-defect e.returned refusal d), a.unwritten few)

  pub entry-demand-1 : EntryDemand1 e
  entry-demand-1 = record { hears = (result_of (call_by e), heard (call_by e), a.number, a.numbers); keeps = keeps; short = short }

-- where nothing is refused, the result had room
pub and_left : (a b : Bool) → (a && b) ≡ true → a ≡ true
and_left true b e = refl
and_left false b e = e

pub lent-room : (need path result : ℕ) → path_bytes ≤ path_lent need path result → need ≤ result
unfolding path_lent
lent-room need path result enough = by-test (leb need result) (λ t. leb-true need result t) (λ t. absurd (omega (arith, rw t at enough)))

pub unrefused-room : (e : Exchange) → Unrefused (call_by e) → e.need ≤ length e.result_before
unfolding call_by entry_call early of_settings
unrefused-room e n =
    let due = none-due (early (call_by e)) (none-of-either (call_by e) n).0 in
    let wide = and_left _ _ (is_set _ due.1.1.0) in
    lent-room e.need (length e.path_before) (length e.result_before) (leb-true path_bytes _ wide)

-- a call with room for its result is a run
module _ (e : Exchange) (room : e.need ≤ length e.result_before) where
  same-call : call_of (run_by e) ≡ call_by e
  unfolding run_by call_by
  same-call =
      entry-call e.takes e.kind e.semantics e.label e.table e.schema e.rule e.need e.path_before e.marks_lent e.path e.result_before e.result room

  roomy-meets : ExchangeAnswered e → Meets (run_by e)
  unfolding run_by entry_run
  roomy-meets a =
      let same = sym same-call in
      record {
        result = a.numbers room ∙ ap (λ (c : Call). numbers_of (result_of c)) same;
        path = a.path ∙ ap (λ (c : Call). path_after (result_of c) e.path_before) same;
        scratch = record { size = refl; kept = refl };
      }

  -- and what is returned is its number
  returned-number : ExchangeAnswered e → (run_by e).result.number ≡ e.returned
  unfolding run_by entry_run
  returned-number a = ap (λ (n : Numbers). n.number) (a.numbers room) ∙ sym a.number

module _ (e : Exchange) (a : ExchangeAnswered e) (n : Unrefused (call_by e)) where
  unrefused-run : Unrefused (call_of (run_by e))
  unrefused-run = rw (same-call e (unrefused-room e n)) n

  exchange-meets : Meets (run_by e)
  exchange-meets = roomy-meets e (unrefused-room e n) a

-- Demand 2, its proved half
pub entry-demand-2 : (e : Exchange) (s : Schema) (t : Rule)
    → ExchangeAnswered e
    → decode_schema e.schema ≡ some s
    → decode_rule e.rule ≡ some t
    → Unrefused (call_by e)
    → Demand2 (run_by e) s t
unfolding run_by entry_run
entry-demand-2 e s t a schema rule n = demand-2 (run_by e) s t (exchange-meets e a n) schema rule (unrefused-run e a n)

-- Demand 3
pub entry-demand-3 : {l : Level} (e e' : Exchange)
    → ExchangeAnswered e
    → ExchangeAnswered e'
    → SameButSchema (run_by e) (run_by e')
    → Widens l e.schema e'.schema
    → Unrefused (call_by e)
    → Unrefused (call_by e')
    → Demand3 l (run_by e) (run_by e')
unfolding run_by entry_run
entry-demand-3 e e' a a' s w n n' =
    demand-3 (run_by e) (run_by e') (exchange-meets e a n) (exchange-meets e' a' n') s w (unrefused-run e a n) (unrefused-run e' a' n')

-- From kernel/1 to service

buffers-room : (e : Exchange) → first_refusal (of_buffers (call_by e).lent) ≡ none → e.need ≤ length e.result_before
unfolding call_by entry_call
buffers-room e n =
    let wide = and_left _ _ (is_set _ (none-due (of_buffers (call_by e).lent) n).0) in
    lent-room e.need (length e.path_before) (length e.result_before) (leb-true path_bytes _ wide)

accepted-call : (e : Exchange) → ExchangeAnswered e → e.returned ≡ 0 → Unrefused (call_by e)
accepted-call e a accepts =
    let (n, same) = number-accepted (heard (call_by e)) (sym a.number ∙ accepts) in
    accepted-unrefused (call_by e) n same

-- the second function takes the sheet where it takes as many as the first
pub entry-taken : (e e' : Exchange) (t : Rule)
    → ExchangeAnswered e
    → AlsoTakes e.takes e'.takes
    → decode_rule e.rule ≡ some t
    → e.returned ≡ 0
    → is_taken e'.takes (some t) ≡ true
unfolding run_by entry_run
entry-taken e e' t a also decodes accepts =
    let n = accepted-call e a accepts in
    accepted-taken (run_by e) (run_by e') t (exchange-meets e a n) also decodes (returned-number e (unrefused-room e n) a ∙ accepts)

pub entry-kernel-to-service : (e e' : Exchange) (t : Rule)
    → ExchangeAnswered e
    → ExchangeAnswered e'
    → SameButSemantics (run_by e) (run_by e')
    → e.semantics ≡ 1
    → 2 ≤ e'.semantics
    → e'.semantics ≤ 4
    → decode_rule e.rule ≡ some t
    → is_taken e'.takes (some t) ≡ true
    → AllFinite (literals_in t)
    → first_refusal (of_buffers (call_by e').lent) ≡ none
    → e.returned ≡ 0
    → (e'.returned ≡ 0) × ((numbers_in e'.result).passed ≡ (numbers_in e.result).passed + length (literals_in t))
unfolding run_by entry_run call_of
entry-kernel-to-service e e' t a a' s kernel low high decodes taken finite room accepts =
    let n = accepted-call e a accepts in
    let room' = buffers-room e' room in
    let lends : lent_of (run_by e') ≡ (call_by e').lent = ap (λ (c : Call). c.lent) (same-call e' room') in
    let moved =
    kernel-to-service (run_by e) (run_by e') t (exchange-meets e a n) (roomy-meets e' room' a') s kernel low high decodes taken finite
    (ap (λ (x : Lent). first_refusal (of_buffers x)) lends ∙ room)
    (returned-number e (unrefused-room e n) a ∙ accepts)
    in
    (sym (returned-number e' room' a') ∙ moved.0, moved.1)

-- So what `rulecheck_rule` or `rulecheck_template` was asked may be asked again of `rulecheck_check`: these premises hold between them.

module _ (takes : Takes) (kind : ℕ) (label rule path_before path result_before result : List ℕ) (returned : ℕ) (table : List ℕ) (same : table_in [] ≡ table_in table)
    (path_before' path' marks_before marks result_before' result' : List ℕ) (returned' : ℕ)
  where
    pub then-check : (semantics : ℕ) (schema schema' : List ℕ)
        → SameButSchema (run_by (entry_exchange takes kind semantics label schema rule path_before path result_before result returned))
        (run_by (check_exchange kind semantics label table schema' rule path_before' path' marks_before marks result_before' result' returned'))
    unfolding run_by entry_run entry_exchange check_exchange
    then-check semantics schema schema' = record { kind = refl; semantics = refl; label = refl; rule = refl; table = same }

    pub then-check-service : (semantics semantics' : ℕ) (schema : List ℕ)
        → SameButSemantics (run_by (entry_exchange takes kind semantics label schema rule path_before path result_before result returned))
        (run_by (check_exchange kind semantics' label table schema rule path_before' path' marks_before marks result_before' result' returned'))
    unfolding run_by entry_run entry_exchange check_exchange
    then-check-service semantics semantics' schema = record { kind = refl; label = refl; rule = refl; schema = refl; table = same }
