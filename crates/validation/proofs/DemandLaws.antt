-- The laws that the demands cite.
use Rattle.std.specs.Prelude.{ℕ, ◌≤◌, ◌<◌, false, not, List, ◌≡◌, refl}
use Rattle.std.proofs.Common.{arith, ap, sym, ◌∙◌}
use Rattle.std.proofs.Math.Option.{Option, none, some}
use Rattle.text.specs.CaseLaws.{zero-not-one}
use Rattle.definition.specs.Tree.{Text, Schema, Rule}
use Rattle.definition.specs.Decode.{decode_schema, decode_rule}
use Rattle.definition.proofs.RoundTrip.{schema-round-trip}
use Rattle.reference.specs.Setting.{Setting, one_of}
use Rattle.reference.specs.Table.{table_in}
use Rattle.widening.specs.Widening.{Level, marks}
use Rattle.widening.specs.Distinct.{DistinctSchema}
use Rattle.widening.proofs.DistinctLaws.{schema-distinct}
use Rattle.widening.proofs.WalkLaws.{Details, equal, differ}
use Rattle.widening.proofs.ReferenceLaws.{GrownSchema}
use Rattle.validation.specs.Check.{is_none, Binder, Question, Check, IsDefect, check, checks}
use Rattle.validation.specs.Judge.{Verdict, all_pass, fails_at}
use Rattle.validation.proofs.CheckLaws.{Asks, every-check, sure-checks}
use Rattle.validation.proofs.CountLaws.{VerdictIs, every-judged}
use Rattle.validation.proofs.WideningLaws.{VerdictFares, still_accepted, same_defect, later, passed_of, judge-fares}
use Rattle.validation.specs.Result.{Takes, Lent, Call, Defect, Answer, refused, accepted, defect, refusal_numbers, IsRefusal, Heard, refusal, acceptance, finding, answer_of, is_taken, of_sheets, refusals, first_refusal, Unrefused, setting_for, checked, judged, refused_or, result_of, numbers_of, path_after, Run, call_of, Meets}
use Rattle.validation.proofs.RefusalLaws.{none-due, none-of-either, refusal-listed, refusal-some, refusal-no-defect}
use Rattle.validation.specs.Growth.{against_by, Widens, Writes, SameFinding, SameDefect}

-- acceptance or a defect
abbrev pub NotRefused : Answer → Type 0
NotRefused (refused n) = ⊥
NotRefused (accepted n) = Unit {0}
NotRefused (defect d) = Unit {0}

abbrev pub passed : Answer → ℕ
passed (refused n) = 0
passed (accepted n) = n
passed (defect d) = d.passed

accepted-no-defect : (n : ℕ) (d : Defect) → accepted n ≡ defect d → ⊥
accepted-no-defect n d e = zero-not-one cc

defect-injective : (d d' : Defect) → defect d ≡ defect d' → d ≡ d'
defect-injective d d' e = cc

-- Widening: two answers by one check list, the second under a widened schema
pub data Fared : Level → Answer → Answer → Type 0 where
  both_accept : {l : Level} {n : ℕ} → Fared l (accepted n) (accepted n)
  both_fail : {l : Level} {d d' : Defect} → SameDefect d d' → d'.passed ≡ d.passed → Details l d.detail d'.detail → Fared l (defect d) (defect d')
  passes_more : {l : Level} {d : Defect} {a' : Answer} → d.passed < passed a' → Fared l (defect d) a'

passed-answer : (setting : Setting) (label : Text) (r : Rule) (v : Verdict) → passed (answer_of setting label r v) ≡ passed_of v
unfolding answer_of passed_of
passed-answer setting label r (all_pass n) = refl
passed-answer setting label r (fails_at n c d) = refl

answer-fares : {l : Level} {v v' : Verdict} (setting : Setting) (label : Text) (r : Rule)
    → VerdictFares l v v'
    → Fared l (answer_of setting label r v) (answer_of setting label r v')
unfolding answer_of
answer-fares setting label r still_accepted = both_accept
answer-fares setting label r (same_defect details) =
    both_fail (record { number = refl; family = refl; path = refl; place = refl; over_place = refl }) refl details
answer-fares setting label r (later {v = v} less) = passes_more (rw (← (passed-answer setting label r v)) at less)

sheets-fare : {l : Level} {s s' : Schema} (setting : Setting) (label : Text)
    → GrownSchema l s s'
    → (refusal refusal' : Option ℕ) (r : Option Rule)
    → NotRefused (refused_or refusal (judged setting label (some s) r))
    → NotRefused (refused_or refusal' (judged setting label (some s') r))
    → Fared l (refused_or refusal (judged setting label (some s) r)) (refused_or refusal' (judged setting label (some s') r))
unfolding refused_or judged checked
sheets-fare setting label g none none none h h' = absurd h
sheets-fare {s = s} setting label g none none (some r) h h' =
    answer-fares setting label r (judge-fares setting (checks setting r) g (sure-checks setting s r))
sheets-fare setting label g none (some n) r h h' = absurd h'
sheets-fare setting label g (some n) refusal' r h h' = absurd h

pub distinct-names : (sheet : List ℕ) (s : Schema) → decode_schema sheet ≡ some s → DistinctSchema s
distinct-names sheet s e = schema-distinct s ((schema-round-trip sheet s).0 e).1.rises

calls-fare : {l : Level} (takes' : Takes) (c : Call) (table' schema' : List ℕ) (lent' : Lent)
    → table_in c.table ≡ table_in table'
    → Widens l c.schema schema'
    → NotRefused (result_of c)
    → NotRefused (result_of (against_by takes' c table' schema' lent'))
    → Fared l (result_of c) (result_of (against_by takes' c table' schema' lent'))
unfolding result_of against_by
calls-fare takes' c table' schema' lent' same w =
    rw (w.decodes_first, w.decodes_second, ← same)
    (sheets-fare (setting_for c) c.asked.label
    (record { is_wider = w.is_wider; is_distinct = distinct-names schema' w.second w.decodes_second })
    (first_refusal (refusals c))
    (first_refusal (refusals (against_by takes' c table' schema' lent')))
    (decode_rule c.asked.rule))

accepts-still : {l : Level} {a a' : Answer} → Fared l a a' → (n : ℕ) → a ≡ accepted n → a' ≡ accepted n
accepts-still both_accept n e = e
accepts-still (both_fail {d = d} s p details) n e = absurd (accepted-no-defect n d (sym e))
accepts-still (passes_more {d = d} less) n e = absurd (accepted-no-defect n d (sym e))

passes-as-many : {l : Level} {a a' : Answer} → Fared l a a' → (d : Defect) → a ≡ defect d → d.passed ≤ passed a'
passes-as-many (both_accept {n = n}) d e = absurd (accepted-no-defect n d e)
passes-as-many (both_fail {d = x} {d' = x'} s p details) d e =
    let same : x ≡ d = defect-injective x d e in rw (← same) (omega arith)
passes-as-many (passes_more {d = x} {a' = a'} less) d e =
    let same : x ≡ d = defect-injective x d e in rw (← same) (omega arith)

fails-alike : {l : Level} {a a' : Answer} → Fared l a a' → (d : Defect) → a ≡ defect d → passed a' ≡ d.passed → (d' : Defect) × (a' ≡ defect d') × SameDefect d d'
fails-alike (both_accept {n = n}) d e p = absurd (accepted-no-defect n d e)
fails-alike (both_fail {d = x} {d' = x'} s q details) d e p = rw (← (defect-injective x d e)) (x', refl, s)
fails-alike (passes_more {d = x} {a' = a'} less) d e p =
    let h : x.passed ≡ d.passed = ap (λ (y : Defect). y.passed) (defect-injective x d e) in
    absurd (omega arith)

pub details-equal : {d d' : ℕ} (l : Level) → l ≡ marks → Details l d d' → d' ≡ d
details-equal l e equal = refl
details-equal l e differ = cc

explains-alike : {l : Level} {a a' : Answer} → Fared l a a' → l ≡ marks → (d d' : Defect) → a ≡ defect d → a' ≡ defect d' → d'.passed ≡ d.passed → d'.detail ≡ d.detail
explains-alike (both_accept {n = n}) m d d' e e' p = absurd (accepted-no-defect n d e)
explains-alike (both_fail {l = l} {d = x} {d' = x'} s q details) m d d' e e' p =
    rw (← (defect-injective x d e), ← (defect-injective x' d' e')) (details-equal l m details)
explains-alike (passes_more {d = x} {a' = a'} less) m d d' e e' p =
    let h : x.passed ≡ d.passed = ap (λ (y : Defect). y.passed) (defect-injective x d e) in
    let h' : passed a' ≡ d'.passed = ap passed e' in
    absurd (omega arith)

-- how the answers of two calls compare, the second against a widened schema
pub record AnswersFare (l : Level) (a a' : Answer) : Type 0 where
  pub accepts : (n : ℕ) → a ≡ accepted n → a' ≡ accepted n
  pub passes : (d : Defect) → a ≡ defect d → d.passed ≤ passed a'
  pub repeats : (d : Defect) → a ≡ defect d → passed a' ≡ d.passed → (d' : Defect) × (a' ≡ defect d') × SameDefect d d'
  pub explains : l ≡ marks → (d d' : Defect) → a ≡ defect d → a' ≡ defect d' → d'.passed ≡ d.passed → d'.detail ≡ d.detail

-- whichever function each call is of
pub results-fare : {l : Level} (takes' : Takes) (c : Call) (table' schema' : List ℕ) (lent' : Lent)
    → table_in c.table ≡ table_in table'
    → Widens l c.schema schema'
    → NotRefused (result_of c)
    → NotRefused (result_of (against_by takes' c table' schema' lent'))
    → AnswersFare l (result_of c) (result_of (against_by takes' c table' schema' lent'))
results-fare takes' c table' schema' lent' same w n n' =
    record {
      accepts = accepts-still (calls-fare takes' c table' schema' lent' same w n n');
      passes = passes-as-many (calls-fare takes' c table' schema' lent' same w n n');
      repeats = fails-alike (calls-fare takes' c table' schema' lent' same w n n');
      explains = explains-alike (calls-fare takes' c table' schema' lent' same w n n');
    }

-- Whatever is asked, the caller hears one of the answers that it may hear

abbrev Found : Check → Type 0
Found c = IsDefect c.number

heard-answer : (setting : Setting) (label : Text) (r : Rule) (v : Verdict) → VerdictIs Found v → Heard (answer_of setting label r v)
unfolding answer_of
heard-answer setting label r (all_pass n) h = acceptance
heard-answer setting label r (fails_at n c d) h = finding h

found : (n p : ℕ) (bs : List Binder) (q : Question) → IsDefect n → Asks n q → Found (check n p bs q)
unfolding check
found n p bs q d asks = d

heard-judged : (setting : Setting) (label : Text) (s : Option Schema) (r : Option Rule) → Heard (judged setting label s r)
unfolding judged checked refusal_numbers one_of
heard-judged setting label none r = refusal {n = 4} (record { listed = refl })
heard-judged setting label (some s) none = refusal {n = 5} (record { listed = refl })
heard-judged setting label (some s) (some r) =
    heard-answer setting label r _ (every-judged Found setting s (checks setting r) (every-check Found found setting r))

heard-or : {a : Answer} (o : Option ℕ) → ((n : ℕ) → o ≡ some n → IsRefusal n) → Heard a → Heard (refused_or o a)
unfolding refused_or
heard-or none listed h = h
heard-or (some n) listed h = refusal (listed n refl)

pub heard : (c : Call) → Heard (result_of c)
unfolding result_of
heard c =
    heard-or (first_refusal (refusals c)) (refusal-listed c)
    (heard-judged (setting_for c) c.asked.label (decode_schema c.schema) (decode_rule c.asked.rule))

-- A call of which no refusal is due

unrefused-verdict : (setting : Setting) (label : Text) (r : Rule) (v : Verdict) → NotRefused (answer_of setting label r v)
unfolding answer_of
unrefused-verdict setting label r (all_pass n) = tt
unrefused-verdict setting label r (fails_at n c d) = tt

unrefused-sheets : (setting : Setting) (label : Text) (takes : Takes) (s : Option Schema) (r : Option Rule)
    → is_none s ≡ false
    → not (is_taken takes r) ≡ false
    → NotRefused (judged setting label s r)
unfolding judged checked is_none is_taken
unrefused-sheets setting label takes none r e e' = zero-not-one cc
unrefused-sheets setting label takes (some s) none e e' = zero-not-one cc
unrefused-sheets setting label takes (some s) (some r) e e' = unrefused-verdict setting label r _

-- it ends in acceptance or a defect
pub unrefused-answer : (c : Call) → Unrefused c → NotRefused (result_of c)
unfolding result_of of_sheets refused_or
unrefused-answer c n =
    let sheets = none-due (of_sheets c) (none-of-either c n).1 in
    rw n
    (unrefused-sheets (setting_for c) c.asked.label c.asked.takes (decode_schema c.schema) (decode_rule c.asked.rule) sheets.0
    sheets.1.0)

-- and it answers by its check list
pub answers-by-checks : (c : Call) (s : Schema) (r : Rule)
    → decode_schema c.schema ≡ some s
    → decode_rule c.asked.rule ≡ some r
    → Unrefused c
    → result_of c ≡ checked (setting_for c) c.asked.label s r
unfolding result_of refused_or judged
answers-by-checks c s r e e' n = rw (n, e, e')

-- What the seven numbers say about an answer

pub number-accepted : {a : Answer} → Heard a → (numbers_of a).number ≡ 0 → (n : ℕ) × (a ≡ accepted n)
unfolding numbers_of
number-accepted (refusal {n} p) e = absurd (refusal-some n p e)
number-accepted (acceptance {n = n}) e = (n, refl)
number-accepted (finding f) e = absurd (omega (arith, f.low))

pub number-defect : {a : Answer} → Heard a → IsDefect (numbers_of a).number → (d : Defect) × (a ≡ defect d)
unfolding numbers_of
number-defect (refusal {n} p) h = absurd (refusal-no-defect n p h)
number-defect acceptance h = absurd (omega (arith, h.low))
number-defect (finding {d = d} f) h = (d, refl)

pub passed-number : (a : Answer) → (numbers_of a).passed ≡ passed a
unfolding numbers_of
passed-number (refused n) = refl
passed-number (accepted n) = refl
passed-number (defect d) = refl

-- what the definitions say of a run, with its answer by itself
pub record Gives (r : Run) (a : Answer) : Type 0 where
  pub hears : Heard a
  pub result : r.result ≡ numbers_of a
  pub path : r.path ≡ path_after a r.path_before

pub meets-gives : (r : Run) → Meets r → Gives r (result_of (call_of r))
meets-gives r m = record { hears = heard (call_of r); result = m.result; path = m.path }

gives-writes : {a : Answer} (r : Run) (d : Defect) → Gives r a → a ≡ defect d → Writes d.path r
unfolding numbers_of path_after
gives-writes r d g e = record { bytes = rw e at g.path; size = rw (g.result, e) }

pub same-acceptance : {a a' : Answer} (r r' : Run) (n : ℕ)
    → Gives r a
    → Gives r' a'
    → a ≡ accepted n
    → a' ≡ accepted n
    → (r'.result.number ≡ 0) × (r'.result.passed ≡ r.result.passed)
unfolding numbers_of
same-acceptance r r' n g g' e e' = rw (g.result, g'.result, e, e') (refl, refl)

pub same-finding : {a a' : Answer} (r r' : Run) (d d' : Defect)
    → Gives r a
    → Gives r' a'
    → a ≡ defect d
    → a' ≡ defect d'
    → SameDefect d d'
    → SameFinding r r'
unfolding numbers_of
same-finding r r' d d' g g' e e' s =
    record {
      number = rw (g.result, g'.result, e, e') s.number;
      family = rw (g.result, g'.result, e, e') s.family;
      path = (d.path, gives-writes r d g e, rw s.path at (gives-writes r' d' g' e'));
      place = rw (g.result, g'.result, e, e') s.place;
      over_place = rw (g.result, g'.result, e, e') s.over_place;
    }

pub same-passed : {a a' : Answer} (r r' : Run) (d : Defect)
    → Gives r a
    → Gives r' a'
    → a ≡ defect d
    → r'.result.passed ≡ r.result.passed
    → passed a' ≡ d.passed
unfolding numbers_of
same-passed {a' = a'} r r' d g g' e p = sym (passed-number a') ∙ (rw (g.result, g'.result, e) at p)
