-- Detail 13 of number 18 is a projection's: no rule or template ever meets it.
use Rattle.std.specs.Prelude.{ℕ, ◌+◌, ◌≤◌, ◌≡◌, refl}
use native.Mathlib.Omega.{arith}
use mathlib.Core.List.{List, [], ◌∷◌}
use Rattle.std.proofs.Math.Option.{Option, none, some}
use Rattle.definition.specs.Tree.{Text, Schema, Rule}
use Rattle.definition.specs.Decode.{decode_schema, decode_rule}
use Rattle.reference.specs.Setting.{kernel, Setting}
use Rattle.reference.specs.Table.{setting_under}
use Rattle.reference.specs.Walk as Walk
use Rattle.reference.specs.Walk.{Reached, unknown, known}
use Rattle.reference.specs.Reference.{Environment, reference}
use Rattle.reference.proofs.DetailLaws.{Has, Kernel, kernel-details}
use Rattle.validation.specs.Check.{Binder, Question, settled, readable, walkable, IsDefect, Check, check, checks}
use Rattle.validation.specs.Judge.{CheckOutcome, verdict, environment, answer, answer_in, outcome, Verdict, all_pass, fails_at, decide, judge_from, judge}
use Rattle.validation.proofs.CheckLaws.{Every, Asks, every-check}
use Rattle.validation.specs.Result.{Call, Answer, refused, accepted, defect, setting_for, first_refusal, refusals, answer_of, checked, judged, refused_or, result_of, numbers_of, Run, call_of, Meets}

-- what a check of number 18 fails with
abbrev Fails : CheckOutcome → Type 0
Fails none = Unit {0}
Fails (some why) = Kernel why.detail

verdict-kernel : (r : Reached) → Has Kernel r → Fails (verdict r)
unfolding verdict
verdict-kernel (Walk.refused d at left) h = h
verdict-kernel unknown h = tt
verdict-kernel (known f) h = tt

module _ (setting : Setting) (is-kernel : setting.reader ≡ kernel) (schema : Schema) where
  answer-kernel : (q : Question) (env : Option Environment) (n : ℕ) → Asks n q → n ≡ 18 → Fails (answer_in setting schema q env)
  unfolding answer_in answer
  answer-kernel q none n asks e = omega arith
  answer-kernel (settled o) (some env) n asks e = absurd (asks e)
  answer-kernel (readable t) (some env) n asks e =
      verdict-kernel (reference setting schema env t) (kernel-details setting is-kernel schema env t)
  answer-kernel (walkable v) (some env) n asks e = absurd (asks e)

  abbrev ByKernel : Check → Type 0
  ByKernel c = c.number ≡ 18 → Fails (outcome setting schema c)

  by-kernel : (n p : ℕ) (bs : List Binder) (q : Question) → IsDefect n → Asks n q → ByKernel (check n p bs q)
  unfolding check outcome
  by-kernel n p bs q d asks e = answer-kernel q (environment schema bs) n asks e

  abbrev VerdictByKernel : Verdict → Type 0
  VerdictByKernel (all_pass n) = Unit {0}
  VerdictByKernel (fails_at n c why) = c.number ≡ 18 → Kernel why.detail

  decided-by : (o : CheckOutcome) (n : ℕ) (c : Check) (v : Verdict) → (c.number ≡ 18 → Fails o) → VerdictByKernel v → VerdictByKernel (decide o n c v)
  unfolding decide
  decided-by none n c v p h = h
  decided-by (some d) n c v p h = p

  judged-from : (n : ℕ) (cs : List Check) → Every ByKernel cs → VerdictByKernel (judge_from (outcome setting schema) n cs)
  unfolding judge_from
  judged-from n [] h = tt
  judged-from n (c ∷ cs) h =
      decided-by (outcome setting schema c) n c (judge_from (outcome setting schema) (n + 1) cs) h.0 (judged-from (n + 1) cs h.1)

abbrev AnswerByKernel : Answer → Type 0
AnswerByKernel (refused n) = Unit {0}
AnswerByKernel (accepted n) = Unit {0}
AnswerByKernel (defect d) = d.number ≡ 18 → Kernel d.detail

answered-by : (setting : Setting) (is-kernel : setting.reader ≡ kernel) (schema : Schema) (label : Text) (r : Rule) (v : Verdict)
    → VerdictByKernel setting is-kernel schema v
    → AnswerByKernel (answer_of setting label r v)
unfolding answer_of
answered-by setting is-kernel schema label r (all_pass n) h = tt
answered-by setting is-kernel schema label r (fails_at n c d) h = h

judged-by : (setting : Setting) → setting.reader ≡ kernel → (label : Text) (s : Option Schema) (r : Option Rule)
    → AnswerByKernel (judged setting label s r)
unfolding judged checked judge
judged-by setting is-kernel label none r = tt
judged-by setting is-kernel label (some s) none = tt
judged-by setting is-kernel label (some s) (some r) =
    answered-by setting is-kernel s label r (judge setting s (checks setting r))
    (judged-from setting is-kernel s 0 (checks setting r) (every-check (ByKernel setting is-kernel s) (by-kernel setting is-kernel s) setting r))

or-by : (o : Option ℕ) (a : Answer) → AnswerByKernel a → AnswerByKernel (refused_or o a)
unfolding refused_or
or-by none a h = h
or-by (some n) a h = tt

numbers-by : (a : Answer) → AnswerByKernel a → (numbers_of a).number ≡ 18 → (numbers_of a).detail ≤ 12
unfolding numbers_of
numbers-by (refused n) h e = omega arith
numbers-by (accepted n) h e = omega arith
numbers-by (defect d) h e = h e

pub kernel-calls : (c : Call) → (numbers_of (result_of c)).number ≡ 18 → (numbers_of (result_of c)).detail ≤ 12
unfolding result_of setting_under
kernel-calls c =
    numbers-by (result_of c)
    (or-by (first_refusal (refusals c)) _
    (judged-by (setting_for c) refl c.asked.label (decode_schema c.schema) (decode_rule c.asked.rule)))

pub kernel-runs : (r : Run) → Meets r → r.result.number ≡ 18 → r.result.detail ≤ 12
kernel-runs r m e = rw m.result (kernel-calls (call_of r) (rw m.result at e))
