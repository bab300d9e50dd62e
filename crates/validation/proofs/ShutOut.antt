-- Programs that the promise of a whole call shuts out (docs/FORMAT.md, "Promises"). A program is known here by the seven numbers with which it answers.
use Prim.Native.Nat.{ℕ, ◌≤◌}
use native.Mathlib.Omega.{arith}
use mathlib.Core.Bool.{Bool, true, false, cond}
use mathlib.Core.List.{List, [], ◌∷◌}
use mathlib.Core.Option.{Option, none, some}
use mathlib.Core.Path.{◌≡◌, refl, ap, sym, ◌∙◌}
use lib.Dec.{eqb}
use lib.ListN.{replicate}
use borrow.Author.Tests.{eqb-true, eqb-false}
use Rattle.text.specs.Ascii.{ascii}
use Rattle.text.specs.CaseLaws.{zero-not-one}
use Rattle.definition.specs.Tree.{Text, no_members, Schema, constant, literal, Rule, rule, template}
use Rattle.definition.specs.Decode.{decode_schema, decode_rule}
use Rattle.reference.specs.Setting.{Setting}
use Rattle.validation.specs.Check.{is_none}
use Rattle.validation.specs.Judge.{Verdict, all_pass, fails_at}
use Rattle.validation.specs.Result.{Takes, any, rules, templates, Call, Answer, refused, is_of_sheets, Heard, refusal, acceptance, finding, answer_of, is_taken, Refusal, of_sheets, refusals, first_refusal, checked, judged, refused_or, setting_for, result_of, Numbers, numbers_of, Run, call_of, Meets}
use Rattle.validation.proofs.RefusalLaws.{asking, sheet-refused}
use Rattle.validation.specs.Growth.{against}
use Rattle.validation.proofs.DemandLaws.{heard}
use Rattle.validation.specs.Computing.{computing}
use Rattle.validation.proofs.Calls.{ask}
use Rattle.validation.proofs.Runs.{run_with, call-of-run}

abbrev pub Program : Type 0
Program = Call → Numbers

-- there is a call that the program does not answer as promised, whatever it does to the buffers
pub record Breaks (p : Program) : Type 0 where
  pub call : Call
  pub run : (r : Run) × (call_of r ≡ call) × (r.result ≡ p call)
  pub broken : (r : Run) → call_of r ≡ call → r.result ≡ p call → Meets r → ⊥

breaks : (p : Program) (c : Call) → (p c ≡ numbers_of (result_of c) → ⊥) → Breaks p
unfolding run_with
breaks p c h =
    record {
      call = c;
      run = (run_with (p c) (replicate c.lent.widths.path 0) c, call-of-run (p c) (replicate c.lent.widths.path 0) c, refl);
      broken = λ r same its m. h (sym its ∙ m.result ∙ ap (λ (c : Call). numbers_of (result_of c)) same);
    }

-- two calls: one with a defect, number 18 after nine checks that pass, and one that is accepted without a check
unfoldable pub defective : Call
defective =
    ask 2 2 (ascii "H,0,1,-,0\nF,6,0,1,0,4,-,bars\nF,2,0,0,0,0,-,\n")
    (ascii "R,-,-,\nC,20,1,b\nV,5,12,$fields.bars\nC,12,0,\nV,5,8,$b.count\nV,4,1,9\n")

unfoldable pub sound : Call
sound = ask 2 2 (ascii "H,0,0,-,0\n") (ascii "T\nV,1,0,\n")

defective-number : (numbers_of (result_of defective)).number ≡ 18
unfolding computing ask defective
defective-number = refl

defective-passed : (numbers_of (result_of defective)).passed ≡ 9
unfolding computing ask defective
defective-passed = refl

sound-number : (numbers_of (result_of sound)).number ≡ 0
unfolding computing ask sound
sound-number = refl

sound-passed : (numbers_of (result_of sound)).passed ≡ 0
unfolding computing ask sound
sound-passed = refl

-- one number for all calls
pub always : (p : Program) (n : ℕ) → ((c : Call) → (p c).number ≡ n) → Breaks p
always p n h = go (eqb n 18) refl
  where
    differs : (c : Call) → ((numbers_of (result_of c)).number ≡ n → ⊥) → Breaks p
    differs c k = breaks p c (λ same. k (sym (ap (λ (a : Numbers). a.number) same) ∙ h c))

    go : (b : Bool) → eqb n 18 ≡ b → Breaks p
    go true e = let n-is : n ≡ 18 = eqb-true n 18 e in differs sound (λ k. omega (arith, sound-number))
    go false e = differs defective (λ k. eqb-false n 18 e (sym k ∙ defective-number))

pub always-5 : (p : Program) → ((c : Call) → (p c).number ≡ 5) → Breaks p
always-5 p = always p 5

pub always-18 : (p : Program) → ((c : Call) → (p c).number ≡ 18) → Breaks p
always-18 p = always p 18

pub always-0 : (p : Program) → ((c : Call) → (p c).number ≡ 0) → Breaks p
always-0 p = always p 0

-- a passed count that is not the check list's
pub invented-passed : (p : Program) (c : Call) → ((p c).passed ≡ (numbers_of (result_of c)).passed → ⊥) → Breaks p
invented-passed p c h = breaks p c (λ same. h (ap (λ (a : Numbers). a.passed) same))

-- a passed count that never moves
pub constant-passed : (p : Program) (n : ℕ) → ((c : Call) → (p c).passed ≡ n) → Breaks p
constant-passed p n h = go (eqb n 9) refl
  where
    go : (b : Bool) → eqb n 9 ≡ b → Breaks p
    go true e = let n-is : n ≡ 9 = eqb-true n 9 e in invented-passed p sound (λ same. omega (arith, sound-passed, h sound))
    go false e = invented-passed p defective (λ same. eqb-false n 9 e (sym (h defective) ∙ same ∙ defective-passed))

-- 4 or 5 before the sheet is read: an answer that stays the same whatever the sheet is

unfoldable pub with_schema : Call → List ℕ → Call
unfolding against
with_schema c sheet = against c c.table sheet c.lent

unfoldable pub with_rule : Call → List ℕ → Call
unfolding asking
with_rule c sheet =
    asking c
    (record { takes = c.asked.takes; kind = c.asked.kind; semantics = c.asked.semantics; label = c.asked.label; rule = sheet })

-- a refusal's number is heard of that refusal only
refusal-heard : {a : Answer} (n : ℕ) → Heard a → 4 ≤ n → n ≤ 5 → (numbers_of a).number ≡ n → a ≡ refused n
unfolding numbers_of
refusal-heard n (refusal p) low high e = ap refused e
refusal-heard n acceptance low high e = absurd (omega arith)
refusal-heard n (finding d) low high e = absurd (omega (arith, d.low))

refused-number : (m n : ℕ) → refused m ≡ refused n → m ≡ n
refused-number m n e = cc

answer-not-refused : (setting : Setting) (label : Text) (r : Rule) (v : Verdict) (n : ℕ) → answer_of setting label r v ≡ refused n → ⊥
unfolding answer_of
answer-not-refused setting label r (all_pass k) n e = zero-not-one cc
answer-not-refused setting label r (fails_at k c d) n e = zero-not-one cc

-- where a sheet is well formed, its refusal is in the list or nowhere
due-4 : (setting : Setting) (label : Text) (s : Schema) (r : Option Rule) (x : Option ℕ)
    → refused_or x (judged setting label (some s) r) ≡ refused 4
    → x ≡ some 4
unfolding refused_or judged checked
due-4 setting label s none none e = absurd (omega (arith, refused-number 5 4 e))
due-4 setting label s (some r) none e = absurd (answer-not-refused setting label r _ 4 e)
due-4 setting label s r (some n) e = ap some (refused-number n 4 e)

due-5 : (setting : Setting) (label : Text) (s : Option Schema) (r : Rule) (x : Option ℕ)
    → refused_or x (judged setting label s (some r)) ≡ refused 5
    → x ≡ some 5
unfolding refused_or judged checked
due-5 setting label none r none e = absurd (omega (arith, refused-number 4 5 e))
due-5 setting label (some s) r none e = absurd (answer-not-refused setting label r _ 5 e)
due-5 setting label s r (some n) e = ap some (refused-number n 5 e)

-- the refusal of that number is not due
abbrev NotDue : ℕ → List Refusal → Type 0
NotDue k [] = Unit {0}
NotDue k (r ∷ rs) = (r.number ≡ k → r.is_due ≡ false) × NotDue k rs

not_first : (k n : ℕ) (b : Bool) (o : Option ℕ) → (n ≡ k → b ≡ false) → (o ≡ some k → ⊥) → cond b (some n) o ≡ some k → ⊥
not_first k n true o h g e = let same : n ≡ k = cc in zero-not-one (cc (h same))
not_first k n false o h g e = g e

not-due : (k : ℕ) (rs : List Refusal) → NotDue k rs → first_refusal rs ≡ some k → ⊥
unfolding first_refusal
not-due k [] h e = zero-not-one cc
not-due k (r ∷ rs) h e = not_first k r.number r.is_due (first_refusal rs) h.0 (not-due k rs h.1) e

first-4 : (c : Call) (s : Schema) → decode_schema c.schema ≡ some s → result_of c ≡ refused 4 → first_refusal (refusals c) ≡ some 4
unfolding result_of
first-4 c s d e = due-4 (setting_for c) c.asked.label s (decode_rule c.asked.rule) (first_refusal (refusals c)) (rw d at e)

never-4 : (c : Call) (s : Schema) → decode_schema c.schema ≡ some s → result_of c ≡ refused 4 → ⊥
unfolding of_sheets is_none is_of_sheets
never-4 c s d e =
    not-due 4 (of_sheets c) (λ h. rw d refl, (λ h. absurd (omega arith), tt)) (sheet-refused c 4 refl (first-4 c s d e))

first-5 : (c : Call) (r : Rule) → decode_rule c.asked.rule ≡ some r → result_of c ≡ refused 5 → first_refusal (refusals c) ≡ some 5
unfolding result_of
first-5 c r d e = due-5 (setting_for c) c.asked.label (decode_schema c.schema) r (first_refusal (refusals c)) (rw d at e)

never-5 : (c : Call) (r : Rule) → decode_rule c.asked.rule ≡ some r → is_taken c.asked.takes (some r) ≡ true → result_of c ≡ refused 5 → ⊥
unfolding of_sheets is_of_sheets
never-5 c r d t e =
    not-due 5 (of_sheets c) (λ h. absurd (omega arith), (λ h. rw (d, t) refl, tt)) (sheet-refused c 5 refl (first-5 c r d e))

heard-refusal : (p : Program) (c : Call) (n : ℕ)
    → 4 ≤ n
    → n ≤ 5
    → (p c).number ≡ n
    → (result_of c ≡ refused n → ⊥)
    → Breaks p
heard-refusal p c n low high e h =
    breaks p c (λ same. h (refusal-heard n (heard c) low high (sym (ap (λ (a : Numbers). a.number) same) ∙ e)))

empty-decodes : decode_schema (ascii "H,0,0,-,0\n") ≡ some (record { fields = record { is_open = false; members = no_members }; arguments = none })
unfolding computing
empty-decodes = refl

pub unread-4 : (p : Program) (c : Call) → ((sheet : List ℕ) → (p (with_schema c sheet)).number ≡ 4) → Breaks p
unfolding with_schema
unread-4 p c h =
    let c' : Call = with_schema c (ascii "H,0,0,-,0\n") in
    heard-refusal p c' 4 (omega arith) (omega arith) (h (ascii "H,0,0,-,0\n")) (never-4 c' _ empty-decodes)

rule-decodes : decode_rule (ascii "R,-,-,\nC,1,1,\n") ≡ some (rule none none (literal 2 true))
unfolding computing
rule-decodes = refl

template-decodes : decode_rule (ascii "T\nV,1,0,\n") ≡ some (template (constant 2 1))
unfolding computing
template-decodes = refl

-- a rule sheet that the entry point takes
unfoldable pub sheet_for : Takes → List ℕ
sheet_for any = ascii "T\nV,1,0,\n"
sheet_for rules = ascii "R,-,-,\nC,1,1,\n"
sheet_for templates = ascii "T\nV,1,0,\n"

sheet-taken : (t : Takes) → (r : Rule) × (decode_rule (sheet_for t) ≡ some r) × (is_taken t (some r) ≡ true)
unfolding sheet_for is_taken
sheet-taken any = (_, template-decodes, refl)
sheet-taken rules = (_, rule-decodes, refl)
sheet-taken templates = (_, template-decodes, refl)

pub unread-5 : (p : Program) (c : Call) → ((sheet : List ℕ) → (p (with_rule c sheet)).number ≡ 5) → Breaks p
unfolding with_rule
unread-5 p c h =
    let c' : Call = with_rule c (sheet_for c.asked.takes) in
    let taken : (r : Rule) × (decode_rule (sheet_for c.asked.takes) ≡ some r) × (is_taken c.asked.takes (some r) ≡ true) = sheet-taken c.asked.takes in
    heard-refusal p c' 5 (omega arith) (omega arith) (h (sheet_for c.asked.takes)) (never-5 c' taken.0 taken.1 taken.2)
