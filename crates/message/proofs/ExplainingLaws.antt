-- What a message buffer holds after a call.
use Rattle.std.specs.Prelude.{ℕ, ◌+◌, ◌≤◌, ◌<◌, Bool, cond, List, [], ◌++◌, ◌↔◌, ◌≡◌}
use Rattle.std.proofs.Common.{zero-add, sym, ◌∙◌}
use native.Mathlib.Omega.{arith}
use Rattle.std.proofs.Math.Bool.{true, false}
use Rattle.std.proofs.Math.Option.{Option, none, some}
use Rattle.std.proofs.Math.Path.{refl, ap}
use Rattle.std.proofs.Math.Dec.{leb}
use Rattle.std.proofs.Math.ListN.{length, drop}
use Rattle.std.proofs.Math.Seq.{sets, sets-eq}
use borrow.Author.Tests.{le-leb, lt-leb, leb-true}
use Rattle.text.specs.CaseLaws.{by-test, zero-not-one}
use Rattle.definition.specs.Tree.{Schema, Rule}
use Rattle.definition.specs.Decode.{decode_schema, decode_rule}
use Rattle.reference.specs.Setting.{Setting}
use Rattle.call.specs.Call.{first_refusal}
use Rattle.validation.specs.Check.{Check, checks}
use Rattle.validation.specs.Judge.{Verdict, all_pass, fails_at, judge}
use Rattle.validation.specs.Result.{Call, setting_for, refusals, Answer, refused, accepted, defect, answer_of, checked, judged, refused_or, result_of, call_of}
use Rattle.message.specs.Message.{message_of}
use Rattle.message.specs.Explaining.{message_in, unless_refused, message_by, ExplainedRun, fits, MessageIs, MeetsExplained}

module _ {m before after : List ℕ} {refusal size : ℕ} (is : MessageIs m before after refusal size) where
  -- a message that fits is whole, and every byte past it keeps its value
  pub whole : length m ≤ length before → after ≡ m ++ drop (length m) before
  unfolding fits
  whole h =
      let t : leb (length m) (length before) ≡ true = le-leb (length m) (length before) h in
      let w : after ≡ sets before 0 m = rw t at is.written in
      w ∙ sets-eq m before 0 (omega arith) ∙ ap (λ (k : ℕ). m ++ drop k before) (zero-add (length m))

  -- 39 exactly where it does not fit
  pub refused-39 : (refusal ≡ 39) ↔ (length before < length m)
  unfolding fits
  refused-39 = (
    λ e. by-test (leb (length m) (length before)) (λ t. let z : refusal ≡ 0 = rw t at is.refused in absurd (omega arith)) (λ f. not-less (leb-false f)),
    λ h. let f : leb (length m) (length before) ≡ false = lt-leb (length m) (length before) h in rw f at is.refused,
  )
    where
      not-less : (length m ≤ length before → ⊥) → length before < length m
      not-less n = omega arith

      leb-false : leb (length m) (length before) ≡ false → length m ≤ length before → ⊥
      leb-false f h = let t = le-leb (length m) (length before) h in zero-not-one cc

  -- then the buffer is as it was, and the length is given all the same
  pub unchanged-39 : refusal ≡ 39 → (after ≡ before) × (size ≡ length m)
  unfolding fits
  unchanged-39 e = let f : leb (length m) (length before) ≡ false = lt-leb (length m) (length before) (refused-39.0 e) in (rw f at is.written, is.sized)

nothing_said : {m before after : List ℕ} {refusal size : ℕ} → m ≡ [] → MessageIs m before after refusal size → (refusal ≡ 0) × (size ≡ 0) × (after ≡ before)
unfolding fits
nothing_said {before = before} e is =
    let t : leb 0 (length before) ≡ true = le-leb 0 (length before) (omega arith) in
    let r = rw (e, t) at is.refused in
    let s = rw e at is.sized in
    let w = rw (e, t) at is.written in
    (r, s, w)

-- Where nothing is said

passed-silent : (kind : ℕ) (setting : Setting) (label : List ℕ) (t : Schema) (r : Rule) (n : ℕ) (v : Verdict) → answer_of setting label r v ≡ accepted n → message_of kind setting t r v ≡ []
unfolding message_of answer_of
passed-silent kind setting label t r n (all_pass k) e = refl
passed-silent kind setting label t r n (fails_at k c why) e = zero-not-one cc

failed-heard : (setting : Setting) (label : List ℕ) (r : Rule) (n : ℕ) (v : Verdict) → answer_of setting label r v ≡ refused n → ⊥
unfolding answer_of
failed-heard setting label r n (all_pass k) e = zero-not-one cc
failed-heard setting label r n (fails_at k c why) e = zero-not-one cc

module _ (kind : ℕ) (setting : Setting) (label : List ℕ) where
  accepted-silent : (s : Option Schema) (r : Option Rule) (n : ℕ) → judged setting label s r ≡ accepted n → message_in kind setting s r ≡ []
  unfolding judged checked message_in
  accepted-silent none r n e = refl
  accepted-silent (some t) none n e = refl
  accepted-silent (some t) (some r) n e = passed-silent kind setting label t r n (judge setting t (checks setting r)) e

  refused-silent : (s : Option Schema) (r : Option Rule) (n : ℕ) → judged setting label s r ≡ refused n → message_in kind setting s r ≡ []
  unfolding judged checked message_in
  refused-silent none r n e = refl
  refused-silent (some t) none n e = refl
  refused-silent (some t) (some r) n e = absurd (failed-heard setting label r n (judge setting t (checks setting r)) e)

by-refusal : (o : Option ℕ) (a : Answer) (m : List ℕ) (P : Answer → Type 0) → (P a → m ≡ []) → P (refused_or o a) → unless_refused o m ≡ []
unfolding refused_or unless_refused
by-refusal none a m P f h = f h
by-refusal (some n) a m P f h = refl

module _ (c : Call) where
  pub accepted-unsaid : (n : ℕ) → result_of c ≡ accepted n → message_by c ≡ []
  unfolding result_of message_by
  accepted-unsaid n e =
      by-refusal (first_refusal (refusals c)) _ _ (λ (a : Answer). a ≡ accepted n)
      (accepted-silent c.asked.kind (setting_for c) c.asked.label (decode_schema c.schema) (decode_rule c.asked.rule) n) e

  pub refused-unsaid : (n : ℕ) → result_of c ≡ refused n → message_by c ≡ []
  unfolding result_of message_by
  refused-unsaid n e =
      by-refusal (first_refusal (refusals c)) _ _ (λ (a : Answer). a ≡ refused n)
      (refused-silent c.asked.kind (setting_for c) c.asked.label (decode_schema c.schema) (decode_rule c.asked.rule) n) e

-- refused or accepted: both fields 0, and the buffer as it was
pub accepted-untouched : (r : ExplainedRun) (n : ℕ) → MeetsExplained r → result_of (call_of r.marked.run) ≡ accepted n → (r.refusal ≡ 0) × (r.size ≡ 0) × (r.message ≡ r.message_before)
accepted-untouched r n h e = nothing_said (accepted-unsaid (call_of r.marked.run) n e) h.message

pub refused-untouched : (r : ExplainedRun) (n : ℕ) → MeetsExplained r → result_of (call_of r.marked.run) ≡ refused n → (r.refusal ≡ 0) × (r.size ≡ 0) × (r.message ≡ r.message_before)
refused-untouched r n h e = nothing_said (refused-unsaid (call_of r.marked.run) n e) h.message
