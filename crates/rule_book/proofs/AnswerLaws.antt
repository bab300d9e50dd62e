-- What the check of one sheet adds to a run: a number below 23, no more passed than the sheet has bytes, and a path in the first 32,768 bytes.
use Rattle.std.specs.Prelude.{ℕ, ◌<◌, ◌≤◌, Bool, true, false, cond, List, ◌≡◌, refl, length}
use native.Mathlib.Omega.{arith}
use Rattle.std.proofs.Math.Option.{Option, none, some, none-ne-some}
use Rattle.std.proofs.Common.{sym, ap, ◌∙◌}
use Rattle.definition.specs.Tree.{Text, Schema, Rule}
use Rattle.definition.specs.Decode.{decode_schema, decode_rule}
use Rattle.definition.specs.Within.{RuleWithin}
use Rattle.definition.proofs.RoundTrip.{rule-round-trip}
use Rattle.reference.specs.Setting.{Setting}
use Rattle.validation.specs.Check.{Check, check, checks}
use Rattle.validation.specs.Judge.{Verdict, all_pass, fails_at, judge}
use Rattle.validation.specs.Result.{Takes, Answer, refused, accepted, defect, max_label_bytes, path_bytes, is_taken, answer_of, checked, judged, numbers_of, path_after, KeptFrom}
use Rattle.validation.proofs.KeptLaws.{sets-kept}
use Rattle.validation.proofs.CheckLaws.{every-check}
use Rattle.validation.proofs.CountLaws.{VerdictIs, every-judged}
use Rattle.defect_path.specs.LengthLaws.{path-length}
use Rattle.single_check.specs.Sheets.{taken_of, sheet_answer}
use Rattle.rule_book.proofs.ByteLaws.{judged-passed}

-- a rule that is taken is the sheet's
taken : (takes : Takes) (o : Option Rule) (x : Rule) → taken_of takes o ≡ some x → o ≡ some x
unfolding taken_of
taken takes none x e = e
taken takes (some y) x e = go (is_taken takes (some y)) e
  where
    go : (b : Bool) → cond b (some y) none ≡ some x → some y ≡ some x
    go true e = e
    go false e = absurd (none-ne-some x e)

-- Its number.

abbrev Low : Check → Type 0
Low c = c.number ≤ 22

verdict-low : (setting : Setting) (label : Text) (r : Rule) (v : Verdict) → VerdictIs Low v → (numbers_of (answer_of setting label r v)).number < 23
unfolding numbers_of answer_of
verdict-low setting label r (all_pass n) h = omega arith
verdict-low setting label r (fails_at n c d) h = omega arith

judged-low : (setting : Setting) (label : Text) (s : Option Schema) (r : Option Rule) → (numbers_of (judged setting label s r)).number < 23
unfolding numbers_of judged checked check
judged-low setting label none r = omega arith
judged-low setting label (some s) none = omega arith
judged-low setting label (some s) (some r) =
    verdict-low setting label r _ (every-judged Low setting s (checks setting r) (every-check Low (λ n p bs q d asks. d.high) setting r))

module _ (takes : Takes) (setting : Setting) (label schema sheet : List ℕ) where
  pub sheet-number : (numbers_of (sheet_answer takes setting label schema sheet)).number < 23
  unfolding sheet_answer
  sheet-number = judged-low setting label (decode_schema schema) (taken_of takes (decode_rule sheet))

  -- What passes.

  pub sheet-passed : (numbers_of (sheet_answer takes setting label schema sheet)).passed ≤ length sheet
  unfolding sheet_answer
  sheet-passed = judged-passed setting label sheet (decode_schema schema) (taken_of takes (decode_rule sheet)) (taken takes (decode_rule sheet))

-- Its path.

answer-path : (before : List ℕ) → path_bytes ≤ length before → (a : Answer) → (numbers_of a).path_length ≤ path_bytes → KeptFrom path_bytes before (path_after a before)
unfolding numbers_of path_after
answer-path before room (refused n) short = record { size = refl; kept = refl }
answer-path before room (accepted n) short = record { size = refl; kept = refl }
answer-path before room (defect d) short = sets-kept path_bytes before d.path short room

module _ (label : List ℕ) (small : length label ≤ max_label_bytes) where
  verdict-short : (setting : Setting) (r : Rule) (v : Verdict) → RuleWithin r → (numbers_of (answer_of setting label r v)).path_length ≤ path_bytes
  unfolding answer_of numbers_of
  verdict-short setting r (all_pass n) within = omega arith
  verdict-short setting r (fails_at n c d) within = path-length label r c.number c.place small within

  judged-short : (setting : Setting) (s : Option Schema) (r : Option Rule) → ((x : Rule) → r ≡ some x → RuleWithin x)
      → (numbers_of (judged setting label s r)).path_length ≤ path_bytes
  unfolding judged checked numbers_of
  judged-short setting none r within = omega arith
  judged-short setting (some s) none within = omega arith
  judged-short setting (some s) (some r) within = verdict-short setting r (judge setting s (checks setting r)) (within r refl)

  pub sheet-short : (takes : Takes) (setting : Setting) (schema sheet : List ℕ) → (numbers_of (sheet_answer takes setting label schema sheet)).path_length ≤ path_bytes
  unfolding sheet_answer
  sheet-short takes setting schema sheet =
      judged-short setting (decode_schema schema) (taken_of takes (decode_rule sheet))
      (λ x e. ((rule-round-trip sheet x).0 (taken takes (decode_rule sheet) x e)).1)

pub sheet-path : (label before : List ℕ) → length label ≤ max_label_bytes → path_bytes ≤ length before
    → (takes : Takes) (setting : Setting) (schema sheet : List ℕ)
    → KeptFrom path_bytes before (path_after (sheet_answer takes setting label schema sheet) before)
sheet-path label before small room takes setting schema sheet =
    answer-path before room (sheet_answer takes setting label schema sheet) (sheet-short label small takes setting schema sheet)
