-- What a verdict shows of the check that fails: all that an answer is made of, and the field that refused.
use Rattle.std.specs.Prelude.{ℕ, ◌+◌, List, [], ◌∷◌, ◌++◌, ◌≡◌, refl}
use Rattle.std.proofs.Math.Option.{Option, none, some}
use Rattle.definition.specs.Tree.{Text, Rule}
use Rattle.reference.specs.Setting.{Setting}
use Rattle.validation.specs.Check.{Check}
use Rattle.validation.specs.Judge.{Failure, CheckOutcome, Verdict, all_pass, fails_at, decide, judge_from}
use Rattle.validation.specs.Result.{Answer, accepted, defect, over_of, defect_of, answer_of}

pub data Shown : Type 0 where
  passes : (passed : ℕ) → Shown
  fails : (passed number place : ℕ) (over : Option ℕ) (why : Failure) → Shown

unfoldable pub shown_of : Verdict → Shown
shown_of (all_pass n) = passes n
shown_of (fails_at n c why) = fails n c.number c.place (over_of c.binders) why

unfoldable pub answer_shown : Setting → (label : Text) → Rule → Shown → Answer
answer_shown setting label r (passes n) = accepted n
answer_shown setting label r (fails n number place over why) = defect (defect_of setting label r n number place over why.detail)

pub answer-shown : (setting : Setting) (label : Text) (r : Rule) (v : Verdict) → answer_of setting label r v ≡ answer_shown setting label r (shown_of v)
unfolding answer_of answer_shown shown_of
answer-shown setting label r (all_pass n) = refl
answer-shown setting label r (fails_at n c d) = refl

-- One list after another: the second is judged only if the first passes.

unfoldable pub go_on : Shown → (ℕ → Shown) → Shown
go_on (passes n) k = k n
go_on (fails n number place over why) k = fails n number place over why

decide-then : (ask : Check → CheckOutcome) (o : CheckOutcome) (n : ℕ) (c : Check) (v w : Verdict) (k : ℕ → Shown)
    → shown_of w ≡ go_on (shown_of v) k
    → shown_of (decide o n c w) ≡ go_on (shown_of (decide o n c v)) k
unfolding decide shown_of go_on
decide-then ask none n c v w k h = h
decide-then ask (some d) n c v w k h = refl

pub judge-append : (ask : Check → CheckOutcome) (n : ℕ) (xs ys : List Check)
    → shown_of (judge_from ask n (xs ++ ys)) ≡ go_on (shown_of (judge_from ask n xs)) (λ m. shown_of (judge_from ask m ys))
unfolding judge_from shown_of go_on
judge-append ask n [] ys = refl
judge-append ask n (c ∷ xs) ys =
    decide-then ask (ask c) n c (judge_from ask (n + 1) xs) (judge_from ask (n + 1) (xs ++ ys)) (λ m. shown_of (judge_from ask m ys))
    (judge-append ask (n + 1) xs ys)
