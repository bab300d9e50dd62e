-- Going on: nothing more, one list after the other, one check that passes or fails, and a defect that stays.
use Rattle.std.specs.Prelude.{Option, Result, Ok, Err}
use Prim.Native.Nat.{ℕ, ◌+◌, ◌-◌, ◌≤◌}
use native.Mathlib.Omega.{arith}
use mathlib.Core.Bool.{Bool, true, false}
use mathlib.Core.List.{List, [], ◌∷◌, ◌++◌}
use mathlib.Core.Option.{none, some}
use mathlib.Core.Path.{◌≡◌, refl, sym, ap, subst, ◌∙◌}
use Rattle.sheet.specs.Entries.{ValueHead}
use Rattle.validation.specs.Check.{Check}
use Rattle.validation.specs.Judge.{CheckOutcome, all_pass, decide, judge_from}
use Rattle.value_checks.specs.Shown.{Shown, passes, fails, shown_of, go_on, judge-append}
use Rattle.value_checks.specs.Verdicts.{failure_of, shown_with, shown_by, going, GoesOn, FailsWith, PassedOn, Failed, failed, Required}
use Rattle.rule.specs.Leaves.{said_in, said-append}
use Rattle.value_checks.specs.declared.verdict.Fault.{Fault}
use Rattle.value_checks.specs.declared.verdict.Progress.{Progress}

none-goes : (ask : Check → CheckOutcome) (s : Shown) → s ≡ go_on s (λ n. shown_of (judge_from ask n []))
unfolding go_on judge_from shown_of
none-goes ask (passes n) = refl
none-goes ask (fails n number place over d) = refl

pub goes-nothing : {ask : Check → CheckOutcome} {a : Progress} → GoesOn ask a [] a
goes-nothing {ask} {a} = record { shows = none-goes ask (shown_by a) }

both_go : (ask : Check → CheckOutcome) (xs ys : List Check) (s : Shown)
    → go_on (go_on s (λ n. shown_of (judge_from ask n xs))) (λ n. shown_of (judge_from ask n ys))
    ≡ go_on s (λ n. shown_of (judge_from ask n (xs ++ ys)))
unfolding go_on
both_go ask xs ys (passes n) = sym (judge-append ask n xs ys)
both_go ask xs ys (fails n number place over d) = refl

pub goes_then : {ask : Check → CheckOutcome} {a b r : Progress} {xs ys : List Check} → GoesOn ask a xs b → GoesOn ask b ys r → GoesOn ask a (xs ++ ys) r
goes_then {ask} {a} {b} {r} {xs} {ys} g h =
    record {
      shows =
          h.shows
          ∙ ap (λ (s : Shown). go_on s (λ n. shown_of (judge_from ask n ys))) g.shows
          ∙ both_go ask xs ys (shown_by a);
    }

-- a defect absorbs all further checks
pub goes-stopped : {ask : Check → CheckOutcome} {checks : List Check} {a : Progress} {f : Fault} {place : ℕ} {over : Option ℕ}
    → a.verdict ≡ Err (f, place, over)
    → GoesOn ask a checks a
unfolding shown_by shown_with go_on
goes-stopped e = record { shows = rw e }

one-judged : (ask : Check → CheckOutcome) (n : ℕ) (c : Check) (o : CheckOutcome) → ask c ≡ o → judge_from ask n (c ∷ []) ≡ decide o n c (all_pass (n + 1))
unfolding judge_from
one-judged ask n c o e = rw e

pub goes_one : {ask : Check → CheckOutcome} {n : ℕ} {c : Check} → ask c ≡ none → GoesOn ask (going n) (c ∷ []) (going (n + 1))
unfolding shown_by shown_with go_on decide shown_of
goes_one {ask} {n} {c} p = record { shows = rw (one-judged ask n c none p) }

pub goes-wrong : {ask : Check → CheckOutcome} {n : ℕ} {c : Check} {fault : Fault} {place : ℕ} {over : Option ℕ}
    → FailsWith c fault place over
    → ask c ≡ some (failure_of fault)
    → GoesOn ask (going n) (c ∷ []) (record { passed = n; verdict = Err (fault, place, over) })
unfolding shown_by shown_with go_on decide shown_of
goes-wrong {ask} {n} {c} {fault} {place} {over} w p =
    record { shows = rw (one-judged ask n c (some (failure_of fault)) p, w.numbered, w.placed, w.held) }

-- a failing check ends it
pub goes-wrong-on : {ask : Check → CheckOutcome} {n : ℕ} {c : Check} {checks : List Check} {fault : Fault} {place : ℕ} {over : Option ℕ}
    → FailsWith c fault place over
    → ask c ≡ some (failure_of fault)
    → GoesOn ask (going n) (c ∷ checks) (record { passed = n; verdict = Err (fault, place, over) })
goes-wrong-on w p = goes_then (goes-wrong w p) (goes-stopped refl)

-- what holds of an answer that passes holds of its count: the next check goes on from there
pub goes-passed : (P : Progress → Type 0) {r : Progress} → r.verdict ≡ (Ok tt) → P r → P (going r.passed)
goes-passed P {r} e p = subst (λ (v : Result Unit (Fault × ℕ × Option ℕ)). P (record { passed = r.passed; verdict = v })) e p

-- One check in code.

pub passed_on : {n : ℕ} → PassedOn (going n) (going (n + 1))
passed_on = record { at_most = omega arith; goes = λ ask c p. goes_one p }

pub failed-now : {n : ℕ} {fault : Fault} {place : ℕ} {over : Option ℕ} → Failed (going n) fault place over (record { passed = n; verdict = Err (fault, place, over) })
failed-now = record { same = refl; goes = λ ask c checks w p. goes-wrong-on w p }

pub required-wrong : {a r : Progress} {wrong : Bool} {fault : Fault} {place : ℕ} {over : Option ℕ}
    → wrong ≡ true
    → Failed a fault place over r
    → Required a wrong fault place over r
unfolding failed
required-wrong t f = record { at_most = omega (arith, f.same); goes = λ ask c w p. f.goes ask c [] w (rw t at p) }

pub required-right : {a r : Progress} {wrong : Bool} {fault : Fault} {place : ℕ} {over : Option ℕ}
    → wrong ≡ false
    → PassedOn a r
    → Required a wrong fault place over r
unfolding failed
required-right t f = record { at_most = f.at_most; goes = λ ask c w p. f.goes ask c (rw t at p) }

-- The entries of a value up to word `i`, and `n` more.

pub said-next : {A : Type 0} (says : ℕ → ValueHead → List A) (sheet words : List ℕ) (n : ℕ) {start i j : ℕ}
    → start ≤ i
    → j ≡ i + n
    → said_in says sheet words (j - start) start ≡ said_in says sheet words (i - start) start ++ said_in says sheet words n i
said-next says sheet words n {start} {i} {j} h k =
    let e : j - start ≡ (i - start) + n = omega arith in
    let f : start + (i - start) ≡ i = omega arith in
    rw (e, said-append says sheet words (i - start) n start, f)
