-- The answer of a schema to each check, and the first check that fails.
use Rattle.std.specs.Prelude.{ℕ, ◌+◌, List, [], ◌∷◌}
use Rattle.std.proofs.Math.Option.{Option, none, some}
use Rattle.definition.specs.Tree.{Text, Schema}
use Rattle.reference.specs.Setting.{Setting}
use Rattle.reference.specs.Walk.{Reached, refused, unknown, known}
use Rattle.reference.specs.Reference.{Environment, reference, collection}
use Rattle.validation.specs.Check.{Binder, Question, settled, readable, walkable, Check}

-- why a check fails: the detail, and the entry of the field that refused; 1 is the record, 0 the arguments or no field at all
pub record Failure : Type 0 where
  pub detail : ℕ
  pub at : ℕ

abbrev pub failure : (detail at : ℕ) → Failure
failure d at = record { detail = d; at = at }

-- none passes
abbrev pub CheckOutcome : Type 0
CheckOutcome = Option Failure

unfoldable pub verdict : Reached → CheckOutcome
verdict (refused d at left) = some (failure d at)
verdict unknown = none
verdict (known f) = none

-- a check that no schema answers
unfoldable pub unasked : Option ℕ → CheckOutcome
unasked none = none
unasked (some d) = some (failure d 0)

-- the binders with their elements, outermost first resolved; none where one of them walks no collection
unfoldable pub extend : Text → Environment → Reached → Option Environment
extend name env (refused d at left) = none
extend name env unknown = some (record { name = name; element = none } ∷ env)
extend name env (known f) = some (record { name = name; element = some f } ∷ env)

unfoldable pub enter : Schema → Binder → Option Environment → Option Environment
enter schema b none = none
enter schema b (some env) = extend b.name env (collection schema env b.over)

unfoldable pub environment : Schema → List Binder → Option Environment
environment schema [] = some []
environment schema (b ∷ bs) = enter schema b (environment schema bs)

unfoldable pub answer : Setting → Schema → Environment → Question → CheckOutcome
unfolding unasked
answer setting schema env (settled o) = unasked o
answer setting schema env (readable t) = verdict (reference setting schema env t)
answer setting schema env (walkable v) = verdict (collection schema env v)

-- under a binder that walks no collection nothing passes; its own check fails before
unfoldable pub answer_in : Setting → Schema → Question → Option Environment → CheckOutcome
answer_in setting schema q none = some (failure 0 0)
answer_in setting schema q (some env) = answer setting schema env q

unfoldable pub outcome : Setting → Schema → Check → CheckOutcome
outcome setting schema c = answer_in setting schema c.question (environment schema c.binders)

pub data Verdict : Type 0 where
  -- all checks passed, so many
  all_pass : (passed : ℕ) → Verdict
  -- the check failed, after so many that passed
  fails_at : (passed : ℕ) (c : Check) (why : Failure) → Verdict

unfoldable pub decide : CheckOutcome → ℕ → Check → Verdict → Verdict
decide none passed c others = others
decide (some why) passed c others = fails_at passed c why

unfoldable pub judge_from : (Check → CheckOutcome) → ℕ → List Check → Verdict
judge_from ask passed [] = all_pass passed
judge_from ask passed (c ∷ cs) = let others = judge_from ask (passed + 1) cs in decide (ask c) passed c others

unfoldable pub judge : Setting → Schema → List Check → Verdict
judge setting schema = judge_from (outcome setting schema) 0
