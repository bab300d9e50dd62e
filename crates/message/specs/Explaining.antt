-- A call that is lent a message buffer (docs/FORMAT.md, "Messages"): what it promises of the buffer, beside what a call with a mark list promises.
use Rattle.std.specs.Prelude.{ℕ, Bool, cond, List, [], ◌≡◌, leb, length}
use Rattle.std.proofs.Math.Option.{Option, none, some}
use Rattle.std.proofs.lemmas.List.Edits.{sets}
use Rattle.definition.specs.Tree.{Text, Schema, Rule}
use Rattle.definition.specs.Decode.{decode_schema, decode_rule}
use Rattle.reference.specs.Setting.{Setting}
use Rattle.call.specs.Call.{first_refusal}
use Rattle.validation.specs.Check.{checks}
use Rattle.validation.specs.Judge.{judge}
use Rattle.validation.specs.Result.{Call, setting_for, refusals, call_of}
use Rattle.validation.specs.Marking.{MarkedRun, MeetsMarked}
use Rattle.message.specs.Message.{message_of}

-- where both sheets are well formed
unfoldable pub message_in : (kind : ℕ) → Setting → Option Schema → Option Rule → Text
message_in kind setting none r = []
message_in kind setting (some t) none = []
message_in kind setting (some t) (some r) = message_of kind setting t r (judge setting t (checks setting r))

unfoldable pub unless_refused : Option ℕ → Text → Text
unless_refused none t = t
unless_refused (some n) t = []

-- nothing is said of a call that is refused, nor where a rule or template is accepted
unfoldable pub message_by : Call → Text
message_by c =
    unless_refused (first_refusal (refusals c)) (message_in c.asked.kind (setting_for c) (decode_schema c.schema) (decode_rule c.asked.rule))

-- a run with a mark list, and the message buffer before and after it; 39 or 0, and the message's length
pub record ExplainedRun : Type 0 where
  pub marked : MarkedRun
  pub message_before : List ℕ
  pub message : List ℕ
  pub refusal : ℕ
  pub size : ℕ

-- the buffer can take the message
unfoldable pub fits : (message before : List ℕ) → Bool
fits message before = leb (length message) (length before)

-- the message is whole, at the start of the buffer, or not there
pub record MessageIs (m before after : List ℕ) (refusal size : ℕ) : Type 0 where
  pub sized : size ≡ length m
  pub refused : refusal ≡ cond (fits m before) 0 39
  pub written : after ≡ cond (fits m before) (sets before 0 m) before

-- what such a call promises of its run: all that a call with a mark list promises, and the message
pub record MeetsExplained (r : ExplainedRun) : Type 0 where
  pub meets : MeetsMarked r.marked
  pub message : MessageIs (message_by (call_of r.marked.run)) r.message_before r.message r.refusal r.size
