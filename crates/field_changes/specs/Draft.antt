-- Rules that are open beside a schema while fields of its record come and go (document 02, T-14).
use Rattle.std.specs.Prelude.{cond, List, [], ◌∷◌, map}
use Rattle.definition.specs.Tree.{Text, Field, Schema, Rule}
use Rattle.reference.specs.Setting.{Setting}
use Rattle.validation.specs.Result.{Answer, checked}
use Rattle.field_changes.specs.Mention.{mentions}
use Rattle.field_changes.specs.Change.{added, removed}

-- a rule or template that is open, with what it is checked under
pub record OpenRule : Type 0 where
  pub setting : Setting
  pub label : Text
  pub rule : Rule

pub data Change : Type 0 where
  adding : (name : Text) (f : Field) → Change
  removing : (name : Text) → Change

unfoldable pub name_of : Change → Text
name_of (adding name f) = name
name_of (removing name) = name

unfoldable pub changed : Change → Schema → Schema
changed (adding name f) t = added name f t
changed (removing name) t = removed name t

unfoldable pub answer_to : Schema → OpenRule → Answer
answer_to t o = checked o.setting o.label t o.rule

-- a check of them all from the beginning
unfoldable pub started : Schema → List OpenRule → List Answer
started t rules = map (answer_to t) rules

-- what a step leaves of the answers: those of rules that mention the field are found anew, under the new schema; the others stay
unfoldable pub stepped : Text → Schema → List OpenRule → List Answer → List Answer
stepped name t [] answers = []
stepped name t (o ∷ rules) [] = []
stepped name t (o ∷ rules) (a ∷ answers) =
    let new = answer_to t o in cond (mentions name o.rule) new a ∷ stepped name t rules answers

-- one change after the other, each step given what the last one left
unfoldable pub schema_after : List Change → Schema → Schema
schema_after [] t = t
schema_after (c ∷ cs) t = schema_after cs (changed c t)

unfoldable pub answers_after : List Change → Schema → List OpenRule → List Answer → List Answer
answers_after [] t rules answers = answers
answers_after (c ∷ cs) t rules answers = answers_after cs (changed c t) rules (stepped (name_of c) (changed c t) rules answers)
