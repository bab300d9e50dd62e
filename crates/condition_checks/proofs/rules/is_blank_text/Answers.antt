-- `condition_checks::rules::is_blank_text` meets its contract.
use mathlib.Core.Path.{ap, ◌∙◌}
use Rattle.text.specs.Blank.{is_blank}
use Rattle.text.specs.Parts.{optional_of}
use Rattle.validation.specs.Check.{is_blank_text}
use Rattle.condition_checks.proofs.rules.is_blank_text.Goals as goal

pub returns-in_default : goal.returns-in_default
unfolding is_blank_text optional_of
returns-in_default c = rw c.in_default.is

pub returns : goal.returns
unfolding is_blank_text optional_of
returns c = rw c.in-Some.is (c.is_blank.ensures ∙ ap is_blank c.bytes_of.ensures)
