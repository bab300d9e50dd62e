-- What the code answers, beside the decision on trees.
use Rattle.std.specs.Prelude.{Bool, true, false, List, ◌≡◌, ℕ, Result, Ok, Err}
use Rattle.widening.specs.Widening.{only, anything, marks}
use Rattle.widening.specs.Decision.{field_missing, kind_differs, items_differ, tag_differs, mark_closes, field_added, arguments_go, Difference, Decision, widening, refuted, with_growth, decided}
use Rattle.widening.specs.Decision as Decision
use Rattle.widening.specs.SheetDecision.{DecisionAnswer, malformed, decision}
use Rattle.schema_change.specs.declared.answer.Reason.{Reason}
use Rattle.schema_change.specs.declared.answer.Reason.TheVariants.{FieldMissing, KindDiffers, ItemsDiffer, TagDiffers, MarkCloses, FieldAdded, ArgumentsGo}
use Rattle.schema_change.specs.declared.answer.Change.{Change}
use Rattle.schema_change.specs.declared.answer.Change.TheVariants.{Marks, Anything, Refuted}

abbrev pub reason_of : Reason → Decision.Reason
reason_of FieldMissing = field_missing
reason_of KindDiffers = kind_differs
reason_of ItemsDiffer = items_differ
reason_of TagDiffers = tag_differs
reason_of MarkCloses = mark_closes
reason_of FieldAdded = field_added
reason_of ArgumentsGo = arguments_go

abbrev pub decision_of : Change → Decision
decision_of Marks = widening marks
decision_of Anything = widening anything
decision_of (Refuted why e e') = refuted (reason_of why) e e'

abbrev pub widens_answer_of : Result Change ℕ → DecisionAnswer
widens_answer_of (Err which) = malformed which
widens_answer_of (Ok change) = decision (decision_of change)

-- what two parts of the list decide together
unfoldable pub joined : Decision → Decision → Decision
joined (widening (only may)) d = d
joined (widening anything) d = with_growth d
joined (refuted why e e') d = refuted why e e'

-- from what was found before some differences to what is found with them
pub record Goes (found : Change) (ds : List Difference) (r : Change) : Type 0 where
  pub is : decision_of r ≡ joined (decision_of found) (decided ds)

-- whether no breach was found
unfoldable pub is_open_yet : Change → Bool
is_open_yet Marks = true
is_open_yet Anything = true
is_open_yet (Refuted why e e') = false
