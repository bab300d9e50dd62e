-- One step of the descent from a condition.
use Rattle.std.specs.Prelude.{ℕ, ◌<◌, List}
use Rattle.defect_path.specs.Descent.{ConditionWritten, ConditionLeads, OperandLeads}
use Rattle.defect_path.specs.declared.condition.Next.{Next}
use Rattle.defect_path.specs.declared.condition.Next.TheVariants as next

abbrev pub NextLeads : (sheet words : List ℕ) (defect target i : ℕ) (before : List ℕ) (at : ℕ) (now : List ℕ) → Next → Type 0
NextLeads sheet words defect target i before at now (next.Condition word here) =
    ConditionLeads sheet words defect target i before at word now here × (i < word)
NextLeads sheet words defect target i before at now (next.Value word here) =
    OperandLeads sheet words defect target i before at word now here
NextLeads sheet words defect target i before at now (next.Done here) =
    ConditionWritten sheet words defect target i before now at here
