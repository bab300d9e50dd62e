-- What the writer of paths ensures.
use Rattle.std.specs.Prelude.{ℕ, List, ◌++◌, ◌≡◌}
use Rattle.std.proofs.Math.Option.{some}
use Rattle.definition.specs.Tree.{Text, Rule}
use Rattle.rule.specs.Index.{RuleAt}
use Rattle.validation.specs.Location.{behind_label}
use Rattle.buffer.specs.Wrote.{Wrote}

-- places are numbers of 32 bits
abbrev pub place_bound : ℕ
place_bound = 4294967296

-- for every tree of which the words are the index, the label and the way to the entry `place` are in the buffer from its beginning
pub record PathWritten (label sheet words : List ℕ) (defect place : ℕ) (before after : List ℕ) (next : ℕ) : Type 0 where
  pub written : (tree : Rule) (p : Text)
      → RuleAt sheet words tree
      → behind_label defect place tree ≡ some p
      → Wrote before after 0 (label ++ p) next
