-- A member's key in the path.
use Rattle.std.specs.Prelude.{ℕ, List, ◌≡◌, drop}
use Rattle.std.proofs.Math.Option.{some}
use Rattle.sheet.specs.Entries.{key_head}
use Rattle.definition.specs.Tree.{Text}
use Rattle.rule.specs.Index.{start_of}
use Rattle.validation.specs.Location.{dotted}
use Rattle.buffer.specs.Wrote.{Wrote}

-- the key that the sheet has at word `i`, after a dot
pub record KeyWritten (sheet words : List ℕ) (i : ℕ) (before after : List ℕ) (at next : ℕ) : Type 0 where
  pub written : (key : Text) (rest : List ℕ) → key_head (drop (start_of words i) sheet) ≡ some (key, rest) → Wrote before after at (dotted key) next
