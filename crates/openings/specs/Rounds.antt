-- The search as the code goes: what is known before a round, and what the marks stand for that it keeps.
use Rattle.std.specs.Prelude.{ℕ, ◌+◌, ◌≤◌, ◌<◌, Bool, true, false, not, List, ◌≡◌, eqb, length, get_or, Result, Ok, Err}
use Rattle.std.proofs.Math.Option.{Option, none, some}
use Rattle.std.proofs.lemmas.List.Edits.{sets}
use Rattle.buffer.specs.Bytes.{bytes_of}
use Rattle.definition.specs.Limits.{max_sheet_bytes}
use Rattle.definition.specs.Tree as Tree
use Rattle.definition.specs.Tree.{Rule}
use Rattle.definition.specs.Decode.{decode_schema}
use Rattle.definition.specs.Within.{RuleWithin}
use Rattle.reference.specs.Setting.{Setting}
use Rattle.schema.specs.Read.{SchemaAt}
use Rattle.schema.specs.declared.read.Schema.{Schema}
use Rattle.rule.specs.Index.{RuleAt}
use Rattle.widening.specs.Opening.{is_in, opened}
use Rattle.validation.specs.Check.{checks}
use Rattle.validation.specs.Judge.{Verdict, all_pass, fails_at, judge}
use Rattle.validation.specs.Openings.{max_marks, rounds, rising_to}
use Rattle.single_check.specs.Sheets.{FrontOnly}

-- what a round finds of the check list's verdict
abbrev pub RoundIs : Result Unit ℕ → Verdict → Type 0
RoundIs (Ok tt) (all_pass n) = Unit {0}
RoundIs (Ok tt) (fails_at n c why) = ⊥
RoundIs (Err at) (all_pass n) = ⊥
RoundIs (Err at) (fails_at n c why) = why.at ≡ at

pub record RoundJudged (setting : Setting) (s : Schema) (rule sheet words : List ℕ) (r : Result Unit ℕ) : Type 0 where
  pub finds : (t : Tree.Schema) (x : Rule)
      → SchemaAt sheet words s t
      → RuleAt rule words x
      → length rule ≤ max_sheet_bytes
      → RoundIs r (judge setting t (checks setting x))

-- whether the entry is marked
unfoldable pub is_marked : List ℕ → ℕ → Bool
is_marked marks e = not (eqb (get_or marks e 0) 0)

-- The schema and the rule that the indexes stand for, with the marks of `found` open: both in the sheet and in what is marked.
pub record Stands (rule : List ℕ) (t : Tree.Schema) (x : Rule) (s : Schema) (sheet marks words found : List ℕ) : Type 0 where
  pub reads : decode_schema sheet ≡ some (opened (is_in found) t)
  pub indexed : SchemaAt sheet words s (opened (is_in found) t)
  pub ruled : RuleAt rule words x
  pub within : RuleWithin x
  pub small : length rule ≤ max_sheet_bytes
  pub marked : (e : ℕ) → e < max_marks → is_marked marks e ≡ is_in found e

-- what the search ends in
abbrev pub EndsIn : Option (List ℕ) → (marks : List ℕ) → Bool → Type 0
EndsIn o marks true = (found : List ℕ) × (o ≡ some found) × ((e : ℕ) → e < max_marks → is_marked marks e ≡ is_in found e)
EndsIn o marks false = o ≡ none

pub record MarksFound (setting : Setting) (s : Schema) (rule sheet marks_before marks before after : List ℕ) (r : Bool) : Type 0 where
  pub front : FrontOnly before after
  pub ends : (t : Tree.Schema) (x : Rule) (found : List ℕ)
      → Stands rule t x s sheet marks_before before found
      → EndsIn (rounds setting t (checks setting x) (max_marks + 1) found) marks r

-- the entries that are marked, as a list in the buffer
pub record ListedIn (marks before after : List ℕ) (count : ℕ) : Type 0 where
  pub written : after ≡ sets before 0 (bytes_of (rising_to max_marks (is_marked marks)))
  pub counted : count ≡ length (rising_to max_marks (is_marked marks))
