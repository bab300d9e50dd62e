-- What the code's readers answer, by cases: numbers, and places in the file.
use Rattle.std.specs.Prelude.{ℕ, ◌+◌, ◌-◌, ◌≤◌, min, List, [], ◌≡◌, length, drop, Option, Some, None}
use Rattle.std.proofs.Math.Option.{none, some, map}
use Rattle.text.specs.Reader.{Reader}
use Rattle.text.specs.Numeral as Numeral
use Rattle.text.specs.Parts.{part_of}
use Rattle.check_file.specs.File as File
use Rattle.check_file.specs.File.{max_file, Parts, taken_apart}
use Rattle.check_file.specs.declared.file.Placed.{Placed}

-- what every larger number is answered as: too large for a count, since the file is shorter, and for a setting
abbrev pub too_large : ℕ
too_large = max_file + 1

-- `p` reads a number from place `at` on, which is answered as `value`, and stops at `next`
pub record CappedTo (p : Reader (List ℕ) ℕ) (s : List ℕ) (at value next : ℕ) : Type 0 where
  pub number : ℕ
  pub reads : p (drop at s) ≡ some (number, drop next s)
  pub answered : value ≡ min number too_large
  pub within : next ≤ length s

abbrev pub CappedIs : Reader (List ℕ) ℕ → List ℕ → ℕ → Option (ℕ × ℕ) → Type 0
CappedIs p s at (Some (value, next)) = CappedTo p s at value next
CappedIs p s at None = p (drop at s) ≡ none

-- the digits after those whose value is `first`
unfoldable pub digits_behind : ℕ → Reader (List ℕ) ℕ
digits_behind first s = some (Numeral.digits first s)

unfoldable pub parts_at : List ℕ → Placed → Parts
parts_at file p =
    record {
      kind = p.kind;
      semantics = p.semantics;
      label = part_of file p.label;
      schema = part_of file p.schema;
      rule = part_of file p.rule;
    }

abbrev pub TextsAre : List ℕ → (at kind semantics label schema rule : ℕ) → Option Placed → Type 0
TextsAre file at kind semantics label schema rule (Some p) =
    File.texts kind semantics label schema rule (drop at file) ≡ some (parts_at file p, [])
TextsAre file at kind semantics label schema rule None = File.texts kind semantics label schema rule (drop at file) ≡ none

-- parts as the code answers them
unfoldable pub answerable : Parts → Parts
answerable p =
    record {
      kind = min p.kind too_large;
      semantics = min p.semantics too_large;
      label = p.label;
      schema = p.schema;
      rule = p.rule;
    }

abbrev pub TakenIs : List ℕ → Option Placed → Type 0
TakenIs file (Some p) = map answerable (taken_apart file) ≡ some (parts_at file p)
TakenIs file None = taken_apart file ≡ none
