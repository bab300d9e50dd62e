-- Which texts may be in an entry (docs/FORMAT.md, "Sheets").
use Rattle.std.specs.Prelude.{ℕ, ◌≤◌, true, List, ◌≡◌, length}
use Rattle.std.proofs.Math.Option.{Option, none, some}
use Rattle.text.specs.Utf8.{is_utf8}
use Rattle.sheet.specs.Entries.{max_text}

pub record TextWithin (t : List ℕ) : Type 0 where
  pub short : length t ≤ max_text
  pub utf8 : is_utf8 t ≡ true

-- a text that may be absent
abbrev pub OptionWithin : Option (List ℕ) → Type 0
OptionWithin none = Unit {0}
OptionWithin (some t) = TextWithin t
