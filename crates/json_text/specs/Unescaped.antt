-- What laying the text of a string leaves in a buffer.
use Rattle.std.specs.Prelude.{ℕ, List, ◌≡◌, length}
use Rattle.text.specs.ReadAt.{ReadsTo}
use Rattle.buffer.specs.Laid.{Laid}
use Rattle.json_text.specs.Json.{Text}
use Rattle.json_text.specs.Strings.{string}

-- the text of whatever string is read there
pub record LaysText (s : List ℕ) (at : ℕ) (before after : List ℕ) (o r : ℕ) : Type 0 where
  pub len : length after ≡ length before
  pub lies : (text : Text) (next : ℕ) → ReadsTo string s at text next → Laid before after o text r
