-- What the readers of keys, commas and closing brackets answer. White space around them is passed too.
use Rattle.std.specs.Prelude.{ℕ, ◌+◌, ◌<◌, ◌≤◌, true, false, List, ◌≡◌, length, drop, Option, Some, None}
use Rattle.std.proofs.Math.Option.{none, some}
use Rattle.text.specs.Reader.{Reader, ◌>>=◌, ◌>>◌, pure}
use Rattle.text.specs.ByteReaders.{byte}
use Rattle.text.specs.ReadAt.{ReadsTo, Refuses}
use Rattle.json_text.specs.Json.{Text}
use Rattle.json_text.specs.Strings.{string}
use Rattle.json_text.specs.Grammar.{unspaced, spaces, comma_or}
use Rattle.json_text.specs.declared.between.Separator.{Separator}
use Rattle.json_text.specs.declared.between.Separator.TheVariants as separator

-- a member's name, and the colon
unfoldable pub key_of : Reader (List ℕ) Text
key_of = do
  byte 0x22
  name ← string
  spaces
  byte 0x3A
  spaces
  pure name

-- a name of so many bytes, and its value at `next`
pub record KeyAt (s : List ℕ) (at len next : ℕ) : Type 0 where
  pub text : Text
  pub behind : ℕ
  pub quoted : ReadsTo string s (at + 1) text behind
  pub read : ReadsTo key_of s at text next
  pub size : length text ≡ len

abbrev pub KeyIs : List ℕ → ℕ → Option (ℕ × ℕ) → Type 0
KeyIs s at (Some (len, next)) = KeyAt s at len next
KeyIs s at None = Refuses key_of s at

-- a comma, and what comes after it at `next`
pub record MoreAt (close : ℕ) (s : List ℕ) (at next : ℕ) : Type 0 where
  pub behind : List ℕ
  pub comma : comma_or close (unspaced (drop at s)) ≡ some (true, behind)
  pub skips : unspaced behind ≡ drop next s
  pub past : at < next
  pub within : next ≤ length s

-- the closing bracket, and the place after it
pub record EndAt (close : ℕ) (s : List ℕ) (at next : ℕ) : Type 0 where
  pub closes : comma_or close (unspaced (drop at s)) ≡ some (false, drop next s)
  pub past : at < next
  pub within : next ≤ length s

abbrev pub SeparatorIs : ℕ → List ℕ → ℕ → Option Separator → Type 0
SeparatorIs close s at (Some (separator.More next)) = MoreAt close s at next
SeparatorIs close s at (Some (separator.End next)) = EndAt close s at next
SeparatorIs close s at None = comma_or close (unspaced (drop at s)) ≡ none
