-- What `rulecheck_instant` answers (docs/FORMAT.md, "The C interface"): the seven fields of an instant, as numbers of four bytes.
use Rattle.std.specs.Prelude.{ℕ, ◌≤◌, cond, List, ◌≡◌, leb, length}
use Rattle.std.proofs.Math.Option.{Option, none, some}
use Rattle.std.proofs.lemmas.List.Edits.{sets}
use Rattle.timestamp.specs.Instant.{instant}
use Rattle.timestamp.specs.Order.{list_of}
use Rattle.timestamp.specs.declared.Fields.{Fields}
use Rattle.buffer.specs.Bytes.{bytes_of}

-- seven fields of four bytes
abbrev pub instant_bytes : ℕ
instant_bytes = 28

-- 3 for too few bytes, then 20 for text that is not an instant
unfoldable pub instant_number : (room : ℕ) → Option Fields → ℕ
instant_number room none = cond (leb instant_bytes room) 20 3
instant_number room (some f) = cond (leb instant_bytes room) 0 3

unfoldable pub instant_after : Option Fields → List ℕ → List ℕ
instant_after none before = before
instant_after (some f) before = cond (leb instant_bytes (length before)) (sets before 0 (bytes_of (list_of f))) before

pub record InstantAnswered (text before after : List ℕ) (r : ℕ) : Type 0 where
  pub number : r ≡ instant_number (length before) (instant text)
  pub fields : after ≡ instant_after (instant text) before

-- the text is an instant, and there was room for its fields
pub record Found (text before after : List ℕ) (f : Fields) : Type 0 where
  pub reads : instant text ≡ some f
  pub room : instant_bytes ≤ length before
  pub written : after ≡ sets before 0 (bytes_of (list_of f))
