-- Decimal digits, as bytes.
use Rattle.std.specs.Prelude.{ℕ, Bool}
use Rattle.text.specs.Utf8.{between}

-- whoever opens it opens `between` too
unfoldable pub is_digit : ℕ → Bool
unfolding between
is_digit b = between 0x30 0x39 b
