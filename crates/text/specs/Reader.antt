-- Reading from left to right. A reader takes the input that remains and answers what it read with the input that then remains, or none.
use Rattle.std.specs.Prelude.{Bool, true, false}
use Rattle.std.proofs.Math.Option.{Option, none, some}

abbrev pub Reader : Type 0 → Type 0 → Type 0
Reader S A = S → Option (A × S)

-- nothing is read
unfoldable pub pure : {S A : Type 0} → A → Reader S A
pure a s = some (a, s)

unfoldable pub refuse : {S A : Type 0} → Reader S A
refuse s = none

-- the second reader goes on where the first one stopped
unfoldable pub and_then : {S A B : Type 0} → Option (A × S) → (A → Reader S B) → Option (B × S)
and_then none k = none
and_then (some r) k = k r.0 r.1

infixl 10 ◌>>=◌ ◌>>◌
unfoldable pub ◌>>=◌ : {S A B : Type 0} → Reader S A → (A → Reader S B) → Reader S B
◌>>=◌ p k s = and_then (p s) k

unfoldable pub ◌>>◌ : {S A B : Type 0} → Reader S A → Reader S B → Reader S B
◌>>◌ p q = p >>= λ a. q

-- goes on only where the test holds
unfoldable pub ensure : {S : Type 0} → Bool → Reader S (Unit {0})
ensure true s = some (tt, s)
ensure false s = none

-- the first reader, or the second where the first reads nothing
unfoldable pub or_else : {A : Type 0} → Option A → Option A → Option A
or_else none o = o
or_else (some a) o = some a

unfoldable pub either : {S A : Type 0} → Reader S A → Reader S A → Reader S A
either p q s = let second = q s in or_else (p s) second
