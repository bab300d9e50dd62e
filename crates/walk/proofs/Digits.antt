-- The digits of an ordinal.
use Prim.Native.Nat.{ℕ, ◌+◌, ◌<◌, ◌≤◌}
use native.Mathlib.Omega.{arith}
use native.Mathlib.Numerals.{add-one}
use mathlib.Core.Bool.{Bool, true, false}
use mathlib.Core.List.{List, [], ◌∷◌}
use mathlib.Core.Path.{◌≡◌, refl, sym, ◌∙◌}
use lib.Dec.{eqb}
use lib.ListN.{length, drop, get_or, drop_of_length-le}
use lib.Seq.{drop-cons}
use borrow.Author.Tests.{ne_eqb}
use Rattle.text.specs.Decimal.{is_digit}
use Rattle.text.specs.Order.{same_bytes}
use Rattle.text.specs.Ascii.{ascii}
use Rattle.reference.specs.Path.{is_digits, is_ordinal}

abbrev pub SoFar : List ℕ → ℕ → Type 0
SoFar s i = is_digits s ≡ is_digits (drop i s)

pub digit-passed : (s : List ℕ) (i : ℕ) {r : Bool} → SoFar s i → i < length s → r ≡ is_digit (get_or s i 0) → r ≡ true → SoFar s (i + 1)
unfolding is_digits
digit-passed s i h less q t = h ∙ rw (add-one, drop-cons s i 0, ← q, t)

pub digits-broken : (s : List ℕ) (i : ℕ) {r : Bool} → SoFar s i → i < length s → r ≡ is_digit (get_or s i 0) → r ≡ false → false ≡ is_digits s
unfolding is_digits
digits-broken s i h less q f = sym (h ∙ rw (drop-cons s i 0, ← q, f))

pub digits-ended : (s : List ℕ) (i : ℕ) → SoFar s i → length s ≤ i → true ≡ is_digits s
unfolding is_digits
digits-ended s i h end = sym (h ∙ rw (drop_of_length-le s end))

pub ordinal-empty : (s : List ℕ) → length s ≡ 0 → false ≡ is_ordinal s
unfolding is_ordinal
ordinal-empty [] e = refl
ordinal-empty (b ∷ s) e = absurd (omega arith)

pub ordinal-zero : (s : List ℕ) → (length s ≡ 0 → ⊥) → get_or s 0 0 ≡ 48 → eqb (length s) 1 ≡ is_ordinal s
unfolding is_ordinal same_bytes ascii
ordinal-zero [] h e = absurd (h refl)
ordinal-zero (b ∷ []) h e = rw e
ordinal-zero (b ∷ c ∷ s) h e = rw (e, ne_eqb (length (b ∷ c ∷ s)) 1 (omega arith))

pub ordinal-other : (r : Bool) (s : List ℕ) → r ≡ is_digits s → (length s ≡ 0 → ⊥) → (get_or s 0 0 ≡ 48 → ⊥) → r ≡ is_ordinal s
unfolding is_ordinal same_bytes ascii
ordinal-other r [] d h e = absurd (h refl)
ordinal-other r (b ∷ s) d h e = d ∙ rw (ne_eqb b 48 e)
