-- Number text as RFC 8259, section 6 has it: one function for each rule of its grammar, named after the rule.
-- A digit is kept as its byte.
use Rattle.std.specs.Prelude.{ℕ, Bool, true, false, cond, not, ◌||◌, List, [], ◌∷◌, eqb}
use Rattle.std.proofs.Math.Option.{Option, none, some, bind}
use Rattle.text.specs.Decimal.{is_digit}

-- what a number text says but for its sign: the digits before and after the point, and the exponent, which is negative where it is lowered.
-- What is left out has no digits
pub record Number : Type 0 where
  pub whole : List ℕ
  pub fraction : List ℕ
  pub lowered : Bool
  pub exponent : List ℕ

-- digits that were read, and the text after them
pub record Read : Type 0 where
  pub digits : List ℕ
  pub rest : List ℕ

-- *DIGIT: the digits that a text begins with, and what follows them
unfoldable pub run : List ℕ → List ℕ
run [] = []
run (b ∷ s) = cond (is_digit b) (b ∷ run s) []

unfoldable pub past : List ℕ → List ℕ
past [] = []
past (b ∷ s) = cond (is_digit b) (past s) (b ∷ s)

unfoldable pub some_digits : List ℕ → List ℕ → Option Read
some_digits [] s = none
some_digits (b ∷ ds) s = some (record { digits = b ∷ ds; rest = s })

-- 1*DIGIT
unfoldable pub digits : List ℕ → Option Read
digits s = some_digits (run s) (past s)

-- no zero leads, unless it is the only digit
unfoldable pub leads : List ℕ → Bool
leads [] = false
leads (b ∷ []) = true
leads (b ∷ c ∷ ds) = not (eqb b 0x30)

-- int = zero / ( digit1-9 *DIGIT )
unfoldable pub int : List ℕ → Option Read
int s = bind (digits s) (λ r. cond (leads r.digits) (some r) none)

-- [ frac ], frac = decimal-point 1*DIGIT
unfoldable pub frac : List ℕ → Option Read
frac [] = some (record { digits = []; rest = [] })
frac (b ∷ s) = cond (eqb b 0x2E) (digits s) (some (record { digits = []; rest = b ∷ s }))

unfoldable pub is_empty : List ℕ → Bool
is_empty [] = true
is_empty (b ∷ s) = false

-- 1*DIGIT, the exponent's, to the end of the text
unfoldable pub last : Bool → List ℕ → Option (Bool × List ℕ)
last lowered s = bind (digits s) (λ r. cond (is_empty r.rest) (some (lowered, r.digits)) none)

-- [ minus / plus ] 1*DIGIT
unfoldable pub power : List ℕ → Option (Bool × List ℕ)
power [] = none
power (b ∷ s) = cond (eqb b 0x2D) (last true s) (cond (eqb b 0x2B) (last false s) (last false (b ∷ s)))

-- [ exp ], exp = e [ minus / plus ] 1*DIGIT
unfoldable pub exp : List ℕ → Option (Bool × List ℕ)
exp [] = some (false, [])
exp (b ∷ s) = cond (eqb b 0x65 || eqb b 0x45) (power s) none

-- int [ frac ] [ exp ]
unfoldable pub unsigned : List ℕ → Option Number
unsigned s =
    bind (int s)
    λ i. bind (frac i.rest)
    λ f. bind (exp f.rest)
    λ e. some (record { whole = i.digits; fraction = f.digits; lowered = e.0; exponent = e.1 })

-- number = [ minus ] int [ frac ] [ exp ], and nothing after it
unfoldable pub number : List ℕ → Option Number
number [] = none
number (b ∷ s) = cond (eqb b 0x2D) (unsigned s) (unsigned (b ∷ s))

unfoldable pub is_some : Option Number → Bool
is_some none = false
is_some (some n) = true

unfoldable pub is_number : List ℕ → Bool
is_number s = is_some (number s)
