-- The text of a number has only a number's bytes.
use Rattle.std.specs.Prelude.{ℕ, Bool, true, false, cond, not, ◌||◌, List, [], ◌∷◌, ◌≡◌, eqb}
use Rattle.std.proofs.lemmas.Bool.{false≢true}
use Rattle.std.proofs.Math.Option.{Option, none, some, bind, none-ne-some, some-injective}
use Rattle.std.proofs.Math.Path.{refl}
use Rattle.std.proofs.Common.{sym, ap, ◌∙◌, ne_eqb, eqb-true}
use Rattle.text.specs.Utf8.{between}
use Rattle.text.specs.Decimal.{is_digit}
use Rattle.text.specs.CaseLaws.{by-test}
use Rattle.number.specs.Grammar.{Number, Read, run, past, some_digits, digits, leads, int, frac, is_empty, last, power, exp, unsigned, is_some, is_number}
use Rattle.number.specs.Grammar as Number
use Rattle.json_text.specs.Grammar.{is_space, is_of_number}

-- all bytes of a text are those of numbers
unfoldable pub all_of_number : List ℕ → Bool
all_of_number [] = true
all_of_number (b ∷ s) = cond (is_of_number b) (all_of_number s) false

of_cons : (b : ℕ) (s : List ℕ) → is_of_number b ≡ true → all_of_number s ≡ true → all_of_number (b ∷ s) ≡ true
unfolding all_of_number
of_cons b s h k = rw (h, k)

all-empty : all_of_number [] ≡ true
unfolding all_of_number
all-empty = refl

all_first : (b : ℕ) (s : List ℕ) → all_of_number (b ∷ s) ≡ true → is_of_number b ≡ true
unfolding all_of_number
all_first b s h = go (is_of_number b) h
  where
    go : (t : Bool) → cond t (all_of_number s) false ≡ true → t ≡ true
    go true k = refl
    go false k = k

point-of : is_of_number 0x2E ≡ true
unfolding is_of_number is_digit between
point-of = refl

minus-of : is_of_number 0x2D ≡ true
unfolding is_of_number is_digit between
minus-of = refl

plus-of : is_of_number 0x2B ≡ true
unfolding is_of_number is_digit between
plus-of = refl

e-of : is_of_number 0x65 ≡ true
unfolding is_of_number is_digit between
e-of = refl

upper-e-of : is_of_number 0x45 ≡ true
unfolding is_of_number is_digit between
upper-e-of = refl

digit-of : (b : ℕ) → is_digit b ≡ true → is_of_number b ≡ true
unfolding is_of_number
digit-of b h = rw h

is-of : (b k : ℕ) → is_of_number k ≡ true → eqb b k ≡ true → is_of_number b ≡ true
is-of b k h e = ap is_of_number (eqb-true b k e) ∙ h

-- a byte that no number has
pub not-of : (b k : ℕ) → is_of_number b ≡ true → is_of_number k ≡ false → eqb b k ≡ false
not-of b k h n = ne_eqb b k (λ e. absurd (false≢true (sym n ∙ ap is_of_number (sym e) ∙ h)))

past_of : (s : List ℕ) → all_of_number (past s) ≡ true → all_of_number s ≡ true
unfolding past
past_of [] h = h
past_of (b ∷ s) h = go (is_digit b) refl h (past_of s)
  where
    go : (t : Bool) → is_digit b ≡ t → all_of_number (cond t (past s) (b ∷ s)) ≡ true → (all_of_number (past s) ≡ true → all_of_number s ≡ true) → all_of_number (b ∷ s) ≡ true
    go true e k more = of_cons b s (digit-of b e) (more k)
    go false e k more = k

module _ {A B C : Type 0} where
  bind-some : (o : Option A) (k : A → Option B) {b : B} → bind o k ≡ some b → ((a : A) → o ≡ some a → k a ≡ some b → C) → C
  unfolding bind
  bind-some none k e f = absurd (none-ne-some _ e)
  bind-some (some a) k e f = f a refl e

digits-rest : (s : List ℕ) (r : Read) → digits s ≡ some r → r.rest ≡ past s
unfolding digits some_digits
digits-rest s r e = go (run s) e
  where
    go : (ds : List ℕ) → some_digits ds (past s) ≡ some r → r.rest ≡ past s
    go [] e = absurd (none-ne-some r e)
    go (d ∷ ds) e = ap (λ (x : Read). x.rest) (sym (some-injective _ r e))

digits_of : (s : List ℕ) (r : Read) → digits s ≡ some r → all_of_number r.rest ≡ true → all_of_number s ≡ true
digits_of s r e h = past_of s (ap all_of_number (sym (digits-rest s r e)) ∙ h)

int_of : (s : List ℕ) (r : Read) → int s ≡ some r → all_of_number r.rest ≡ true → all_of_number s ≡ true
unfolding int
int_of s r e h =
    bind-some (digits s) _ e
    (λ x d k. digits_of s x d (go x (leads x.digits) k))
  where
    go : (x : Read) (t : Bool) → cond t (some x) none ≡ some r → all_of_number x.rest ≡ true
    go x true k = ap (λ (y : Read). all_of_number y.rest) (some-injective x r k) ∙ h
    go x false k = absurd (none-ne-some r k)

frac-of : (s : List ℕ) (r : Read) → frac s ≡ some r → all_of_number r.rest ≡ true → all_of_number s ≡ true
unfolding frac
frac-of [] r e h = all-empty
frac-of (b ∷ s) r e h = go (eqb b 0x2E) refl e
  where
    go : (t : Bool) → eqb b 0x2E ≡ t → cond t (digits s) (some (record { digits = []; rest = b ∷ s })) ≡ some r → all_of_number (b ∷ s) ≡ true
    go true q k = of_cons b s (is-of b 0x2E point-of q) (digits_of s r k h)
    go false q k = ap (λ (y : Read). all_of_number y.rest) (some-injective _ r k) ∙ h

last_of : (lowered : Bool) (s : List ℕ) (r : Bool × List ℕ) → last lowered s ≡ some r → all_of_number s ≡ true
unfolding last is_empty
last_of lowered s r e =
    bind-some (digits s) _ e
    (λ x d k. digits_of s x d (go x x.rest refl k))
  where
    go : (x : Read) (l : List ℕ) → x.rest ≡ l → cond (is_empty l) (some (lowered, x.digits)) none ≡ some r → all_of_number x.rest ≡ true
    go x [] q k = ap all_of_number q ∙ all-empty
    go x (b ∷ l) q k = absurd (none-ne-some r k)

power-of : (s : List ℕ) (r : Bool × List ℕ) → power s ≡ some r → all_of_number s ≡ true
unfolding power
power-of [] r e = absurd (none-ne-some r e)
power-of (b ∷ s) r e = go (eqb b 0x2D) refl (eqb b 0x2B) refl e
  where
    go : (t : Bool) → eqb b 0x2D ≡ t → (u : Bool) → eqb b 0x2B ≡ u → cond t (last true s) (cond u (last false s) (last false (b ∷ s))) ≡ some r → all_of_number (b ∷ s) ≡ true
    go true p u q k = of_cons b s (is-of b 0x2D minus-of p) (last_of true s r k)
    go false p true q k = of_cons b s (is-of b 0x2B plus-of q) (last_of false s r k)
    go false p false q k = last_of false (b ∷ s) r k

exp-of : (s : List ℕ) (r : Bool × List ℕ) → exp s ≡ some r → all_of_number s ≡ true
unfolding exp
exp-of [] r e = all-empty
exp-of (b ∷ s) r e = go (eqb b 0x65) refl (eqb b 0x45) refl e
  where
    go : (t : Bool) → eqb b 0x65 ≡ t → (u : Bool) → eqb b 0x45 ≡ u → cond (t || u) (power s) none ≡ some r → all_of_number (b ∷ s) ≡ true
    go true p u q k = of_cons b s (is-of b 0x65 e-of p) (power-of s r k)
    go false p true q k = of_cons b s (is-of b 0x45 upper-e-of q) (power-of s r k)
    go false p false q k = absurd (none-ne-some r k)

unsigned_of : (s : List ℕ) (n : Number) → unsigned s ≡ some n → all_of_number s ≡ true
unfolding unsigned
unsigned_of s n e =
    bind-some (int s) _ e
    (λ i p k. bind-some (frac i.rest) _ k
    (λ f q l. bind-some (exp f.rest) _ l (λ x r m. int_of s i p (frac-of i.rest f q (exp-of f.rest x r)))))

number_of : (s : List ℕ) (n : Number) → Number.number s ≡ some n → all_of_number s ≡ true
unfolding Number.number
number_of [] n e = absurd (none-ne-some n e)
number_of (b ∷ s) n e = go (eqb b 0x2D) refl e
  where
    go : (t : Bool) → eqb b 0x2D ≡ t → cond t (unsigned s) (unsigned (b ∷ s)) ≡ some n → all_of_number (b ∷ s) ≡ true
    go true q k = of_cons b s (is-of b 0x2D minus-of q) (unsigned_of s n k)
    go false q k = unsigned_of (b ∷ s) n k

pub number-bytes : (s : List ℕ) → is_number s ≡ true → all_of_number s ≡ true
unfolding is_number is_some
number-bytes s h = go (Number.number s) refl h
  where
    go : (o : Option Number) → Number.number s ≡ o → is_some o ≡ true → all_of_number s ≡ true
    go none e k = absurd (false≢true k)
    go (some n) e k = number_of s n e

-- a number begins with one of its bytes
pub number-begins : {C : Type 0} (s : List ℕ) → is_number s ≡ true → ((b : ℕ) (t : List ℕ) → s ≡ b ∷ t → is_of_number b ≡ true → C) → C
unfolding is_number is_some Number.number
number-begins [] h f = absurd (false≢true h)
number-begins (b ∷ t) h f = f b t refl (first_of (number-bytes (b ∷ t) h))
  where
    first_of : all_of_number (b ∷ t) ≡ true → is_of_number b ≡ true
    first_of k = all_first b t k

-- such a byte is no white space
pub of-full : (b : ℕ) → is_of_number b ≡ true → is_space b ≡ false
unfolding is_space is_of_number is_digit between
of-full b h = rw (not-of b 0x20 h refl, not-of b 0x09 h refl, not-of b 0x0A h refl, not-of b 0x0D h refl)
