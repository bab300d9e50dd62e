-- What the grammar reads as digits are digits: each stands for a number below ten.
use Prim.Native.Nat.{ℕ}
use mathlib.Core.Path.{◌≡◌, refl, subst}
use mathlib.Core.Bool.{Bool, true, false, cond}
use mathlib.Core.List.{List, [], ◌∷◌, ◌++◌, map, map-append}
use mathlib.Core.Option.{Option, none, some, bind}
use native.Mathlib.Omega.{arith}
use lib.Dec.{ltb, eqb}
use borrow.Author.Tests.{lt-ltb}
use Rattle.text.specs.Decimal.{is_digit}
use Rattle.text.proofs.Bools.{and-true-0, and-true-1}
use Rattle.text.specs.DecimalLaws.{is_digit-range}
use Rattle.number.specs.Grammar.{Number, Read, run, past, some_digits, digits, leads, int, frac, exp, unsigned, number}
use Rattle.number.specs.Finite.{digit}
use Rattle.number.proofs.Numeral.{tens}

digit-tens : (b : ℕ) → is_digit b ≡ true → ltb (digit b) 10 ≡ true
digit-tens b e = lt-ltb (digit b) 10 (omega (arith, (is_digit-range b e).1))

run-tens : (s : List ℕ) → tens (map digit (run s)) ≡ true
unfolding tens run
run-tens [] = refl
run-tens (b ∷ s) = go (is_digit b) refl (run-tens s)
  where
    go : (t : Bool) → is_digit b ≡ t → tens (map digit (run s)) ≡ true → tens (map digit (cond t (b ∷ run s) [])) ≡ true
    go true p e = rw (digit-tens b p) e
    go false p e = refl

tens-append : (a b : List ℕ) → tens a ≡ true → tens b ≡ true → tens (a ++ b) ≡ true
unfolding tens
tens-append [] b p q = q
tens-append (d ∷ a) b p q = rw (and-true-0 (ltb d 10) (tens a) p) (tens-append a b (and-true-1 (ltb d 10) (tens a) p) q)

-- of what a rule answers, if it does
abbrev ReadsTens : Option Read → Type 0
ReadsTens none = Unit {0}
ReadsTens (some r) = tens (map digit r.digits) ≡ true

abbrev NumberTens : Option Number → Type 0
NumberTens none = Unit {0}
NumberTens (some n) = tens (map digit (n.whole ++ n.fraction)) ≡ true

some-tens : (ds s : List ℕ) → tens (map digit ds) ≡ true → ReadsTens (some_digits ds s)
unfolding some_digits
some-tens [] s h = tt
some-tens (d ∷ ds) s h = h

digits-tens : (s : List ℕ) → ReadsTens (digits s)
unfolding digits
digits-tens s = some-tens (run s) (past s) (run-tens s)

int-tens : (s : List ℕ) → ReadsTens (int s)
unfolding int bind
int-tens s = go (digits s) (digits-tens s)
  where
    kept : (t : Bool) (r : Read) → tens (map digit r.digits) ≡ true → ReadsTens (cond t (some r) none)
    kept true r h = h
    kept false r h = tt

    go : (o : Option Read) → ReadsTens o → ReadsTens (bind o (λ r. cond (leads r.digits) (some r) none))
    go none h = tt
    go (some r) h = kept (leads r.digits) r h

frac-tens : (s : List ℕ) → ReadsTens (frac s)
unfolding frac tens
frac-tens [] = refl
frac-tens (b ∷ s) = go (eqb b 0x2E) (digits-tens s)
  where
    go : (t : Bool) → ReadsTens (digits s) → ReadsTens (cond t (digits s) (some (record { digits = []; rest = b ∷ s })))
    go true h = h
    go false h = refl

unsigned-tens : (s : List ℕ) → NumberTens (unsigned s)
unfolding unsigned bind
unsigned-tens s = go-int (int s) (int-tens s)
  where
    go-exp : (i f : Read) → tens (map digit i.digits) ≡ true → tens (map digit f.digits) ≡ true → (o : Option (Bool × List ℕ))
        → NumberTens (bind o (λ e. some (record { whole = i.digits; fraction = f.digits; lowered = e.0; exponent = e.1 })))
    go-exp i f p q none = tt
    go-exp i f p q (some e) = rw (map-append digit i.digits f.digits) (tens-append (map digit i.digits) (map digit f.digits) p q)

    go-frac : (i : Read) → tens (map digit i.digits) ≡ true → (o : Option Read) → ReadsTens o
        → NumberTens (bind o (λ f. bind (exp f.rest) (λ e. some (record { whole = i.digits; fraction = f.digits; lowered = e.0; exponent = e.1 }))))
    go-frac i p none q = tt
    go-frac i p (some f) q = go-exp i f p q (exp f.rest)

    go-int : (o : Option Read) → ReadsTens o
        → NumberTens (bind o (λ i. bind (frac i.rest) (λ f. bind (exp f.rest) (λ e. some (record { whole = i.digits; fraction = f.digits; lowered = e.0; exponent = e.1 })))))
    go-int none p = tt
    go-int (some i) p = go-frac i p (frac i.rest) (frac-tens i.rest)

number-tens : (s : List ℕ) → NumberTens (number s)
unfolding number
number-tens [] = tt
number-tens (b ∷ s) = go (eqb b 0x2D)
  where
    go : (t : Bool) → NumberTens (cond t (unsigned s) (unsigned (b ∷ s)))
    go true = unsigned-tens s
    go false = unsigned-tens (b ∷ s)

pub number_digits : (s : List ℕ) (n : Number) → number s ≡ some n → tens (map digit (n.whole ++ n.fraction)) ≡ true
number_digits s n e = subst NumberTens e (number-tens s)
