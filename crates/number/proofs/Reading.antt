-- Laws of the grammar's rules at a place of a text: each way through the code's readers, as an equation of the rule.
use Rattle.std.specs.Prelude.{Some}
use Prim.Native.Nat.{ℕ, zero, suc, ◌+◌, ◌-◌, ◌<◌, ◌≤◌, suc-le-suc, zero-le}
use mathlib.Core.Path.{◌≡◌, refl, sym, ap, ap₂, ◌∙◌}
use mathlib.Core.Bool.{Bool, true, false, cond}
use mathlib.Core.List.{List, [], ◌∷◌}
use mathlib.Core.Option.{none, some, bind}
use native.Mathlib.Omega.{arith}
use native.Mathlib.Nat.{sub_self, not-suc-le-zero}
use native.Mathlib.Numerals.{add-one}
use lib.ListN.{length, take, drop, get_or, length-drop, drop_of_length-le}
use lib.Seq.{drop-cons, drop-drop, take_all}
use borrow.Author.Tests.{eq-eqb, ne_eqb}
use Rattle.text.specs.Decimal.{is_digit}
use Rattle.number.specs.Grammar.{Read, run, past, some_digits, digits, leads, int, frac, is_empty, last, power, exp, unsigned, number}
use Rattle.number.specs.Parts.{part, Ends}

-- the digits that a text begins with are its first bytes, and what follows them is what is left
take-run : (s : List ℕ) → take (length (run s)) s ≡ run s
unfolding run
take-run [] = refl
take-run (b ∷ s) = go (is_digit b) (take-run s)
  where
    go : (t : Bool) → take (length (run s)) s ≡ run s → take (length (cond t (b ∷ run s) [])) (b ∷ s) ≡ cond t (b ∷ run s) []
    go true e = ap (λ (l : List ℕ). b ∷ l) e
    go false e = refl

drop-run : (s : List ℕ) → drop (length (run s)) s ≡ past s
unfolding run past
drop-run [] = refl
drop-run (b ∷ s) = go (is_digit b) (drop-run s)
  where
    go : (t : Bool) → drop (length (run s)) s ≡ past s → drop (length (cond t (b ∷ run s) [])) (b ∷ s) ≡ cond t (past s) (b ∷ s)
    go true e = e
    go false e = refl

run_length : (s : List ℕ) → length (run s) ≤ length s
unfolding run
run_length [] = zero-le
run_length (b ∷ s) = go (is_digit b) (run_length s)
  where
    go : (t : Bool) → length (run s) ≤ length s → length (cond t (b ∷ run s) []) ≤ suc (length s)
    go true e = suc-le-suc e
    go false e = zero-le

run-cons : (b : ℕ) (s : List ℕ) → length (run (b ∷ s)) ≡ cond (is_digit b) (suc (length (run s))) 0
unfolding run
run-cons b s = go (is_digit b)
  where
    go : (t : Bool) → length (cond t (b ∷ run s) []) ≡ cond t (suc (length (run s))) 0
    go true = refl
    go false = refl

-- where the digits from place i on end: one further, here, or at the text's end
pub run_on : (s : List ℕ) (i : ℕ) → i < length s → is_digit (get_or s i 0) ≡ true → i + length (run (drop i s)) ≡ i + 1 + length (run (drop (i + 1) s))
run_on s i h d = rw (drop-cons s i 0 h, run-cons, d, ← add-one i) (omega arith)

pub run-stop : (s : List ℕ) (i : ℕ) → i < length s → is_digit (get_or s i 0) ≡ false → i + length (run (drop i s)) ≡ i
run-stop s i h d = rw (drop-cons s i 0 h, run-cons, d) (omega arith)

pub run_out : (s : List ℕ) (i : ℕ) → length s ≤ i → i + length (run (drop i s)) ≡ i
unfolding run
run_out s i h = rw (drop_of_length-le s h) (omega arith)

some_digits-some : (ds s : List ℕ) → 0 < length ds → some_digits ds s ≡ some (record { digits = ds; rest = s })
unfolding some_digits
some_digits-some [] s h = absurd (not-suc-le-zero h)
some_digits-some (d ∷ ds) s h = refl

some_digits-none : (ds s : List ℕ) → length ds ≤ 0 → some_digits ds s ≡ none
unfolding some_digits
some_digits-none [] s h = refl
some_digits-none (d ∷ ds) s h = absurd (not-suc-le-zero h)

module _ (s : List ℕ) (at e : ℕ) (ends : e ≡ at + length (run (drop at s))) where
  pub digits-some : at < e → (digits (drop at s) ≡ some (record { digits = part s at e; rest = drop e s })) × (at < e) × (e ≤ length s)
  unfolding digits
  digits-some h = (
    some_digits-some (run (drop at s)) (past (drop at s)) (omega (arith, ends, h))
        ∙ ap₂ (λ (ds r : List ℕ). some (record { digits = ds; rest = r })) front back,
    h,
    omega (arith, ends, h, run_length (drop at s), length-drop at s),
  )
    where
      front : run (drop at s) ≡ part s at e
      front =
          let n : length (run (drop at s)) ≡ e - at = omega (arith, ends) in
          sym (take-run (drop at s)) ∙ ap (λ (k : ℕ). take k (drop at s)) n

      back : past (drop at s) ≡ drop e s
      back = sym (drop-run (drop at s)) ∙ (drop-drop (length (run (drop at s))) at s ∙ ap (λ (n : ℕ). drop n s) (sym ends))

  pub digits-none : e ≤ at → digits (drop at s) ≡ none
  unfolding digits
  digits-none h = some_digits-none (run (drop at s)) (past (drop at s)) (omega (arith, ends, h))

-- a part of the text by its first byte
part-cons : (s : List ℕ) (at e : ℕ) → at < e → e ≤ length s → part s at e ≡ take (suc (e - suc at)) (get_or s at 0 ∷ drop (suc at) s)
part-cons s at e h k =
    let n : e - at ≡ suc (e - suc at) = omega (arith, h) in
    let l : at < length s = omega (arith, h, k) in
    ap₂ take n (drop-cons s at 0 l)

leads-other : (b k : ℕ) (s : List ℕ) → (b ≡ 0x30 → ⊥) → leads (take (suc k) (b ∷ s)) ≡ true
unfolding leads
leads-other b zero s h = refl
leads-other b (suc k) [] h = refl
leads-other b (suc k) (c ∷ s) h = rw (ne_eqb b 0x30 h)

leads-zero : (b k : ℕ) (s : List ℕ) → b ≡ 0x30 → 0 < k → k ≤ length s → leads (take (suc k) (b ∷ s)) ≡ false
unfolding leads
leads-zero b zero s e h l = absurd (not-suc-le-zero h)
leads-zero b (suc k) [] e h l = absurd (not-suc-le-zero l)
leads-zero b (suc k) (c ∷ s) e h l = rw (eq-eqb b 0x30 e)

leads_one : (b k : ℕ) (s : List ℕ) → k ≤ 0 → leads (take (suc k) (b ∷ s)) ≡ true
unfolding leads
leads_one b zero s h = refl
leads_one b (suc k) s h = absurd (not-suc-le-zero h)

pub int-none : (s : List ℕ) → digits s ≡ none → int s ≡ none
unfolding int bind
int-none s e = rw e

module _ (s : List ℕ) (at e : ℕ) (d : Ends (digits (drop at s)) s at (Some e)) where
  int-leads : leads (part s at e) ≡ true → Ends (int (drop at s)) s at (Some e)
  unfolding int bind
  int-leads l = (rw (d.0, l), d.1, d.2)

  pub int-zero : get_or s at 0 ≡ 0x30 → at + 1 < e → int (drop at s) ≡ none
  unfolding int bind
  int-zero z h = rw (d.0, part-cons s at e d.1 d.2, leads-zero (get_or s at 0) (e - suc at) (drop (suc at) s) z (omega (arith, h)) (omega (arith, d.2, length-drop (suc at) s)))

  pub int-one : e ≤ at + 1 → Ends (int (drop at s)) s at (Some e)
  int-one h = int-leads (rw (part-cons s at e d.1 d.2) (leads_one (get_or s at 0) (e - suc at) (drop (suc at) s) (omega (arith, h))))

  pub int-other : (get_or s at 0 ≡ 0x30 → ⊥) → Ends (int (drop at s)) s at (Some e)
  int-other z = int-leads (rw (part-cons s at e d.1 d.2) (leads-other (get_or s at 0) (e - suc at) (drop (suc at) s) z))

  -- digits to the end of the text are what is left of it
  pub last_end : (lowered : Bool) → length s ≤ e → last lowered (drop at s) ≡ some (lowered, drop at s)
  unfolding last bind is_empty
  last_end lowered h =
      let all : part s at e ≡ drop at s = take_all (e - at) (drop at s) (omega (arith, h, d.1, length-drop at s)) in
      rw (d.0, drop_of_length-le s h, all)

  pub last_more : (lowered : Bool) → e < length s → last lowered (drop at s) ≡ none
  unfolding last bind is_empty
  last_more lowered h = rw (d.0, drop-cons s e 0 h)

pub last_none : (lowered : Bool) (s : List ℕ) → digits s ≡ none → last lowered s ≡ none
unfolding last bind
last_none lowered s e = rw e

-- a rule at a place, by the byte that is there
module _ (s : List ℕ) (at : ℕ) (h : at < length s) where
  pub frac-point : get_or s at 0 ≡ 0x2E → frac (drop at s) ≡ digits (drop (at + 1) s)
  unfolding frac
  frac-point e = rw (add-one, drop-cons s at 0 h, eq-eqb _ _ e)

  pub frac-other : (get_or s at 0 ≡ 0x2E → ⊥) → frac (drop at s) ≡ some (record { digits = part s at at; rest = drop at s })
  unfolding frac
  frac-other e = rw (sub_self, drop-cons s at 0 h, ne_eqb _ _ e)

  pub power-minus : get_or s at 0 ≡ 0x2D → power (drop at s) ≡ last true (drop (at + 1) s)
  unfolding power
  power-minus e = rw (add-one, drop-cons s at 0 h, eq-eqb _ _ e)

  pub power-plus : (get_or s at 0 ≡ 0x2D → ⊥) → get_or s at 0 ≡ 0x2B → power (drop at s) ≡ last false (drop (at + 1) s)
  unfolding power
  power-plus n e = rw (add-one, drop-cons s at 0 h, ne_eqb (get_or s at 0) 0x2D n, eq-eqb (get_or s at 0) 0x2B e)

  pub power-bare : (get_or s at 0 ≡ 0x2D → ⊥) → (get_or s at 0 ≡ 0x2B → ⊥) → power (drop at s) ≡ last false (drop at s)
  unfolding power
  power-bare n e = rw (drop-cons s at 0 h, ne_eqb (get_or s at 0) 0x2D n, ne_eqb (get_or s at 0) 0x2B e)

  pub exp-small : get_or s at 0 ≡ 0x65 → exp (drop at s) ≡ power (drop (at + 1) s)
  unfolding exp
  exp-small e = rw (add-one, drop-cons s at 0 h, eq-eqb _ _ e)

  pub exp-large : (get_or s at 0 ≡ 0x65 → ⊥) → get_or s at 0 ≡ 0x45 → exp (drop at s) ≡ power (drop (at + 1) s)
  unfolding exp
  exp-large n e = rw (add-one, drop-cons s at 0 h, ne_eqb (get_or s at 0) 0x65 n, eq-eqb (get_or s at 0) 0x45 e)

  pub exp-other : (get_or s at 0 ≡ 0x65 → ⊥) → (get_or s at 0 ≡ 0x45 → ⊥) → exp (drop at s) ≡ none
  unfolding exp
  exp-other n e = rw (drop-cons s at 0 h, ne_eqb (get_or s at 0) 0x65 n, ne_eqb (get_or s at 0) 0x45 e)

module _ (s : List ℕ) (at : ℕ) (h : length s ≤ at) where
  pub frac-end : frac (drop at s) ≡ some (record { digits = part s at at; rest = drop at s })
  unfolding frac
  frac-end = rw (sub_self, drop_of_length-le s h)

  pub power-end : power (drop at s) ≡ none
  unfolding power
  power-end = rw (drop_of_length-le s h)

  pub exp-end : exp (drop at s) ≡ some (false, drop at s)
  unfolding exp
  exp-end = rw (drop_of_length-le s h)

-- a number by its parts
pub unsigned-no-int : (s : List ℕ) → int s ≡ none → unsigned s ≡ none
unfolding unsigned bind
unsigned-no-int s e = rw e

module _ (s : List ℕ) (i : Read) (int_is : int s ≡ some i) where
  pub unsigned-no-frac : frac i.rest ≡ none → unsigned s ≡ none
  unfolding unsigned bind
  unsigned-no-frac e = rw (int_is, e)

  module _ (f : Read) (frac-is : frac i.rest ≡ some f) where
    pub unsigned-no-exp : exp f.rest ≡ none → unsigned s ≡ none
    unfolding unsigned bind
    unsigned-no-exp e = rw (int_is, frac-is, e)

    pub unsigned-all : (x : Bool × List ℕ) → exp f.rest ≡ some x → unsigned s ≡ some (record { whole = i.digits; fraction = f.digits; lowered = x.0; exponent = x.1 })
    unfolding unsigned bind
    unsigned-all x e = rw (int_is, frac-is, e)

pub number-empty : (s : List ℕ) → length s ≡ 0 → number s ≡ none
unfolding number
number-empty [] e = refl
number-empty (b ∷ s) e =
    let z : ⊥ = omega (arith, e) in
    absurd z

pub number-minus : (s : List ℕ) → (length s ≡ 0 → ⊥) → get_or s 0 0 ≡ 0x2D → number s ≡ unsigned (drop 1 s)
unfolding number
number-minus [] h e = absurd (h refl)
number-minus (b ∷ s) h e = rw (eq-eqb b 0x2D e)

pub number-bare : (s : List ℕ) → (length s ≡ 0 → ⊥) → (get_or s 0 0 ≡ 0x2D → ⊥) → number s ≡ unsigned s
unfolding number
number-bare [] h e = absurd (h refl)
number-bare (b ∷ s) h e = rw (ne_eqb b 0x2D e)
