-- Laws of white space, words and numbers that are read byte by byte.
use Prim.Native.Nat.{ℕ, zero, suc, ◌+◌, ◌-◌, ◌<◌, ◌≤◌}
use mathlib.Core.Bool.{Bool, true, false, ◌||◌, cond, false≢true}
use mathlib.Core.List.{List, [], ◌∷◌, ◌++◌, append_assoc, append-nil}
use mathlib.Core.Option.{Option, none, some}
use mathlib.Core.Path.{◌≡◌, refl, sym, ap, ap₂, subst, ◌∙◌}
use native.Mathlib.Omega.{arith}
use native.Mathlib.Numerals.{add-one}
use lib.ListN.{length, take, drop, get_or, drop_of_length-le, length-drop}
use lib.Seq.{drop-cons, take-suc, get_or-drop, take-length, drop-length}
use lib.Dec.{eqb}
use borrow.Author.Tests.{eq-eqb, ne_eqb}
use Rattle.text.specs.Utf8.{between}
use Rattle.text.specs.Decimal.{is_digit}
use Rattle.text.specs.ByteReaders.{byte}
use Rattle.text.specs.Reader.{◌>>=◌, ◌>>◌, and_then, pure}
use Rattle.text.specs.ReadAt.{ReadsTo, Refuses}
use Rattle.number.specs.Grammar.{is_number}
use Rattle.json_text.specs.Grammar.{is_space, unspaced, is_of_number, number_run, number_text, spelled}
use Rattle.json_text.proofs.NumberLaws.{number-begins}
use Rattle.json_text.specs.TokenAt.{SpacesTo, RunTo, NumberTo, SpelledAt}

-- A byte is white space

pub space-is : (b k : ℕ) → is_space k ≡ true → b ≡ k → true ≡ is_space b
space-is b k h e = sym (ap is_space e ∙ h)

pub space-1 : (b : ℕ) → b ≡ 0x20 → true ≡ is_space b
unfolding is_space
space-1 b e = space-is b 0x20 refl e

pub space-2 : (b : ℕ) → b ≡ 0x9 → true ≡ is_space b
unfolding is_space
space-2 b e = space-is b 0x9 refl e

pub space-3 : (b : ℕ) → b ≡ 0xA → true ≡ is_space b
unfolding is_space
space-3 b e = space-is b 0xA refl e

pub space-4 : (b : ℕ) → (b ≡ 0x20 → ⊥) → (b ≡ 0x9 → ⊥) → (b ≡ 0xA → ⊥) → eqb b 0xD ≡ is_space b
unfolding is_space
space-4 b e f g = rw (ne_eqb b 0x20 e, ne_eqb b 0x9 f, ne_eqb b 0xA g)

-- White space that is passed

pub record Spacing (s : List ℕ) (at i : ℕ) : Type 0 where
  pub skips : unspaced (drop at s) ≡ unspaced (drop i s)
  pub forward : at ≤ i
  pub within : i ≤ length s

pub spacing-start : (s : List ℕ) (at : ℕ) → at ≤ length s → Spacing s at at
spacing-start s at h = record { skips = refl; forward = omega arith; within = h }

unspaced-more : (b : ℕ) (s : List ℕ) → is_space b ≡ true → unspaced (b ∷ s) ≡ unspaced s
unfolding unspaced
unspaced-more b s h = rw h

pub unspaced-stop : (b : ℕ) (s : List ℕ) → is_space b ≡ false → unspaced (b ∷ s) ≡ b ∷ s
unfolding unspaced
unspaced-stop b s h = rw h

unspaced-nothing : unspaced [] ≡ []
unfolding unspaced
unspaced-nothing = refl

pub spacing-more : (s : List ℕ) (at i : ℕ) → Spacing s at i → i < length s → {r : Bool} → r ≡ is_space (get_or s i 0) → r ≡ true → Spacing s at (i + 1)
spacing-more s at i k h e t =
    record {
      skips = k.skips ∙ rw (add-one, drop-cons s i 0 h) (unspaced-more (get_or s i 0) (drop (suc i) s) (sym e ∙ t));
      forward = omega (arith, k.forward);
      within = omega arith;
    }

pub spacing-stop : (s : List ℕ) (at i : ℕ) → Spacing s at i → i < length s → {r : Bool} → r ≡ is_space (get_or s i 0) → r ≡ false → SpacesTo s at i
spacing-stop s at i k h e t =
    record {
      skips = k.skips ∙ rw (drop-cons s i 0 h) (unspaced-stop (get_or s i 0) (drop (suc i) s) (sym e ∙ t));
      forward = k.forward;
      within = k.within;
    }

pub spacing-out : (s : List ℕ) (at i : ℕ) → Spacing s at i → length s ≤ i → SpacesTo s at i
spacing-out s at i k h =
    record {
      skips = k.skips ∙ rw (drop_of_length-le s h) unspaced-nothing;
      forward = k.forward;
      within = k.within;
    }

-- A byte is one of numbers

pub of-number-0 : (b : ℕ) {r : Bool} → r ≡ is_digit b → r ≡ true → true ≡ is_of_number b
unfolding is_of_number
of-number-0 b e t = rw (sym e ∙ t)

of_is : (b k : ℕ) → is_of_number k ≡ true → b ≡ k → true ≡ is_of_number b
of_is b k h e = sym (ap is_of_number e ∙ h)

pub of-number-1 : (b : ℕ) → b ≡ 0x2B → true ≡ is_of_number b
unfolding is_of_number is_digit between
of-number-1 b e = of_is b 0x2B refl e

pub of-number-2 : (b : ℕ) → b ≡ 0x2D → true ≡ is_of_number b
unfolding is_of_number is_digit between
of-number-2 b e = of_is b 0x2D refl e

pub of-number-3 : (b : ℕ) → b ≡ 0x2E → true ≡ is_of_number b
unfolding is_of_number is_digit between
of-number-3 b e = of_is b 0x2E refl e

pub of-number-4 : (b : ℕ) → b ≡ 0x45 → true ≡ is_of_number b
unfolding is_of_number is_digit between
of-number-4 b e = of_is b 0x45 refl e

pub of-number-5 : (b : ℕ) {r : Bool} → r ≡ is_digit b → r ≡ false → (b ≡ 0x2B → ⊥) → (b ≡ 0x2D → ⊥) → (b ≡ 0x2E → ⊥) → (b ≡ 0x45 → ⊥) → eqb b 0x65 ≡ is_of_number b
unfolding is_of_number
of-number-5 b e t f g h i = rw (sym e ∙ t, ne_eqb b 0x2B f, ne_eqb b 0x2D g, ne_eqb b 0x2E h, ne_eqb b 0x45 i)

-- A run of them

abbrev Run : Type 0
Run = List ℕ × List ℕ

pub record Running (s : List ℕ) (at i : ℕ) : Type 0 where
  pub run : ◌≡◌ {A = Run} (number_run (drop at s)) (take (i - at) (drop at s) ++ (number_run (drop i s)).0, (number_run (drop i s)).1)
  pub forward : at ≤ i
  pub within : i ≤ length s

pub running-start : (s : List ℕ) (at : ℕ) → at ≤ length s → Running s at at
running-start s at h = let none_yet : at - at ≡ 0 = omega arith in record { run = rw none_yet; forward = omega arith; within = h }

run_more : (b : ℕ) (s : List ℕ) → is_of_number b ≡ true → ◌≡◌ {A = Run} (number_run (b ∷ s)) (b ∷ (number_run s).0, (number_run s).1)
unfolding number_run
run_more b s h = rw h

run-stop : (b : ℕ) (s : List ℕ) → is_of_number b ≡ false → ◌≡◌ {A = Run} (number_run (b ∷ s)) ([], b ∷ s)
unfolding number_run
run-stop b s h = rw h

run-nothing : ◌≡◌ {A = Run} (number_run []) ([], [])
unfolding number_run
run-nothing = refl

-- one byte more is behind
one_more : (s : List ℕ) (at i : ℕ) → at ≤ i → i < length s → take (i + 1 - at) (drop at s) ≡ take (i - at) (drop at s) ++ (get_or s i 0 ∷ [])
one_more s at i h k =
    let size : i + 1 - at ≡ suc (i - at) = omega arith in
    let place : at + (i - at) ≡ i = omega arith in
    ap (λ (n : ℕ). take n (drop at s)) size
    ∙ take-suc (drop at s) (i - at) 0 (omega (arith, length-drop at s))
    ∙ ap (λ (b : ℕ). take (i - at) (drop at s) ++ (b ∷ [])) (get_or-drop at s (i - at) 0 ∙ ap (λ (n : ℕ). get_or s n 0) place)

goes_on : (t : List ℕ) (b : ℕ) (r : Run) (q : Run) → q ≡ (b ∷ r.0, r.1) → ◌≡◌ {A = Run} (t ++ q.0, q.1) ((t ++ (b ∷ [])) ++ r.0, r.1)
goes_on t b r q e =
    ap (λ (x : Run). (t ++ x.0, x.1)) e ∙ ap (λ (l : List ℕ). (l, r.1)) (sym (append_assoc t (b ∷ []) r.0))

pub running_more : (s : List ℕ) (at i : ℕ) → Running s at i → i < length s → {r : Bool} → r ≡ is_of_number (get_or s i 0) → r ≡ true → Running s at (i + 1)
running_more s at i k h e t =
    let next : drop i s ≡ get_or s i 0 ∷ drop (i + 1) s = rw (add-one, drop-cons s i 0 h) in
    let first : ◌≡◌ {A = Run} (number_run (drop i s)) (get_or s i 0 ∷ (number_run (drop (i + 1) s)).0, (number_run (drop (i + 1) s)).1) = ap number_run next ∙ run_more (get_or s i 0) (drop (i + 1) s) (sym e ∙ t) in
    record {
      run =
          k.run
          ∙ goes_on (take (i - at) (drop at s)) (get_or s i 0) (number_run (drop (i + 1) s)) (number_run (drop i s)) first
          ∙ ap (λ (l : List ℕ). (l ++ (number_run (drop (i + 1) s)).0, (number_run (drop (i + 1) s)).1)) (sym (one_more s at i k.forward h));
      forward = omega (arith, k.forward);
      within = omega arith;
    }

run_ends : (s : List ℕ) (at i : ℕ) → Running s at i → ◌≡◌ {A = Run} (number_run (drop i s)) ([], drop i s) → RunTo s at i
run_ends s at i k e =
    record {
      run =
          k.run
          ∙ ap (λ (x : Run). (take (i - at) (drop at s) ++ x.0, x.1)) e
          ∙ ap (λ (l : List ℕ). (l, drop i s)) (append-nil (take (i - at) (drop at s)));
      forward = k.forward;
      within = k.within;
    }

pub running-stop : (s : List ℕ) (at i : ℕ) → Running s at i → i < length s → {r : Bool} → r ≡ is_of_number (get_or s i 0) → r ≡ false → RunTo s at i
running-stop s at i k h e t = run_ends s at i k (rw (drop-cons s i 0 h) (run-stop (get_or s i 0) (drop (suc i) s) (sym e ∙ t)))

pub running-out : (s : List ℕ) (at i : ℕ) → Running s at i → length s ≤ i → RunTo s at i
running-out s at i k h = run_ends s at i k (rw (drop_of_length-le s h) run-nothing)

-- A number

number-text : (s : List ℕ) {t u : List ℕ} → ◌≡◌ {A = Run} (number_run s) (t, u) → is_number t ≡ true → number_text s ≡ some (t, u)
unfolding number_text
number-text s e h = rw (e, h)

number-none : (s : List ℕ) {t u : List ℕ} → ◌≡◌ {A = Run} (number_run s) (t, u) → is_number t ≡ false → number_text s ≡ none
unfolding number_text
number-none s e h = rw (e, h)

no-turn-back : (t : List ℕ) → is_number t ≡ true → t ≡ [] → ⊥
no-turn-back t h e = number-begins t h (λ b u f o. let z : ◌≡◌ {A = ℕ} 0 (suc (length u)) = ap length (sym e ∙ f) in absurd (omega arith))

pub number-there : (s : List ℕ) (at end : ℕ) → RunTo s at end → {r : Bool} → r ≡ is_number (take (end - at) (drop at s)) → r ≡ true → NumberTo s at end
number-there s at end k e t =
    record {
      read = λ h. record { reads = number-text (drop at s) k.run (sym e ∙ t); past = h; within = k.within };
      other =
          λ h.
          let nothing : end - at ≡ 0 = omega arith in
          absurd (no-turn-back (take (end - at) (drop at s)) (sym e ∙ t) (ap (λ (n : ℕ). take n (drop at s)) nothing));
    }

pub number-nowhere : (s : List ℕ) (at end : ℕ) → RunTo s at end → {r : Bool} → r ≡ is_number (take (end - at) (drop at s)) → r ≡ false → NumberTo s at at
number-nowhere s at end k e t =
    record { read = λ h. absurd (omega arith); other = λ h. number-none (drop at s) k.run (sym e ∙ t) }

-- A word

pub record Spelling (word s : List ℕ) (at i : ℕ) : Type 0 where
  pub rest : spelled word (drop at s) ≡ spelled (drop i word) (drop (at + i) s)
  pub part : i ≤ length word
  pub within : at + i ≤ length s

pub spelling-start : (word s : List ℕ) (at : ℕ) → at ≤ length s → Spelling word s at 0
spelling-start word s at h = let same : at + 0 ≡ at = omega arith in record { rest = rw same; part = omega arith; within = omega arith }

spelled-more : (b : ℕ) (w s : List ℕ) {u : Unit {0}} {t : List ℕ} → byte b s ≡ some (u, t) → spelled (b ∷ w) s ≡ spelled w t
unfolding spelled ◌>>◌ ◌>>=◌ and_then
spelled-more b w s e = rw e

spelled-other : (b : ℕ) (w s : List ℕ) → byte b s ≡ none → spelled (b ∷ w) s ≡ none
unfolding spelled ◌>>◌ ◌>>=◌ and_then
spelled-other b w s e = rw e

spelled-nothing : (s : List ℕ) → spelled [] s ≡ some (tt, s)
unfolding spelled pure
spelled-nothing s = refl

module _ (word s : List ℕ) (at i : ℕ) (k : Spelling word s at i) where
  pub spelling-more : i < length word → {u : Unit {0}} → ReadsTo (byte (get_or word i 0)) s (at + i) u (at + i + 1) → Spelling word s at (i + 1)
  spelling-more h r =
      let place : at + (i + 1) ≡ at + i + 1 = omega arith in
      let next : drop i word ≡ get_or word i 0 ∷ drop (i + 1) word = rw (add-one, drop-cons word i 0 h) in
      record {
        rest =
            k.rest
            ∙ ap (λ (w : List ℕ). spelled w (drop (at + i) s)) next
            ∙ spelled-more (get_or word i 0) (drop (i + 1) word) (drop (at + i) s) r.reads
            ∙ ap (λ (n : ℕ). spelled (drop (i + 1) word) (drop n s)) (sym place);
        part = omega arith;
        within = omega (arith, r.within);
      }

  pub spelling-other : i < length word → Refuses (byte (get_or word i 0)) s (at + i) → Refuses (spelled word) s at
  spelling-other h r =
      let next : drop i word ≡ get_or word i 0 ∷ drop (i + 1) word = rw (add-one, drop-cons word i 0 h) in
      k.rest
      ∙ ap (λ (w : List ℕ). spelled w (drop (at + i) s)) next
      ∙ spelled-other (get_or word i 0) (drop (i + 1) word) (drop (at + i) s) r

  pub spelling-end : length word ≤ i → SpelledAt word s at true
  spelling-end h =
      let same : i ≡ length word = omega (arith, k.part) in (
        k.rest
            ∙ ap (λ (w : List ℕ). spelled w (drop (at + i) s)) (drop_of_length-le word h)
            ∙ spelled-nothing (drop (at + i) s)
            ∙ ap (λ (n : ℕ). some (tt, drop (at + n) s)) same,
        omega (arith, k.within),
      )
