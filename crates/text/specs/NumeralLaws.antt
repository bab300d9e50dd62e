-- A numeral is read back as it was written, and what is read as a numeral is one as it is written.
use Rattle.std.specs.Prelude.{ℕ, zero, suc, ◌+◌, ◌*◌, ◌-◌, ◌/◌, ◌%◌, ◌≤◌, ◌<◌, Bool, true, false, not, List, [], ◌∷◌, ◌++◌, ◌≡◌, refl, ltb, eqb}
use Rattle.std.proofs.Common.{append_assoc, sym, ap, ◌∙◌, arith, ltb-true, ltb-false, eqb-true, lt-ltb, le-ltb, ne_eqb}
use Rattle.std.proofs.Math.Option.{some, none-ne-some, some-injective}
use Rattle.std.proofs.lemmas.Bool.{eqb-false, not-true}
use Rattle.text.specs.Decimal.{is_digit}
use Rattle.text.specs.DecimalLaws.{is_digit-range, is_digit-of}
use Rattle.text.specs.Numeral.{digits, decimal, decimal_in, decimal_of}
use Rattle.text.specs.CaseLaws.{by-test}
use Rattle.text.specs.ReaderLaws.{Reads}

-- what follows a numeral that is read to its end
unfoldable pub begins_without_digit : List ℕ → Bool
begins_without_digit [] = true
begins_without_digit (b ∷ s) = not (is_digit b)

decimal_of-zero : decimal_of 0 ≡ 48 ∷ []
unfolding decimal_of decimal_in
decimal_of-zero = refl

-- one digit more is one turn more
decimal_in-small : (turns n : ℕ) (behind : List ℕ) → ltb n 10 ≡ true → decimal_in (suc turns) n behind ≡ (48 + n) ∷ behind
unfolding decimal_in
decimal_in-small turns n behind e = rw e

decimal_in-large : (turns n : ℕ) (behind : List ℕ) → ltb n 10 ≡ false → decimal_in (suc turns) n behind ≡ decimal_in turns (n / 10) ((48 + n % 10) ∷ behind)
unfolding decimal_in
decimal_in-large turns n behind e = rw e

-- turns that are enough are as good as any others
decimal_in-turns : (t u n : ℕ) (behind : List ℕ) → n < t → n < u → decimal_in t n behind ≡ decimal_in u n behind
decimal_in-turns zero u n behind h k = absurd (omega arith)
decimal_in-turns (suc t) zero n behind h k = absurd (omega arith)
decimal_in-turns (suc t) (suc u) n behind h k =
    by-test (ltb n 10) (λ e. decimal_in-small t n behind e ∙ sym (decimal_in-small u n behind e))
    (λ e.
    let l = ltb-false n 10 e in
    decimal_in-large t n behind e
    ∙ decimal_in-turns t u (n / 10) ((48 + n % 10) ∷ behind) (omega arith) (omega arith)
    ∙ sym (decimal_in-large u n behind e))

decimal_in-append : (turns n : ℕ) (b t : List ℕ) → decimal_in turns n (b ++ t) ≡ decimal_in turns n b ++ t
unfolding decimal_in
decimal_in-append zero n b t = refl
decimal_in-append (suc turns) n b t =
    by-test (ltb n 10) (λ e. rw e) (λ e. rw e (decimal_in-append turns (n / 10) ((48 + n % 10) ∷ b) t))

-- a number's last digit is last
pub decimal_of-digit : (v d : ℕ) → 0 < v → d < 10 → decimal_of (v * 10 + d) ≡ decimal_of v ++ (48 + d) ∷ []
unfolding decimal_of
decimal_of-digit v d h k =
    let q : (v * 10 + d) / 10 ≡ v = omega arith in
    let r : (v * 10 + d) % 10 ≡ d = omega arith in
    decimal_in-large (v * 10 + d) (v * 10 + d) [] (le-ltb (v * 10 + d) 10 (omega arith))
    ∙ rw (q, r) (decimal_in-turns (v * 10 + d) (suc v) v ((48 + d) ∷ []) (omega arith) (omega arith))
    ∙ decimal_in-append (suc v) v [] ((48 + d) ∷ [])

pub decimal_of-last : (n : ℕ) → 10 ≤ n → decimal_of n ≡ decimal_of (n / 10) ++ ((48 + n % 10) ∷ [])
decimal_of-last n h =
    let whole : n / 10 * 10 + n % 10 ≡ n = omega arith in
    ap decimal_of (sym whole) ∙ decimal_of-digit (n / 10) (n % 10) (omega arith) (omega arith)

pub decimal_of-one : (d : ℕ) → d < 10 → decimal_of d ≡ (48 + d) ∷ []
unfolding decimal_of
decimal_of-one d h = decimal_in-small d d [] (lt-ltb d 10 h)

-- digits that are read after a number make the numeral of a longer one
digits-sound : (v : ℕ) (s : List ℕ) (n : ℕ) (t : List ℕ) → 0 < v → digits v s ≡ (n, t) → decimal_of v ++ s ≡ decimal_of n ++ t
unfolding digits
digits-sound v [] n t h e = ap (λ (r : ℕ × List ℕ). decimal_of r.0 ++ r.1) e
digits-sound v (b ∷ s) n t h e =
    by-test (is_digit b)
    (λ q.
    let r = is_digit-range b q in
    let d : 48 + (b - 48) ≡ b = omega arith in
    let more : digits (v * 10 + (b - 48)) s ≡ (n, t) = rw q at e in
    let l : decimal_of (v * 10 + (b - 48)) ≡ decimal_of v ++ b ∷ [] = rw d at (decimal_of-digit v (b - 48) h (omega arith)) in
    sym (append_assoc (decimal_of v) (b ∷ []) s) ∙ rw l at (digits-sound (v * 10 + (b - 48)) s n t (omega arith) more))
    (λ q. ap (λ (r : ℕ × List ℕ). decimal_of r.0 ++ r.1) (rw q at e))

pub decimal-sound : (s : List ℕ) (n : ℕ) (t : List ℕ) → Reads decimal s n t → s ≡ decimal_of n ++ t
unfolding decimal
decimal-sound [] n t e = absurd (none-ne-some _ e)
decimal-sound (b ∷ s) n t e =
    by-test (eqb b 48)
    (λ q.
    let r = some-injective (0, s) (n, t) (rw q at e) in
    rw (eqb-true b 48 q) (rw decimal_of-zero at (ap (λ (r : ℕ × List ℕ). decimal_of r.0 ++ r.1) r)))
    (λ q.
    by-test (is_digit b)
    (λ d.
    let h = is_digit-range b d in
    let k : (b ≡ 48) → ⊥ = eqb-false b 48 q in
    let r = some-injective (digits (b - 48) s) (n, t) (rw (q, d) at e) in
    let l : 48 + (b - 48) ≡ b = omega arith in
    let one : decimal_of (b - 48) ≡ b ∷ [] = rw l at (decimal_of-one (b - 48) (omega arith)) in
    rw one at (digits-sound (b - 48) s n t (omega arith) r))
    (λ d. absurd (none-ne-some (n, t) (rw (q, d) at e))))

-- what a written number puts before a text is read as the number
decimal-in : (turns n : ℕ) (behind : List ℕ) → 0 < n → n < turns → decimal (decimal_in turns n behind) ≡ some (digits n behind)
unfolding decimal digits
decimal-in zero n behind h k = absurd (omega arith)
decimal-in (suc turns) n behind h k =
    by-test (ltb n 10)
    (λ e.
    let l = ltb-true n 10 e in
    let d : 48 + n - 48 ≡ n = omega arith in
    rw (decimal_in-small turns n behind e, ne_eqb (48 + n) 48 (λ q. omega arith), is_digit-of n l, d))
    (λ e.
    let l = ltb-false n 10 e in
    let d : n / 10 * 10 + (48 + n % 10 - 48) ≡ n = omega arith in
    rw (decimal_in-large turns n behind e, decimal-in turns (n / 10) ((48 + n % 10) ∷ behind) (omega arith) (omega arith), is_digit-of (n % 10) (omega arith), d))

digits-end : (n : ℕ) (t : List ℕ) → begins_without_digit t ≡ true → digits n t ≡ (n, t)
unfolding digits begins_without_digit
digits-end n [] h = refl
digits-end n (b ∷ t) h = rw (not-true (is_digit b) h)

pub decimal-complete : (n : ℕ) (t : List ℕ) → begins_without_digit t ≡ true → Reads decimal (decimal_of n ++ t) n t
unfolding decimal_of decimal_in decimal
decimal-complete zero t h = refl
decimal-complete (suc n) t h =
    rw (← (decimal_in-append (suc (suc n)) (suc n) [] t), decimal-in (suc (suc n)) (suc n) t (omega arith) (omega arith), digits-end (suc n) t h)

-- a numeral begins with a digit
decimal_in-begins : (turns n : ℕ) (behind : List ℕ) → n < turns → (d : ℕ) × (s : List ℕ) × (decimal_in turns n behind ≡ d ∷ s) × (is_digit d ≡ true)
decimal_in-begins zero n behind h = absurd (omega arith)
decimal_in-begins (suc turns) n behind h =
    by-test (ltb n 10) (λ e. (48 + n, behind, decimal_in-small turns n behind e, is_digit-of n (ltb-true n 10 e)))
    (λ e.
    let l = ltb-false n 10 e in
    let r = decimal_in-begins turns (n / 10) ((48 + n % 10) ∷ behind) (omega arith) in
    (r.0, r.1, decimal_in-large turns n behind e ∙ r.2, r.3))

pub decimal_of-begins : (n : ℕ) → (d : ℕ) × (s : List ℕ) × (decimal_of n ≡ d ∷ s) × (is_digit d ≡ true)
unfolding decimal_of
decimal_of-begins n = decimal_in-begins (suc n) n [] (omega arith)

-- what follows a numeral is a comma or the end
pub comma-begins : (t : List ℕ) → begins_without_digit (44 ∷ t) ≡ true
unfolding begins_without_digit is_digit
comma-begins t = refl

pub end-begins : (t : List ℕ) → begins_without_digit (10 ∷ t) ≡ true
unfolding begins_without_digit is_digit
end-begins t = refl
