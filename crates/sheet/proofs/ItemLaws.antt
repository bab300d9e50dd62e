-- Each head is read back as it was written, and what is read as a head is one as it is written.
use Rattle.std.specs.Prelude.{ℕ, ◌≤◌, Bool, true, false, List, ◌∷◌, ◌++◌, ◌≡◌, refl, leb, eqb, length}
use Rattle.std.proofs.Math.Bool.{and-eq-true_iff}
use Rattle.std.proofs.Math.Option.{Option, none, some, map}
use Rattle.std.proofs.Common.{⊎_elim, sym, ap, ◌∙◌, arith, leb-true, eqb-true, le-leb, ne_eqb}
use Rattle.std.proofs.lemmas.Bool.{eqb-false}
use Rattle.text.specs.Utf8.{is_utf8}
use Rattle.text.specs.Decimal.{is_digit}
use Rattle.text.specs.DecimalLaws.{is_digit-range}
use Rattle.text.specs.Ascii.{ascii}
use Rattle.text.specs.Reader.{Reader, ◌>>=◌, ◌>>◌, and_then, pure}
use Rattle.text.specs.CaseLaws.{by-test}
use Rattle.text.specs.ReaderLaws.{Reads, bind_inv, then-inv, bind-reads, then-reads, pure-inv, ensure-inv, ensure-reads, either-inv, either_first, either_second}
use Rattle.text.specs.Numeral.{numeral}
use Rattle.text.specs.NumeralLaws.{begins_without_digit, decimal-sound, decimal-complete, decimal_of-begins}
use Rattle.text.specs.ByteReaders.{byte, comma}
use Rattle.text.specs.ByteReaderLaws.{byte-sound, byte-complete, bytes-sound, bytes-complete}
use Rattle.sheet.specs.Entries.{max_text, dash, item, mark, text_length, text, optional_text}
use Rattle.sheet.specs.Write.{write_item, write_mark, mark_of, write_length, write_text}
use Rattle.sheet.specs.Within.{OptionWithin}

-- A reader of what `w` writes: what it reads is written so and fits, and whatever fits is read back, where `End` holds of what follows it.
pub record Exact {A : Type 0} (p : Reader (List ℕ) A) (w : A → List ℕ) (Fits : A → Type 0) (end : List ℕ → Bool) : Type 0 where
  pub sound : (s : List ℕ) (a : A) (t : List ℕ) → Reads p s a t → (s ≡ w a ++ t) × Fits a
  pub complete : (a : A) (t : List ℕ) → Fits a → end t ≡ true → Reads p (w a ++ t) a t

unfoldable pub anything : List ℕ → Bool
anything s = true

-- The next step of a chain: a byte, or what a law speaks of.

module _ {B C : Type 0} where
  pub past : (b : ℕ) (q : Reader (List ℕ) B) (s : List ℕ) {c : B} {u : List ℕ} → Reads (byte b >> q) s c u
      → ((t : List ℕ) → s ≡ b ∷ t → Reads q t c u → C) → C
  past b q s e f = then-inv (byte b) q s e λ a t e₁ e₂. f t (byte-sound b s a t e₁) e₂

module _ {A B C : Type 0} {p : Reader (List ℕ) A} {w : A → List ℕ} {Fits : A → Type 0} {end : List ℕ → Bool} where
  pub step : Exact p w Fits end → (k : A → Reader (List ℕ) B) (s : List ℕ) {b : B} {u : List ℕ} → Reads (p >>= k) s b u
      → ((a : A) (t : List ℕ) → s ≡ w a ++ t → Fits a → Reads (k a) t b u → C) → C
  step law k s e f = bind_inv p k s e λ a t e₁ e₂. let r = law.sound s a t e₁ in f a t r.0 r.1 e₂

item-sound : (low high : ℕ) (s : List ℕ) (n : ℕ) (t : List ℕ) → Reads (item low high) s n t → (s ≡ write_item n ++ t) × ((low ≤ n) × (n ≤ high))
unfolding item numeral write_item ascii
item-sound low high s n t e =
    then-inv _ _ _ e λ _ s₁ e₁ e.
    bind_inv _ _ _ e λ m s₂ e₂ e.
    then-inv _ _ _ e λ _ s₃ e₃ e.
    let r = ensure-inv _ _ e₃ in
    let h = (and-eq-true_iff (leb low m) (leb m high)).0 r.0 in
    let q = pure-inv _ _ e in
    rw (← q.0, ← q.1, ← r.1)
    (byte-sound _ _ _ _ e₁ ∙ ap (λ (r : List ℕ). 44 ∷ r) (decimal-sound _ _ _ e₂), (leb-true low m h.0, leb-true m high h.1))

pub item-complete : (low high n : ℕ) (t : List ℕ) → (low ≤ n) × (n ≤ high) → begins_without_digit t ≡ true → Reads (item low high) (write_item n ++ t) n t
unfolding item numeral write_item ascii pure
item-complete low high n t h d =
    then-reads _ _ (byte-complete 44 _)
    (bind-reads _ _ (decimal-complete n t d)
    (then-reads _ _ (ensure-reads _ _ ((and-eq-true_iff (leb low n) (leb n high)).1 (le-leb low n h.0, le-leb n high h.1))) refl))

pub item-exact : (low high : ℕ) → Exact (item low high) write_item (λ n. (low ≤ n) × (n ≤ high)) begins_without_digit
item-exact low high = record { sound = item-sound low high; complete = item-complete low high }

-- a mark is 0 or 1
mark_of-test : (n : ℕ) → n ≤ 1 → mark_of (eqb n 1) ≡ n
unfolding mark_of
mark_of-test n h =
    by-test (eqb n 1) (λ q. rw q (sym (eqb-true n 1 q))) (λ q. let z : (n ≡ 1) → ⊥ = eqb-false n 1 q in rw q (omega arith))

mark-sound : (s : List ℕ) (b : Bool) (t : List ℕ) → Reads mark s b t → (s ≡ write_mark b ++ t) × Unit {0}
unfolding mark write_mark
mark-sound s b t e =
    step (item-exact _ _) _ _ e λ n s₁ e₁ h e.
    let q = pure-inv _ _ e in
    rw (← q.0, ← q.1, mark_of-test n h.1) (e₁, tt)

pub mark-complete : (b : Bool) (t : List ℕ) → Unit {0} → begins_without_digit t ≡ true → Reads mark (write_mark b ++ t) b t
unfolding mark write_mark mark_of pure
mark-complete true t h d = bind-reads _ _ (item-complete 0 1 1 t (omega arith, omega arith) d) refl
mark-complete false t h d = bind-reads _ _ (item-complete 0 1 0 t (omega arith, omega arith) d) refl

pub mark-exact : Exact mark write_mark (λ b. Unit {0}) begins_without_digit
mark-exact = record { sound = mark-sound; complete = mark-complete }

-- Texts

pub text-sound : (n : ℕ) (s x t : List ℕ) → Reads (text n) s x t → (s ≡ x ++ t) × (length x ≡ n) × (is_utf8 x ≡ true)
unfolding text
text-sound n s x t e =
    bind_inv _ _ _ e λ y s₁ e₁ e.
    then-inv _ _ _ e λ _ s₂ e₂ e.
    let h = ensure-inv _ _ e₂ in
    let q = pure-inv _ _ e in
    let r = bytes-sound _ _ _ _ e₁ in
    rw (← q.0, ← q.1, ← h.1) (r.0, r.1, h.0)

pub text-complete : (x t : List ℕ) → is_utf8 x ≡ true → Reads (text (length x)) (x ++ t) x t
unfolding text pure
text-complete x t h = bind-reads _ _ (bytes-complete x t) (then-reads _ _ (ensure-reads _ _ h) refl)

-- Texts that may be absent

-- no numeral begins with `-`
pub dash-none : {B : Type 0} (q : Reader (List ℕ) B) (n : ℕ) (t : List ℕ) → (comma >> (dash >> q)) (write_item n ++ t) ≡ none
unfolding ◌>>◌ ◌>>=◌ and_then byte write_item ascii
dash-none q n t =
    let r = decimal_of-begins n in
    let h = is_digit-range r.0 r.3 in
    rw (r.2, ne_eqb r.0 45 (λ q. omega arith))

-- a length that may be absent, as a number
unfoldable pub write_length_of : Option ℕ → List ℕ
write_length_of none = ascii ",-"
write_length_of (some n) = write_item n

abbrev pub LengthFits : Option ℕ → Type 0
LengthFits none = Unit {0}
LengthFits (some n) = n ≤ max_text

pub text_length-sound : (s : List ℕ) (o : Option ℕ) (t : List ℕ) → Reads text_length s o t → (s ≡ write_length_of o ++ t) × LengthFits o
unfolding text_length write_length_of ascii
text_length-sound s o t e =
    ⊎_elim
    (λ e.
    past _ _ _ e λ s₁ e₁ e.
    past _ _ _ e λ s₂ e₂ e.
    let q = pure-inv _ _ e in
    rw (← q.0, ← q.1) (rw (e₁, e₂), tt))
    (λ e.
    step (item-exact _ _) _ _ e λ n s₁ e₁ h e.
    let q = pure-inv _ _ e in
    rw (← q.0, ← q.1) (e₁, h.1))
    (either-inv _ _ _ e)

pub text_length-complete : (x : Option (List ℕ)) (t : List ℕ) → OptionWithin x → begins_without_digit t ≡ true
    → Reads text_length (write_length x ++ t) (map length x) t
unfolding text_length write_length ascii pure
text_length-complete none t h d = either_first _ _ _ (then-reads _ _ (byte-complete 44 _) (then-reads _ _ (byte-complete 45 _) refl))
text_length-complete (some x) t h d =
    either_second _ _ _ (dash-none _ (length x) t) (bind-reads _ _ (item-complete 0 max_text (length x) t (omega arith, h.short) d) refl)

pub optional_text-sound : (o : Option ℕ) (s : List ℕ) (x : Option (List ℕ)) (t : List ℕ) → LengthFits o → Reads (optional_text o) s x t
    → (s ≡ write_text x ++ t) × (write_length x ≡ write_length_of o) × OptionWithin x
unfolding optional_text write_text write_length write_length_of
optional_text-sound none s x t h e = let q = pure-inv _ _ e in rw (← q.0, ← q.1) (refl, refl, tt)
optional_text-sound (some n) s x t h e =
    bind_inv _ _ _ e λ y s₁ e₁ e.
    let q = pure-inv _ _ e in
    let r = text-sound _ _ _ _ e₁ in
    rw (← q.0, ← q.1) (r.0, ap write_item r.1, record { short = omega arith; utf8 = r.2 })

pub optional_text-complete : (x : Option (List ℕ)) (t : List ℕ) → OptionWithin x → Reads (optional_text (map length x)) (write_text x ++ t) x t
unfolding optional_text write_text pure
optional_text-complete none t h = refl
optional_text-complete (some x) t h = bind-reads _ _ (text-complete x t h.utf8) refl

-- What follows a numeral is a comma or the end.

pub item-begins : (n : ℕ) (t : List ℕ) → begins_without_digit (write_item n ++ t) ≡ true
unfolding begins_without_digit is_digit write_item ascii
item-begins n t = refl

pub mark-begins : (b : Bool) (t : List ℕ) → begins_without_digit (write_mark b ++ t) ≡ true
unfolding write_mark
mark-begins b t = item-begins (mark_of b) t

pub length-begins : (x : Option (List ℕ)) (t : List ℕ) → begins_without_digit (write_length x ++ t) ≡ true
unfolding begins_without_digit is_digit write_length ascii
length-begins none t = refl
length-begins (some x) t = item-begins (length x) t
