-- Refusals: which number is heard first, and what is known of it by the lists alone.
use Rattle.std.specs.Prelude.{ℕ, ◌<◌, ◌≤◌, min, Bool, true, false, not, ◌&&◌, ◌||◌, List, [], ◌∷◌, ◌≡◌, refl, leb, eqb}
use Rattle.std.proofs.Common.{arith, sym, ◌∙◌, leb-true, leb-false, le-leb}
use Rattle.std.proofs.Math.Bool.{and-false}
use Rattle.std.proofs.lemmas.Bool.{false≢true, eqb-false, lt-leb}
use Rattle.std.proofs.Math.Option.{Option, none, some, or_else}
use Rattle.text.specs.Utf8.{between}
use Rattle.text.proofs.Bools.{and-true-1, or-true-cases}
use Rattle.text.specs.CaseLaws.{by-test}
use Rattle.reference.specs.Setting.{one_of}
pub use Rattle.call.proofs.CallLaws.{first-append, NoneDue, none-due, first-none, number-due, number-later, none_left, number-some, number-none, of-listed, of-first}
unfoldable pub use Rattle.call.proofs.CallLaws.{every}
use Rattle.call.specs.Call.{tried}
use Rattle.call.proofs.CallLaws.{latter, neither}
use Rattle.validation.specs.Check.{is_none, IsDefect}
use Rattle.definition.specs.Tree.{Rule}
use Rattle.validation.specs.Result.{Takes, AlsoTakes, the_same, takes_any, is_taken, Asked, Widths, are_wide, path_bytes, scratch_words, Call, refused, refusal_numbers, IsRefusal, is_of_sheets, mark_bytes, Refusal, of_marks, of_table, of_settings, early, of_sheets, refusals, first_refusal, number_in, refused_or, result_of}

-- What a test says.

pub present : {A : Type 0} (o : Option A) → is_none o ≡ false → (x : A) × (o ≡ some x)
unfolding is_none
present none e = absurd (false≢true (sym e))
present (some x) e = (x, refl)

pub absent : {A : Type 0} (o : Option A) → is_none o ≡ true → o ≡ none
unfolding is_none
absent none e = refl
absent (some x) e = absurd (false≢true e)

pub is_set : (b : Bool) → not b ≡ false → b ≡ true
is_set true e = refl
is_set false e = sym e

-- buffers that are long enough
pub are-wide : (w : Widths) → path_bytes ≤ w.path → scratch_words ≤ w.scratch → are_wide w ≡ true
are-wide w room words = rw (le-leb path_bytes w.path room, le-leb scratch_words w.scratch words)

-- the numbers in the order in which they are tried, and every one that is listed is among them
pub tries : (c : Call) → tried (refusals c) ≡ 1 ∷ 2 ∷ 3 ∷ 35 ∷ 37 ∷ 38 ∷ 4 ∷ 5 ∷ []
unfolding refusals early of_settings of_sheets tried
tries c = refl

pub listed_tried : (c : Call) (n : ℕ) → IsRefusal n → one_of n (tried (refusals c)) ≡ true
unfolding refusal_numbers one_of every
listed_tried c n r = rw (tries c) (of-listed (λ m. one_of m (1 ∷ 2 ∷ 3 ∷ 35 ∷ 37 ∷ 38 ∷ 4 ∷ 5 ∷ [])) n refusal_numbers refl r.listed)

-- every refusal of a call is one of those listed
pub refusal-listed : (c : Call) (n : ℕ) → first_refusal (refusals c) ≡ some n → IsRefusal n
unfolding refusals early of_settings of_sheets refusal_numbers one_of every
refusal-listed c n e = record { listed = of-first (λ m. one_of m refusal_numbers) n (refusals c) refl e }

unset : (b : Bool) → not b ≡ true → b ≡ false
unset true e = sym e
unset false e = refl

-- and none of the sheets' comes before the sheets
early-no-sheet : (c : Call) (n : ℕ) → first_refusal (early c) ≡ some n → is_of_sheets n ≡ false
unfolding early of_settings is_of_sheets every
early-no-sheet c n e = unset (is_of_sheets n) (of-first (λ m. not (is_of_sheets m)) n (early c) refl e)

-- not 0, and on neither side near the numbers of defects
unfoldable is_apart : ℕ → Bool
is_apart n = not (eqb n 0) && (leb n 10 || leb 30 n)

refusal-apart : (n : ℕ) → IsRefusal n → is_apart n ≡ true
unfolding refusal_numbers every is_apart
refusal-apart n r = of-listed is_apart n refusal_numbers refl r.listed

-- a refusal is not an acceptance
pub refusal-some : (n : ℕ) → IsRefusal n → n ≡ 0 → ⊥
unfolding is_apart
refusal-some n r z =
    let e : is_apart 0 ≡ true = rw z at (refusal-apart n r) in
    false≢true e

-- and not a defect
pub refusal-no-defect : (n : ℕ) → IsRefusal n → IsDefect n → ⊥
unfolding is_apart
refusal-no-defect n r d =
    or-true-cases (leb n 10) (leb 30 n) (λ e. omega (arith, leb-true n 10 e, d.low)) (λ e. omega (arith, leb-true 30 n e, d.high))
    (and-true-1 (not (eqb n 0)) (leb n 10 || leb 30 n) (refusal-apart n r))

-- A call, by what is due before a sheet is read.

pub early-refused : (c : Call) (n : ℕ) → first_refusal (early c) ≡ some n → result_of c ≡ refused n
unfolding result_of refusals refused_or or_else
early-refused c n e = rw (first-append (early c) (of_sheets c), e)

-- after settings, label and widths
abbrev further_of : Call → List Refusal
further_of c = of_marks c.lent.marks ∷ of_table c.table

pub settings-refused : (c : Call) (n : ℕ) → n ≡ number_in (first_refusal (of_settings c.asked c.lent.widths)) → (n ≡ 0 → ⊥) → result_of c ≡ refused n
unfolding early or_else
settings-refused c n e h =
    early-refused c n (rw (first-append (of_settings c.asked c.lent.widths) (further_of c), number-some n _ e h))

some_number : (a : Asked) (w : Widths) (n : ℕ) → first_refusal (of_settings a w) ≡ some n → n ≡ 0 → ⊥
unfolding of_settings every
some_number a w n e z = eqb-false n 0 (unset (eqb n 0) (of-first (λ m. not (eqb m 0)) n (of_settings a w) refl e)) z

pub settings-none : (a : Asked) (w : Widths) → 0 ≡ number_in (first_refusal (of_settings a w)) → first_refusal (of_settings a w) ≡ none
settings-none a w = number-none (first_refusal (of_settings a w)) (some_number a w)

further-decide : (c : Call) → first_refusal (of_settings c.asked c.lent.widths) ≡ none → first_refusal (early c) ≡ first_refusal (further_of c)
unfolding early or_else
further-decide c e = rw (first-append (of_settings c.asked c.lent.widths) (further_of c), e)

-- then the mark list
pub marks-refused : (c : Call) → first_refusal (of_settings c.asked c.lent.widths) ≡ none → c.lent.marks < mark_bytes → result_of c ≡ refused 35
unfolding first_refusal
marks-refused c e short = early-refused c 35 (further-decide c e ∙ rw (lt-leb mark_bytes c.lent.marks short))

-- then the table
pub table-decides : (c : Call) → first_refusal (of_settings c.asked c.lent.widths) ≡ none → mark_bytes ≤ c.lent.marks → first_refusal (early c) ≡ first_refusal (of_table c.table)
unfolding first_refusal
table-decides c e enough = further-decide c e ∙ rw (le-leb mark_bytes c.lent.marks enough)

-- then the sheets decide
pub sheets-first : (c : Call) → first_refusal (early c) ≡ none → first_refusal (refusals c) ≡ first_refusal (of_sheets c)
unfolding refusals or_else
sheets-first c e = rw (first-append (early c) (of_sheets c), e)

pub none-of-either : (c : Call) → first_refusal (refusals c) ≡ none → (first_refusal (early c) ≡ none) × (first_refusal (of_sheets c) ≡ none)
unfolding refusals
none-of-either c e =
    neither (first_refusal (early c)) (first_refusal (of_sheets c)) (sym (first-append (early c) (of_sheets c)) ∙ e)

pub no-setting-due : (c : Call) → first_refusal (early c) ≡ none → first_refusal (of_settings c.asked c.lent.widths) ≡ none
unfolding early
no-setting-due c e =
    (neither _ _ (sym (first-append (of_settings c.asked c.lent.widths) (further_of c)) ∙ e)).0

-- a refusal of a sheet is due among the sheets'
pub sheet-refused : (c : Call) (n : ℕ) → is_of_sheets n ≡ true → first_refusal (refusals c) ≡ some n → first_refusal (of_sheets c) ≡ some n
unfolding refusals
sheet-refused c n s e =
    latter (first_refusal (early c)) (first_refusal (of_sheets c)) n (λ due. false≢true (sym (early-no-sheet c n due) ∙ s))
    (sym (first-append (early c) (of_sheets c)) ∙ e)

-- Where one function takes a rule sheet, so does one that takes as many.

pub also-taken : {t t' : Takes} → AlsoTakes t t' → (o : Option Rule) → not (is_taken t o) ≡ false → not (is_taken t' o) ≡ false
unfolding is_taken
also-taken the_same o e = e
also-taken takes_any none e = e
also-taken takes_any (some r) e = refl

-- A kind or semantics beyond its range is refusal 1, whatever else the call holds.

pub outside : (high n : ℕ) → high < n → between 1 high n ≡ false
unfolding between
outside high n more = rw (lt-leb n high more, and-false)

-- so a number beyond both ranges may stand for every larger one, wherever refusal 1 decides
pub capped-settings : {A : Type 0} (f : (kind semantics : ℕ) → A) (a : A)
    → ((kind semantics : ℕ) → (between 1 8 kind && between 1 4 semantics) ≡ false → f kind semantics ≡ a)
    → (most kind semantics : ℕ)
    → 8 < most
    → f (min kind most) (min semantics most) ≡ f kind semantics
capped-settings f a decides most kind semantics beyond =
    by-test (leb kind most)
    (λ k.
    let kind-low = leb-true kind most k in
    let kind-is : min kind most ≡ kind = omega arith in
    by-test (leb semantics most)
    (λ s.
    let semantics-low = leb-true semantics most s in
    let semantics-is : min semantics most ≡ semantics = omega arith in
    rw (kind-is, semantics-is))
    (λ s.
    let semantics-high = leb-false semantics most s in
    decides _ _ (rw (outside 4 (min semantics most) (omega arith), and-false)) ∙ sym (decides _ _ (rw (outside 4 semantics (omega arith), and-false)))))
    (λ k.
    let kind-high = leb-false kind most k in
    decides _ _ (rw (outside 8 (min kind most) (omega arith))) ∙ sym (decides _ _ (rw (outside 8 kind (omega arith)))))

outside-refused : (c : Call) → (between 1 8 c.asked.kind && between 1 4 c.asked.semantics) ≡ false → result_of c ≡ refused 1
unfolding result_of refusals early of_settings first_refusal refused_or
outside-refused c e = rw e

pub kind-refused : (c : Call) → 8 < c.asked.kind → result_of c ≡ refused 1
kind-refused c more = outside-refused c (rw (outside 8 c.asked.kind more))

pub semantics-refused : (c : Call) → 4 < c.asked.semantics → result_of c ≡ refused 1
semantics-refused c more = outside-refused c (rw (outside 4 c.asked.semantics more, and-false))

-- the same call, where that is asked
unfoldable pub asking : Call → Asked → Call
asking c asked = record { asked = asked; table = c.table; schema = c.schema; lent = c.lent }

-- the call with settings that are at most `most`
unfoldable pub capped : (most : ℕ) → Call → Call
unfolding asking
capped most c =
    asking c
    (record {
      takes = c.asked.takes;
      kind = min c.asked.kind most;
      semantics = min c.asked.semantics most;
      label = c.asked.label;
      rule = c.asked.rule;
    })

pub capped_same : (most : ℕ) (c : Call) → 8 < most → result_of (capped most c) ≡ result_of c
unfolding capped asking
capped_same most c =
    capped-settings
    (λ kind semantics.
    result_of
    (asking c (record { takes = c.asked.takes; kind = kind; semantics = semantics; label = c.asked.label; rule = c.asked.rule })))
    (refused 1) (λ kind semantics e. outside-refused _ e) most c.asked.kind c.asked.semantics
