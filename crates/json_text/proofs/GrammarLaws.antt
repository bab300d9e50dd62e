-- A value that is written is read back as it was.
use Rattle.std.specs.Prelude.{ℕ, zero, suc, ◌+◌, ◌-◌, ◌≤◌, Bool, true, false, cond, not, ◌≡◌, length, eqb}
use Rattle.std.proofs.lemmas.Bool.{false≢true}
use mathlib.Core.List.{List, [], ◌∷◌, ◌++◌, append_assoc, append-nil}
use Rattle.std.proofs.Math.Option.{none, some}
use Rattle.std.proofs.Math.Path.{refl}
use Rattle.std.proofs.Common.{sym, ap, ◌∙◌, subst, arith, length-append}
use Rattle.text.specs.Utf8.{between, is_utf8}
use Rattle.text.specs.Decimal.{is_digit}
use Rattle.text.specs.Ascii.{ascii}
use Rattle.text.specs.ByteReaders.{byte}
use Rattle.text.specs.Reader.{Reader, ◌>>=◌, ◌>>◌, and_then, ensure, pure, either, or_else}
use Rattle.number.specs.Grammar.{is_number}
use Rattle.number.specs.Grammar as Number
use Rattle.json_text.specs.Json.{Text, Json, null, truth, number, string, array, object, Elements, no_elements, element, Members, no_members, member}
use Rattle.json_text.specs.Grammar.{is_space, unspaced, spaces, is_of_number, number_run, number_text, spelled, scalar, comma_or, elements_after, members_after, elements_in, members_in, elements, members, container, value, max_depth, at_end, document}
use Rattle.json_text.specs.Escaped.{Escapes, quoted, written, written_elements, written_members}
use Rattle.json_text.proofs.EscapedLaws.{escape-back}
use Rattle.json_text.proofs.NumberLaws.{all_of_number, number-bytes, number-begins, of-full, not-of}
use Rattle.json_text.specs.Sound.{Sound, SoundElements, SoundMembers, depth_of, depth_of_elements, depth_of_members}

-- Numbers: what follows one begins with none of its bytes.

unfoldable pub stops : List ℕ → Bool
stops [] = true
stops (b ∷ s) = not (is_of_number b)

abbrev Run : Type 0
Run = List ℕ × List ℕ

run-stops : (rest : List ℕ) → stops rest ≡ true → ◌≡◌ {A = Run} (number_run rest) ([], rest)
unfolding number_run stops
run-stops [] h = refl
run-stops (b ∷ s) h = go (is_of_number b) h
  where
    go : (t : Bool) → not t ≡ true → ◌≡◌ {A = Run} (cond t (b ∷ (number_run s).0, (number_run s).1) ([], b ∷ s)) ([], b ∷ s)
    go false k = refl
    go true k = absurd (false≢true k)

pub run-back : (t rest : List ℕ) → all_of_number t ≡ true → stops rest ≡ true → ◌≡◌ {A = Run} (number_run (t ++ rest)) (t, rest)
unfolding number_run all_of_number
run-back [] rest h k = run-stops rest k
run-back (b ∷ t) rest h k = go (is_of_number b) h (run-back t rest)
  where
    go : (x : Bool) → cond x (all_of_number t) false ≡ true → (all_of_number t ≡ true → stops rest ≡ true → ◌≡◌ {A = Run} (number_run (t ++ rest)) (t, rest))
        → ◌≡◌ {A = Run} (cond x (b ∷ (number_run (t ++ rest)).0, (number_run (t ++ rest)).1) ([], b ∷ (t ++ rest))) (b ∷ t, rest)
    go true e more = ap (λ (r : Run). (b ∷ r.0, r.1)) (more e k)
    go false e more = absurd (false≢true e)

pub number-back : (t rest : List ℕ) → is_number t ≡ true → all_of_number t ≡ true → stops rest ≡ true → number_text (t ++ rest) ≡ some (t, rest)
unfolding number_text
number-back t rest h a k = rw (run-back t rest a k, h)

-- What a value begins with is no white space.

unfoldable pub starts_full : List ℕ → Bool
starts_full [] = true
starts_full (b ∷ s) = not (is_space b)

pub full-unspaced : (s : List ℕ) → starts_full s ≡ true → unspaced s ≡ s
unfolding unspaced starts_full
full-unspaced [] h = refl
full-unspaced (b ∷ s) h = go (is_space b) h
  where
    go : (t : Bool) → not t ≡ true → cond t (unspaced s) (b ∷ s) ≡ b ∷ s
    go false k = refl
    go true k = absurd (false≢true k)

-- Scalars

pub string-back : (how : Escapes) (t rest : List ℕ) → is_utf8 t ≡ true → scalar (quoted how t ++ rest) ≡ some (string t, rest)
unfolding scalar quoted ◌>>=◌ and_then pure
string-back how t rest h = rw (append_assoc, escape-back how t rest h)

pub null-back : (rest : List ℕ) → scalar (ascii "null" ++ rest) ≡ some (null, rest)
unfolding scalar ascii spelled byte ◌>>=◌ ◌>>◌ and_then pure
null-back rest = refl

pub truth-back : (how : Escapes) (b : Bool) (rest : List ℕ) → scalar (written how (truth b) ++ rest) ≡ some (truth b, rest)
unfolding scalar ascii spelled byte written ◌>>=◌ ◌>>◌ and_then pure
truth-back how true rest = refl
truth-back how false rest = refl

pub number-scalar : (t rest : List ℕ) → is_number t ≡ true → stops rest ≡ true → scalar (t ++ rest) ≡ some (number t, rest)
unfolding scalar is_of_number is_digit between ◌>>=◌ and_then pure
number-scalar t rest h k =
    number-begins t h
    (λ b u e o.
    let read : number_text (b ∷ (u ++ rest)) ≡ some (t, rest) = ap (λ (x : List ℕ). number_text (x ++ rest)) (sym e) ∙ number-back t rest h (number-bytes t h) k in
    ap (λ (x : List ℕ). scalar (x ++ rest)) e
    ∙ rw (not-of b 0x22 o refl, not-of b 0x6E o refl, not-of b 0x74 o refl, not-of b 0x66 o refl, read))

-- What a value begins with: no white space, and no closing bracket.

pub record Begins (s : List ℕ) : Type 0 where
  pub first : ℕ
  pub others : List ℕ
  pub is : s ≡ first ∷ others
  pub full : is_space first ≡ false
  pub held : eqb first 0x5D ≡ false

begins : (b : ℕ) (t s : List ℕ) → s ≡ b ∷ t → is_space b ≡ false → eqb b 0x5D ≡ false → Begins s
begins b t s e f g = record { first = b; others = t; is = e; full = f; held = g }

written-begins : (how : Escapes) (v : Json) → Sound v → Begins (written how v)
unfolding written ascii is_space quoted is_of_number is_digit between
written-begins how null h = begins 0x6E _ _ refl refl refl
written-begins how (truth true) h = begins 0x74 _ _ refl refl refl
written-begins how (truth false) h = begins 0x66 _ _ refl refl refl
written-begins how (number digits) h = number-begins digits h (λ b u e o. begins b u digits e (of-full b o) (not-of b 0x5D o refl))
written-begins how (string t) h = begins 0x22 _ _ refl refl refl
written-begins how (array vs) h = begins 0x5B _ _ refl refl refl
written-begins how (object ms) h = begins 0x7B _ _ refl refl refl

begins-full : (s rest : List ℕ) → Begins s → unspaced (s ++ rest) ≡ s ++ rest
unfolding unspaced
begins-full s rest b = rw (b.is, b.full)

-- Elements

module _ (p : Reader (List ℕ) Json) where
  elements-step : (n : ℕ) {x y z rest : List ℕ} {v : Json} {others : Elements} {more : Bool}
      → unspaced x ≡ x
      → p x ≡ some (v, y)
      → unspaced y ≡ y
      → comma_or 0x5D y ≡ some (more, z)
      → elements_after (λ s. elements_in p n s) more z ≡ some (others, rest)
      → elements_in p (suc n) x ≡ some (element v others, rest)
  unfolding elements_in spaces ◌>>=◌ ◌>>◌ and_then pure
  elements-step n a b c d e = rw (a, b, c, d, e)

  members_step : (how : Escapes) (n : ℕ) {x y z rest : List ℕ} (key : Text) {v : Json} {others : Members} {more : Bool}
      → is_utf8 key ≡ true
      → unspaced x ≡ x
      → p x ≡ some (v, y)
      → unspaced y ≡ y
      → comma_or 0x7D y ≡ some (more, z)
      → members_after (λ s. members_in p n s) more z ≡ some (others, rest)
      → members_in p (suc n) (quoted how key ++ (0x3A ∷ x)) ≡ some (member key v others, rest)
  unfolding members_in spaces byte quoted unspaced is_space ◌>>=◌ ◌>>◌ and_then pure
  members_step how n {x = x} key h a b c d e = rw (append_assoc, escape-back how key (0x3A ∷ x) h, a, b, c, d, e)

  -- what is read after a value
  record After (n : ℕ) (y : List ℕ) (vs : Elements) (rest : List ℕ) : Type 0 where
    more : Bool
    behind : List ℕ
    full : unspaced y ≡ y
    stop : stops y ≡ true
    comma : comma_or 0x5D y ≡ some (more, behind)
    after : elements_after (λ s. elements_in p n s) more behind ≡ some (vs, rest)

  after_none : (n : ℕ) (rest : List ℕ) → After n (0x5D ∷ rest) no_elements rest
  unfolding unspaced is_space stops is_of_number is_digit between comma_or elements_after pure
  after_none n rest = record { more = false; behind = rest; full = refl; stop = refl; comma = refl; after = refl }

  after-some : (n : ℕ) (x rest : List ℕ) (vs : Elements) → elements_in p n x ≡ some (vs, rest) → After n (0x2C ∷ x) vs rest
  unfolding unspaced is_space stops is_of_number is_digit between comma_or elements_after
  after-some n x rest vs e = record { more = true; behind = x; full = refl; stop = refl; comma = refl; after = e }

  record AfterMember (n : ℕ) (y : List ℕ) (ms : Members) (rest : List ℕ) : Type 0 where
    more : Bool
    behind : List ℕ
    full : unspaced y ≡ y
    stop : stops y ≡ true
    comma : comma_or 0x7D y ≡ some (more, behind)
    after : members_after (λ s. members_in p n s) more behind ≡ some (ms, rest)

  after-no-member : (n : ℕ) (rest : List ℕ) → AfterMember n (0x7D ∷ rest) no_members rest
  unfolding unspaced is_space stops is_of_number is_digit between comma_or members_after pure
  after-no-member n rest = record { more = false; behind = rest; full = refl; stop = refl; comma = refl; after = refl }

  after-member : (n : ℕ) (x rest : List ℕ) (ms : Members) → members_in p n x ≡ some (ms, rest) → AfterMember n (0x2C ∷ x) ms rest
  unfolding unspaced is_space stops is_of_number is_digit between comma_or members_after
  after-member n x rest ms e = record { more = true; behind = x; full = refl; stop = refl; comma = refl; after = e }

-- Brackets

open_array : (p : Reader (List ℕ) Json) (s : List ℕ) {vs : Elements} {rest : List ℕ} → elements p s ≡ some (vs, rest) → container p (0x5B ∷ s) ≡ some (array vs, rest)
unfolding container either or_else byte ◌>>=◌ ◌>>◌ and_then pure
open_array p s e = rw e

open-object : (p : Reader (List ℕ) Json) (s : List ℕ) {ms : Members} {rest : List ℕ} → members p s ≡ some (ms, rest) → container p (0x7B ∷ s) ≡ some (object ms, rest)
unfolding container either or_else byte ◌>>=◌ ◌>>◌ and_then pure
open-object p s e = rw e

pub no_number : is_number [] ≡ false
unfolding is_number Number.is_some Number.number
no_number = refl

pub bracket-value : (d b : ℕ) (s : List ℕ) → is_of_number b ≡ false → eqb b 0x22 ≡ false → eqb b 0x6E ≡ false → eqb b 0x74 ≡ false → eqb b 0x66 ≡ false
    → value (suc d) (b ∷ s) ≡ container (value d) (b ∷ s)
unfolding value either or_else scalar number_text number_run ◌>>=◌ and_then
bracket-value d b s n q h t f = rw (q, h, t, f, n, no_number)

value-array : (d : ℕ) (s : List ℕ) {vs : Elements} {rest : List ℕ} → elements (value d) s ≡ some (vs, rest) → value (suc d) (0x5B ∷ s) ≡ some (array vs, rest)
unfolding is_of_number is_digit between
value-array d s e = bracket-value d 0x5B s refl refl refl refl refl ∙ open_array (value d) s e

value-object : (d : ℕ) (s : List ℕ) {ms : Members} {rest : List ℕ} → members (value d) s ≡ some (ms, rest) → value (suc d) (0x7B ∷ s) ≡ some (object ms, rest)
unfolding is_of_number is_digit between
value-object d s e = bracket-value d 0x7B s refl refl refl refl refl ∙ open-object (value d) s e

pub scalar-value : (d : ℕ) (s : List ℕ) {v : Json} {rest : List ℕ} → scalar s ≡ some (v, rest) → value d s ≡ some (v, rest)
unfolding value either or_else
scalar-value zero s e = e
scalar-value (suc d) s e = rw e

elements-none : (p : Reader (List ℕ) Json) (rest : List ℕ) → elements p (0x5D ∷ rest) ≡ some (no_elements, rest)
unfolding elements either or_else spaces unspaced is_space byte ◌>>=◌ ◌>>◌ and_then pure
elements-none p rest = refl

members-none : (p : Reader (List ℕ) Json) (rest : List ℕ) → members p (0x7D ∷ rest) ≡ some (no_members, rest)
unfolding members either or_else spaces unspaced is_space byte ◌>>=◌ ◌>>◌ and_then pure
members-none p rest = refl

elements-some : (p : Reader (List ℕ) Json) (s rest : List ℕ) {vs : Elements} {u : List ℕ} → Begins s → elements_in p (length (s ++ rest)) (s ++ rest) ≡ some (vs, u)
    → elements p (s ++ rest) ≡ some (vs, u)
unfolding elements either or_else spaces byte ◌>>=◌ ◌>>◌ and_then
elements-some p s rest b e =
    let none_first : byte 0x5D (unspaced (s ++ rest)) ≡ none = rw (begins-full s rest b, b.is, b.held) in
    rw (none_first, e)

module _ (how : Escapes) where
  members-some : (p : Reader (List ℕ) Json) (key : Text) (x : List ℕ) {ms : Members} {u : List ℕ}
      → members_in p (length (quoted how key ++ x)) (quoted how key ++ x) ≡ some (ms, u)
      → members p (quoted how key ++ x) ≡ some (ms, u)
  unfolding members either or_else spaces unspaced is_space byte quoted ◌>>=◌ ◌>>◌ and_then
  members-some p key x e = e

  -- The whole

  before-comma : (before : List ℕ) (v : Json) (others : Elements) (rest : List ℕ)
      → written_elements how before (element v others) ++ rest ≡ before ++ (written how v ++ (written_elements how (0x2C ∷ []) others ++ rest))
  unfolding written_elements
  before-comma before v others rest = simp append_assoc

  before-member : (before key : List ℕ) (v : Json) (others : Members) (rest : List ℕ)
      → written_members how before (member key v others) ++ rest ≡ before ++ (quoted how key ++ (0x3A ∷ (written how v ++ (written_members how (0x2C ∷ []) others ++ rest))))
  unfolding written_members
  before-member before key v others rest = simp append_assoc

  closed : (before rest : List ℕ) → written_elements how before no_elements ++ rest ≡ 0x5D ∷ rest
  unfolding written_elements
  closed before rest = refl

  closed-object : (before rest : List ℕ) → written_members how before no_members ++ rest ≡ 0x7D ∷ rest
  unfolding written_members
  closed-object before rest = refl

  longer : (v : Json) → Sound v → 1 ≤ length (written how v)
  longer v h = let b = written-begins how v h in let e = ap length b.is in omega arith

  module _ (d : ℕ) where
    -- the writing of elements after one, and of a value, at any place
    abbrev ValueBack : Json → Type 0
    ValueBack v = (rest : List ℕ) → stops rest ≡ true → value d (written how v ++ rest) ≡ some (v, rest)

    abbrev OthersBack : Elements → Type 0
    OthersBack vs = (n : ℕ) (rest : List ℕ) → length (written_elements how (0x2C ∷ []) vs) ≤ n → After (value d) n (written_elements how (0x2C ∷ []) vs ++ rest) vs rest

    abbrev MembersBack : Members → Type 0
    MembersBack ms = (n : ℕ) (rest : List ℕ) → length (written_members how (0x2C ∷ []) ms) ≤ n → AfterMember (value d) n (written_members how (0x2C ∷ []) ms ++ rest) ms rest

    in-back : (v : Json) (others : Elements) → Sound v → ValueBack v → OthersBack others → (n : ℕ) (rest : List ℕ) → length (written_elements how (0x2C ∷ []) others) ≤ n
        → elements_in (value d) (suc n) (written how v ++ (written_elements how (0x2C ∷ []) others ++ rest)) ≡ some (element v others, rest)
    in-back v others h back more n rest k =
        let a = more n rest k in
        elements-step (value d) n (begins-full (written how v) _ (written-begins how v h)) (back _ a.stop) a.full a.comma a.after

    member_back : (key : Text) (v : Json) (others : Members) → is_utf8 key ≡ true → Sound v → ValueBack v → MembersBack others → (n : ℕ) (rest : List ℕ)
        → length (written_members how (0x2C ∷ []) others) ≤ n
        → members_in (value d) (suc n) (quoted how key ++ (0x3A ∷ (written how v ++ (written_members how (0x2C ∷ []) others ++ rest)))) ≡ some (member key v others, rest)
    member_back key v others u h back more n rest k =
        let a = more n rest k in
        members_step (value d) how n key u (begins-full (written how v) _ (written-begins how v h)) (back _ a.stop) a.full a.comma a.after

    others-none : OthersBack no_elements
    others-none n rest k = subst (λ (y : List ℕ). After (value d) n y no_elements rest) (sym (closed (0x2C ∷ []) rest)) (after_none (value d) n rest)

    others-some : (v : Json) (others : Elements) → Sound v → ValueBack v → OthersBack others → OthersBack (element v others)
    others-some v others h back more zero rest k =
        absurd (let e = ap length (before-comma (0x2C ∷ []) v others []) in omega (arith, length-append (written_elements how (0x2C ∷ []) (element v others)) []))
    others-some v others h back more (suc n) rest k =
        let e = ap length (before-comma (0x2C ∷ []) v others []) in
        let f = length-append (written_elements how (0x2C ∷ []) (element v others)) [] in
        let g = length-append (written how v) (written_elements how (0x2C ∷ []) others ++ []) in
        let i = length-append (written_elements how (0x2C ∷ []) others) [] in
        subst (λ (y : List ℕ). After (value d) (suc n) y (element v others) rest) (sym (before-comma (0x2C ∷ []) v others rest))
        (after-some (value d) (suc n) _ rest _ (in-back v others h back more n rest (omega arith)))

    members-no : MembersBack no_members
    members-no n rest k = subst (λ (y : List ℕ). AfterMember (value d) n y no_members rest) (sym (closed-object (0x2C ∷ []) rest)) (after-no-member (value d) n rest)

    members-one : (key : Text) (v : Json) (others : Members) → is_utf8 key ≡ true → Sound v → ValueBack v → MembersBack others → MembersBack (member key v others)
    members-one key v others u h back more zero rest k =
        absurd (let e = ap length (before-member (0x2C ∷ []) key v others []) in omega (arith, length-append (written_members how (0x2C ∷ []) (member key v others)) []))
    members-one key v others u h back more (suc n) rest k =
        let e = ap length (before-member (0x2C ∷ []) key v others []) in
        let f = length-append (written_members how (0x2C ∷ []) (member key v others)) [] in
        let j = length-append (quoted how key) (0x3A ∷ (written how v ++ (written_members how (0x2C ∷ []) others ++ []))) in
        let g = length-append (written how v) (written_members how (0x2C ∷ []) others ++ []) in
        let i = length-append (written_members how (0x2C ∷ []) others) [] in
        subst (λ (y : List ℕ). AfterMember (value d) (suc n) y (member key v others) rest) (sym (before-member (0x2C ∷ []) key v others rest))
        (after-member (value d) (suc n) _ rest _ (member_back key v others u h back more n rest (omega arith)))

    -- behind the opening bracket
    abbrev ElementsBack : Elements → Type 0
    ElementsBack vs = (rest : List ℕ) → elements (value d) (written_elements how [] vs ++ rest) ≡ some (vs, rest)

    abbrev ObjectBack : Members → Type 0
    ObjectBack ms = (rest : List ℕ) → members (value d) (written_members how [] ms ++ rest) ≡ some (ms, rest)

    elements-back-none : ElementsBack no_elements
    elements-back-none rest = ap (λ (x : List ℕ). elements (value d) x) (closed [] rest) ∙ elements-none (value d) rest

    elements-back-some : (v : Json) (others : Elements) → Sound v → ValueBack v → OthersBack others → ElementsBack (element v others)
    elements-back-some v others h back more rest =
        let g = length-append (written how v) (written_elements how (0x2C ∷ []) others ++ rest) in
        let i = length-append (written_elements how (0x2C ∷ []) others) rest in
        let l = longer v h in
        let n : length (written how v ++ (written_elements how (0x2C ∷ []) others ++ rest)) ≡ suc (length (written how v ++ (written_elements how (0x2C ∷ []) others ++ rest)) - 1) = omega arith in
        ap (λ (x : List ℕ). elements (value d) x) (before-comma [] v others rest)
        ∙ elements-some (value d) (written how v) (written_elements how (0x2C ∷ []) others ++ rest) (written-begins how v h)
        (ap (λ (k : ℕ). elements_in (value d) k (written how v ++ (written_elements how (0x2C ∷ []) others ++ rest))) n
        ∙ in-back v others h back more (length (written how v ++ (written_elements how (0x2C ∷ []) others ++ rest)) - 1) rest (omega arith))

    object-back-none : ObjectBack no_members
    object-back-none rest = ap (λ (x : List ℕ). members (value d) x) (closed-object [] rest) ∙ members-none (value d) rest

    object-back-some : (key : Text) (v : Json) (others : Members) → is_utf8 key ≡ true → Sound v → ValueBack v → MembersBack others → ObjectBack (member key v others)
    object-back-some key v others u h back more rest =
        let j = length-append (quoted how key) (0x3A ∷ (written how v ++ (written_members how (0x2C ∷ []) others ++ rest))) in
        let g = length-append (written how v) (written_members how (0x2C ∷ []) others ++ rest) in
        let i = length-append (written_members how (0x2C ∷ []) others) rest in
        let n : length (quoted how key ++ (0x3A ∷ (written how v ++ (written_members how (0x2C ∷ []) others ++ rest)))) ≡ suc (length (quoted how key ++ (0x3A ∷ (written how v ++ (written_members how (0x2C ∷ []) others ++ rest)))) - 1) = omega arith in
        ap (λ (x : List ℕ). members (value d) x) (before-member [] key v others rest)
        ∙ members-some (value d) key (0x3A ∷ (written how v ++ (written_members how (0x2C ∷ []) others ++ rest)))
        (ap (λ (k : ℕ). members_in (value d) k (quoted how key ++ (0x3A ∷ (written how v ++ (written_members how (0x2C ∷ []) others ++ rest))))) n
        ∙ member_back key v others u h back more (length (quoted how key ++ (0x3A ∷ (written how v ++ (written_members how (0x2C ∷ []) others ++ rest)))) - 1) rest (omega arith))

  null-written : (rest : List ℕ) → written how null ++ rest ≡ ascii "null" ++ rest
  unfolding written
  null-written rest = refl

  number-written : (t rest : List ℕ) → written how (number t) ++ rest ≡ t ++ rest
  unfolding written
  number-written t rest = refl

  string-written : (t rest : List ℕ) → written how (string t) ++ rest ≡ quoted how t ++ rest
  unfolding written
  string-written t rest = refl

  array_written : (vs : Elements) (rest : List ℕ) → written how (array vs) ++ rest ≡ 0x5B ∷ (written_elements how [] vs ++ rest)
  unfolding written
  array_written vs rest = refl

  object-written : (ms : Members) (rest : List ℕ) → written how (object ms) ++ rest ≡ 0x7B ∷ (written_members how [] ms ++ rest)
  unfolding written
  object-written ms rest = refl

  mutual
    unfolding depth_of depth_of_elements depth_of_members

    value-back : (v : Json) (d : ℕ) → Sound v → depth_of v ≤ d → ValueBack d v
    value-back null d h k rest s = scalar-value d _ (ap scalar (null-written rest) ∙ null-back rest)
    value-back (truth b) d h k rest s = scalar-value d _ (truth-back how b rest)
    value-back (number t) d h k rest s = scalar-value d _ (ap scalar (number-written t rest) ∙ number-scalar t rest h s)
    value-back (string t) d h k rest s = scalar-value d _ (ap scalar (string-written t rest) ∙ string-back how t rest h)
    value-back (array vs) zero h k rest s = absurd (omega arith)
    value-back (array vs) (suc d) h k rest s =
        ap (λ (x : List ℕ). value (suc d) x) (array_written vs rest) ∙ value-array d _ ((elements-back vs d h (omega arith)).1 rest)
    value-back (object ms) zero h k rest s = absurd (omega arith)
    value-back (object ms) (suc d) h k rest s =
        ap (λ (x : List ℕ). value (suc d) x) (object-written ms rest) ∙ value-object d _ ((object-back ms d h (omega arith)).1 rest)

    elements-back : (vs : Elements) (d : ℕ) → SoundElements vs → depth_of_elements vs ≤ d → OthersBack d vs × ElementsBack d vs
    elements-back no_elements d h k = (others-none d, elements-back-none d)
    elements-back (element v others) d h k =
        let back : ValueBack d v = λ rest s. value-back v d h.0 (omega arith) rest s in
        let more = elements-back others d h.1 (omega arith) in
        (others-some d v others h.0 back more.0, elements-back-some d v others h.0 back more.0)

    object-back : (ms : Members) (d : ℕ) → SoundMembers ms → depth_of_members ms ≤ d → MembersBack d ms × ObjectBack d ms
    object-back no_members d h k = (members-no d, object-back-none d)
    object-back (member key v others) d h k =
        let back : ValueBack d v = λ rest s. value-back v d h.1.0 (omega arith) rest s in
        let more = object-back others d h.1.1 (omega arith) in
        (members-one d key v others h.0 h.1.0 back more.0, object-back-some d key v others h.0 h.1.0 back more.0)

  -- a value's writing is read back, before anything that a number does not go on with
  pub grammar-back : (v : Json) (d : ℕ) (rest : List ℕ) → Sound v → depth_of v ≤ d → stops rest ≡ true → value d (written how v ++ rest) ≡ some (v, rest)
  grammar-back v d rest h k s = value-back v d h k rest s

  -- and as a whole text
  pub document-back : (v : Json) → Sound v → depth_of v ≤ max_depth → document (written how v) ≡ some v
  unfolding document spaces at_end ensure unspaced stops ◌>>=◌ ◌>>◌ and_then pure
  document-back v h k =
      let full : unspaced (written how v) ≡ written how v = rw append-nil at (begins-full (written how v) [] (written-begins how v h)) in
      let read : value max_depth (written how v) ≡ some (v, []) = rw append-nil at (grammar-back v max_depth [] h k refl) in
      rw (full, read)
