-- What holds of every call: which refusal is heard, that a refusal leaves the buffers alone, and that equal replies give equal results.
use Prim.Native.Nat.{ℕ, zero, suc, ◌≤◌}
use Rattle.std.proofs.Common.{arith, sym, subst, ◌∙◌, eqb-true}
use Rattle.std.specs.Prelude.{Bool, true, false, cond, ◌&&◌, ◌||◌, List, [], ◌∷◌, ◌++◌, ◌↔◌, ◌≡◌, eqb, length, get_or, replicate}
use Rattle.std.proofs.Math.Bool.{false≢true}
use Rattle.std.proofs.Math.Option.{Option, none, some, or_else, some-injective, none-ne-some, some-ne-none}
use Rattle.std.proofs.Math.Path.{refl, ap}
use Rattle.std.proofs.lemmas.List.{length-replicate}
use Rattle.std.proofs.lemmas.List.Edits.{sets}
use Rattle.std.proofs.lemmas.Bool.{eqb-false}
use Rattle.text.proofs.Bools.{and-true-0, and-true-1}
use Rattle.text.specs.CaseLaws.{by-test}
use Rattle.reference.specs.Setting.{one_of}
use Rattle.call.specs.Call.{Refusal, first_refusal, number_in, Reply, refused_by, told, refused_or, heard_by, tried, number_of, Buffer, Left, free, holding, unchanged, Leaves, AllLeft, if_told, Shape, reply_to, numbers_with, result_numbers, Run, Meets, AllKept, Untouched, is_written, AllAlike, SameAnswer}

-- A list of refusals: those in front are tried first.

else-if : (b : Bool) (n : ℕ) (x y : Option ℕ) → cond b (some n) (or_else x y) ≡ or_else (cond b (some n) x) y
unfolding or_else
else-if true n x y = refl
else-if false n x y = refl

pub first-append : (xs ys : List Refusal) → first_refusal (xs ++ ys) ≡ or_else (first_refusal xs) (first_refusal ys)
unfolding first_refusal or_else
first-append [] ys = refl
first-append (x ∷ xs) ys = rw (first-append xs ys) (else-if x.is_due x.number (first_refusal xs) (first_refusal ys))

abbrev pub NoneDue : List Refusal → Type 0
NoneDue [] = Unit {0}
NoneDue (r ∷ rs) = (r.is_due ≡ false) × NoneDue rs

not_first : (b : Bool) (n : ℕ) (o : Option ℕ) → cond b (some n) o ≡ none → (b ≡ false) × (o ≡ none)
not_first true n o e = absurd (some-ne-none n e)
not_first false n o e = (refl, e)

pub none-due : (rs : List Refusal) → first_refusal rs ≡ none → NoneDue rs
unfolding first_refusal
none-due [] e = tt
none-due (r ∷ rs) e =
    let (first, others) = not_first r.is_due r.number (first_refusal rs) e in
    (first, none-due rs others)

pub first-none : (rs : List Refusal) → NoneDue rs → first_refusal rs ≡ none
unfolding first_refusal
first-none [] h = refl
first-none (r ∷ rs) h = rw h.0 (first-none rs h.1)

-- the first that is due, by its number
pub number-due : (r : Refusal) (rs : List Refusal) → r.is_due ≡ true → r.number ≡ number_in (first_refusal (r ∷ rs))
unfolding first_refusal number_in
number-due r rs e = rw e

pub number-later : {n : ℕ} (r : Refusal) (rs : List Refusal) → r.is_due ≡ false → n ≡ number_in (first_refusal rs) → n ≡ number_in (first_refusal (r ∷ rs))
unfolding first_refusal
number-later r rs e f = rw e f

pub none_left : 0 ≡ number_in (first_refusal [])
unfolding first_refusal number_in
none_left = refl

pub number-some : (n : ℕ) (o : Option ℕ) → n ≡ number_in o → (n ≡ 0 → ⊥) → o ≡ some n
unfolding number_in
number-some n none e h = absurd (h e)
number-some n (some m) e h = ap some (sym e)

pub number-none : (o : Option ℕ) → ((n : ℕ) → o ≡ some n → n ≡ 0 → ⊥) → 0 ≡ number_in o → o ≡ none
unfolding number_in
number-none none h e = refl
number-none (some n) h e = absurd (h n refl (sym e))

-- What a test says of every number in a list is true of each of them.

unfoldable pub every : {A : Type 0} → (A → Bool) → List A → Bool
every p [] = true
every p (x ∷ xs) = p x && every p xs

pub of-listed : (p : ℕ → Bool) (n : ℕ) (ns : List ℕ) → every p ns ≡ true → one_of n ns ≡ true → p n ≡ true
unfolding every one_of
of-listed p n [] e h = absurd (false≢true h)
of-listed p n (m ∷ ns) e h =
    by-test (eqb n m) (λ q. rw (eqb-true n m q) (and-true-0 (p m) (every p ns) e))
    (λ q. of-listed p n ns (and-true-1 (p m) (every p ns) e) (rw q at h))

abbrev pub numbers_pass : (ℕ → Bool) → List Refusal → Bool
numbers_pass p rs = every (λ (r : Refusal). p r.number) rs

pub of-first : (p : ℕ → Bool) (n : ℕ) (rs : List Refusal) → numbers_pass p rs ≡ true → first_refusal rs ≡ some n → p n ≡ true
unfolding every first_refusal
of-first p n [] e f = absurd (none-ne-some n f)
of-first p n (r ∷ rs) e f =
    by-test r.is_due
    (λ d.
    let same : r.number ≡ n = some-injective r.number n (rw d at f) in
    rw same at (and-true-0 (p r.number) (numbers_pass p rs) e))
    (λ d. of-first p n rs (and-true-1 (p r.number) (numbers_pass p rs) e) (rw d at f))

pub latter : (x y : Option ℕ) (n : ℕ) → (x ≡ some n → ⊥) → or_else x y ≡ some n → y ≡ some n
unfolding or_else
latter none y n h e = e
latter (some m) y n h e = absurd (h e)

pub neither : (x y : Option ℕ) → or_else x y ≡ none → (x ≡ none) × (y ≡ none)
unfolding or_else
neither none y e = (refl, e)
neither (some n) y e = absurd (some-ne-none n e)

-- A reply is refused or told, and not both.

module _ {A : Type 0} where
  told-or : A → Reply A → A
  told-or x (refused_by n) = x
  told-or x (told a) = a

  is_told : Reply A → Bool
  is_told (refused_by n) = false
  is_told (told a) = true

  pub told-injective : {a b : A} → told a ≡ told b → a ≡ b
  unfolding told-or
  told-injective {a} e = ap (told-or a) e

  pub refused-injective : {m n : ℕ} → ◌≡◌ {A = Reply A} (refused_by m) (refused_by n) → m ≡ n
  unfolding number_of
  refused-injective e = ap number_of e

  pub not-told : {n : ℕ} {a : A} → ◌≡◌ {A = Reply A} (refused_by n) (told a) → ⊥
  unfolding is_told
  not-told e = false≢true (ap is_told e)

  -- Which refusal is heard.

  refused-is : (o : Option ℕ) (a : A) (n : ℕ) → refused_or o a ≡ refused_by n → o ≡ some n
  unfolding refused_or
  refused-is none a n e = absurd (not-told (sym e))
  refused-is (some m) a n e = ap some (refused-injective e)

  told_is : (o : Option ℕ) (a b : A) → refused_or o a ≡ told b → (o ≡ none) × (a ≡ b)
  unfolding refused_or
  told_is none a b e = (refl, told-injective e)
  told_is (some m) a b e = absurd (not-told e)

  pub heard-refused : (rs : List Refusal) (a : A) (n : ℕ) → (heard_by rs a ≡ refused_by n) ↔ (first_refusal rs ≡ some n)
  unfolding heard_by refused_or
  heard-refused rs a n = (refused-is (first_refusal rs) a n, λ e. rw e)

  pub heard-told : (rs : List Refusal) (a b : A) → heard_by rs a ≡ told b → (first_refusal rs ≡ none) × (a ≡ b)
  unfolding heard_by
  heard-told rs a b = told_is (first_refusal rs) a b

  pub nothing-due : (rs : List Refusal) (a : A) → first_refusal rs ≡ none → heard_by rs a ≡ told a
  unfolding heard_by refused_or
  nothing-due rs a e = rw e

  -- those in front are tried first
  pub front-due : (xs ys : List Refusal) (a : A) (n : ℕ) → first_refusal xs ≡ some n → heard_by (xs ++ ys) a ≡ refused_by n
  unfolding heard_by refused_or or_else
  front-due xs ys a n e = rw (first-append xs ys, e)

  pub front-passes : (xs ys : List Refusal) (a : A) → first_refusal xs ≡ none → heard_by (xs ++ ys) a ≡ heard_by ys a
  unfolding heard_by or_else
  front-passes xs ys a e = rw (first-append xs ys, e)

  pub first-due : (r : Refusal) (rs : List Refusal) (a : A) → r.is_due ≡ true → heard_by (r ∷ rs) a ≡ refused_by r.number
  unfolding heard_by first_refusal refused_or
  first-due r rs a e = rw e

  pub first_passes : (r : Refusal) (rs : List Refusal) (a : A) → r.is_due ≡ false → heard_by (r ∷ rs) a ≡ heard_by rs a
  unfolding heard_by first_refusal
  first_passes r rs a e = rw e

-- Only numbers that are tried are heard.

first-tried : (rs : List Refusal) (n : ℕ) → first_refusal rs ≡ some n → one_of n (tried rs) ≡ true
unfolding first_refusal tried one_of
first-tried [] n e = absurd (none-ne-some n e)
first-tried (r ∷ rs) n e =
    by-test r.is_due
    (λ d.
    let same : r.number ≡ n = some-injective r.number n (rw d at e) in
    by-test (eqb n r.number) (λ t. rw t) (λ t. absurd (eqb-false n r.number t (sym same))))
    (λ d. or_right (eqb n r.number) (one_of n (tried rs)) (first-tried rs n (rw d at e)))
  where
    or_right : (t b : Bool) → b ≡ true → (t || b) ≡ true
    or_right true b h = refl
    or_right false b h = h

pub only-tried : {A : Type 0} (rs : List Refusal) (a : A) (n : ℕ) (ns : List ℕ) → tried rs ≡ ns → heard_by rs a ≡ refused_by n → one_of n ns ≡ true
only-tried rs a n ns same e = ap (one_of n) (sym same) ∙ first-tried rs n ((heard-refused rs a n).0 e)

-- so what a test says of every number that is tried is true of the one that is heard
pub of-heard : {A : Type 0} (p : ℕ → Bool) (rs : List Refusal) (a : A) (n : ℕ) (ns : List ℕ) → tried rs ≡ ns → every p ns ≡ true → heard_by rs a ≡ refused_by n → p n ≡ true
of-heard p rs a n ns same all e = of-listed p n ns all (only-tried rs a n ns same e)

-- A refusal whose number comes once is heard exactly where it is due and none before it is.

not-tried : {A : Type 0} (rs : List Refusal) (a : A) (n : ℕ) → one_of n (tried rs) ≡ false → heard_by rs a ≡ refused_by n → ⊥
not-tried rs a n e h = false≢true (sym e ∙ only-tried rs a n (tried rs) refl h)

pub heard-at : {A : Type 0} (xs : List Refusal) (r : Refusal) (ys : List Refusal) (a : A)
    → one_of r.number (tried xs) ≡ false
    → one_of r.number (tried ys) ≡ false
    → (heard_by (xs ++ (r ∷ ys)) a ≡ refused_by r.number) ↔ ((first_refusal xs ≡ none) × (r.is_due ≡ true))
heard-at xs r ys a before behind = (λ e. by_front e (first_refusal xs) refl, λ h. front-passes xs (r ∷ ys) a h.0 ∙ first-due r ys a h.1)
  where
    by_front : heard_by (xs ++ (r ∷ ys)) a ≡ refused_by r.number → (o : Option ℕ) → first_refusal xs ≡ o → (first_refusal xs ≡ none) × (r.is_due ≡ true)
    by_front e none f =
        let rest = sym (front-passes xs (r ∷ ys) a f) ∙ e in
        (f, by-test r.is_due (λ d. d) (λ d. absurd (not-tried ys a r.number behind (sym (first_passes r ys a d) ∙ rest))))
    by_front e (some m) f =
        let same : m ≡ r.number = refused-injective (sym (front-due xs (r ∷ ys) a m f) ∙ e) in
        absurd (not-tried xs a r.number before ((heard-refused xs a r.number).1 (f ∙ ap some same)))

-- The numbers of a result.

module _ {A : Type 0} (size : ℕ) (figures : A → List ℕ) where
  pub first-number : (r : Reply A) → get_or (numbers_with size figures r) 0 0 ≡ number_of r
  unfolding numbers_with number_of
  first-number (refused_by n) = refl
  first-number (told a) = refl

  pub numbers-size : (r : Reply A) → ((a : A) → r ≡ told a → length (figures a) ≡ size) → length (numbers_with size figures r) ≡ suc size
  unfolding numbers_with
  numbers-size (refused_by n) same = ap suc (length-replicate {A = ℕ} size 0)
  numbers-size (told a) same = ap suc (same a refl)

pub first-low : {A : Type 0} (most size : ℕ) (figures : A → List ℕ) (r : Reply A) → ((n : ℕ) → r ≡ refused_by n → n ≤ most) → get_or (numbers_with size figures r) 0 0 ≤ most
unfolding numbers_with
first-low most size figures (refused_by n) low = low n refl
first-low most size figures (told a) low = omega arith

-- every number is at most that
abbrev pub AllWithin : (most : ℕ) → List ℕ → Type 0
AllWithin most [] = Unit {0}
AllWithin most (n ∷ ns) = (n ≤ most) × AllWithin most ns

pub zeros_within : (most k : ℕ) → AllWithin most (replicate k 0)
zeros_within most zero = tt
zeros_within most (suc k) = (omega arith, zeros_within most k)

pub numbers-within : {A : Type 0} (most size : ℕ) (figures : A → List ℕ) (r : Reply A)
    → ((n : ℕ) → r ≡ refused_by n → n ≤ most)
    → ((a : A) → r ≡ told a → AllWithin most (figures a))
    → AllWithin most (numbers_with size figures r)
unfolding numbers_with
numbers-within most size figures (refused_by n) low within = (low n refl, zeros_within most size)
numbers-within most size figures (told a) low within = (omega arith, within a refl)

-- A refusal leaves every buffer as it was, but for those that the shape names.

pub kept_same : {l : Left} {before after : List ℕ} → l ≡ unchanged → Leaves l before after → after ≡ before
kept_same {l} {before} {after} e h = subst (λ (l : Left). Leaves l before after) e h

untouched : (ls : List Left) (bs : List Buffer) → AllKept ls → AllLeft ls bs → Untouched bs
untouched [] [] k h = tt
untouched [] (b ∷ bs) k h = absurd h
untouched (l ∷ ls) [] k h = absurd h
untouched (l ∷ ls) (b ∷ bs) k h = (kept_same k.0 h.0, untouched ls bs k.1 h.1)

pub refused-untouched : {C A : Type 0} (s : Shape C A) (r : Run C) (n : ℕ)
    → Meets s r
    → reply_to s r.call ≡ refused_by n
    → AllKept (s.leaves (refused_by n))
    → Untouched r.buffers
refused-untouched s r n m e k = untouched (s.leaves (refused_by n)) r.buffers k (rw e at m.buffers)

-- What a buffer held before never matters, but where elements are written over it; then the rest of it stays.

pub if-told-written : {A : Type 0} (left : A → Left) → ((a : A) → is_written (left a) ≡ true) → (r : Reply A) → is_written (if_told left r) ≡ true
unfolding if_told is_written
if-told-written left all (refused_by n) = refl
if-told-written left all (told a) = all a

alike : (l : Left) (b b' : Buffer) → Leaves l b.before b.after → Leaves l b'.before b'.after → is_written l ≡ true → b.before ≡ b'.before → b.after ≡ b'.after
unfolding is_written
alike (free count) b b' h h' w e = absurd (false≢true w)
alike (holding elements) b b' h h' w e = h ∙ ap (λ (l : List ℕ). sets l 0 elements) e ∙ sym h'

all_alike : (ls : List Left) (bs bs' : List Buffer) → AllLeft ls bs → AllLeft ls bs' → AllAlike ls bs bs'
all_alike [] bs bs' h h' = tt
all_alike (l ∷ ls) [] bs' h h' = tt
all_alike (l ∷ ls) (b ∷ bs) [] h h' = tt
all_alike (l ∷ ls) (b ∷ bs) (b' ∷ bs') h h' = (alike l b b' h.0 h'.0, all_alike ls bs bs' h.1 h'.1)

-- one buffer lent to two calls with one reply
pub left-alike : {A : Type 0} (left : Reply A → Left) → ((r : Reply A) → is_written (left r) ≡ true) → (before : List ℕ) {r r' : Reply A} {after after' : List ℕ}
    → r ≡ r'
    → Leaves (left r) before after
    → Leaves (left r') before after'
    → after ≡ after'
left-alike left written before {r} {r'} {after} {after'} e h h' =
    alike (left r) (record { before = before; after = after }) (record { before = before; after = after' }) h (rw e h') (written r) refl

-- two runs with one reply, whatever their buffers held and however long they are
pub same_answer : {C A : Type 0} (s : Shape C A) (r r' : Run C) → Meets s r → Meets s r' → reply_to s r.call ≡ reply_to s r'.call → SameAnswer s r r'
same_answer s r r' m m' e =
    record {
      result = m.result ∙ ap (result_numbers s) e ∙ sym m'.result;
      buffers = all_alike (s.leaves (reply_to s r.call)) r.buffers r'.buffers m.buffers (rw e m'.buffers);
    }

-- A call that leaves free elements as they were, and so changes no more than it must, meets its shape.

unfoldable pub least : Left → List ℕ → List ℕ
least (free count) before = before
least (holding elements) before = sets before 0 elements

pub least-left : (l : Left) (before : List ℕ) → Leaves l before (least l before)
unfolding least
least-left (free count) before = record { size = refl; kept = refl }
least-left (holding elements) before = refl
