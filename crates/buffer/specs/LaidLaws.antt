-- What is laid one after the other, and bytes that move.
use Rattle.std.specs.Prelude.{ℕ, zero, suc, ◌+◌, ◌-◌, ◌≤◌, ◌<◌, ◌/◌, ◌%◌, min, List, [], ◌∷◌, ◌++◌, ◌≡◌, refl, length, take, drop, set, get_or}
use Rattle.std.proofs.Common.{add-zero, add-suc, suc-add, add-one, arith, append-nil, append_assoc, ap, ap₂, sym, ◌∙◌, length-append, length-set, length-take, length-drop, drop_of_length-le, get_or-set_other, get_or-set_same, take-suc, drop-cons, take_all, drop-drop}
use Rattle.std.proofs.lemmas.List.Edits.{sets, sets-eq}
use Rattle.std.proofs.Math.Seq.{length-sets}
use Rattle.std.proofs.Math.Seq as Seq
use Rattle.text.specs.Numeral.{decimal_of}
use Rattle.text.specs.NumeralLaws.{decimal_of-one, decimal_of-last}
use Rattle.buffer.specs.WroteLaws.{sets-append}
use Rattle.buffer.specs.Laid.{most_place, Laid, Recounted}

pub laid-nothing : (l : List ℕ) (o : ℕ) → o ≤ most_place → Laid l l o [] o
laid-nothing l o h = record { len = refl; ends = omega arith; stands = λ k. refl }

pub laid_then : {before middle after : List ℕ} {o m next : ℕ} {xs ys : List ℕ}
    → length before ≤ most_place
    → Laid before middle o xs m
    → Laid middle after m ys next
    → Laid before after o (xs ++ ys) next
laid_then {before} {middle} {after} {o} {m} {next} {xs} {ys} room u w =
    let both = length-append xs ys in
    record {
      len = w.len ∙ u.len;
      ends = omega (arith, u.ends, w.ends);
      stands =
          λ fits.
          let place : m ≡ o + length xs = omega (arith, u.ends) in
          w.stands (omega (arith, u.len))
          ∙ ap (λ (l : List ℕ). sets l m ys) (u.stands (omega arith))
          ∙ ap (λ (k : ℕ). sets (sets before o xs) k ys) place
          ∙ sets-append xs ys before o;
    }

pub laid-byte : (l : List ℕ) (o b : ℕ) → length l ≤ most_place → o < length l → Laid l (set l o b) o (b ∷ []) (o + 1)
laid-byte l o b room h = record { len = length-set l o b; ends = omega arith; stands = λ k. refl }

pub byte-over : (l : List ℕ) (o b : ℕ) {next : ℕ} → length l ≤ o → next ≡ min (o + 1) most_place → Laid l l o (b ∷ []) next
byte-over l o b h e = record { len = refl; ends = e; stands = λ k. absurd (omega arith) }

pub laid-past : (l bytes : List ℕ) (o : ℕ) {next : ℕ} → length l < o → next ≡ min (o + length bytes) most_place → Laid l l o bytes next
laid-past l bytes o h e = record { len = refl; ends = e; stands = λ k. absurd (omega arith) }

pub laid-over : (l bytes : List ℕ) (o : ℕ) {next : ℕ} → length l - o < length bytes → next ≡ min (o + length bytes) most_place → Laid l l o bytes next
laid-over l bytes o h e = record { len = refl; ends = e; stands = λ k. absurd (omega arith) }

pub laid-digit : (n : ℕ) {before after : List ℕ} {o next : ℕ} → n < 10 → Laid before after o ((48 + n) ∷ []) next → Laid before after o (decimal_of n) next
laid-digit n less w = rw (decimal_of-one n less) w

pub laid-digits : (n : ℕ) {before middle after : List ℕ} {o m next : ℕ}
    → length before ≤ most_place
    → 10 ≤ n
    → Laid before middle o (decimal_of (n / 10)) m
    → Laid middle after m ((48 + n % 10) ∷ []) next
    → Laid before after o (decimal_of n) next
laid-digits n room more u w = rw (decimal_of-last n more) (laid_then room u w)

-- Bytes that move

set_apart : (l : List ℕ) (i j a b : ℕ) → i < j → set (set l j b) i a ≡ set (set l i a) j b
set_apart [] i j a b h = refl
set_apart (x ∷ l) zero zero a b h = absurd (omega arith)
set_apart (x ∷ l) zero (suc j) a b h = refl
set_apart (x ∷ l) (suc i) zero a b h = absurd (omega arith)
set_apart (x ∷ l) (suc i) (suc j) a b h = ap (λ (k : List ℕ). x ∷ k) (set_apart l i j a b (omega arith))

set-sets : (vs l : List ℕ) (i j a : ℕ) → i < j → set (sets l j vs) i a ≡ sets (set l i a) j vs
set-sets [] l i j a h = refl
set-sets (b ∷ vs) l i j a h = set-sets vs (set l j b) i (suc j) a (omega arith) ∙ ap (λ (k : List ℕ). sets k (suc j) vs) (set_apart l i j a b h)

get_d-sets-below : (vs l : List ℕ) (i j : ℕ) → i < j → get_or (sets l j vs) i 0 ≡ get_or l i 0
get_d-sets-below [] l i j h = refl
get_d-sets-below (b ∷ vs) l i j h =
    get_d-sets-below vs (set l j b) i (suc j) (omega arith) ∙ get_or-set_other l j i b 0 (λ e. absurd (omega arith))

-- the bytes from i up to the end have moved
pub record Moved (before after : List ℕ) (end n i : ℕ) : Type 0 where
  pub stands : after ≡ sets before (i + n) (take (end - i) (drop i before))

pub moved_none : (l : List ℕ) (end n : ℕ) → Moved l l end n end
moved_none l end n = let e : end - end ≡ 0 = omega arith in record { stands = rw e }

pub moved_more : (before after : List ℕ) (end n i : ℕ) → i < end → end ≤ length before → Moved before after end n (i + 1)
    → Moved before (set after (i + n) (get_or after i 0)) end n i
moved_more before after end n i h k moved =
    let e = moved.stands in
    let there : get_or after i 0 ≡ get_or before i 0 = ap (λ (l : List ℕ). get_or l i 0) e ∙ get_d-sets-below (take (end - (i + 1)) (drop (i + 1) before)) before i (i + 1 + n) (omega arith) in
    let place : i + 1 + n ≡ suc (i + n) = omega arith in
    let size : end - i ≡ suc (end - (i + 1)) = omega arith in
    let in-front : drop i before ≡ get_or before i 0 ∷ drop (i + 1) before = rw (add-one, drop-cons before i 0 (omega arith)) in
    record {
      stands =
          ap (λ (v : ℕ). set after (i + n) v) there
          ∙ ap (λ (l : List ℕ). set l (i + n) (get_or before i 0)) e
          ∙ set-sets (take (end - (i + 1)) (drop (i + 1) before)) before (i + n) (i + 1 + n) (get_or before i 0) (omega arith)
          ∙ ap (λ (j : ℕ). sets (set before (i + n) (get_or before i 0)) j (take (end - (i + 1)) (drop (i + 1) before))) place
          ∙ ap (λ (l : List ℕ). sets before (i + n) l) (sym (ap (λ (l : List ℕ). take (end - i) l) in-front ∙ ap (λ (m : ℕ). take m (get_or before i 0 ∷ drop (i + 1) before)) size));
    }

-- Bytes over a part of a buffer

pub laid-copied : (l bytes : List ℕ) (o : ℕ) {part : List ℕ} → length l ≤ most_place → o + length bytes ≤ length l → part ≡ bytes
    → Laid l (take o l ++ (part ++ drop (o + length bytes - o) (drop o l))) o bytes (o + length bytes)
laid-copied l bytes o {part} room h e =
    let size : o + length bytes - o ≡ length bytes = omega arith in
    let whole : take o l ++ (part ++ drop (o + length bytes - o) (drop o l)) ≡ sets l o bytes =
    ap (λ (p : List ℕ). take o l ++ (p ++ drop (o + length bytes - o) (drop o l))) e
    ∙ ap (λ (n : ℕ). take o l ++ (bytes ++ drop n (drop o l))) size
    ∙ ap (λ (d : List ℕ). take o l ++ (bytes ++ d)) (drop-drop (length bytes) o l)
    ∙ sym (append_assoc (take o l) bytes (drop (o + length bytes) l))
    ∙ sym (sets-eq bytes l o h) in
    record { len = ap length whole ∙ length-sets l o bytes; ends = omega arith; stands = λ k. whole }

-- A head is written anew, and what follows it has moved

sets_over : (xs ys l : List ℕ) (i : ℕ) → length xs ≤ length ys → sets (sets l i xs) i ys ≡ sets l i ys
sets_over [] ys l i h = refl
sets_over (x ∷ xs) [] l i h = absurd (omega arith)
sets_over (x ∷ xs) (y ∷ ys) l i h =
    ap (λ (k : List ℕ). sets k (suc i) ys) (set-sets xs (set l i x) i (suc i) y (omega arith) ∙ ap (λ (k : List ℕ). sets k (suc i) xs) (Seq.set-set l i x y))
    ∙ sets_over xs ys (set l i y) (suc i) (omega arith)

sets-apart : (xs ys l : List ℕ) (i j : ℕ) → i + length xs ≤ j → sets (sets l j ys) i xs ≡ sets (sets l i xs) j ys
sets-apart [] ys l i j h = refl
sets-apart (x ∷ xs) ys l i j h =
    ap (λ (k : List ℕ). sets k (suc i) xs) (set-sets ys l i j x (omega arith)) ∙ sets-apart xs ys (set l i x) (suc i) j (omega arith)

-- what was laid is there
get_d-sets-first : (vs l : List ℕ) (i b : ℕ) → i < length l → get_or (sets (set l i b) (suc i) vs) i 0 ≡ b
get_d-sets-first vs l i b h = get_d-sets-below vs (set l i b) i (suc i) (omega arith) ∙ get_or-set_same l i b 0 h

pub sets-read : (vs l : List ℕ) (i : ℕ) → i + length vs ≤ length l → take (length vs) (drop i (sets l i vs)) ≡ vs
sets-read [] l i h = refl
sets-read (b ∷ vs) l i h =
    let size = length-sets (set l i b) (suc i) vs in
    let same = length-set l i b in
    let there : i < length (sets (set l i b) (suc i) vs) = omega arith in
    ap (λ (d : List ℕ). take (suc (length vs)) d) (drop-cons (sets (set l i b) (suc i) vs) i 0 there)
    ∙ ap₂ (λ (x : ℕ) (xs : List ℕ). x ∷ xs) (get_d-sets-first vs l i b (omega arith)) (sets-read vs (set l i b) (suc i) (omega arith))

-- `first` was laid with `others` behind it; `others` move, and `head`, which is longer, is laid over `first`
pub reheaded : (before middle moved after first head others : List ℕ) (o from end n : ℕ)
    → o + length (head ++ others) ≤ length before
    → length head ≡ length first + n
    → from ≡ o + length first
    → end ≡ from + length others
    → middle ≡ sets before o (first ++ others)
    → Moved middle moved end n from
    → after ≡ sets moved o head
    → after ≡ sets before o (head ++ others)
reheaded before middle moved after first head others o from end n fits size place last laid moves lays =
    let long = length-append head others in
    let short = length-append first others in
    let kept = length-sets before o first in
    let count : end - from ≡ length others = omega arith in
    let further : from + n ≡ o + length head = omega arith in
    let split : middle ≡ sets (sets before o first) (o + length first) others = laid ∙ sym (sets-append first others before o) in
    let same : take (end - from) (drop from middle) ≡ others =
    ap (λ (k : ℕ). take k (drop from middle)) count
    ∙ ap (λ (k : ℕ). take (length others) (drop k middle)) place
    ∙ ap (λ (l : List ℕ). take (length others) (drop (o + length first) l)) split
    ∙ sets-read others (sets before o first) (o + length first) (omega arith) in
    lays
    ∙ ap (λ (l : List ℕ). sets l o head) (moves.stands ∙ ap (λ (l : List ℕ). sets middle (from + n) l) same ∙ ap (λ (k : ℕ). sets middle k others) further)
    ∙ sets-apart head others middle o (o + length head) (omega arith)
    ∙ sets-append head others middle o
    ∙ ap (λ (l : List ℕ). sets l o (head ++ others)) laid
    ∙ sets_over (first ++ others) (head ++ others) before o (omega arith)

pub moved-turn : (before after : List ℕ) (from end n i : ℕ) → from < i → i ≤ end → end ≤ length before → Moved before after end n i
    → Moved before (set after (i - 1 + n) (get_or after (i - 1) 0)) end n (i - 1)
moved-turn before after from end n i h l k e =
    let back : i - 1 + 1 ≡ i = omega arith in
    moved_more before after end n (i - 1) (omega arith) k (rw back e)

pub moved-end : (before after : List ℕ) (from end n i : ℕ) → from ≤ i → i ≤ from → Moved before after end n i
    → after ≡ sets before (from + n) (take (end - from) (drop from before))
moved-end before after from end n i h k e = let same : i ≡ from = omega arith in rw same at e.stands

-- Bytes copied one by one

pub copied_more : (part bytes : List ℕ) (i : ℕ) {now : List ℕ} → i < length bytes → now ≡ sets part 0 (take i bytes)
    → set now i (get_or bytes i 0) ≡ sets part 0 (take (i + 1) bytes)
copied_more part bytes i {now} h e =
    let place : 0 + length (take i bytes) ≡ i = omega (arith, length-take i bytes) in
    ap (λ (l : List ℕ). set l i (get_or bytes i 0)) e
    ∙ ap (λ (k : ℕ). set (sets part 0 (take i bytes)) k (get_or bytes i 0)) (sym place)
    ∙ sets-append (take i bytes) (get_or bytes i 0 ∷ []) part 0
    ∙ ap (λ (l : List ℕ). sets part 0 l) (sym (take-suc bytes i 0 h))
    ∙ ap (λ (k : ℕ). sets part 0 (take k bytes)) (sym (add-one i))

pub copied_all : (part bytes : List ℕ) (i : ℕ) {now : List ℕ} → length part ≡ length bytes → length bytes ≤ i → now ≡ sets part 0 (take i bytes) → now ≡ bytes
copied_all part bytes i same h e =
    let nothing : drop (0 + length bytes) part ≡ [] = drop_of_length-le part {i = 0 + length bytes} (omega arith) in
    e
    ∙ ap (λ (l : List ℕ). sets part 0 l) (take_all i bytes h)
    ∙ sets-eq bytes part 0 (omega arith)
    ∙ ap (λ (l : List ℕ). bytes ++ l) nothing
    ∙ append-nil bytes

-- A count that is known at last

pub one-digit : (n : ℕ) → n < 10 → 0 + 1 ≡ length (decimal_of n)
one-digit n h = rw (decimal_of-one n h)

pub more-digits : (n t : ℕ) → 10 ≤ n → t + 1 ≡ length (decimal_of (n / 10)) → t + 1 + 1 ≡ length (decimal_of n)
more-digits n t h e = rw (decimal_of-last n h) (simp length-append (omega arith))

pub recount-digit : (now : List ℕ) (at end n : ℕ) → n < 10 → at < length now → Recounted now (set now at (48 + n)) at end n end
recount-digit now at end n h there =
    record {
      len = length-set now at (48 + n);
      lies =
          λ start others l.
          rw (decimal_of-one n h)
          (record {
            len = length-set now at (48 + n) ∙ l.len;
            ends = l.ends;
            stands =
                λ fits.
                ap (λ (x : List ℕ). set x at (48 + n)) (l.stands fits)
                ∙ set-sets others (set start at 48) at (suc at) (48 + n) (omega arith)
                ∙ ap (λ (x : List ℕ). sets x (suc at) others) (Seq.set-set start at 48 (48 + n));
          });
    }

pub recount-digit-over : (now : List ℕ) (at end n : ℕ) → n < 10 → length now ≤ at → Recounted now now at end n end
recount-digit-over now at end n h over =
    record {
      len = refl;
      lies = λ start others l. rw (decimal_of-one n h) (record { len = l.len; ends = l.ends; stands = λ fits. absurd (omega (arith, l.len)) });
    }

module _ (now : List ℕ) (at end n : ℕ) (room : length now ≤ most_place) (more : ℕ) {next : ℕ} (digits : more + 1 ≡ length (decimal_of n)) (ends : next ≡ min (end + more) most_place) where
  ends_there : (start others : List ℕ) → Laid start now at (48 ∷ others) end → next ≡ min (at + length (decimal_of n ++ others)) most_place
  ends_there start others l = let both = length-append (decimal_of n) others in omega (arith, l.ends)

  pub recount-over : length now < end + more → Recounted now now at end n next
  recount-over over =
      record {
        len = refl;
        lies =
            λ start others l.
            record {
              len = l.len;
              ends = ends_there start others l;
              stands = λ fits. absurd (let both = length-append (decimal_of n) others in omega (arith, l.ends, l.len));
            };
      }

  pub recount-never : end ≤ at → Recounted now now at end n next
  recount-never none-laid =
      record {
        len = refl;
        lies =
            λ start others l.
            record {
              len = l.len;
              ends = ends_there start others l;
              stands = λ fits. absurd (let both = length-append (decimal_of n) others in omega (arith, l.ends, l.len));
            };
      }

  pub recount-moved : {moved after : List ℕ} {last : ℕ} → end + more ≤ length now → at < end → moved ≡ sets now (at + 1 + more) (take (end - (at + 1)) (drop (at + 1) now)) → Laid moved after at (decimal_of n) last
      → Recounted now after at end n next
  recount-moved {moved} {after} fits_all some-laid m w =
      let size : length moved ≡ length now = ap length m ∙ length-sets now (at + 1 + more) (take (end - (at + 1)) (drop (at + 1) now)) in
      record {
        len = w.len ∙ size;
        lies =
            λ start others l.
            let both = length-append (decimal_of n) others in
            let kept = l.len in
            record {
              len = w.len ∙ size ∙ l.len;
              ends = ends_there start others l;
              stands =
                  λ fits.
                  let last : end ≡ at + 1 + length others = omega (arith, l.ends) in
                  reheaded start now moved after (48 ∷ []) (decimal_of n) others at (at + 1) end more fits (omega arith) refl last (l.stands (omega arith)) (record { stands = m })
                  (w.stands (omega arith));
            };
      }
