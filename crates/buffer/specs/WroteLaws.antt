-- Writes one after the other, and what is at the start after one.
use Rattle.std.specs.Prelude.{ℕ, suc, ◌+◌, ◌-◌, ◌≤◌, min, List, [], ◌∷◌, ◌++◌, ◌≡◌, refl, length, take, drop, set, leb}
use Rattle.std.proofs.Common.{add-zero, add-suc, suc-add, arith, ap, sym, ◌∙◌, length-append, take_at, leb-true, leb-false}
use Rattle.std.proofs.lemmas.List.Edits.{sets, sets-eq}
use Rattle.std.proofs.Math.Seq.{length-sets, set_out}
use Rattle.text.specs.CaseLaws.{by-test}
use Rattle.buffer.specs.Wrote.{Wrote}

pub wrote_nothing : (l : List ℕ) (at : ℕ) → Wrote l l at [] at
wrote_nothing l at = record { stands = refl; ends = omega arith }

pub wrote_kept : {before after : List ℕ} {at next : ℕ} {bytes : List ℕ} → Wrote before after at bytes next → length after ≡ length before
wrote_kept {before} {after} {at} {next} {bytes} w = ap length w.stands ∙ length-sets before at bytes

-- Two writes are one.

sets-past : (bytes l : List ℕ) (i : ℕ) → length l ≤ i → sets l i bytes ≡ l
sets-past [] l i past = refl
sets-past (b ∷ bytes) l i past =
    ap (λ (k : List ℕ). sets k (suc i) bytes) (set_out l i b past) ∙ sets-past bytes l (suc i) (omega arith)

-- after what did not fit nothing is written, wherever that is
sets_behind : (bytes l : List ℕ) (i n : ℕ) → sets l (i + min n (length l - i)) bytes ≡ sets l (i + n) bytes
sets_behind bytes l i n =
    by-test (leb (i + n) (length l))
    (λ e.
    let fits = leb-true (i + n) (length l) e in
    let same : i + min n (length l - i) ≡ i + n = omega arith in
    ap (λ (k : ℕ). sets l k bytes) same)
    (λ e.
    let full = leb-false (i + n) (length l) e in
    sets-past bytes l (i + min n (length l - i)) (omega arith) ∙ sym (sets-past bytes l (i + n) (omega arith)))

pub sets-append : (xs ys l : List ℕ) (i : ℕ) → sets (sets l i xs) (i + length xs) ys ≡ sets l i (xs ++ ys)
sets-append [] ys l i = ap (λ (k : ℕ). sets l k ys) (add-zero i)
sets-append (a ∷ xs) ys l i =
    ap (λ (k : ℕ). sets (sets (set l i a) (suc i) xs) k ys) (add-suc i (length xs) ∙ sym (suc-add i (length xs)))
    ∙ sets-append xs ys (set l i a) (suc i)

ends-append : (at x y l m next : ℕ) → m ≡ at + min x (l - at) → next ≡ m + min y (l - m) → next ≡ at + min (x + y) (l - at)
ends-append at x y l m next e f = omega arith

pub wrote_then : {before middle after : List ℕ} {at m next : ℕ} {xs ys : List ℕ}
    → Wrote before middle at xs m
    → Wrote middle after m ys next
    → Wrote before after at (xs ++ ys) next
wrote_then {before} {middle} {after} {at} {m} {next} {xs} {ys} u w =
    let kept : length middle ≡ length before = wrote_kept u in
    let room : length (sets before at xs) ≡ length before = length-sets before at xs in
    let place : m ≡ at + min (length xs) (length (sets before at xs) - at) = omega (arith, u.ends) in
    record {
      stands =
          w.stands
          ∙ ap (λ (l : List ℕ). sets l m ys) u.stands
          ∙ ap (λ (k : ℕ). sets (sets before at xs) k ys) place
          ∙ sets_behind ys (sets before at xs) at (length xs)
          ∙ sets-append xs ys before at;
      ends = rw (length-append xs ys) (ends-append at (length xs) (length ys) (length before) m next u.ends (rw kept at w.ends));
    }

-- At the start

pub sets-front : (bytes before : List ℕ) → length bytes ≤ length before → take (length bytes) (sets before 0 bytes) ≡ bytes
sets-front bytes before fits =
    ap (λ (l : List ℕ). take (length bytes) l) (sets-eq bytes before 0 (omega arith))
    ∙ take_at bytes (drop (0 + length bytes) before) (length bytes) refl

-- what is written at the start is what is there up to `next`
pub wrote-front : {before after : List ℕ} {next : ℕ} {bytes : List ℕ} → Wrote before after 0 bytes next → length bytes ≤ length before
    → take next after ≡ bytes
wrote-front {before} {after} {next} {bytes} w fits =
    let all : next ≡ length bytes = omega (arith, w.ends) in
    rw (all, w.stands) (sets-front bytes before fits)
