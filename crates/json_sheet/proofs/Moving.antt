-- Laws of blocks of bytes that move in a buffer.
use Prim.Native.Nat.{ℕ, suc, ◌+◌, ◌-◌, ◌<◌, ◌≤◌}
use mathlib.Core.List.{List, [], ◌∷◌, ◌++◌, append_assoc, append-nil}
use mathlib.Core.Path.{◌≡◌, refl, sym, ap, ap₂, ◌∙◌}
use native.Mathlib.Omega.{arith}
use lib.ListN.{length, take, drop, set, length-append, length-take, length-drop}
use lib.Seq.{sets, sets-eq, set_comm, take-append_seam, drop-append_seam}
use Rattle.buffer.specs.Laid.{Laid, most_place}
use Rattle.buffer.specs.WroteLaws.{sets-append}
use Rattle.json_sheet.specs.Blocks.{Swapped}

-- Two blocks change places

module _ (before after : List ℕ) (from middle end : ℕ) (room : length before ≤ most_place) (len : length after ≡ length before) where
  -- what is asked where both fit
  swapped-if : ((start head xs ys : List ℕ) (o : ℕ)
      → o + length (head ++ (xs ++ ys)) ≤ length start → length before ≡ length start
      → from ≡ o + length head → middle ≡ from + length xs → end ≡ middle + length ys
      → before ≡ sets start o (head ++ (xs ++ ys)) → after ≡ sets start o (head ++ (ys ++ xs)))
      → Swapped before after from middle end
  swapped-if f =
      record {
        len = len;
        lies =
            λ start head xs ys o l places.
            let one = length-append xs ys in
            let two = length-append ys xs in
            let three = length-append head (xs ++ ys) in
            let four = length-append head (ys ++ xs) in
            record {
              len = len ∙ l.len;
              ends = omega (arith, l.ends);
              stands =
                  λ fits.
                  let there : o + length (head ++ (xs ++ ys)) ≤ length start = omega arith in
                  let p = places there in
                  f start head xs ys o there l.len p.0 (omega (arith, p.0, p.1)) (omega (arith, l.ends, l.len, p.1)) (l.stands there);
            };
      }

empty_block : (xs : List ℕ) → length xs ≤ 0 → xs ≡ []
empty_block [] h = refl
empty_block (x ∷ xs) h = absurd (omega arith)

same-order : (head xs ys : List ℕ) → xs ≡ [] → head ++ (xs ++ ys) ≡ head ++ (ys ++ xs)
same-order head xs ys e = rw (e, append-nil ys)

module _ (l : List ℕ) (from middle end : ℕ) (room : length l ≤ most_place) where
  pub swapped-none : middle ≤ from → Swapped l l from middle end
  swapped-none h =
      swapped-if l l from middle end room refl
      (λ start head xs ys o fits same p q r e. e ∙ ap (λ (x : List ℕ). sets start o x) (same-order head xs ys (empty_block xs (omega arith))))

  pub swapped-all : end ≤ middle → Swapped l l from middle end
  swapped-all h =
      swapped-if l l from middle end room refl
      (λ start head xs ys o fits same p q r e. e ∙ ap (λ (x : List ℕ). sets start o x) (sym (same-order head ys xs (empty_block ys (omega arith)))))

  pub swapped-over : length l < end → Swapped l l from middle end
  swapped-over h = swapped-if l l from middle end room refl (λ start head xs ys o fits same p q r e. absurd (omega (arith, length-append xs ys, length-append head (xs ++ ys))))

pub swapped-rotated : (before part : List ℕ) (from middle end : ℕ) → length before ≤ most_place → from ≤ middle → middle ≤ end → end ≤ length before
    → part ≡ drop (middle - from) (take (end - from) (drop from before)) ++ take (middle - from) (take (end - from) (drop from before))
    → Swapped before (take from before ++ (part ++ drop (end - from) (drop from before))) from middle end
swapped-rotated before part from middle end room h k fit turned =
    swapped-if before (take from before ++ (part ++ drop (end - from) (drop from before))) from middle end room size
    (λ start head xs ys o fits same p q r e.
    let back = drop (o + length (head ++ (xs ++ ys))) start in
    let front = take o start ++ head in
    let begin : length front ≡ from = omega (arith, length-append (take o start) head, length-take o start, length-append head (xs ++ ys)) in
    let both : length (xs ++ ys) ≡ end - from = omega (arith, length-append xs ys) in
    let first : length xs ≡ middle - from = omega arith in
    let total : length (head ++ (xs ++ ys)) ≡ length (head ++ (ys ++ xs)) =
    omega (arith, length-append xs ys, length-append ys xs, length-append head (xs ++ ys), length-append head (ys ++ xs)) in
    let here : before ≡ front ++ ((xs ++ ys) ++ back) = e ∙ sets-eq (head ++ (xs ++ ys)) start o fits ∙ apart start head (xs ++ ys) back o in
    let taken : take from before ≡ front = rw (here, ← begin) (take-append_seam front ((xs ++ ys) ++ back)) in
    let rest : drop from before ≡ (xs ++ ys) ++ back = rw (here, ← begin) (drop-append_seam front ((xs ++ ys) ++ back)) in
    let inner : take (end - from) (drop from before) ≡ xs ++ ys = rw (rest, ← both) (take-append_seam (xs ++ ys) back) in
    let behind : drop (end - from) (drop from before) ≡ back = rw (rest, ← both) (drop-append_seam (xs ++ ys) back) in
    let moved : part ≡ ys ++ xs = turned ∙ rw (inner, ← first) (ap₂ (λ (u v : List ℕ). u ++ v) (drop-append_seam xs ys) (take-append_seam xs ys)) in
    rw (taken, behind, moved)
    (sym
    (sets-eq (head ++ (ys ++ xs)) start o (omega arith)
    ∙ ap (λ (n : ℕ). (take o start ++ (head ++ (ys ++ xs))) ++ drop (o + n) start) (sym total)
    ∙ apart start head (ys ++ xs) back o)))
  where
    size : length (take from before ++ (part ++ drop (end - from) (drop from before))) ≡ length before
    size =
        let all = take (end - from) (drop from before) in
        let one = length-append (drop (middle - from) all) (take (middle - from) all) in
        let same : length part ≡ end - from =
        ap length turned ∙ omega (arith, one, length-drop (middle - from) all, length-take (middle - from) all, length-take (end - from) (drop from before), length-drop from before) in
        omega (arith, same, length-append (take from before) (part ++ drop (end - from) (drop from before)), length-append part (drop (end - from) (drop from before)), length-take from before, length-drop (end - from) (drop from before), length-drop from before)

    apart : (start head bytes back : List ℕ) (o : ℕ) → (take o start ++ (head ++ bytes)) ++ back ≡ (take o start ++ head) ++ (bytes ++ back)
    apart start head bytes back o = simp append_assoc

-- A head that is laid in front of other bytes

set_past : (vs l : List ℕ) (i j a : ℕ) → i < j → set (sets l j vs) i a ≡ sets (set l i a) j vs
set_past [] l i j a h = refl
set_past (b ∷ vs) l i j a h = set_past vs (set l j b) i (suc j) a (omega arith) ∙ ap (λ (k : List ℕ). sets k (suc j) vs) (set_comm l j i b a (λ e. absurd (omega arith)))

sets-past : (xs ys l : List ℕ) (i j : ℕ) → i + length xs ≤ j → sets (sets l j ys) i xs ≡ sets (sets l i xs) j ys
sets-past [] ys l i j h = refl
sets-past (x ∷ xs) ys l i j h = ap (λ (k : List ℕ). sets k (suc i) xs) (set_past ys l i j x (omega arith)) ∙ sets-past xs ys (set l i x) (suc i) j (omega arith)

pub laid-front : {before middle after : List ℕ} {start at end : ℕ} (head bytes : List ℕ) → length before ≤ most_place → start + length head ≡ at
    → Laid before middle at bytes end → Laid middle after start head at → Laid before after start (head ++ bytes) end
laid-front {before} {middle} {after} {start} {at} {end} head bytes room e l m =
    let both = length-append head bytes in
    record {
      len = m.len ∙ l.len;
      ends = omega (arith, l.ends);
      stands =
          λ fits.
          m.stands (omega (arith, l.len))
          ∙ ap (λ (x : List ℕ). sets x start head) (l.stands (omega arith))
          ∙ sets-past head bytes before start at (omega arith)
          ∙ ap (λ (n : ℕ). sets (sets before start head) n bytes) (sym e)
          ∙ sets-append head bytes before start;
    }
