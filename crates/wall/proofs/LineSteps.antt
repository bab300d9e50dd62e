-- Each piece of a line as the code writes it.
use Prim.Native.Nat.{ℕ, suc, ◌+◌, ◌-◌, ◌/◌, ◌%◌, ◌≤◌, ◌<◌}
use native.Mathlib.Omega.{arith}
use native.Mathlib.Numerals.{add-one}
use mathlib.Core.Bool.{and-false}
use mathlib.Core.List.{List, [], ◌∷◌, ◌++◌, map, map-append, append_assoc, append-nil}
use mathlib.Core.Path.{◌≡◌, ◌∙◌}
use lib.ListN.{length, take, get_or, length-append, length-map, replicate-append-replicate, length-take}
use lib.Seq.{take-suc, take_all}
use borrow.Author.Tests.{le-leb, lt-leb}
use Rattle.text.specs.Utf8.{between}
use Rattle.text.specs.Ascii.{ascii}
use Rattle.buffer.specs.Wrote.{Wrote}
use Rattle.buffer.specs.WroteLaws.{wrote_nothing, wrote_then}
use Rattle.wall.specs.Pages.{width, blanks, column, in_columns, shown, cut, line_of, line, blank_line, heading, foot}
use Rattle.wall.specs.LineLaws.{column-none, column-one, column-last, column-size, cut-size, front-size}
use Rattle.wall.specs.Writing.{field, line_end, path_end}

-- Blanks and columns.

pub no-blanks : (l : List ℕ) (at : ℕ) → Wrote l l at (blanks 0) at
unfolding blanks
no-blanks l at = wrote_nothing l at

pub more-blanks : (i : ℕ) {before middle after : List ℕ} {at m next : ℕ}
    → Wrote before middle at (blanks i) m
    → Wrote middle after m (32 ∷ []) next
    → Wrote before after at (blanks (i + 1)) next
unfolding blanks
more-blanks i u w = rw (← (replicate-append-replicate {A = ℕ} i 1 32)) (wrote_then u w)

pub all-blanks : (i count : ℕ) {before after : List ℕ} {at next : ℕ} → i ≤ count → count ≤ i
    → Wrote before after at (blanks i) next
    → Wrote before after at (blanks count) next
all-blanks i count h k w = let same : i ≡ count = omega arith in rw same at w

pub no-column : (columns n : ℕ) (l : List ℕ) (at : ℕ) → columns ≡ 0 → Wrote l l at (column columns n) at
no-column columns n l at e = rw (e, column-none n) (wrote_nothing l at)

pub one-digit : (columns n : ℕ) {before middle after : List ℕ} {at m next : ℕ} → (columns ≡ 0 → ⊥) → n < 10
    → Wrote before middle at (blanks (columns - 1)) m
    → Wrote middle after m ((48 + n) ∷ []) next
    → Wrote before after at (column columns n) next
one-digit columns n some small u w =
    let same : columns ≡ suc (columns - 1) = omega arith in
    rw (same, column-one (columns - 1) n small) (wrote_then u w)

pub last-digit : (columns n : ℕ) {before middle after : List ℕ} {at m next : ℕ} → (columns ≡ 0 → ⊥) → 10 ≤ n
    → Wrote before middle at (column (columns - 1) (n / 10)) m
    → Wrote middle after m ((48 + n % 10) ∷ []) next
    → Wrote before after at (column columns n) next
last-digit columns n some more u w =
    let same : columns ≡ suc (columns - 1) = omega arith in
    rw (same, column-last (columns - 1) n more) (wrote_then u w)

pub field-written : (columns n : ℕ) {before middle after : List ℕ} {at m next : ℕ}
    → Wrote before middle at (column columns n) m
    → Wrote middle after m (32 ∷ []) next
    → Wrote before after at (field columns n) next
unfolding field ascii
field-written columns n u w = wrote_then u w

pub line-ended : (missing : ℕ) {before middle after : List ℕ} {at m next : ℕ}
    → Wrote before middle at (blanks missing) m
    → Wrote middle after m (10 ∷ []) next
    → Wrote before after at (line_end missing) next
unfolding line_end ascii
line-ended missing u w = wrote_then u w

-- The path.

pub shown-below : (b : ℕ) → b < 32 → 63 ≡ shown b
unfolding shown between
shown-below b low = rw (lt-leb 32 b low)

pub shown-above : (b : ℕ) → 126 < b → 63 ≡ shown b
unfolding shown between
shown-above b high = rw (lt-leb b 126 high, and-false)

pub shown-same : (b : ℕ) → 32 ≤ b → b ≤ 126 → b ≡ shown b
unfolding shown between
shown-same b low high = rw (le-leb 32 b low, le-leb b 126 high)

pub more-shown : (bytes : List ℕ) (i : ℕ) {before middle after : List ℕ} {at m next : ℕ} {b : ℕ} → i < length bytes
    → b ≡ shown (get_or bytes i 0)
    → Wrote before middle at (map shown (take i bytes)) m
    → Wrote middle after m (b ∷ []) next
    → Wrote before after at (map shown (take (i + 1) bytes)) next
more-shown bytes i less e u w =
    let one = rw e at w in
    rw (add-one, take-suc bytes i 0 less, map-append shown (take i bytes) (get_or bytes i 0 ∷ [])) (wrote_then u one)

pub all_shown : (bytes : List ℕ) (i : ℕ) {before after : List ℕ} {at next : ℕ} → length bytes ≤ i
    → Wrote before after at (map shown (take i bytes)) next
    → Wrote before after at (map shown bytes) next
all_shown bytes i end w = rw (take_all i bytes end) at w

pub path-cut : (path : List ℕ) {before middle later after : List ℕ} {at m n next : ℕ} → 55 < length path
    → Wrote before middle at (map shown (take 54 path)) m
    → Wrote middle later m (62 ∷ []) n
    → Wrote later after n (line_end 0) next
    → Wrote before after at (path_end path) next
unfolding path_end cut ascii shown between
path-cut path more u v w =
    let size : length (take 54 path) ≡ 54 = length-take 54 path ∙ omega arith in
    let full : 55 - length (take 54 path ++ (62 ∷ [])) ≡ 0 = rw (length-append (take 54 path) (62 ∷ [])) (omega arith) in
    rw (lt-leb (length path) 55 more, full, map-append shown (take 54 path) (62 ∷ [])) (wrote_then (wrote_then u v) w)

pub path-whole : (path : List ℕ) {before middle after : List ℕ} {at m next : ℕ} → length path ≤ 55
    → Wrote before middle at (map shown path) m
    → Wrote middle after m (line_end (55 - length path)) next
    → Wrote before after at (path_end path) next
unfolding path_end cut
path-whole path fits u w = rw (le-leb (length path) 55 fits) (wrote_then u w)

-- Whole lines.

-- the columns that a front leaves are the text's and the blanks'
line-of : (front text : List ℕ) (missing : ℕ) → length front + length text + missing ≡ width → front ++ (text ++ line_end missing) ≡ line_of (front ++ text)
unfolding line_of line_end
line-of front text missing e =
    let same : missing ≡ width - length (front ++ text) = rw (length-append front text) (omega arith) in
    rw (same, append_assoc)

in_a_row : (a b c d e x : List ℕ)
    → ((((a ++ x) ++ (b ++ x)) ++ (c ++ x)) ++ (d ++ x)) ++ (e ++ x)
    ≡ a ++ (x ++ (b ++ (x ++ (c ++ (x ++ (d ++ (x ++ (e ++ (x ++ [])))))))))
in_a_row a b c d e x = simp (append_assoc, append-nil)

five-fields : (serial number family place passed : ℕ)
    → (((field 5 serial ++ field 3 number) ++ field 2 family) ++ field 5 place) ++ field 5 passed
    ≡ in_columns ((5, serial) ∷ (3, number) ∷ (2, family) ∷ (5, place) ∷ (5, passed) ∷ [])
unfolding field in_columns
five-fields serial number family place passed =
    in_a_row (column 5 serial) (column 3 number) (column 2 family) (column 5 place) (column 5 passed) (ascii " ")

line-parts : (serial number family place passed : ℕ) (path : List ℕ)
    → ((((field 5 serial ++ field 3 number) ++ field 2 family) ++ field 5 place) ++ field 5 passed) ++ path_end path
    ≡ line serial number family place passed path
unfolding line path_end
line-parts serial number family place passed path =
    rw (five-fields serial number family place passed)
    (line-of (in_columns ((5, serial) ∷ (3, number) ∷ (2, family) ∷ (5, place) ∷ (5, passed) ∷ [])) (map shown (cut 55 path)) (55 - length (cut 55 path))
    (omega (arith, front-size serial number family place passed, length-map (cut 55 path) shown, cut-size 55 path (omega arith))))

pub line-written : (serial number family place passed : ℕ) (path : List ℕ) {text l₀ l₁ l₂ l₃ l₄ l₅ l₆ : List ℕ} {i₀ i₁ i₂ i₃ i₄ i₅ i₆ : ℕ}
    → Wrote l₀ l₁ i₀ (field 5 serial) i₁
    → Wrote l₁ l₂ i₁ (field 3 number) i₂
    → Wrote l₂ l₃ i₂ (field 2 family) i₃
    → Wrote l₃ l₄ i₃ (field 5 place) i₄
    → Wrote l₄ l₅ i₄ (field 5 passed) i₅
    → text ≡ path
    → Wrote l₅ l₆ i₅ (path_end text) i₆
    → Wrote l₀ l₆ i₀ (line serial number family place passed path) i₆
line-written serial number family place passed path a b c d e same f =
    let last = rw same at f in
    rw (← (line-parts serial number family place passed path)) (wrote_then (wrote_then (wrote_then (wrote_then (wrote_then a b) c) d) e) last)

pub blank-written : {before after : List ℕ} {at next : ℕ} → Wrote before after at (line_end 80) next → Wrote before after at blank_line next
unfolding blank_line line_of line_end
blank-written w = w

-- a word, a number in its columns, blanks
marked : (word : List ℕ) (columns n missing : ℕ) → length word + columns + missing ≡ width
    → (word ++ column columns n) ++ line_end missing ≡ line_of (word ++ column columns n)
marked word columns n missing e =
    append_assoc word (column columns n) (line_end missing)
    ∙ line-of word (column columns n) missing (omega (arith, column-size columns n))

pub heading-written : (number : ℕ) {l₀ l₁ l₂ l₃ : List ℕ} {i₀ i₁ i₂ i₃ : ℕ}
    → Wrote l₀ l₁ i₀ (80 ∷ 65 ∷ 71 ∷ 69 ∷ 32 ∷ []) i₁
    → Wrote l₁ l₂ i₁ (column 5 number) i₂
    → Wrote l₂ l₃ i₂ (line_end 70) i₃
    → Wrote l₀ l₃ i₀ (heading number) i₃
unfolding heading ascii
heading-written number a b c = rw (← (marked (ascii "PAGE ") 5 number 70 (omega arith))) (wrote_then (wrote_then a b) c)

pub foot-written : (count : ℕ) {l₀ l₁ l₂ l₃ : List ℕ} {i₀ i₁ i₂ i₃ : ℕ}
    → Wrote l₀ l₁ i₀ (65 ∷ 67 ∷ 67 ∷ 69 ∷ 80 ∷ 84 ∷ 69 ∷ 68 ∷ 32 ∷ []) i₁
    → Wrote l₁ l₂ i₁ (column 2 count) i₂
    → Wrote l₂ l₃ i₂ (line_end 69) i₃
    → Wrote l₀ l₃ i₀ (foot count) i₃
unfolding foot ascii
foot-written count a b c = rw (← (marked (ascii "ACCEPTED ") 2 count 69 (omega arith))) (wrote_then (wrote_then a b) c)
