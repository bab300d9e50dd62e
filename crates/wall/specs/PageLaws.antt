-- What the pages promise: every line has 81 bytes and every page 60 lines, the k-th result line is the k-th sheet's, and the feet add up to the accepted.
use Prim.Native.Nat.{ℕ, zero, suc, ◌+◌, ◌*◌, ◌-◌, ◌/◌, ◌%◌, ◌≤◌, ◌<◌}
use native.Mathlib.Omega.{arith}
use mathlib.Core.List.{List, [], ◌∷◌, ◌++◌, flatten}
use Rattle.std.specs.Prelude.{◌≡◌, take, replicate}
use Rattle.std.proofs.Math.Path.{refl, ap}
use Rattle.std.proofs.Common.{sym, ◌∙◌, length-append, take-append-drop, take_at, get_or-take, drop-drop}
use Rattle.std.proofs.Math.ListN.{length, drop, get_or, length-take, length-drop, get_or-append}
use Rattle.std.proofs.lemmas.List.{length-replicate}
use Rattle.std.proofs.Math.Seq.{drop-append-add, get_or-append-add, get_or-drop}
use Rattle.validation.specs.Result.{Answer}
use Rattle.rule_book.specs.Tally.{count_of, sum, tally_of}
use Rattle.wall.specs.Pages.{per_page, page_bytes, result_line, results, blank_line, heading, foot, page, pages_from, page_count, lines_of, pages_of, AllLines, own_counts}
use Rattle.wall.specs.LineLaws.{result-size, blank-size, heading-size, foot-size}

-- Lines of 81 bytes, one after the other.

all_append : (xs ys : List (List ℕ)) → AllLines xs → AllLines ys → AllLines (xs ++ ys)
all_append [] ys h k = k
all_append (x ∷ xs) ys h k = (h.0, all_append xs ys h.1 k)

pub flat-size : (ls : List (List ℕ)) → AllLines ls → length (flatten ls) ≡ 81 * length ls
unfolding flatten
flat-size [] h = refl
flat-size (l ∷ ls) h = omega (arith, length-append l (flatten ls), h.0, flat-size ls h.1)

pub flat_line : (ls : List (List ℕ)) (k : ℕ) → AllLines ls → k < length ls → take 81 (drop (81 * k) (flatten ls)) ≡ get_or ls k []
unfolding flatten
flat_line [] k h less = absurd (omega arith)
flat_line (l ∷ ls) zero h less = take_at l (flatten ls) 81 h.0
flat_line (l ∷ ls) (suc k) h less =
    let place : 81 * suc k ≡ length l + 81 * k = omega (arith, h.0) in
    rw (place, drop-append-add l (flatten ls) (81 * k)) (flat_line ls k h.1 (omega arith))

-- One page.

results-count : (serial : ℕ) (answers : List Answer) → length (results serial answers) ≡ length answers
unfolding results
results-count serial [] = refl
results-count serial (a ∷ others) = omega (arith, results-count (serial + 1) others)

results-lines : (serial : ℕ) (answers : List Answer) → AllLines (results serial answers)
unfolding results
results-lines serial [] = tt
results-lines serial (a ∷ others) = (result-size serial a, results-lines (serial + 1) others)

spare-lines : (n : ℕ) → AllLines (replicate n blank_line)
spare-lines zero = tt
spare-lines (suc n) = (blank-size, spare-lines n)

result-at : (serial k : ℕ) (answers : List Answer) (d : Answer) → k < length answers → get_or (results serial answers) k [] ≡ result_line (serial + k) (get_or answers k d)
unfolding results
result-at serial k [] d less = absurd (omega arith)
result-at serial zero (a ∷ others) d less = ap (λ (n : ℕ). result_line n a) (omega arith)
result-at serial (suc k) (a ∷ others) d less =
    result-at (serial + 1) k others d (omega arith) ∙ ap (λ (n : ℕ). result_line n (get_or others k d)) (omega arith)

spare-at : (n k : ℕ) → k < n → get_or (replicate n blank_line) k [] ≡ blank_line
spare-at zero k less = absurd (omega arith)
spare-at (suc n) zero less = refl
spare-at (suc n) (suc k) less = spare-at n k (omega arith)

module _ (before : ℕ) (answers : List Answer) (fits : length answers ≤ per_page) where
  abbrev serial : ℕ
  serial = per_page * before + 1

  abbrev last : List (List ℕ)
  last = foot (count_of 0 answers) ∷ []

  abbrev spare : List (List ℕ)
  spare = replicate (per_page - length answers) blank_line

  spare-count : length spare ≡ per_page - length answers
  spare-count = length-replicate (per_page - length answers) blank_line

  body-count : length (results serial answers ++ (spare ++ last)) ≡ 59
  body-count =
      omega (arith, length-append (results serial answers) (spare ++ last), length-append spare last, results-count serial answers, spare-count)

  page-count : length (page before answers) ≡ 60
  unfolding page
  page-count = omega (arith, body-count)

  page-lines : AllLines (page before answers)
  unfolding page
  page-lines =
      (heading-size (before + 1), all_append (results serial answers) (spare ++ last) (results-lines serial answers) (all_append spare last (spare-lines (per_page - length answers)) (foot-size (count_of 0 answers), tt)))

  page-heading : get_or (page before answers) 0 [] ≡ heading (before + 1)
  unfolding page
  page-heading = refl

  page-result : (k : ℕ) (d : Answer) → k < length answers → get_or (page before answers) (k + 1) [] ≡ result_line (serial + k) (get_or answers k d)
  unfolding page
  page-result k d less =
      let place : k + 1 ≡ suc k = omega arith in
      rw place
      (get_or-append (results serial answers) (spare ++ last) [] k (omega (arith, results-count serial answers))
      ∙ result-at serial k answers d less)

  page-spare : (k : ℕ) → length answers ≤ k → k < per_page → get_or (page before answers) (k + 1) [] ≡ blank_line
  unfolding page
  page-spare k more less =
      let place : k + 1 ≡ suc (length (results serial answers) + (k - length answers)) = omega (arith, results-count serial answers) in
      rw place
      (get_or-append-add (results serial answers) (spare ++ last) (k - length answers) []
      ∙ get_or-append spare last [] (k - length answers) (omega (arith, spare-count))
      ∙ spare-at (per_page - length answers) (k - length answers) (omega arith))

  page-foot : get_or (page before answers) 59 [] ≡ foot (count_of 0 answers)
  unfolding page
  page-foot =
      let place : 58 ≡ length (results serial answers) + (length spare + 0) = omega (arith, results-count serial answers, spare-count) in
      ap (λ (k : ℕ). get_or (results serial answers ++ (spare ++ last)) k []) place
      ∙ get_or-append-add (results serial answers) (spare ++ last) (length spare + 0) []
      ∙ get_or-append-add spare last 0 []

-- All pages.

first_fits : (answers : List Answer) → length (take per_page answers) ≤ per_page
first_fits answers = omega (arith, length-take per_page answers)

pages-count : (before count : ℕ) (answers : List Answer) → length (pages_from before count answers) ≡ 60 * count
unfolding pages_from
pages-count before zero answers = refl
pages-count before (suc count) answers =
    omega (
      arith,
      length-append (page before (take per_page answers)) (pages_from (before + 1) count (drop per_page answers)),
      page-count before (take per_page answers) (first_fits answers),
      pages-count (before + 1) count (drop per_page answers),
    )

pages-lines : (before count : ℕ) (answers : List Answer) → AllLines (pages_from before count answers)
unfolding pages_from
pages-lines before zero answers = tt
pages-lines before (suc count) answers =
    all_append (page before (take per_page answers)) (pages_from (before + 1) count (drop per_page answers)) (page-lines before (take per_page answers) (first_fits answers))
    (pages-lines (before + 1) count (drop per_page answers))

-- line j of page i
pages-at : (before count i j : ℕ) (answers : List Answer) → i < count → j < 60
    → get_or (pages_from before count answers) (60 * i + j) [] ≡ get_or (page (before + i) (take per_page (drop (per_page * i) answers))) j []
unfolding pages_from
pages-at before zero i j answers less low = absurd (omega arith)
pages-at before (suc count) zero j answers less low =
    let size = page-count before (take per_page answers) (first_fits answers) in
    let place : 60 * 0 + j ≡ j = omega arith in
    let same : before + 0 ≡ before = omega arith in
    rw (place, same) (get_or-append (page before (take per_page answers)) (pages_from (before + 1) count (drop per_page answers)) [] j (omega (arith, size)))
pages-at before (suc count) (suc i) j answers less low =
    let size = page-count before (take per_page answers) (first_fits answers) in
    let place : 60 * suc i + j ≡ length (page before (take per_page answers)) + (60 * i + j) = omega (arith, size) in
    let same : before + suc i ≡ before + 1 + i = omega arith in
    let behind : per_page * suc i ≡ per_page + per_page * i = omega arith in
    rw (place, same, behind)
    (get_or-append-add (page before (take per_page answers)) (pages_from (before + 1) count (drop per_page answers)) (60 * i + j) []
    ∙ pages-at (before + 1) count i j (drop per_page answers) (omega arith) low
    ∙ ap (λ (rest : List Answer). get_or (page (before + 1 + i) (take per_page rest)) j []) (drop-drop (per_page * i) per_page answers))

own_at : (count i : ℕ) (answers : List Answer) → i < count → get_or (own_counts count answers) i 0 ≡ count_of 0 (take per_page (drop (per_page * i) answers))
unfolding own_counts
own_at zero i answers less = absurd (omega arith)
own_at (suc count) zero answers less = refl
own_at (suc count) (suc i) answers less =
    let behind : per_page * suc i ≡ per_page + per_page * i = omega arith in
    rw behind
    (own_at count i (drop per_page answers) (omega arith)
    ∙ ap (λ (rest : List Answer). count_of 0 (take per_page rest)) (drop-drop (per_page * i) per_page answers))

count-append : (n : ℕ) (xs ys : List Answer) → count_of n (xs ++ ys) ≡ count_of n xs + count_of n ys
unfolding count_of
count-append n [] ys = omega arith
count-append n (a ∷ xs) ys = omega (arith, count-append n xs ys)

own-sum : (count : ℕ) (answers : List Answer) → length answers ≤ per_page * count → sum (own_counts count answers) ≡ count_of 0 answers
unfolding own_counts sum count_of
own-sum zero [] fits = refl
own-sum zero (a ∷ answers) fits = absurd (omega arith)
own-sum (suc count) answers fits =
    let whole = ap (count_of 0) (take-append-drop per_page answers) in
    omega (arith, whole, count-append 0 (take per_page answers) (drop per_page answers), own-sum count (drop per_page answers) (omega (arith, length-drop per_page answers)))

-- The promises, on the bytes of the pages.

module _ (answers : List Answer) where
  abbrev pub count : ℕ
  count = page_count (length answers)

  count_fits : length answers ≤ per_page * count
  unfolding page_count
  count_fits = omega arith

  pub every-line : AllLines (lines_of answers)
  unfolding lines_of
  every-line = pages-lines 0 count answers

  pub line-count : length (lines_of answers) ≡ 60 * count
  unfolding lines_of
  line-count = pages-count 0 count answers

  pub pages-size : length (pages_of answers) ≡ page_bytes * count
  unfolding pages_of
  pages-size = omega (arith, flat-size (lines_of answers) every-line, line-count)

  -- the bytes of line j on page i, both from 0 on
  unfoldable pub line_at : (i j : ℕ) → List ℕ
  line_at i j = take 81 (drop (81 * (60 * i + j)) (pages_of answers))

  line-at : (i j : ℕ) → i < count → j < 60 → line_at i j ≡ get_or (page i (take per_page (drop (per_page * i) answers))) j []
  unfolding line_at pages_of lines_of
  line-at i j less low =
      let same : 0 + i ≡ i = omega arith in
      flat_line (lines_of answers) (60 * i + j) every-line (omega (arith, line-count))
      ∙ pages-at 0 count i j answers less low
      ∙ ap (λ (k : ℕ). get_or (page k (take per_page (drop (per_page * i) answers))) j []) same

  -- each page begins with its heading
  pub heading-line : (i : ℕ) → i < count → line_at i 0 ≡ heading (i + 1)
  heading-line i less = line-at i 0 less (omega arith) ∙ page-heading i (take per_page (drop (per_page * i) answers)) (first_fits (drop (per_page * i) answers))

  -- the k-th result line is the k-th sheet's, with its serial
  pub result-line : (k : ℕ) (d : Answer) → k < length answers → line_at (k / 58) (k % 58 + 1) ≡ result_line (k + 1) (get_or answers k d)
  unfolding page_count
  result-line k d less =
      let there = drop (per_page * (k / 58)) answers in
      let size = length-drop (per_page * (k / 58)) answers in
      let on-page : k % 58 < length (take per_page there) = omega (arith, length-take per_page there, size) in
      let serial : per_page * (k / 58) + 1 + k % 58 ≡ k + 1 = omega arith in
      let place : per_page * (k / 58) + k % 58 ≡ k = omega arith in
      line-at (k / 58) (k % 58 + 1) (omega arith) (omega arith)
      ∙ page-result (k / 58) (take per_page there) (first_fits there) (k % 58) d on-page
      ∙ ap (λ (n : ℕ). result_line n (get_or (take per_page there) (k % 58) d)) serial
      ∙ ap (λ (a : Answer). result_line (k + 1) a) (get_or-take per_page there (k % 58) d (omega arith) ∙ get_or-drop (per_page * (k / 58)) answers (k % 58) d)
      ∙ ap (λ (n : ℕ). result_line (k + 1) (get_or answers n d)) place

  -- what is left of the last page is blank
  pub spare-line : (k : ℕ) → length answers ≤ k → k < per_page * count → line_at (k / 58) (k % 58 + 1) ≡ blank_line
  spare-line k more less =
      let there = drop (per_page * (k / 58)) answers in
      let size = length-drop (per_page * (k / 58)) answers in
      line-at (k / 58) (k % 58 + 1) (omega arith) (omega arith)
      ∙ page-spare (k / 58) (take per_page there) (first_fits there) (k % 58) (omega (arith, length-take per_page there, size)) (omega arith)

  -- each page ends with its foot
  pub foot-line : (i : ℕ) → i < count → line_at i 59 ≡ foot (get_or (own_counts count answers) i 0)
  foot-line i less =
      line-at i 59 less (omega arith)
      ∙ page-foot i (take per_page (drop (per_page * i) answers)) (first_fits (drop (per_page * i) answers))
      ∙ ap foot (sym (own_at count i answers less))

  -- the feet add up to the tally's accepted
  pub feet-add-up : sum (own_counts count answers) ≡ (tally_of answers).accepted
  unfolding tally_of
  feet-add-up = own-sum count answers count_fits
