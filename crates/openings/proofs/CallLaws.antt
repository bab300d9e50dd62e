-- The refusals of the call, one after the other, and what its answer promises.
use Rattle.std.specs.Prelude.{ℕ, zero, suc, ◌+◌, ◌≤◌, ◌<◌, min, Bool, true, false, not, cond, ◌&&◌, List, [], ◌∷◌, ◌++◌, ◌≡◌, refl, leb, length}
use Rattle.std.proofs.Common.{arith, sym, ◌∙◌, leb-true, le-leb}
use Rattle.std.proofs.lemmas.Bool.{false≢true, lt-leb, not-false}
use Rattle.std.proofs.Math.Option.{Option, none, some, map, none-ne-some, some-injective}
use Rattle.text.specs.Utf8.{between, is_utf8, is_some, code_points, code_points_in}
use Rattle.definition.specs.Tree.{Schema, Rule}
use Rattle.definition.specs.Decode.{decode_schema, decode_rule}
use Rattle.reference.specs.Setting.{Setting, one_of}
use Rattle.widening.specs.Opening.{is_in}
use Rattle.validation.specs.Check.{is_none, checks}
use Rattle.validation.specs.Result.{any, Widths, are_wide, of_widths, Refusal, path_bytes, scratch_words, is_taken, is_of_sheets, setting_for, of_settings, of_table, of_sheets, first_refusal}
use Rattle.validation.proofs.RefusalLaws.{are-wide, NoneDue, none-due, first-none, every, capped-settings}
use Rattle.call.specs.Call.{Reply, refused_by, refused_or, heard_by, tried, if_told, Run, Untouched, is_written}
use Rattle.call.proofs.CallLaws.{heard-told, front-due, front-passes, first-due, first_passes, only-tried, of-heard, heard-at, numbers-size, AllWithin, numbers-within, refused-untouched, if-told-written, same_answer}
use Rattle.validation.specs.Openings.{max_marks, rising_to, rounds, fewest_marks}
use Rattle.validation.proofs.RisingLaws.{rising-few}
use Rattle.single_check.specs.Settings.{widths_by}
use Rattle.single_check.specs.SheetLaws.{roomy}
use Rattle.openings.specs.Call.{OpenCall, check_of, list_bytes, of_list, open_refusals, open_refusal_numbers, opens, marks_for, marks_in, open_figures, scratch_left, open_shape, open_answer, open_numbers, MeetsOpen, SetFits}
use Rattle.openings.specs.Runs.{searched, open_run_of}

-- 1 and 3
abbrev pub setting_refusal : OpenCall → Option ℕ
setting_refusal c = first_refusal (of_settings (check_of c).asked c.widths)

abbrev behind_settings : OpenCall → List Refusal
behind_settings c = of_list c.list ∷ (of_table c.table ++ of_sheets (check_of c))

pub settings-first : (c : OpenCall) (n : ℕ) → setting_refusal c ≡ some n → open_answer c ≡ refused_by n
unfolding open_refusals
settings-first c n e = front-due (of_settings (check_of c).asked c.widths) (behind_settings c) (marks_in c) n e

by-sheets : (setting : Setting) (t : Option Schema) (x : Option Rule)
    → refused_or (cond (is_none t) (some 4) (cond (not (is_taken any x)) (some 5) none)) (marks_for setting t x) ≡ searched setting t x
unfolding refused_or is_none is_taken searched marks_for
by-sheets setting none x = refl
by-sheets setting (some t) none = refl
by-sheets setting (some t) (some x) = refl

due-append : (xs ys : List Refusal) → NoneDue (xs ++ ys) → NoneDue xs × NoneDue ys
due-append [] ys n = (tt, n)
due-append (x ∷ xs) ys n = let m = due-append xs ys n.1 in ((n.0, m.0), m.1)

module _ (c : OpenCall) (h : setting_refusal c ≡ none) where
  then-list : open_answer c ≡ heard_by (behind_settings c) (marks_in c)
  unfolding open_refusals
  then-list = front-passes (of_settings (check_of c).asked c.widths) (behind_settings c) (marks_in c) h

  pub list-refused : c.list < list_bytes → open_answer c ≡ refused_by 36
  list-refused short = then-list ∙ first-due (of_list c.list) _ (marks_in c) (rw (lt-leb list_bytes c.list short))

  module _ (room : list_bytes ≤ c.list) where
    then-table : open_answer c ≡ heard_by (of_table c.table ++ of_sheets (check_of c)) (marks_in c)
    then-table = then-list ∙ first_passes (of_list c.list) _ (marks_in c) (rw (le-leb list_bytes c.list room))

    pub table-refused : (n : ℕ) → first_refusal (of_table c.table) ≡ some n → open_answer c ≡ refused_by n
    table-refused n e = then-table ∙ front-due (of_table c.table) (of_sheets (check_of c)) (marks_in c) n e

    -- then the sheets decide
    pub sheets-decide : first_refusal (of_table c.table) ≡ none → open_answer c ≡ searched (setting_for (check_of c)) (decode_schema c.schema) (decode_rule c.rule)
    unfolding of_sheets first_refusal check_of heard_by marks_in
    sheets-decide e =
        then-table
        ∙ front-passes (of_table c.table) (of_sheets (check_of c)) (marks_in c) e
        ∙ by-sheets (setting_for (check_of c)) (decode_schema c.schema) (decode_rule c.rule)

-- neither the settings' nor the table's where none is
pub none-of-these : (c : OpenCall) → first_refusal (open_refusals c) ≡ none → (setting_refusal c ≡ none) × (first_refusal (of_table c.table) ≡ none)
unfolding open_refusals
none-of-these c e =
    let all = none-due (open_refusals c) e in
    let front = due-append (of_settings (check_of c).asked c.widths) (of_list c.list ∷ (of_table c.table ++ of_sheets (check_of c))) all in
    (first-none _ front.0, first-none _ (due-append (of_table c.table) (of_sheets (check_of c)) front.1.1).0)

list-room : (c : OpenCall) → first_refusal (open_refusals c) ≡ none → list_bytes ≤ c.list
unfolding open_refusals
list-room c e =
    let all = none-due (open_refusals c) e in
    let front = due-append (of_settings (check_of c).asked c.widths) (of_list c.list ∷ (of_table c.table ++ of_sheets (check_of c))) all in
    leb-true list_bytes c.list (not-false (leb list_bytes c.list) front.1.0)

-- A path buffer without room is refused, whatever else the call holds.

pub no-room-refused : (c : OpenCall) → c.widths.path < path_bytes → (n : ℕ) × (open_answer c ≡ refused_by n)
no-room-refused c short = go (setting_refusal c) refl
  where
    go : (o : Option ℕ) → setting_refusal c ≡ o → (n : ℕ) × (open_answer c ≡ refused_by n)
    go none e = absurd (omega (arith, short, (roomy (check_of c).asked c.widths e).room))
    go (some n) e = (n, settings-first c n e)

-- A setting beyond both ranges may stand for every larger one.

unfoldable pub capped_open : (most : ℕ) → OpenCall → OpenCall
capped_open most c =
    record {
      kind = min c.kind most;
      semantics = min c.semantics most;
      table = c.table;
      schema = c.schema;
      rule = c.rule;
      widths = c.widths;
      list = c.list;
    }

pub capped-open : (most : ℕ) (c : OpenCall) → 8 < most → open_answer (capped_open most c) ≡ open_answer c
unfolding capped_open check_of of_settings first_refusal
capped-open most c =
    capped-settings
    (λ kind semantics.
    open_answer (record { kind = kind; semantics = semantics; table = c.table; schema = c.schema; rule = c.rule; widths = c.widths; list = c.list }))
    (refused_by 1) (λ kind semantics e. settings-first _ 1 (rw e)) most c.kind c.semantics

-- the refusals are tried in the order of the list, and no other number is heard; nor is 2

pub open-tries : (c : OpenCall) → tried (open_refusals c) ≡ open_refusal_numbers
unfolding open_refusals open_refusal_numbers of_settings of_sheets tried
open-tries c = refl

pub open-refusal-listed : (c : OpenCall) (n : ℕ) → open_answer c ≡ refused_by n → one_of n open_refusal_numbers ≡ true
open-refusal-listed c n e = only-tried (open_refusals c) (marks_in c) n open_refusal_numbers (open-tries c) e

pub never-2 : (c : OpenCall) → open_answer c ≡ refused_by 2 → ⊥
unfolding open_refusals check_of of_settings of_sheets tried one_of is_utf8 is_some code_points code_points_in
never-2 c e =
    let first : Refusal = record { number = 1; is_due = not (between 1 8 c.kind && between 1 4 c.semantics) } in
    let second : Refusal = record { number = 2; is_due = false } in
    false≢true ((heard-at (first ∷ []) second (of_widths c.widths ∷ behind_settings c) (marks_in c) refl refl).0 e).1

-- A refusal leaves path buffer and list as they were, and the scratch too if it is not one of the sheets.

pub refused-unchanged : (r : Run OpenCall) (n : ℕ) → MeetsOpen r → open_answer r.call ≡ refused_by n → is_of_sheets n ≡ false → Untouched r.buffers
unfolding if_told scratch_left
refused-unchanged r n m e early = refused-untouched open_shape r n m e (refl, (refl, (rw early refl, tt)))

-- and whatever the refusal, path buffer and list are as they were
pub refused-spares : (kind semantics : ℕ) (table schema rule path list scratch : List ℕ) {r path_now list_now scratch_now : List ℕ} (n : ℕ)
    → MeetsOpen (open_run_of kind semantics table schema rule path list scratch r path_now list_now scratch_now)
    → open_answer (open_run_of kind semantics table schema rule path list scratch r path_now list_now scratch_now).call ≡ refused_by n
    → (path_now ≡ path) × (list_now ≡ list)
unfolding if_told
refused-spares kind semantics table schema rule path list scratch n m e = let left = rw e at m.buffers in (left.0, left.1.0)

-- What path buffer and scratch held never matters, nor how long they are, if both have room or neither has.

unfoldable pub lending : Widths → OpenCall → OpenCall
lending w c =
    record { kind = c.kind; semantics = c.semantics; table = c.table; schema = c.schema; rule = c.rule; widths = w; list = c.list }

pub lending-same : (c : OpenCall) (w : Widths) → are_wide w ≡ are_wide c.widths → open_answer (lending w c) ≡ open_answer c
unfolding lending open_refusals marks_in check_of of_settings of_sheets
lending-same c w room = rw room refl

module _ (kind semantics : ℕ) (table schema rule list : List ℕ) {path scratch r path_now list_now scratch_now path' scratch' r' path_now' list_now' scratch_now' : List ℕ}
    (m : MeetsOpen (open_run_of kind semantics table schema rule path list scratch r path_now list_now scratch_now))
    (m' : MeetsOpen (open_run_of kind semantics table schema rule path' list scratch' r' path_now' list_now' scratch_now')) where
  pub any-buffers : are_wide (widths_by (length path) (length scratch)) ≡ are_wide (widths_by (length path') (length scratch')) → (r ≡ r') × (list_now ≡ list_now')
  unfolding lending is_written
  any-buffers room =
      let same = same_answer open_shape _ _ m m' (lending-same (open_run_of kind semantics table schema rule path' list scratch' r' path_now' list_now' scratch_now').call _ room) in
      (same.result, same.buffers.1.0 (if-told-written _ (λ marks. refl) _) refl)

  -- so 4,096 elements serve as well as more
  pub lean-buffers : path_bytes ≤ length path → scratch_words ≤ length scratch → path_bytes ≤ length path' → scratch_words ≤ length scratch' → (r ≡ r') × (list_now ≡ list_now')
  lean-buffers p s p' s' = any-buffers (are-wide _ p s ∙ sym (are-wide _ p' s'))

-- The numbers are small, those of the set as well.

refusal-low : (c : OpenCall) (n : ℕ) → open_answer c ≡ refused_by n → n ≤ 38
unfolding open_refusal_numbers every
refusal-low c n e = leb-true n 38 (of-heard (λ (m : ℕ). leb m 38) (open_refusals c) (marks_in c) n open_refusal_numbers (open-tries c) refl e)

figures-low : (setting : Setting) (t : Option Schema) (x : Option Rule) → AllWithin max_marks (open_figures (marks_for setting t x))
unfolding open_figures marks_for fewest_marks
figures-low setting none x = (omega arith, (omega arith, tt))
figures-low setting (some t) none = (omega arith, (omega arith, tt))
figures-low setting (some t) (some x) = by (rounds setting t (checks setting x) (max_marks + 1) [])
  where
    by : (o : Option (List ℕ)) → AllWithin max_marks (open_figures (map (λ found. rising_to max_marks (is_in found)) o))
    by none = (omega arith, (omega arith, tt))
    by (some found) = (omega arith, (rising-few max_marks (is_in found), tt))

pub answer-low : (c : OpenCall) → AllWithin max_marks (open_numbers (open_answer c))
unfolding marks_in
answer-low c =
    numbers-within max_marks 2 open_figures (open_answer c) (λ n e. omega (arith, refusal-low c n e))
    (λ marks e.
    rw (← (heard-told (open_refusals c) (marks_in c) marks e).1)
    (figures-low (setting_for (check_of c)) (decode_schema c.schema) (decode_rule c.rule)))

pub three-numbers : (r : Reply (Option (List ℕ))) → length (open_numbers r) ≡ 3
unfolding open_figures
three-numbers r = numbers-size 2 open_figures r (λ marks e. by marks)
  where
    by : (marks : Option (List ℕ)) → length (open_figures marks) ≡ 2
    by none = refl
    by (some set) = refl

-- The marks of a set are small too, and have room in the list.

all_more : (low high : ℕ) (ns : List ℕ) → low ≤ high → AllWithin low ns → AllWithin high ns
all_more low high [] h a = tt
all_more low high (n ∷ ns) h a = (omega (arith, a.0), all_more low high ns h a.1)

all_append : (most : ℕ) (ns ms : List ℕ) → AllWithin most ns → AllWithin most ms → AllWithin most (ns ++ ms)
all_append most [] ms a b = b
all_append most (n ∷ ns) ms a b = (a.0, all_append most ns ms a.1 b)

rising-low : (n : ℕ) (p : ℕ → Bool) → AllWithin n (rising_to n p)
unfolding rising_to
rising-low zero p = tt
rising-low (suc n) p = all_append (suc n) (rising_to n p) (cond (p n) (n ∷ []) []) (all_more n (suc n) (rising_to n p) (omega arith) (rising-low n p)) (last (p n))
  where
    last : (b : Bool) → AllWithin (suc n) (cond b (n ∷ []) [])
    last true = (omega arith, tt)
    last false = tt

found-low : (setting : Setting) (t : Option Schema) (x : Option Rule) (set : List ℕ) → marks_for setting t x ≡ some set → AllWithin max_marks set × (length set ≤ max_marks)
unfolding marks_for fewest_marks
found-low setting none x set e = absurd (none-ne-some set e)
found-low setting (some t) none set e = absurd (none-ne-some set e)
found-low setting (some t) (some x) set e = by (rounds setting t (checks setting x) (max_marks + 1) []) e
  where
    by : (o : Option (List ℕ)) → map (λ found. rising_to max_marks (is_in found)) o ≡ some set → AllWithin max_marks set × (length set ≤ max_marks)
    by none e = absurd (none-ne-some set e)
    by (some found) e =
        let same = some-injective (rising_to max_marks (is_in found)) set e in
        rw (← same) (rising-low max_marks (is_in found), rising-few max_marks (is_in found))

pub set-fits : (c : OpenCall) (set : List ℕ) → open_answer c ≡ opens set → SetFits c set
unfolding marks_in
set-fits c set e =
    let (unrefused, same) = heard-told (open_refusals c) (marks_in c) (some set) e in
    let found = found-low (setting_for (check_of c)) (decode_schema c.schema) (decode_rule c.rule) set same in
    record { low = found.0; room = omega (arith, found.1, list-room c unrefused) }
