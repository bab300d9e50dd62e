-- The rules that are lent, one by one, and what is refused before a sheet is read.
use Rattle.std.specs.Prelude.{Ok, Err}
use Prim.Native.Nat.{ℕ, zero, suc, ◌+◌, ◌*◌, ◌/◌, ◌-◌, ◌≤◌, ◌<◌, min}
use native.Mathlib.Omega.{arith}
use mathlib.Core.Bool.{Bool, true, false, not, cond, ◌&&◌, ◌||◌}
use mathlib.Core.List.{List, [], ◌∷◌, ◌++◌}
use mathlib.Core.Option.{Option, none, some}
use mathlib.Core.Path.{◌≡◌, refl, sym, ap, ap₂, subst, ◌∙◌}
use lib.Dec.{leb, eqb}
use lib.ListN.{length, take, drop, get_or, length-drop, drop_of_length-le}
use lib.Seq.{take_all, drop-drop, get_or-drop}
use borrow.Author.Tests.{eqb-true, eqb-false, eq-eqb, leb-true, leb-false, le-leb, lt-leb, ne_eqb}
use Rattle.text.specs.CaseLaws.{by-test}
use Rattle.buffer.specs.Bytes.{number_at}
use Rattle.definition.specs.Limits.{max_sheet_bytes}
use Rattle.validation.specs.Result.{any, Refusal, Widths, are_wide, of_table, of_settings, first_refusal, number_in, path_bytes, scratch_words}
use Rattle.single_check.specs.Settings.{widths_by, asked_by, EarlyIs, SettledIs}
use Rattle.single_check.specs.declared.settings.Setting.{Setting}
use Rattle.drafts.specs.Lent.{LentRule, head_bytes, label_size, sheet_size, first_rule, behind_first, rules_in, rules_lent, is_any}
use Rattle.drafts.specs.DraftCalls.{DraftCall, max_rules, record_bytes, is_unset, is_mislabelled, has_room, early_refusals}
use Rattle.drafts.specs.Reading.{rule_by, LentAt, rules_from, sooner, settings_of, table_number, EarlyOf}
use Rattle.drafts.specs.declared.lent.Lent.{Lent}

-- One rule.

number-drop : (k n : ℕ) (l : List ℕ) → number_at k (drop n l) ≡ number_at (n + k) l
unfolding number_at
number-drop k n l =
    let one : n + (k + 1) ≡ n + k + 1 = omega arith in
    let two : n + (k + 2) ≡ n + k + 2 = omega arith in
    let three : n + (k + 3) ≡ n + k + 3 = omega arith in
    rw (get_or-drop n l k 0, get_or-drop n l (k + 1) 0, get_or-drop n l (k + 2) 0, get_or-drop n l (k + 3) 0, one, two, three) refl

module _ (a n : ℕ) (l : List ℕ) (e : n ≡ min a (length l)) where
  past : leb a (length l) ≡ false → (length l ≤ a) × (length l ≤ n)
  past h = let more = leb-false a (length l) h in (omega arith, omega arith)

  same : leb a (length l) ≡ true → n ≡ a
  same h = let less = leb-true a (length l) h in omega arith

  take_min : take n l ≡ take a l
  take_min = by-test (leb a (length l)) (λ h. ap (λ (k : ℕ). take k l) (same h)) (λ h. take_all n l (past h).1 ∙ sym (take_all a l (past h).0))

  drop_min : drop n l ≡ drop a l
  drop_min = by-test (leb a (length l)) (λ h. ap (λ (k : ℕ). drop k l) (same h)) (λ h. drop_of_length-le l (past h).1 ∙ sym (drop_of_length-le l (past h).0))

sum_less : (x y : ℕ) → x + y - x ≡ y
sum_less x y = omega arith

no_more : (x : ℕ) → x ≡ x + 0
no_more x = omega arith

sum-most : (x y : ℕ) → x ≤ x + y
sum-most x y = omega arith

both-fit : (at a b m n size : ℕ) → at ≤ size → m ≡ min a (size - at) → n ≡ min b (size - (at + m)) → at + m + n ≤ size
both-fit at a b m n size within q t = omega arith

module _ (heads texts : List ℕ) (i at kind semantics a b m n : ℕ) where
  pub lent_is : kind ≡ number_at (head_bytes * i) heads
      → semantics ≡ number_at (head_bytes * i + 4) heads
      → a ≡ number_at (head_bytes * i + 8) heads
      → m ≡ min a (length texts - at)
      → b ≡ number_at (head_bytes * i + 12) heads
      → n ≡ min b (length texts - (at + m))
      → at ≤ length texts
      → LentAt heads texts i at (record { kind = kind; semantics = semantics; middle = at + m; end = at + m + n })
  unfolding first_rule behind_first
  lent_is k s p q r t within =
      let place = head_bytes * i in
      let rest = drop at texts in
      let size : length rest ≡ length texts - at = length-drop at texts in
      let middle : drop (at + m) texts ≡ drop a rest = sym (drop-drop m at texts) ∙ drop_min a m rest (q ∙ ap (min a) (sym size)) in
      let behind-size : length (drop a rest) ≡ length texts - (at + m) = ap length (sym middle) ∙ length-drop (at + m) texts in
      let first = sum_less at m in
      let second = sum_less (at + m) n in
      let label-size : a ≡ label_size (drop place heads) = p ∙ sym (number-drop 8 place heads) in
      let sheet-size : b ≡ sheet_size (drop place heads) = r ∙ sym (number-drop 12 place heads) in
      let label : take (at + m - at) rest ≡ take (label_size (drop place heads)) rest = ap (λ (x : ℕ). take x rest) first ∙ take_min a m rest (q ∙ ap (min a) (sym size)) ∙ ap (λ (x : ℕ). take x rest) label-size in
      let sheet : take (at + m + n - (at + m)) (drop (at + m) texts) ≡ take (sheet_size (drop place heads)) (drop (label_size (drop place heads)) rest) =
      ap₂ (λ (x : ℕ) (l : List ℕ). take x l) second middle
      ∙ take_min b n (drop a rest) (t ∙ ap (min b) (sym behind-size))
      ∙ ap₂ (λ (x y : ℕ). take x (drop y rest)) sheet-size label-size in
      record {
        is =
            λ j.
            record {
              kind = (k ∙ ap (λ (x : ℕ). number_at x heads) (no_more place) ∙ sym (number-drop 0 place heads)) j;
              semantics = (s ∙ sym (number-drop 4 place heads)) j;
              label = label j;
              sheet = sheet j;
            };
        behind =
            sym (drop-drop n (at + m) texts)
            ∙ ap (drop n) middle
            ∙ drop_min b n (drop a rest) (t ∙ ap (min b) (sym behind-size))
            ∙ drop-drop b a rest
            ∙ ap₂ (λ (x y : ℕ). drop (x + y) rest) label-size sheet-size;
        first = sum-most at m;
        second = sum-most (at + m) n;
        within = both-fit at a b m n (length texts) within q t;
      }

-- Those that are left.

module _ (heads texts : List ℕ) where
  pub from_start : rules_from heads texts 0 0 ≡ rules_lent heads texts
  unfolding rules_lent
  from_start = let e : length heads / head_bytes - 0 ≡ length heads / head_bytes = omega arith in rw e refl

  pub from_next : (i at : ℕ) {l : Lent} → i < length heads / head_bytes → LentAt heads texts i at l
      → rules_from heads texts i at ≡ rule_by texts at l ∷ rules_from heads texts (i + 1) l.end
  unfolding rules_in
  from_next i at {l} less r =
      let e : length heads / head_bytes - i ≡ suc (length heads / head_bytes - (i + 1)) = omega arith in
      let p : head_bytes * i + head_bytes ≡ head_bytes * (i + 1) = omega arith in
      ap (λ (n : ℕ). rules_in n (drop (head_bytes * i) heads) (drop at texts)) e
      ∙ ap₂ ◌∷◌ (sym r.is)
      (ap₂ (rules_in (length heads / head_bytes - (i + 1))) (drop-drop head_bytes (head_bytes * i) heads ∙ ap (λ (n : ℕ). drop n heads) p) (sym r.behind))

  pub from_end : (i at : ℕ) → length heads / head_bytes ≤ i → rules_from heads texts i at ≡ []
  unfolding rules_in
  from_end i at h = let e : length heads / head_bytes - i ≡ 0 = omega arith in rw e refl

pub rules-count : (k : ℕ) (heads texts : List ℕ) → length (rules_in k heads texts) ≡ k
unfolding rules_in
rules-count zero heads texts = refl
rules-count (suc k) heads texts = ap suc (rules-count k (drop head_bytes heads) (behind_first heads texts))

pub lent-count : (heads texts : List ℕ) → length (rules_lent heads texts) ≡ length heads / head_bytes
unfolding rules_lent
lent-count heads texts = rules-count (length heads / head_bytes) heads texts

-- there is a whole head
pub head-room : (heads : List ℕ) (i : ℕ) → i < length heads / 16 → 16 * i + 16 ≤ length heads
head-room heads i h = omega arith

-- 1 and 2.

pub sooner-none : (a b : ℕ) → a ≡ 0 → b ≡ sooner a b
unfolding sooner
sooner-none a b e = rw (eq-eqb a 0 e) refl

pub sooner-one : (a b : ℕ) → (a ≡ 0 → ⊥) → b ≡ 0 → a ≡ sooner a b
unfolding sooner
sooner-one a b h e = rw (ne_eqb a 0 h, eq-eqb b 0 e) refl

pub sooner-both : (a b r : ℕ) → (a ≡ 0 → ⊥) → (b ≡ 0 → ⊥) → r ≡ min a b → r ≡ sooner a b
unfolding sooner
sooner-both a b r h k e = e ∙ rw (ne_eqb a 0 h, ne_eqb b 0 k) refl

-- 1 where the first holds, 2 where the second does
abbrev pub coded : Bool → Bool → ℕ
coded u m = cond u 1 (cond m 2 0)

sooner-coded : (u m v n : Bool) → sooner (coded u m) (coded v n) ≡ coded (u || v) (m || n)
unfolding sooner
sooner-coded true true true n = refl
sooner-coded true true false true = refl
sooner-coded true true false false = refl
sooner-coded true false true n = refl
sooner-coded true false false true = refl
sooner-coded true false false false = refl
sooner-coded false true true n = refl
sooner-coded false true false true = refl
sooner-coded false true false false = refl
sooner-coded false false true n = refl
sooner-coded false false false true = refl
sooner-coded false false false false = refl

early-coded : (r : LentRule) {n : ℕ} → EarlyIs r.kind r.semantics r.label 32768 4096 n → n ≡ coded (is_unset r) (is_mislabelled r)
unfolding of_settings first_refusal number_in is_unset is_mislabelled
early-coded r e = e.first any [] ∙ by (is_unset r) (is_mislabelled r)
  where
    by : (u m : Bool) → number_in (first_refusal (record { number = 1; is_due = u } ∷ record { number = 2; is_due = m } ∷ record { number = 3; is_due = false } ∷ [])) ≡ coded u m
    by true m = refl
    by false true = refl
    by false false = refl

-- what was found, and what is left
pub record Looked (heads texts : List ℕ) (i at found : ℕ) : Type 0 where
  pub unset : Bool
  pub mislabelled : Bool
  pub is : found ≡ coded unset mislabelled
  pub set : (unset || is_any is_unset (rules_from heads texts i at)) ≡ is_any is_unset (rules_lent heads texts)
  pub labels : (mislabelled || is_any is_mislabelled (rules_from heads texts i at)) ≡ is_any is_mislabelled (rules_lent heads texts)
  pub placed : at ≤ length texts

or_assoc : (a b c : Bool) → ((a || b) || c) ≡ (a || (b || c))
or_assoc true b c = refl
or_assoc false b c = refl

or-none : (a : Bool) → (a || false) ≡ a
or-none true = refl
or-none false = refl

module _ (heads texts : List ℕ) where
  pub looked-start : Looked heads texts 0 0 0
  looked-start =
      record { unset = false; mislabelled = false; is = refl; set = ap (is_any is_unset) (from_start heads texts); labels = ap (is_any is_mislabelled) (from_start heads texts); placed = omega arith }

  pub looked-next : {i at found number next : ℕ} {l : Lent}
      → Looked heads texts i at found
      → i < length heads / head_bytes
      → LentAt heads texts i at l
      → EarlyIs l.kind l.semantics (take (l.middle - at) (drop at texts)) 32768 4096 number
      → next ≡ sooner found number
      → Looked heads texts (i + 1) l.end next
  unfolding is_any
  looked-next {i} {at} {found} {number} {next} {l} k less r e q =
      let rule = rule_by texts at l in
      let more = from_next heads texts i at less r in
      record {
        unset = k.unset || is_unset rule;
        mislabelled = k.mislabelled || is_mislabelled rule;
        is = q ∙ ap₂ sooner k.is (early-coded rule e) ∙ sooner-coded k.unset k.mislabelled (is_unset rule) (is_mislabelled rule);
        set = or_assoc k.unset (is_unset rule) (is_any is_unset (rules_from heads texts (i + 1) l.end)) ∙ ap (λ (rs : List LentRule). k.unset || is_any is_unset rs) (sym more) ∙ k.set;
        labels =
            or_assoc k.mislabelled (is_mislabelled rule) (is_any is_mislabelled (rules_from heads texts (i + 1) l.end))
            ∙ ap (λ (rs : List LentRule). k.mislabelled || is_any is_mislabelled rs) (sym more)
            ∙ k.labels;
        placed = r.within;
      }

  pub looked-end : {i at found : ℕ} → Looked heads texts i at found → length heads / head_bytes ≤ i → found ≡ settings_of (rules_lent heads texts)
  unfolding settings_of is_any
  looked-end {i} {at} {found} k h =
      let nothing = from_end heads texts i at h in
      let set : k.unset ≡ is_any is_unset (rules_lent heads texts) = sym (or-none k.unset) ∙ ap (λ (rs : List LentRule). k.unset || is_any is_unset rs) (sym nothing) ∙ k.set in
      let labels : k.mislabelled ≡ is_any is_mislabelled (rules_lent heads texts) = sym (or-none k.mislabelled) ∙ ap (λ (rs : List LentRule). k.mislabelled || is_any is_mislabelled rs) (sym nothing) ∙ k.labels in
      k.is ∙ ap₂ coded set labels

-- 3.

module _ (count buffer records path scratch : ℕ) where
  abbrev enough : Bool
  enough = (leb path_bytes path && leb scratch_words scratch) && (leb (28 * count) records && leb max_sheet_bytes buffer)

  pub short-path : path < path_bytes → false ≡ enough
  short-path h = rw (lt-leb path_bytes path h) refl

  pub short-scratch : path_bytes ≤ path → scratch < scratch_words → false ≡ enough
  short-scratch p h = rw (le-leb path_bytes path p, lt-leb scratch_words scratch h) refl

  pub short-records : path_bytes ≤ path → scratch_words ≤ scratch → records / 28 < count → false ≡ enough
  short-records p s h = rw (le-leb path_bytes path p, le-leb scratch_words scratch s, lt-leb (28 * count) records (omega arith)) refl

  pub by-buffer : path_bytes ≤ path → scratch_words ≤ scratch → count ≤ records / 28 → leb max_sheet_bytes buffer ≡ enough
  by-buffer p s h = rw (le-leb path_bytes path p, le-leb scratch_words scratch s, le-leb (28 * count) records (omega arith)) refl

-- The table.

pub table-due : (table : List ℕ) (n : ℕ) → SettledIs 1 1 table (Err n) → n ≡ table_number table
unfolding table_number number_in
table-due table n e = rw e refl

pub table-sound : (table : List ℕ) (s : Setting) → SettledIs 1 1 table (Ok s) → 0 ≡ table_number table
unfolding table_number number_in
table-sound table s e = rw e.0 refl

-- All of them, in their order.

abbrev in_order : (u m room few : Bool) → List Refusal → List Refusal
in_order u m room few rest =
    record { number = 1; is_due = u }
    ∷ record { number = 2; is_due = m }
    ∷ record { number = 3; is_due = not room }
    ∷ record { number = 43; is_due = not few }
    ∷ rest

module _ (u m room few : Bool) (rest : List Refusal) where
  first_two : {n : ℕ} → n ≡ coded u m → (n ≡ 0 → ⊥) → n ≡ number_in (first_refusal (in_order u m room few rest))
  unfolding first_refusal number_in
  first_two {n} e h = e ∙ by u m (λ z. h (e ∙ z))
    where
      by : (u m : Bool) → (coded u m ≡ 0 → ⊥) → coded u m ≡ number_in (first_refusal (in_order u m room few rest))
      by true m h = refl
      by false true h = refl
      by false false h = absurd (h refl)

  module _ (e : u ≡ false) (f : m ≡ false) where
    third : room ≡ false → 3 ≡ number_in (first_refusal (in_order u m room few rest))
    unfolding first_refusal number_in
    third g = rw (e, f, g) refl

    fourth : room ≡ true → few ≡ false → 43 ≡ number_in (first_refusal (in_order u m room few rest))
    unfolding first_refusal number_in
    fourth g h = rw (e, f, g, h) refl

    others : {n : ℕ} → room ≡ true → few ≡ true → n ≡ number_in (first_refusal rest) → n ≡ number_in (first_refusal (in_order u m room few rest))
    unfolding first_refusal
    others g h q = rw (e, f, g, h) q

coded_none : (u m : Bool) → 0 ≡ coded u m → (u ≡ false) × (m ≡ false)
coded_none true m e = absurd (omega arith)
coded_none false true e = absurd (omega arith)
coded_none false false e = (refl, refl)

module _ (heads texts table : List ℕ) (buffer records path scratch : ℕ) where
  pub rules-first : {n : ℕ} → n ≡ settings_of (rules_lent heads texts) → (n ≡ 0 → ⊥) → EarlyOf heads texts table buffer records path scratch n
  unfolding settings_of early_refusals
  rules-first {n} e h = record { first = λ c rules t b r w. first_two (is_any is_unset c.rules) (is_any is_mislabelled c.rules) (has_room c) (leb (length c.rules) max_rules) (of_table c.table) (e ∙ ap settings_of (sym rules)) h }

  module _ {n : ℕ} (e : n ≡ settings_of (rules_lent heads texts)) (z : n ≡ 0) where
    passes : (is_any is_unset (rules_lent heads texts) ≡ false) × (is_any is_mislabelled (rules_lent heads texts) ≡ false)
    unfolding settings_of
    passes = coded_none _ _ (sym z ∙ e)

    set-of : (c : DraftCall) → c.rules ≡ rules_lent heads texts → is_any is_unset c.rules ≡ false
    set-of c rules = ap (is_any is_unset) rules ∙ passes.0

    labelled-of : (c : DraftCall) → c.rules ≡ rules_lent heads texts → is_any is_mislabelled c.rules ≡ false
    labelled-of c rules = ap (is_any is_mislabelled) rules ∙ passes.1

    count_of : (c : DraftCall) → c.rules ≡ rules_lent heads texts → length c.rules ≡ length heads / 16
    count_of c rules = ap length rules ∙ lent-count heads texts

    abbrev Room : Bool → Type 0
    Room room = room ≡ ((leb path_bytes path && leb scratch_words scratch) && (leb (28 * (length heads / 16)) records && leb max_sheet_bytes buffer))

    -- what the code tests is what the definition says
    room-is : {room : Bool} → Room room → (c : DraftCall) → c.rules ≡ rules_lent heads texts → length c.buffer ≡ buffer → length c.records ≡ records → c.lent ≡ widths_by path scratch
        → has_room c ≡ room
    unfolding has_room
    room-is q c rules b r w = rw (w, count_of c rules, b, r) (sym q)

    pub room-refused : {room : Bool} → Room room → room ≡ false → EarlyOf heads texts table buffer records path scratch 3
    unfolding early_refusals
    room-refused q f = record { first = λ c rules t b r w. third (is_any is_unset c.rules) (is_any is_mislabelled c.rules) (has_room c) (leb (length c.rules) max_rules) (of_table c.table) (set-of c rules) (labelled-of c rules) (room-is q c rules b r w ∙ f) }

    module _ {room : Bool} (q : Room room) (f : room ≡ true) where
      pub count-refused : 16 < length heads / 16 → EarlyOf heads texts table buffer records path scratch 43
      unfolding early_refusals
      count-refused more =
          record { first = λ c rules t b r w. fourth (is_any is_unset c.rules) (is_any is_mislabelled c.rules) (has_room c) (leb (length c.rules) max_rules) (of_table c.table) (set-of c rules) (labelled-of c rules) (room-is q c rules b r w ∙ f) (lt-leb (length c.rules) max_rules (omega (arith, count_of c rules))) }

      pub then-table : {m : ℕ} → length heads / 16 ≤ 16 → m ≡ table_number table → EarlyOf heads texts table buffer records path scratch m
      unfolding early_refusals table_number
      then-table few is =
          record {
            first =
                λ c rules t b r w.
                others (is_any is_unset c.rules) (is_any is_mislabelled c.rules) (has_room c) (leb (length c.rules) max_rules) (of_table c.table) (set-of c rules) (labelled-of c rules) (room-is q c rules b r w ∙ f) (le-leb (length c.rules) max_rules (omega (arith, count_of c rules)))
                (is ∙ ap table_number (sym t));
          }
