-- One step down from a value, and the end of the way.
use Prim.Native.Nat.{ℕ, ◌+◌, ◌≤◌, ◌<◌}
use native.Mathlib.Omega.{arith}
use mathlib.Core.List.{List, [], ◌∷◌}
use mathlib.Core.Option.{Option, none, some}
use mathlib.Core.Path.{◌≡◌, refl, ap, sym, ◌∙◌}
use lib.Dec.{eqb}
use lib.ListN.{drop}
use borrow.Author.Tests.{eqb-true, eq-eqb}
use Rattle.text.specs.Reader.{or_else}
use Rattle.text.specs.CaseLaws.{zero-not-one}
use Rattle.sheet.specs.Entries.{ValueHead, constant_head, number_head, string_head, array_head, object_head, value_head, key_head}
use Rattle.definition.specs.Tree.{Text, Value, constant, number, string, array, object, Values, no_values, value, Pairs, no_pairs, pair}
use Rattle.definition.specs.Within.{value_entries}
use Rattle.definition.specs.Write.{count_of_values, count_of_pairs}
use Rattle.rule.specs.Index.{start_of, EntryAt, ValueAt, ValuesAt, PairsAt}
use Rattle.rule.specs.IndexLaws.{value-next}
use Rattle.validation.specs.Location.{dotted, index, through, here_or, in_value, in_values, in_pairs}
use Rattle.buffer.specs.Wrote.{Wrote}
use Rattle.defect_path.specs.Siblings.{Reaches}
use Rattle.defect_path.specs.Keys.{KeyWritten}
use Rattle.defect_path.specs.Descent.{ValueWritten, ValueLeads}
use Rattle.buffer.specs.WroteLaws.{wrote_nothing, wrote_then}
use Rattle.defect_path.proofs.Ranges.{none_found, here-or-found, value-among, value-size}
use Rattle.defect_path.proofs.Reached.{Standing, first_of, Found, reached}

-- what a reader read
head_or : {H : Type 0} → H → Option (H × List ℕ) → H
head_or h none = h
head_or h (some r) = r.0

pub same_head : {H : Type 0} {o : Option (H × List ℕ)} {h g : H} {r s : List ℕ} → o ≡ some (h, r) → o ≡ some (g, s) → h ≡ g
unfolding head_or
same_head {h = h} a b = ap (head_or h) (sym a ∙ b)

pub refused-head : {H : Type 0} {R : Type 0} {o : Option (H × List ℕ)} {h : H} {r : List ℕ} → o ≡ none → o ≡ some (h, r) → R
refused-head a b = zero-not-one cc

-- an entry further on is not this one; this one is
pub not_own : (e i target : ℕ) (o : Option Text) (p : Text) → e ≡ i + 1 → i < target → here_or (eqb e (target + 1)) o ≡ some p → o ≡ some p
not_own e i target o p same less h =
    here-or-found (eqb e (target + 1)) o p (λ q. let w = eqb-true e (target + 1) q in absurd (omega arith)) (λ z. z) h

pub own-empty : (e i : ℕ) (o : Option Text) (p : Text) → e ≡ i + 1 → here_or (eqb e (i + 1)) o ≡ some p → p ≡ []
unfolding here_or
own-empty e i o p same h = let w = rw (eq-eqb e (i + 1) same) at h in cc

unfoldable pub head_of_value : Value → ValueHead
head_of_value (constant e type) = constant_head type
head_of_value (number e digits) = number_head digits
head_of_value (string e t) = string_head t
head_of_value (array e values) = array_head (count_of_values values)
head_of_value (object e pairs) = object_head (count_of_pairs pairs)

-- the values side by side, and the members
unfoldable values_of : Values → List Value
values_of no_values = []
values_of (value v others) = v ∷ values_of others

unfoldable members_of : Pairs → List (Text × Value)
members_of no_pairs = []
members_of (pair key v others) = (key, v) ∷ members_of others

module _ (sheet words : List ℕ) (target : ℕ) where
  abbrev MemberAt : (k i : ℕ) → Text × Value → Type 0
  MemberAt k i m = EntryAt key_head sheet words i (1 + value_entries m.1) (i + 1) m.0 × ValueAt sheet words (i + 1) m.1

  values-standing : (vs : Values) (k i : ℕ) → ValuesAt sheet words i vs → Standing (λ _ j v. ValueAt sheet words j v) value_entries k i (values_of vs)
  unfolding values_of
  values-standing no_values k i at = tt
  values-standing (value v others) k i at = (at.0, values-standing others (k + 1) (i + value_entries v) at.1)

  values-first : (vs : Values) (k : ℕ) → in_values (target + 1) k vs ≡ first_of (λ j _. index j) (in_value (target + 1)) k (values_of vs)
  unfolding values_of in_values first_of
  values-first no_values k = refl
  values-first (value v others) k =
      ap (λ (o : Option Text). or_else (through (index k) (in_value (target + 1) v)) o) (values-first others (k + 1))

  pairs-standing : (ps : Pairs) (k i : ℕ) → PairsAt sheet words i ps → Standing MemberAt (λ m. 1 + value_entries m.1) k i (members_of ps)
  unfolding members_of
  pairs-standing no_pairs k i at = tt
  pairs-standing (pair key v others) k i at = ((at.0, at.1), pairs-standing others (k + 1) (i + (1 + value_entries v)) at.2)

  pairs_first : (ps : Pairs) (k : ℕ) → in_pairs (target + 1) ps ≡ first_of (λ _ m. dotted m.0) (λ m. in_value (target + 1) m.1) k (members_of ps)
  unfolding members_of in_pairs first_of
  pairs_first no_pairs k = refl
  pairs_first (pair key v others) k =
      ap (λ (o : Option Text). or_else (through (dotted key) (in_value (target + 1) v)) o) (pairs_first others (k + 1))

  module _ (i : ℕ) where
    value-reads : (v : Value) (h : ValueHead) (rest : List ℕ)
        → ValueAt sheet words i v
        → value_head (drop (start_of words i) sheet) ≡ some (h, rest)
        → head_of_value v ≡ h
    unfolding head_of_value
    value-reads (constant e type) h rest at r = same_head at.reads r
    value-reads (number e digits) h rest at r = same_head at.reads r
    value-reads (string e t) h rest at r = same_head at.reads r
    value-reads (array e values) h rest at r = same_head at.0.reads r
    value-reads (object e pairs) h rest at r = same_head at.0.reads r

    value-refused : {R : Type 0} (v : Value) → ValueAt sheet words i v → value_head (drop (start_of words i) sheet) ≡ none → R
    value-refused (constant e type) at r = refused-head r at.reads
    value-refused (number e digits) at r = refused-head r at.reads
    value-refused (string e t) at r = refused-head r at.reads
    value-refused (array e values) at r = refused-head r at.0.reads
    value-refused (object e pairs) at r = refused-head r at.0.reads

    -- what a value holds, where an entry is found in it
    abbrev Holds : ValueHead → Text → Type 0
    Holds (constant_head type) p = ⊥
    Holds (number_head digits) p = ⊥
    Holds (string_head t) p = ⊥
    Holds (array_head count) p = (vs : Values) × ValuesAt sheet words (i + 1) vs × (in_values (target + 1) 0 vs ≡ some p)
    Holds (object_head count) p = (ps : Pairs) × PairsAt sheet words (i + 1) ps × (in_pairs (target + 1) ps ≡ some p)

    value-holds : (v : Value) (p : Text) → i < target → ValueAt sheet words i v → in_value (target + 1) v ≡ some p → Holds (head_of_value v) p
    unfolding head_of_value in_value
    value-holds (constant e type) p less at h = none_found (not_own e i target none p at.is_entry less h)
    value-holds (number e digits) p less at h = none_found (not_own e i target none p at.is_entry less h)
    value-holds (string e t) p less at h = none_found (not_own e i target none p at.is_entry less h)
    value-holds (array e values) p less at h = (values, at.1, not_own e i target _ p at.0.is_entry less h)
    value-holds (object e pairs) p less at h = (pairs, at.1, not_own e i target _ p at.0.is_entry less h)

    holds : (v : Value) (p : Text) (h : ValueHead) (rest : List ℕ)
        → i < target
        → ValueAt sheet words i v
        → in_value (target + 1) v ≡ some p
        → value_head (drop (start_of words i) sheet) ≡ some (h, rest)
        → Holds h p
    holds v p h rest less at found r = rw (value-reads v h rest at r) at (value-holds v p less at found)

    module _ (before now : List ℕ) (at here word k : ℕ) (less : i < target) where
      element-found : (vs : Values) (p : Text)
          → ValuesAt sheet words (i + 1) vs
          → in_values (target + 1) 0 vs ≡ some p
          → Reaches words target (i + 1) 0 word k
          → Found (λ _ j v. ValueAt sheet words j v) (λ j _. index j) (in_value (target + 1)) k word p
      element-found vs p st found r =
          reached (λ _ j v. ValueAt sheet words j v) value_entries (λ j _. index j) (in_value (target + 1)) words target
          (λ _ j v a. value-next sheet words j v a)
          (value-size sheet words target)
          (λ _ j v q a z. value-among sheet words (target + 1) v j q a z)
          (values_of vs) 0 (i + 1) p word k
          (values-standing vs 0 (i + 1) st)
          (sym (values-first vs 0) ∙ found)
          r

      member-found : (ps : Pairs) (p : Text)
          → PairsAt sheet words (i + 1) ps
          → in_pairs (target + 1) ps ≡ some p
          → Reaches words target (i + 1) 0 word k
          → Found MemberAt (λ _ m. dotted m.0) (λ m. in_value (target + 1) m.1) k word p
      member-found ps p st found r =
          reached MemberAt (λ m. 1 + value_entries m.1) (λ _ m. dotted m.0) (λ m. in_value (target + 1) m.1) words target
          (λ _ j m a. a.0.ends)
          (λ m. omega arith)
          (λ _ j m q a z. let r = value-among sheet words (target + 1) m.1 (j + 1) q a.1 z in omega arith)
          (members_of ps) 0 (i + 1) p word k
          (pairs-standing ps 0 (i + 1) st)
          (sym (pairs_first ps 0) ∙ found)
          r

      pub array-leads : (count : ℕ) (rest : List ℕ)
          → value_head (drop (start_of words i) sheet) ≡ some (array_head count, rest)
          → Reaches words target (i + 1) 0 word k
          → Wrote before now at (index k) here
          → ValueLeads sheet words target i before at word now here
      array-leads count rest reads r w = record {
        leads = λ after next later. record {
          written = λ v p stands found.
              let inner = holds v p (array_head count) rest less stands found reads in
              let f = element-found inner.0 p inner.1 inner.2 r in
              rw f.path (wrote_then w (later.written f.item f.rest f.stands f.found));
        };
      }

      pub object-leads : (count : ℕ) (rest : List ℕ)
          → value_head (drop (start_of words i) sheet) ≡ some (object_head count, rest)
          → Reaches words target (i + 1) 0 word k
          → KeyWritten sheet words word before now at here
          → ValueLeads sheet words target i before at (word + 1) now here
      object-leads count rest reads r w = record {
        leads = λ after next later. record {
          written = λ v p stands found.
              let inner = holds v p (object_head count) rest less stands found reads in
              let f = member-found inner.0 p inner.1 inner.2 r in
              rw f.path
              (wrote_then (w.written f.item.0 f.stands.0.rest f.stands.0.reads)
              (later.written f.item.1 f.rest f.stands.1 f.found));
        };
      }

      -- a value that holds nothing, or none
      pub constant-leads : (type : ℕ) (rest : List ℕ)
          → value_head (drop (start_of words i) sheet) ≡ some (constant_head type, rest)
          → ValueLeads sheet words target i before at word now here
      constant-leads type rest reads = record {
        leads = λ after next later. record { written = λ v p stands found. absurd (holds v p (constant_head type) rest less stands found reads) };
      }

      pub number-leads : (digits rest : List ℕ)
          → value_head (drop (start_of words i) sheet) ≡ some (number_head digits, rest)
          → ValueLeads sheet words target i before at word now here
      number-leads digits rest reads = record {
        leads = λ after next later. record { written = λ v p stands found. absurd (holds v p (number_head digits) rest less stands found reads) };
      }

      pub string-leads : (text rest : List ℕ)
          → value_head (drop (start_of words i) sheet) ≡ some (string_head text, rest)
          → ValueLeads sheet words target i before at word now here
      string-leads text rest reads = record {
        leads = λ after next later. record { written = λ v p stands found. absurd (holds v p (string_head text) rest less stands found reads) };
      }

  own_value : (v : Value) (p : Text) → ValueAt sheet words target v → in_value (target + 1) v ≡ some p → p ≡ []
  unfolding in_value
  own_value (constant e type) p at h = own-empty e target none p at.is_entry h
  own_value (number e digits) p at h = own-empty e target none p at.is_entry h
  own_value (string e t) p at h = own-empty e target none p at.is_entry h
  own_value (array e values) p at h = own-empty e target _ p at.0.is_entry h
  own_value (object e pairs) p at h = own-empty e target _ p at.0.is_entry h

  -- the target itself: nothing is left to write
  pub value-ended : (word : ℕ) (now : List ℕ) (here : ℕ) → target ≤ word → ValueWritten sheet words target word now now here here
  value-ended word now here end = record {
    written = λ v p stands found.
        let r = value-among sheet words (target + 1) v word p stands found in
        let e : word ≡ target = omega arith in
        rw (own_value v p (rw e at stands) found) (wrote_nothing now here);
  }

pub value-led : {sheet words : List ℕ} {target i : ℕ} {before : List ℕ} {at : ℕ} → ValueLeads sheet words target i before at i before at
value-led = record { leads = λ after next w. w }

pub value-led-on : {sheet words : List ℕ} {target i : ℕ} {before : List ℕ} {at j : ℕ} {now : List ℕ} {here k : ℕ} {later : List ℕ} {next : ℕ}
    → ValueLeads sheet words target i before at j now here
    → ValueLeads sheet words target j now here k later next
    → ValueLeads sheet words target i before at k later next
value-led-on p q = record { leads = λ after end w. p.leads after end (q.leads after end w) }

pub value-led-to : {sheet words : List ℕ} {target i : ℕ} {before : List ℕ} {at j : ℕ} {now : List ℕ} {here : ℕ}
    → ValueLeads sheet words target i before at j now here
    → target ≤ j
    → ValueWritten sheet words target i before now at here
value-led-to {sheet} {words} {target} {j = j} {now = now} {here = here} p end = p.leads now here (value-ended sheet words target j now here end)

-- The same, as the code's facts read.

module _ {sheet words : List ℕ} {target i start at : ℕ} {before : List ℕ} {here word : ℕ} {now : List ℕ} where
  pub value-refused-step : start ≡ start_of words i
      → value_head (drop start sheet) ≡ none
      → ValueLeads sheet words target i before at word now here
  value-refused-step starts reads = record {
    leads = λ after next later. record { written = λ v p stands found. value-refused sheet words target i v stands (rw starts at reads) };
  }

  module _ {rest : List ℕ} (starts : start ≡ start_of words i) where
    pub constant-step : {type : ℕ}
        → value_head (drop start sheet) ≡ some (constant_head type, rest)
        → i < target
        → ValueLeads sheet words target i before at word now here
    constant-step {type} reads less = constant-leads sheet words target i before now at here word 0 less type rest (rw starts at reads)

    pub number_step : {digits : List ℕ}
        → value_head (drop start sheet) ≡ some (number_head digits, rest)
        → i < target
        → ValueLeads sheet words target i before at word now here
    number_step {digits} reads less = number-leads sheet words target i before now at here word 0 less digits rest (rw starts at reads)

    pub string-step : {text : List ℕ}
        → value_head (drop start sheet) ≡ some (string_head text, rest)
        → i < target
        → ValueLeads sheet words target i before at word now here
    string-step {text} reads less = string-leads sheet words target i before now at here word 0 less text rest (rw starts at reads)

    pub array-step : {count k : ℕ}
        → value_head (drop start sheet) ≡ some (array_head count, rest)
        → i < target
        → Reaches words target (i + 1) 0 word k
        → Wrote before now at (index k) here
        → ValueLeads sheet words target i before at word now here
    array-step {count} {k} reads less r w = array-leads sheet words target i before now at here word k less count rest (rw starts at reads) r w

    pub object-step : {count k : ℕ}
        → value_head (drop start sheet) ≡ some (object_head count, rest)
        → i < target
        → Reaches words target (i + 1) 0 word k
        → KeyWritten sheet words word before now at here
        → ValueLeads sheet words target i before at (word + 1) now here
    object-step {count} {k} reads less r w = object-leads sheet words target i before now at here word k less count rest (rw starts at reads) r w

module _ {sheet words : List ℕ} {i start at next : ℕ} {before after : List ℕ} where
  pub key-refused : start ≡ start_of words i → key_head (drop start sheet) ≡ none → KeyWritten sheet words i before after at next
  key-refused starts reads = record { written = λ key rest r. refused-head (rw starts at reads) r }

  pub key-written : {key bytes rest : List ℕ}
      → start ≡ start_of words i
      → key_head (drop start sheet) ≡ some (key, rest)
      → bytes ≡ key
      → Wrote before after at (dotted bytes) next
      → KeyWritten sheet words i before after at next
  key-written {key} {bytes} starts reads same w = record {
    written = λ other rest r. rw (sym (same ∙ same_head (rw starts at reads) r)) w;
  }
