-- Laws of values laid as JSON: what the code lays for a head, a key, a comma and a bracket is the writing of what stands there.
use Prim.Native.Nat.{ℕ, ◌+◌, ◌≤◌, ◌<◌}
use native.Mathlib.Omega.{arith}
use mathlib.Core.List.{List, [], ◌∷◌, ◌++◌, append_assoc}
use mathlib.Core.Option.{Option, none, some}
use mathlib.Core.Path.{◌≡◌, refl, sym, ap, subst, ◌∙◌}
use lib.ListN.{length, drop}
use borrow.Author.Tests.{eq-eqb, ne_eqb, lt-ltb, le-ltb}
use Rattle.text.specs.Ascii.{ascii}
use Rattle.text.specs.ReadAt.{ReadsTo, Refuses}
use Rattle.text.specs.CaseLaws.{zero-not-one}
use Rattle.sheet.specs.Entries.{ValueHead, constant_head, number_head, string_head, array_head, object_head, value_head, key_head}
use Rattle.definition.specs.Tree.{Text, Value, constant, number, string, array, object, Values, no_values, value, Pairs, no_pairs, pair}
use Rattle.definition.specs.Within.{value_entries, values_entries, pairs_entries}
use Rattle.rule.specs.Index.{start_of, end_of, EntryAt}
use Rattle.rule.specs.IndexLaws.{value-next}
use Rattle.buffer.specs.Laid.{Laid, most_place}
use Rattle.buffer.specs.LaidLaws.{laid-nothing, laid_then}
use Rattle.json_text.specs.Escaped.{short, quoted, written, written_elements, written_members}
use Rattle.json_rule.specs.AsJson.{constant_of, as_json, as_elements, as_members}
use Rattle.json_rule.proofs.AsJsonLaws.{json-is}
use Rattle.rule.specs.Nodes.{IsValue, AreValues, Behind}
use Rattle.rule.proofs.NodeSteps.{same_head, value-size, others_of, value-stands, others-stand, no-values-left}
use Rattle.json_value.specs.Lays.{ArePairs, LaysValue, LaysWithin, LaysHeld, LaysKey, comma_before}

-- Constants

module _ (kind : ℕ) {before after : List ℕ} {at next : ℕ} where
  pub laid-null : kind ≡ 1 → Laid before after at (0x6E ∷ 0x75 ∷ 0x6C ∷ 0x6C ∷ []) next → Laid before after at (written short (constant_of kind)) next
  unfolding written constant_of ascii
  laid-null e w = rw (eq-eqb kind 1 e) w

  pub laid-true : kind ≡ 3 → Laid before after at (0x74 ∷ 0x72 ∷ 0x75 ∷ 0x65 ∷ []) next → Laid before after at (written short (constant_of kind)) next
  unfolding written constant_of ascii
  laid-true e w = rw e w

  pub laid-false : (kind ≡ 1 → ⊥) → (kind ≡ 3 → ⊥) → Laid before after at (0x66 ∷ 0x61 ∷ 0x6C ∷ 0x73 ∷ 0x65 ∷ []) next
      → Laid before after at (written short (constant_of kind)) next
  unfolding written constant_of ascii
  laid-false n t w = rw (ne_eqb kind 1 n, ne_eqb kind 3 t) w

-- What is laid for the head of a value

refused : {H R : Type 0} {o : Option (H × List ℕ)} {h : H} {rest : List ℕ} → o ≡ none → o ≡ some (h, rest) → R
refused a b = zero-not-one cc

module _ (rule words : List ℕ) (i end : ℕ) (before after : List ℕ) (at next : ℕ) where
  abbrev HeadLaid : ValueHead → Type 0
  HeadLaid (constant_head type) = Laid before after at (written short (constant_of type)) next
  HeadLaid (number_head digits) = Laid before after at digits next
  HeadLaid (string_head t) = Laid before after at (quoted short t) next
  HeadLaid (array_head count) = (vs : Values) → AreValues rule words (i + 1) end vs → Laid before after at (0x5B ∷ written_elements short [] (as_elements vs)) next
  HeadLaid (object_head count) = (ps : Pairs) → ArePairs rule words (i + 1) end ps → Laid before after at (0x7B ∷ written_members short [] (as_members ps)) next

  module _ {start behind : ℕ} (h : ValueHead) (place : start ≡ start_of words i) (read : ReadsTo value_head rule start h behind) (laid : HeadLaid h) where
    entry-laid : {size e : ℕ} {k : ValueHead} → EntryAt value_head rule words i size e k → HeadLaid k
    entry-laid a = subst (λ (x : ValueHead). HeadLaid x) (same_head place read a) laid

    value-laid : (v : Value) → IsValue rule words i end v → Laid before after at (written short (as_json v)) next
    unfolding written as_json value_entries
    value-laid (constant e type) w = entry-laid w.stands
    value-laid (number e digits) w = entry-laid w.stands
    value-laid (string e t) w = entry-laid w.stands
    value-laid (array e vs) w = entry-laid w.stands.0 vs (record { stand = w.stands.1; ends = omega (arith, w.ends) })
    value-laid (object e ps) w = entry-laid w.stands.0 ps (record { stand = w.stands.1; ends = omega (arith, w.ends) })

    head-lays : LaysWithin rule words i end before after at next
    head-lays = record { lays = value-laid }

module _ {rule words : List ℕ} {i end : ℕ} {before after : List ℕ} {at next : ℕ} where
  -- no value stands there
  pub empty-lays : end ≤ i → LaysWithin rule words i end before after at next
  empty-lays h = record { lays = λ v w. let p : 1 ≤ value_entries v = value-size v in absurd (omega (arith, w.ends)) }

  module _ {start : ℕ} (place : start ≡ start_of words i) where
    pub unread-lays : Refuses value_head rule start → LaysWithin rule words i end before after at next
    unread-lays none_read = record { lays = go }
      where
        here : value_head (drop (start_of words i) rule) ≡ none
        here = rw (sym place) none_read

        go : (v : Value) → IsValue rule words i end v → Laid before after at (written short (as_json v)) next
        go (constant e type) w = refused here w.stands.reads
        go (number e digits) w = refused here w.stands.reads
        go (string e t) w = refused here w.stands.reads
        go (array e vs) w = refused here w.stands.0.reads
        go (object e ps) w = refused here w.stands.0.reads

    pub constant-lays : {type behind : ℕ} → ReadsTo value_head rule start (constant_head type) behind
        → Laid before after at (written short (constant_of type)) next
        → LaysWithin rule words i end before after at next
    constant-lays {type} read w = head-lays rule words i end before after at next (constant_head type) place read w

    pub number-lays : {digits found : Text} {behind : ℕ} → ReadsTo value_head rule start (number_head found) behind → digits ≡ found
        → Laid before after at digits next
        → LaysWithin rule words i end before after at next
    number-lays {found = found} read same w =
        head-lays rule words i end before after at next (number_head found) place read (subst (λ (t : Text). Laid before after at t next) same w)

    pub string-lays : {text found : Text} {behind : ℕ} → ReadsTo value_head rule start (string_head found) behind → text ≡ found
        → Laid before after at (quoted short text) next
        → LaysWithin rule words i end before after at next
    string-lays {found = found} read same w =
        head-lays rule words i end before after at next (string_head found) place read (subst (λ (t : Text). Laid before after at (quoted short t) next) same w)

    pub array-lays : {inside : List ℕ} {o count behind : ℕ} → ReadsTo value_head rule start (array_head count) behind
        → Laid before inside at (0x5B ∷ []) o
        → LaysHeld rule words 0 (i + 1) end inside after o next
        → length before ≤ most_place
        → LaysWithin rule words i end before after at next
    array-lays {count = count} read w l room =
        head-lays rule words i end before after at next (array_head count) place read (λ vs are. laid_then room w (l.elements refl vs are))

    pub object-lays : {inside : List ℕ} {o count behind : ℕ} → ReadsTo value_head rule start (object_head count) behind
        → Laid before inside at (0x7B ∷ []) o
        → LaysHeld rule words 1 (i + 1) end inside after o next
        → length before ≤ most_place
        → LaysWithin rule words i end before after at next
    object-lays {count = count} read w l room =
        head-lays rule words i end before after at next (object_head count) place read (λ ps are. laid_then room w (l.members refl ps are))

-- A key

module _ {rule words : List ℕ} {keys i : ℕ} {before : List ℕ} {at : ℕ} where
  pub no_key : keys ≡ 0 → at ≤ most_place → LaysKey rule words keys i before before at at
  no_key e h = record { nothing = λ z. laid-nothing before at h; key = λ z. absurd (omega arith) }

  pub key-unread : {start : ℕ} → (keys ≡ 0 → ⊥) → start ≡ start_of words i → Refuses key_head rule start → LaysKey rule words keys i before before at at
  key-unread {start} some_key place none_read =
      record {
        nothing = λ z. absurd (some_key z);
        key = λ z key rest r. refused (rw (sym place) none_read) r;
      }

  pub key-laid : {start stop : ℕ} {found key : Text} {quote after : List ℕ} {o next : ℕ} → length before ≤ most_place → (keys ≡ 0 → ⊥)
      → start ≡ start_of words i
      → ReadsTo key_head rule start found stop
      → key ≡ found
      → Laid before quote at (quoted short key) o
      → Laid quote after o (0x3A ∷ []) next
      → LaysKey rule words keys i before after at next
  key-laid {start} {stop} {found} {key} {quote} {after} {o} {next} room some_key place read same w c =
      record {
        nothing = λ z. absurd (some_key z);
        key =
            λ z k rest r.
            let here : key_head (drop (start_of words i) rule) ≡ some (found, drop stop rule) = rw (sym place) read.reads in
            let q : ◌≡◌ {A = Text × List ℕ} (found, drop stop rule) (k, rest) = cc in
            let found-is : key ≡ k = same ∙ ap (λ (x : Text × List ℕ). x.0) q in
            subst (λ (t : Text). Laid before after at (quoted short t ++ (0x3A ∷ [])) next) found-is (laid_then room w c);
      }

-- A comma

pub comma-laid : (i end : ℕ) {before after : List ℕ} {at next : ℕ} → i < end → Laid before after at (0x2C ∷ []) next → Laid before after at (comma_before i end) next
unfolding comma_before
comma-laid i end h w = rw (lt-ltb i end h) w

pub no-comma : (i end : ℕ) (before : List ℕ) (at : ℕ) → end ≤ i → at ≤ most_place → Laid before before at (comma_before i end) at
unfolding comma_before
no-comma i end before at h k = rw (le-ltb i end h) (laid-nothing before at k)

comma-some : (i end : ℕ) → i < end → comma_before i end ≡ 0x2C ∷ []
unfolding comma_before
comma-some i end h = rw (lt-ltb i end h)

comma-none : (i end : ℕ) → end ≤ i → comma_before i end ≡ []
unfolding comma_before
comma-none i end h = rw (le-ltb i end h)

-- Values and members side by side

pair_end : {rule words : List ℕ} {j end r : ℕ} {key : Text} {v : Value} {others : Pairs} → Behind words j end r → ArePairs rule words j end (pair key v others)
    → r ≡ j + (1 + value_entries v)
unfolding pairs_entries
pair_end b w =
    let n = w.stand.0.ends in
    b.exact (omega arith) (omega (arith, w.ends)) ∙ n

element-comma : {rule words : List ℕ} {r end : ℕ} (vs : Values) → AreValues rule words r end vs
    → comma_before r end ++ written_elements short [] (as_elements vs) ≡ written_elements short (0x2C ∷ []) (as_elements vs)
unfolding written_elements as_elements values_entries
element-comma {r = r} {end = end} no_values w = rw (comma-none r end (omega (arith, w.ends)))
element-comma {r = r} {end = end} (value v others) w =
    let p : 1 ≤ value_entries v = value-size v in
    rw (comma-some r end (omega (arith, w.ends)))

member-comma : {rule words : List ℕ} {r end : ℕ} (ps : Pairs) → ArePairs rule words r end ps
    → comma_before r end ++ written_members short [] (as_members ps) ≡ written_members short (0x2C ∷ []) (as_members ps)
unfolding written_members as_members pairs_entries
member-comma {r = r} {end = end} no_pairs w = rw (comma-none r end (omega (arith, w.ends)))
member-comma {r = r} {end = end} (pair key v others) w = rw (comma-some r end (omega (arith, w.ends)))

-- whatever lays the rest from word `j` on has laid all from word `i` on
pub record Leads (rule words : List ℕ) (keys i end : ℕ) (before : List ℕ) (at j : ℕ) (now : List ℕ) (o : ℕ) : Type 0 where
  pub forward : i ≤ j
  pub len : length now ≡ length before
  pub leads : (after : List ℕ) (next : ℕ) → LaysHeld rule words keys j end now after o next → LaysHeld rule words keys i end before after at next

pub leads-start : {rule words : List ℕ} {keys i end : ℕ} {before : List ℕ} {at : ℕ} → Leads rule words keys i end before at i before at
leads-start = record { forward = omega arith; len = refl; leads = λ after next l. l }

-- one more
module _ {rule words : List ℕ} {keys end j r : ℕ} {now one two three : List ℕ} {o p q s : ℕ}
    (front : LaysKey rule words keys j now one o p)
    (own : LaysWithin rule words (j + keys) r one two p q)
    (comma : Laid two three q (comma_before r end) s)
    (b : Behind words j end r)
    (inside : j < end)
    (room : length now ≤ most_place) where
  element-step : {after : List ℕ} {next : ℕ} → LaysHeld rule words keys r end three after s next → keys ≡ 0 → (vs : Values) → AreValues rule words j end vs
      → Laid now after o (written_elements short [] (as_elements vs)) next
  unfolding written_elements as_elements values_entries others_of
  element-step rest e no_values w = absurd (omega (arith, w.ends, inside))
  element-step {after} {next} rest e (value v others) w =
      let place : j + keys ≡ j = omega arith in
      let others-are : AreValues rule words r end others = others-stand inside b (value v others) w in
      let first = own.lays v (rw place (value-stands inside b w)) in
      let all = laid_then room (laid_then room (laid_then room (front.nothing e) first) comma) (rest.elements e others others-are) in
      let same : ((([] ++ written short (as_json v)) ++ comma_before r end) ++ written_elements short [] (as_elements others)) ≡ written short (as_json v) ++ written_elements short (0x2C ∷ []) (as_elements others) =
      append_assoc (written short (as_json v)) (comma_before r end) (written_elements short [] (as_elements others))
      ∙ ap (λ (l : List ℕ). written short (as_json v) ++ l) (element-comma others others-are) in
      subst (λ (l : List ℕ). Laid now after o l next) same all

  member-step : {after : List ℕ} {next : ℕ} → LaysHeld rule words keys r end three after s next → keys ≡ 1 → (ps : Pairs) → ArePairs rule words j end ps
      → Laid now after o (written_members short [] (as_members ps)) next
  unfolding written_members as_members pairs_entries
  member-step rest e no_pairs w = absurd (omega (arith, w.ends, inside))
  member-step {after} {next} rest e (pair key v others) w =
      let place : j + keys ≡ j + 1 = omega arith in
      let behind : r ≡ j + (1 + value_entries v) = pair_end b w in
      let others-are : ArePairs rule words r end others = record { stand = rw behind w.stand.2; ends = omega (arith, w.ends) } in
      let stands : IsValue rule words (j + 1) r v = record { stands = w.stand.1; ends = omega arith } in
      let first = own.lays v (rw place stands) in
      let named = front.key e key w.stand.0.rest w.stand.0.reads in
      let all = laid_then room (laid_then room (laid_then room named first) comma) (rest.members e others others-are) in
      let same : (((quoted short key ++ (0x3A ∷ [])) ++ written short (as_json v)) ++ comma_before r end) ++ written_members short [] (as_members others)
      ≡ quoted short key ++ (0x3A ∷ (written short (as_json v) ++ written_members short (0x2C ∷ []) (as_members others))) =
      rw (sym (member-comma others others-are)) (simp append_assoc) in
      subst (λ (l : List ℕ). Laid now after o l next) same all

  pub leads-more : {i : ℕ} {before : List ℕ} {at : ℕ} → length three ≡ length before → Leads rule words keys i end before at j now o
      → Leads rule words keys i end before at r three s
  leads-more same k =
      record {
        forward = omega (arith, k.forward, b.past inside);
        len = same;
        leads = λ after next rest. k.leads after next (record { elements = λ e vs w. element-step rest e vs w; members = λ e ps w. member-step rest e ps w });
      }

no-pairs-left : {rule words : List ℕ} {i end : ℕ} (ps : Pairs) → end ≤ i → ArePairs rule words i end ps → ps ≡ no_pairs
unfolding pairs_entries
no-pairs-left no_pairs h w = refl
no-pairs-left (pair key v others) h w = absurd (omega (arith, w.ends))

-- the closing bracket
module _ {rule words : List ℕ} {keys j end : ℕ} {now after : List ℕ} {o next : ℕ} where
  pub array-closed : Laid now after o (0x5D ∷ []) next → keys ≡ 0 → end ≤ j → LaysHeld rule words keys j end now after o next
  unfolding written_elements as_elements
  array-closed w e out_of_lem =
      record {
        elements = λ z vs are. rw (no-values-left vs out_of_lem are) w;
        members = λ z ps are. absurd (omega arith);
      }

  pub object-closed : Laid now after o (0x7D ∷ []) next → (keys ≡ 0 → ⊥) → end ≤ j → LaysHeld rule words keys j end now after o next
  unfolding written_members as_members
  object-closed w some_key out_of_lem =
      record {
        elements = λ z vs are. absurd (some_key z);
        members = λ z ps are. rw (no-pairs-left ps out_of_lem are) w;
      }

-- The whole

pub value-lays : {rule words : List ℕ} {i end : ℕ} {before after : List ℕ} {at next : ℕ} → end ≡ end_of words i → LaysWithin rule words i end before after at next
    → LaysValue rule words i before after at next
value-lays {rule} {words} {i} {end} {before} {after} {at} {next} ends l =
    record {
      lays =
          λ v a.
          subst (λ (t : List ℕ). Laid before after at t next) (sym (json-is v))
          (l.lays v (record { stands = a; ends = ends ∙ value-next rule words i v a }));
    }
