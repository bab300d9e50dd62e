-- Laws of a rule's own object: its texts, which may be absent, and its members.
use Prim.Native.Nat.{ℕ, ◌+◌, ◌-◌, ◌/◌, ◌<◌, ◌≤◌}
use mathlib.Core.Bool.{Bool, true, false, cond}
use mathlib.Core.List.{List, [], ◌∷◌, ◌++◌}
use mathlib.Core.Logic.{inl, inr}
use mathlib.Core.Option.{Option, none, some, bind}
use mathlib.Core.Path.{◌≡◌, refl, sym, ap, subst, ◌∙◌}
use native.Mathlib.Omega.{arith}
use lib.ListN.{length, take, drop, length-append, length-drop, drop_of_length-le}
use lib.Dec.{leb}
use borrow.Author.Tests.{leb-true, leb-false, ne_eqb}
use Rattle.text.specs.Ascii.{ascii}
use Rattle.text.specs.ByteReaders.{byte}
use Rattle.text.specs.CaseLaws.{by-test}
use Rattle.text.specs.Numeral.{decimal_of}
use Rattle.text.specs.NumeralLaws.{decimal_of-one, decimal_of-last}
use Rattle.text.specs.Order.{same_bytes}
use Rattle.text.specs.OrderLaws.{same_bytes-equal}
use Rattle.text.specs.Reader.{Reader, ◌>>=◌, ◌>>◌, and_then, pure, refuse, ensure}
use Rattle.text.specs.ReadAt.{ReadsTo, Refuses}
use Rattle.text.specs.ReadAtLaws.{bind-refused, bind-refuses, bind-reads, bind-pure}
use Rattle.sheet.specs.Entries.{max_text}
use Rattle.sheet.specs.Entries as Entries
use Rattle.sheet.specs.Write.{write_end, write_item, write_length, write_text, write_rule_head}
use Rattle.definition.specs.Tree.{rule}
use Rattle.definition.specs.Write.{write_condition, write_rule}
use Rattle.buffer.specs.Laid.{Laid, most_place}
use Rattle.buffer.specs.LaidLaws.{laid-nothing, laid_then, sets-read}
use Rattle.json_text.specs.Json.{Text, null, string}
use Rattle.json_text.specs.Strings as Strings
use Rattle.json_text.specs.StringAt.{StringAt}
use Rattle.json_text.specs.Unescaped.{LaysText}
use Rattle.json_text.specs.Grammar.{spelled, spaces, value, at_end, document}
use Rattle.json_text.specs.TokenAt.{SpacesTo, SpelledAt}
use Rattle.json_text.specs.BetweenAt.{key_of}
use Rattle.json_rule.specs.Shape.{place_in, RulePart, asserts, names, says, optional_of, rule_of}
use Rattle.json_rule.specs.Streamed.{asked, streamed}
use Rattle.json_rule.specs.RuleStreamed.{NamedPart, rule_member, held_depth, rule_rest, rule_text}
use Rattle.json_rule.proofs.RuleStreamedLaws.{rule-streamed}
use Rattle.json_sheet.specs.Places.{Chosen, part_of, GivenCondition}
use Rattle.json_sheet.specs.RuleAt.{front_room, TextAt, GivenText, LaysLength, LaysOptional, LaysHead, FrontLaid, RuleSeen, is_name, is-assert, is-message, GivenRuleMember, GivenParts, RuleGiven, RuleLong}
use Rattle.json_sheet.proofs.Asking.{OnOthers, string-asked, null-asked, other-asked}
use Rattle.json_sheet.proofs.LongTexts.{Over, over-limit}
use Rattle.json_sheet.proofs.Moving.{laid-front}

-- A string or null

optional-others : OnOthers optional_of
unfolding optional_of
optional-others = record { on-truth = λ b. refl; on-number = λ t. refl; on-array = λ vs. refl; on-object = λ ms. refl }

-- what was read, in a shape that is never missed
asked-always : {A B : Type 0} (p : Reader (List ℕ) A) (f : A → Option B) (h : A → B) → ((a : A) → f a ≡ some (h a)) → (s : List ℕ) (at next : ℕ) {a : A}
    → p (drop at s) ≡ some (a, drop next s) → (p >>= asked f) (drop at s) ≡ some (h a, drop next s)
unfolding ◌>>=◌ and_then asked
asked-always p f h e s at next {a} r = rw (r, e a)

-- the same place
further : {A : Type 0} (a : A) (s : List ℕ) (m n : ℕ) → m ≡ n → ◌≡◌ {A = Option (A × List ℕ)} (some (a, drop m s)) (some (a, drop n s))
further {A} a s m n e = ap {B = Option (A × List ℕ)} (λ (k : ℕ). some (a, drop k s)) e

text-shape : (t : Text) → optional_of (string t) ≡ some (some t)
unfolding optional_of
text-shape t = refl

null-shape : optional_of null ≡ some none
unfolding optional_of
null-shape = refl

module _ {s : List ℕ} {at : ℕ} {u : Unit {0}} (q : ReadsTo (byte 0x22) s at u (at + 1)) where
  pub text-unread : Refuses Strings.string s (at + 1) → (d : ℕ) → Refuses (value d >>= asked optional_of) s at
  text-unread e d = string-asked optional_of s at d q ∙ bind-refused Strings.string (asked (λ x. optional_of (string x))) s (at + 1) e

  pub text-given : {len next : ℕ} → StringAt s (at + 1) len next → GivenText s at (at + 1) len next
  text-given {len} {next} t =
      record {
        text = some t.text;
        held = record { there = λ e. absurd (omega arith); within = q.within; next = next; read = t.read; size = t.size };
        read =
            λ d.
            record {
              reads = string-asked optional_of s at d q ∙ asked-always Strings.string (λ x. optional_of (string x)) some text-shape s (at + 1) next t.read.reads;
              past = omega (arith, t.read.past);
              within = t.read.within;
            };
      }

module _ {s : List ℕ} {at : ℕ} {u : Unit {0}} (q : ReadsTo (byte 0x6E) s at u (at + 1)) where
  pub null-given : SpelledAt (117 ∷ 108 ∷ 108 ∷ []) s (at + 1) true → GivenText s at 0 0 (at + 4)
  unfolding ascii
  null-given w =
      let four : at + 1 + 3 ≡ at + 4 = omega arith in
      record {
        text = none;
        held = (refl, refl);
        read =
            λ d.
            record {
              reads =
                  null-asked optional_of s at d q
                  ∙ asked-always (spelled (ascii "ull")) (λ u. optional_of null) (λ u. none) (λ u. null-shape) s (at + 1) (at + 1 + 3) w.0
                  ∙ further {A = Option Text} none s (at + 1 + 3) (at + 4) four;
              past = omega arith;
              within = omega (arith, w.1);
            };
      }

  pub null-unread : SpelledAt (117 ∷ 108 ∷ 108 ∷ []) s (at + 1) false → (d : ℕ) → Refuses (value d >>= asked optional_of) s at
  unfolding ascii
  null-unread w d = null-asked optional_of s at d q ∙ bind-refused (spelled (ascii "ull")) (asked (λ u. optional_of null)) s (at + 1) w

pub text-other : (s : List ℕ) (at : ℕ) → Refuses (byte 0x22) s at → Refuses (byte 0x6E) s at → (d : ℕ) → Refuses (value d >>= asked optional_of) s at
text-other s at q n d = other-asked optional_of s at d optional-others q (inl n)

-- The head of a rule

pub lays-absent : (place len : ℕ) {before after : List ℕ} {o r : ℕ} → place ≡ 0 → Laid before after o (44 ∷ 45 ∷ []) r → LaysLength place len before after o r
unfolding write_length ascii
lays-absent place len {before} {after} {o} {r} e l = record { lies = λ s t h. go s t h }
  where
    go : (s : List ℕ) (t : Option Text) → TextAt s place len t → Laid before after o (write_length t) r
    go s none h = l
    go s (some t) h = absurd (h.there e)

pub lays-length : (place len : ℕ) {before middle after : List ℕ} {o m r : ℕ} → length before ≤ most_place → (place ≡ 0 → ⊥) → Laid before middle o (44 ∷ []) m → Laid middle after m (decimal_of len) r
    → LaysLength place len before after o r
unfolding write_length write_item ascii
lays-length place len {before} {middle} {after} {o} {m} {r} room e u v = record { lies = λ s t h. go s t h }
  where
    go : (s : List ℕ) (t : Option Text) → TextAt s place len t → Laid before after o (write_length t) r
    go s none h = absurd (e h.0)
    go s (some t) h = subst (λ (n : ℕ). Laid before after o (44 ∷ decimal_of n) r) (sym h.size) (laid_then room u v)

pub lays-no-text : (s l : List ℕ) (place o : ℕ) → o ≤ most_place → place ≡ 0 → LaysOptional s place l l o o
unfolding write_text
lays-no-text s l place o room e = record { lies = λ len t h. go len t h }
  where
    go : (len : ℕ) (t : Option Text) → TextAt s place len t → Laid l l o (write_text t) o
    go len none h = laid-nothing l o room
    go len (some t) h = absurd (h.there e)

pub lays-out : (s l : List ℕ) (place o : ℕ) → o ≤ most_place → length s < place → LaysOptional s place l l o o
unfolding write_text
lays-out s l place o room e = record { lies = λ len t h. go len t h }
  where
    go : (len : ℕ) (t : Option Text) → TextAt s place len t → Laid l l o (write_text t) o
    go len none h = laid-nothing l o room
    go len (some t) h = absurd (omega (arith, h.within))

pub lays-optional : (s : List ℕ) (place : ℕ) {before after : List ℕ} {o r : ℕ} → (place ≡ 0 → ⊥) → LaysText s place before after o r → LaysOptional s place before after o r
unfolding write_text
lays-optional s place {before} {after} {o} {r} e l = record { lies = λ len t h. go len t h }
  where
    go : (len : ℕ) (t : Option Text) → TextAt s place len t → Laid before after o (write_text t) r
    go len none h = absurd (e h.0)
    go len (some t) h = l.lies t h.next h.read

head-joined : (t u : Option Text) → (((((82 ∷ []) ++ write_length t) ++ write_length u) ++ (44 ∷ [])) ++ write_text t ++ write_text u) ++ (10 ∷ []) ≡ write_rule_head (Entries.rule t u)
unfolding write_rule_head write_end ascii
head-joined t u = refl

pub lays-head : (s : List ℕ) (name length' message size : ℕ) {before a b d e f g after : List ℕ} {p q r t v w x : ℕ} → length before ≤ most_place
    → Laid before a 0 (82 ∷ []) p
    → LaysLength name length' a b p q
    → LaysLength message size b d q r
    → Laid d e r (44 ∷ []) t
    → LaysOptional s name e f t v
    → LaysOptional s message f g v w
    → Laid g after w (10 ∷ []) x
    → LaysHead s name length' message size before after x
lays-head s name length' message size {before} {after = after} {x = x} room l m n o i j k =
    record {
      lies =
          λ t u h c.
          subst (λ (y : List ℕ). Laid before after 0 y x) (head-joined t u)
          (laid_then room (laid_then room (laid_then room (laid_then room (laid_then room (laid_then room l (m.lies s t h)) (n.lies s u c)) o) (i.lies length' t h)) (j.lies size u c)) k);
    }

-- One member

abbrev rule_names : List Text
rule_names = ascii "name" ∷ ascii "assert" ∷ ascii "message" ∷ []

-- the reader that a name asks for
module _ (t : Text) (n : ℕ) (e : n ≡ place_in 1 t rule_names) where
  abbrev NamedReader : Type 0
  NamedReader = Reader (List ℕ) NamedPart

  abbrev text_member : (Option Text → RulePart) → NamedReader
  text_member h = value held_depth >>= asked optional_of >>= λ x. pure (t, h x)

  abbrev condition_member : NamedReader
  condition_member = streamed held_depth >>= λ c. pure (t, asserts c)

  abbrev as_named : Bool → Bool → Bool → NamedReader
  as_named x y z = cond x (text_member names) (cond y condition_member (cond z (text_member says) refuse))

  abbrev placed_at : Bool → Bool → Bool → ℕ
  placed_at x y z = cond x 1 (cond y 2 (cond z 3 0))

  by-member : {C : Type 0} → (n ≡ 1 → t ≡ ascii "name" → rule_member held_depth t ≡ text_member names → C) → (n ≡ 2 → t ≡ ascii "assert" → rule_member held_depth t ≡ condition_member → C)
      → (n ≡ 3 → t ≡ ascii "message" → rule_member held_depth t ≡ text_member says → C) → (n ≡ 0 → rule_member held_depth t ≡ refuse → C) → C
  unfolding rule_member place_in
  by-member {C} f g h k = go (same_bytes t (ascii "name")) (same_bytes t (ascii "assert")) (same_bytes t (ascii "message")) refl refl refl refl e
    where
      go : (x y z : Bool) → same_bytes t (ascii "name") ≡ x → same_bytes t (ascii "assert") ≡ y → same_bytes t (ascii "message") ≡ z → rule_member held_depth t ≡ as_named x y z → n ≡ placed_at x y z → C
      go true y z a b c r p = f p (same_bytes-equal t (ascii "name") a) r
      go false true z a b c r p = g p (same_bytes-equal t (ascii "assert") b) r
      go false false true a b c r p = h p (same_bytes-equal t (ascii "message") c) r
      go false false false a b c r p = k p r

pub member-unread : (s : List ℕ) (at : ℕ) → Refuses key_of s at → Refuses (part_of (rule_member held_depth)) s at
unfolding part_of
member-unread s at e = bind-refused key_of (rule_member held_depth) s at e

module _ {s : List ℕ} {at n next : ℕ} (k : Chosen (λ t. place_in 1 t rule_names) s at n next) where
  -- what a reader that is the same reads or refuses
  same-refuses : (p : Reader (List ℕ) NamedPart) → rule_member held_depth k.name ≡ p → Refuses p s next → Refuses (part_of (rule_member held_depth)) s at
  unfolding part_of
  same-refuses p e r = bind-refuses key_of (rule_member held_depth) k.read (ap (λ (q : Reader (List ℕ) NamedPart). q (drop next s)) e ∙ r)

  same_reads : (p : Reader (List ℕ) NamedPart) {part : NamedPart} {last : ℕ} → rule_member held_depth k.name ≡ p → ReadsTo p s next part last → ReadsTo (part_of (rule_member held_depth)) s at part last
  unfolding part_of
  same_reads p e r =
      bind-reads key_of (rule_member held_depth) k.read
      (record { reads = ap (λ (q : Reader (List ℕ) NamedPart). q (drop next s)) e ∙ r.reads; past = r.past; within = r.within })

  none-there : Refuses {A = NamedPart} refuse s next
  unfolding refuse
  none-there = refl

  pub member-unnamed : n ≡ 0 → Refuses (part_of (rule_member held_depth)) s at
  member-unnamed z =
      by-member k.name n k.which (λ e. absurd (omega arith)) (λ e. absurd (omega arith)) (λ e. absurd (omega arith)) (λ e r. same-refuses refuse r none-there)

  pub condition-bad : n ≡ 2 → Refuses (streamed held_depth) s next → Refuses (part_of (rule_member held_depth)) s at
  condition-bad z b =
      by-member k.name n k.which (λ e. absurd (omega arith))
      (λ e p r. same-refuses _ r (bind-refused (streamed held_depth) (λ c. pure (k.name, asserts c)) s next b))
      (λ e. absurd (omega arith)) (λ e. absurd (omega arith))

  texts-bad : (h : Option Text → RulePart) → ((d : ℕ) → Refuses (value d >>= asked optional_of) s next) → Refuses {A = NamedPart} (value held_depth >>= asked optional_of >>= λ x. pure (k.name, h x)) s next
  texts-bad h b = bind-refused (value held_depth >>= asked optional_of) (λ x. pure (k.name, h x)) s next (b held_depth)

  pub text-bad : (n ≡ 0 → ⊥) → (n ≡ 2 → ⊥) → ((d : ℕ) → Refuses (value d >>= asked optional_of) s next) → Refuses (part_of (rule_member held_depth)) s at
  text-bad z w b =
      by-member k.name n k.which (λ e p r. same-refuses _ r (texts-bad names b)) (λ e. absurd (w e)) (λ e p r. same-refuses _ r (texts-bad says b)) (λ e. absurd (z e))

  pub condition-given : {before after : List ℕ} {last end : ℕ} → n ≡ 2 → GivenCondition (streamed held_depth) s next before after front_room last end
      → GivenRuleMember s at before after 2 end 0 last
  condition-given {before} {after} {last} {end} z g =
      by-member k.name n k.which (λ e. absurd (omega arith))
      (λ e p r.
      record {
        part = (ascii "assert", asserts g.tree);
        read =
            subst (λ (y : Text). ReadsTo (part_of (rule_member held_depth)) s at (y, asserts g.tree) last) p
            (same_reads _ r (bind-pure (streamed held_depth) (λ c. (k.name, asserts c)) g.read));
        seen = is-assert g.tree end g.lies;
      })
      (λ e. absurd (omega arith)) (λ e. absurd (omega arith))

  pub text-member : (l : List ℕ) {place len last : ℕ} → (n ≡ 0 → ⊥) → (n ≡ 2 → ⊥) → GivenText s next place len last → GivenRuleMember s at l l n place len last
  text-member l {place} {len} {last} z w g =
      by-member k.name n k.which
      (λ e p r.
      record {
        part = (ascii "name", names g.text);
        read =
            subst (λ (y : Text). ReadsTo (part_of (rule_member held_depth)) s at (y, names g.text) last) p
            (same_reads _ r (bind-pure (value held_depth >>= asked optional_of) (λ x. (k.name, names x)) (g.read held_depth)));
        seen = subst (λ (m : ℕ). RuleSeen s l l (ascii "name", names g.text) m place len) (sym e) (is_name g.text place len g.held refl);
      })
      (λ e. absurd (w e))
      (λ e p r.
      record {
        part = (ascii "message", says g.text);
        read =
            subst (λ (y : Text). ReadsTo (part_of (rule_member held_depth)) s at (y, says g.text) last) p
            (same_reads _ r (bind-pure (value held_depth >>= asked optional_of) (λ x. (k.name, says x)) (g.read held_depth)));
        seen = subst (λ (m : ℕ). RuleSeen s l l (ascii "message", says g.text) m place len) (sym e) (is-message g.text place len g.held refl);
      })
      (λ e. absurd (z e))

-- The head in front of the condition

digits-few : (n : ℕ) → n ≤ max_text → length (decimal_of n) ≤ 3
digits-few n h = by-test (leb 10 n) (λ e. tens (leb-true 10 n e)) (λ e. let k = leb-false 10 n e in rw (decimal_of-one n k) (omega arith))
  where
    short : (m : ℕ) → m < 100 → length (decimal_of m) ≤ 2
    short m k =
        by-test (leb 10 m)
        (λ e.
        let l = leb-true 10 m e in
        let q : m / 10 < 10 = omega arith in
        rw (decimal_of-last m l, decimal_of-one (m / 10) q) (omega arith))
        (λ e. let l = leb-false 10 m e in rw (decimal_of-one m l) (omega arith))

    tens : 10 ≤ n → length (decimal_of n) ≤ 3
    tens k =
        let q : n / 10 < 100 = omega arith in
        let r = short (n / 10) q in
        rw (decimal_of-last n k) (simp length-append (omega arith))

length-few : (s : List ℕ) (place len : ℕ) (t : Option Text) → TextAt s place len t → len ≤ max_text → length (write_length t) ≤ 4
unfolding write_length write_item ascii
length-few s place len none h k = omega arith
length-few s place len (some t) h k = let d = digits-few (length t) (omega (arith, h.size)) in omega arith

text-few : (s : List ℕ) (place len : ℕ) (t : Option Text) → TextAt s place len t → len ≤ max_text → length (write_text t) ≤ max_text
unfolding write_text
text-few s place len none h k = omega arith
text-few s place len (some t) h k = omega (arith, h.size)

head_few : (s : List ℕ) (name n message m : ℕ) (t u : Option Text) → TextAt s name n t → TextAt s message m u → n ≤ max_text → m ≤ max_text → length (write_rule_head (Entries.rule t u)) ≤ front_room
unfolding write_rule_head write_end ascii
head_few s name n message m t u h c k l =
    let a = length-few s name n t h k in
    let b = length-few s message m u c l in
    let d = text-few s name n t h k in
    let e = text-few s message m u c l in
    simp length-append (omega arith)

module _ (s : List ℕ) (name n message m : ℕ) {room head : List ℕ} {size : ℕ} (l : LaysHead s name n message m room head size) (long : length room ≡ front_room) where
  pub front-over : (out : List ℕ) → front_room < size → FrontLaid s name n message m out out front_room
  front-over out h =
      record {
        front = omega arith;
        lies =
            λ t u a b c d.
            let few = head_few s name n message m t u a b c d in
            let w = l.lies t u a b in
            absurd (omega (arith, w.ends));
      }

  pub front-laid : (out : List ℕ) {after : List ℕ} {start r : ℕ} → size ≤ front_room → start ≡ front_room - size → Laid out after start (take (size - 0) (drop 0 head)) r → FrontLaid s name n message m out after start
  front-laid out {after} {start} {r} h e v =
      record {
        front = omega arith;
        lies =
            λ t u a b c d.
            let few = head_few s name n message m t u a b c d in
            let w = l.lies t u a b in
            let whole : size ≡ length (write_rule_head (Entries.rule t u)) = omega (arith, w.ends) in
            let same : size - 0 ≡ length (write_rule_head (Entries.rule t u)) = omega arith in
            let bytes : take (size - 0) (drop 0 head) ≡ write_rule_head (Entries.rule t u) =
            ap (λ (k : ℕ). take k head) same ∙ ap (take (length (write_rule_head (Entries.rule t u)))) (w.stands (omega arith)) ∙ sets-read (write_rule_head (Entries.rule t u)) room 0 (omega arith) in
            let x : Laid out after start (write_rule_head (Entries.rule t u)) r = subst (λ (y : List ℕ). Laid out after start y r) bytes v in
            let last : r ≡ front_room = omega (arith, x.ends) in
            (subst (λ (k : ℕ). Laid out after start (write_rule_head (Entries.rule t u)) k) last x, omega arith);
      }

-- The text as a whole

module _ {s : List ℕ} {i : ℕ} (k : SpacesTo s 0 i) where
  pub text-no-object : Refuses (byte 0x7B) s i → bind (document s) rule_of ≡ none
  unfolding rule_text spaces ◌>>=◌ ◌>>◌ and_then
  text-no-object e = rule-streamed s ∙ rw (k.skips, e)

  module _ {u : Unit {0}} (b : ReadsTo (byte 0x7B) s i u (i + 1)) where
    pub text-no-members : Refuses rule_rest s (i + 1) → bind (document s) rule_of ≡ none
    unfolding rule_text spaces ◌>>=◌ ◌>>◌ and_then
    text-no-members e = rule-streamed s ∙ rw (k.skips, b.reads, e)

    module _ {before middle : List ℕ} {next end name n message m : ℕ} (g : GivenParts s (i + 1) before middle next end name n message m) {j : ℕ} (l : SpacesTo s next j) where
      pub text-not-ended : j < length s → bind (document s) rule_of ≡ none
      unfolding rule_text spaces at_end ensure ◌>>=◌ ◌>>◌ and_then
      text-not-ended h =
          let more = length-drop j s in
          rule-streamed s ∙ rw (k.skips, b.reads, g.read.reads, l.skips, ne_eqb (length (drop j s)) 0 (λ z. absurd (omega arith)))

      text-rule : length s ≤ j → bind (document s) rule_of ≡ some (rule g.named g.told g.condition)
      unfolding rule_text spaces at_end ensure pure ◌>>=◌ ◌>>◌ and_then
      text-rule h = rule-streamed s ∙ rw (k.skips, b.reads, g.read.reads, l.skips, drop_of_length-le s h)

      over-text : (place len : ℕ) (t : Option Text) → TextAt s place len t → max_text < len → Over t
      over-text place len none h o = absurd (omega (arith, h.1))
      over-text place len (some t) h o = omega (arith, h.size)

      pub name-long : length s ≤ j → max_text < n → RuleLong s
      name-long h o =
          record {
            rule = rule g.named g.told g.condition;
            read = text-rule h;
            long = over-limit g.named g.told g.condition (inl (over-text name n g.named g.name-at o));
          }

      pub message-long : length s ≤ j → max_text < m → RuleLong s
      message-long h o =
          record {
            rule = rule g.named g.told g.condition;
            read = text-rule h;
            long = over-limit g.named g.told g.condition (inr (over-text message m g.told g.message-at o));
          }

      pub rule-given : {after : List ℕ} {start : ℕ} → length before ≤ most_place → length s ≤ j → n ≤ max_text → m ≤ max_text → FrontLaid s name n message m middle after start → RuleGiven s before after start end
      unfolding write_rule
      rule-given {after} {start} room h o p f =
          let w = f.lies g.named g.told g.name-at g.message-at o p in
          record {
            rule = rule g.named g.told g.condition;
            read = text-rule h;
            front = f.front;
            lies = laid-front (write_rule_head (Entries.rule g.named g.told)) (write_condition g.condition) room w.1 g.lies w.0;
          }
