-- Laws of quantifiers: their members in any order, and their entries in the sheet's.
use Prim.Native.Nat.{ℕ, zero, suc, ◌+◌, ◌-◌, ◌≤◌, min}
use mathlib.Core.Bool.{Bool, true, false, cond}
use mathlib.Core.List.{List, [], ◌∷◌, ◌++◌, append_assoc, append-nil}
use mathlib.Core.Logic.{inr}
use mathlib.Core.Option.{none, some, bind}
use mathlib.Core.Path.{◌≡◌, refl, sym, ap, subst, ◌∙◌}
use native.Mathlib.Omega.{arith}
use lib.ListN.{length, drop, length-append}
use lib.Dec.{eqb}
use borrow.Author.Tests.{ne_eqb, eq-eqb}
use Rattle.text.specs.Ascii.{ascii}
use Rattle.text.specs.ByteReaders.{byte}
use Rattle.text.specs.Order.{same_bytes}
use Rattle.text.specs.Reader.{Reader, ◌>>=◌, ◌>>◌, and_then, pure, refuse, or_else}
use Rattle.text.specs.ReadAt.{ReadsTo, Refuses}
use Rattle.text.specs.ReadAtLaws.{bind-refused, bind-refuses, bind-reads, bind-pure}
use Rattle.sheet.specs.Operators as Operators
use Rattle.sheet.specs.Write.{write_operator, write_condition_head}
use Rattle.definition.specs.Tree.{Value, Condition, quantifier}
use Rattle.definition.specs.Write.{write_value, write_condition}
use Rattle.buffer.specs.Laid.{Laid, most_place}
use Rattle.buffer.specs.LaidLaws.{laid_then}
use Rattle.json_text.specs.Json.{Text, Json, string}
use Rattle.json_text.specs.Strings as Strings
use Rattle.json_text.specs.StringAt.{StringAt}
use Rattle.json_text.specs.Grammar.{unspaced, comma_or, value}
use Rattle.json_text.specs.TokenAt.{SpacesTo}
use Rattle.json_text.specs.BetweenAt.{key_of, MoreAt, EndAt}
use Rattle.json_text.proofs.ShapedMembers.{parts_in}
use Rattle.json_text.proofs.Separating.{spaces-full}
use Rattle.json_rule.specs.Shape.{value_of, place_in, Part, over, bound, body, bound_of, as_over, as_bound, as_body, first_of, quantifier_from}
use Rattle.json_rule.specs.Streamed.{asked, flat, deep, streamed, quantifier_member}
use Rattle.json_sheet.specs.Blocks.{Swapped}
use Rattle.json_sheet.specs.Places.{headed, LaysHeaded, Given, Chosen, part_of, operator_start, operand_in, GivenCondition}
use Rattle.json_sheet.specs.Quantified.{quantified_member, quantified, GivenBound, Seen, is-over, is-bound, is_body, GivenPart, Followed, Unfollowed, unread, alone, instead, turns_pair, arranged, Arranged}
use Rattle.json_sheet.proofs.Turns.{Begun, begun-start, begun-unread, begun-never, begun-alone, begun_more, begun-end, parts-turns, parts_none, parts-some}
use Rattle.json_sheet.proofs.Asking.{OnOthers, string-asked, other-asked}
use Rattle.json_sheet.proofs.Operands.{text_head, then-none, then-asked}
use Rattle.json_sheet.proofs.Conditions.{part-opens}

-- The bound string

bound-others : OnOthers bound_of
unfolding bound_of
bound-others = record { on-truth = λ b. refl; on-number = λ t. refl; on-array = λ vs. refl; on-object = λ ms. refl }

pub bound-other : (s : List ℕ) (at : ℕ) → Refuses (byte 0x22) s at → (d : ℕ) → Refuses (value d >>= asked bound_of) s at
unfolding bound_of
bound-other s at e d = other-asked bound_of s at d bound-others e (inr refl)

module _ {s : List ℕ} {at : ℕ} {u : Unit {0}} (q : ReadsTo (byte 0x22) s at u (at + 1)) where
  pub bound-unread : Refuses Strings.string s (at + 1) → (d : ℕ) → Refuses (value d >>= asked bound_of) s at
  bound-unread e d = string-asked bound_of s at d q ∙ bind-refused Strings.string (asked (λ x. bound_of (string x))) s (at + 1) e

  bound-reads : {len next : ℕ} (t : StringAt s (at + 1) len next) (d : ℕ) → (Strings.string >>= asked (λ x. bound_of (string x))) (drop (at + 1) s) ≡ some (bound t.text, drop next s)
  unfolding bound_of asked ◌>>=◌ and_then
  bound-reads t d = rw t.read.reads

  pub bound-given : (op : ℕ) {len next : ℕ} {before middle after : List ℕ} {o e end : ℕ} → length before ≤ most_place → StringAt s (at + 1) len next
      → Laid before middle o (operator_start op) e
      → LaysHeaded [] s (at + 1) len middle after e end
      → GivenBound op s at before after o next end
  bound-given op {len} {next} {before} {middle} {after} {o} {e} {end} room t l h =
      record {
        name = t.text;
        read = λ d. record { reads = string-asked bound_of s at d q ∙ bound-reads t d; past = omega (arith, t.read.past); within = t.read.within };
        lies =
            subst (λ (x : List ℕ). Laid before after o x end)
            (ap (λ (n : ℕ). operator_start op ++ headed n t.text) (sym t.size) ∙ sym (text_head op t.text))
            (laid_then room l (h.lies t.text next t.read t.size));
      }

-- Where parts belong

module _ (first second start middle : ℕ) where
  pub turned_as : first ≡ 1 → second ≡ 2 → middle ≡ cond (turns_pair first second) middle start
  unfolding turns_pair
  turned_as a b = rw (eq-eqb first 1 a, eq-eqb second 2 b)

  pub kept_in : first ≡ 1 → (second ≡ 2 → ⊥) → start ≡ cond (turns_pair first second) middle start
  unfolding turns_pair
  kept_in a b = rw (eq-eqb first 1 a, ne_eqb second 2 b)

  pub turned-in : (first ≡ 1 → ⊥) → first ≡ 4 → second ≡ 1 → middle ≡ cond (turns_pair first second) middle start
  unfolding turns_pair
  turned-in a b c = rw (ne_eqb first 1 a, eq-eqb first 4 b, eq-eqb second 1 c)

  pub kept-that : (first ≡ 1 → ⊥) → first ≡ 4 → (second ≡ 1 → ⊥) → start ≡ cond (turns_pair first second) middle start
  unfolding turns_pair
  kept-that a b c = rw (ne_eqb first 1 a, eq-eqb first 4 b, ne_eqb second 1 c)

  pub kept-other : (first ≡ 1 → ⊥) → (first ≡ 4 → ⊥) → start ≡ cond (turns_pair first second) middle start
  unfolding turns_pair
  kept-other a b = rw (ne_eqb first 1 a, ne_eqb first 4 b)

module _ (first last : ℕ) {before after : List ℕ} {o e f end : ℕ} where
  pub arranged-as : last ≡ 2 → Swapped before after o f end → Arranged first last before after o e f end
  unfolding arranged
  arranged-as k w =
      record {
        len = w.len;
        lies = λ start x y z l p. rw (eq-eqb last 2 k) (w.lies start [] (x ++ y) z o l (λ fits. (omega arith, omega (arith, (p fits).0))));
      }

  module _ (n : last ≡ 2 → ⊥) where
    pub arranged-between : last ≡ 1 → first ≡ 2 → Swapped before after e f end → Arranged first last before after o e f end
    unfolding arranged
    arranged-between k h w =
        record {
          len = w.len;
          lies =
              λ start x y z l p.
              rw (ne_eqb last 2 n, eq-eqb last 1 k, eq-eqb first 2 h)
              (w.lies start x y z o (subst (λ (b : List ℕ). Laid start before o b end) (append_assoc x y z) l)
              (λ fits.
              let again = ap length (append_assoc x y z) in
              let both = length-append x y in
              let places = p (omega arith) in
              (places.1 k, omega (arith, places.0))));
        }

    pub arranged-first : last ≡ 1 → (first ≡ 2 → ⊥) → Swapped before after o e end → Arranged first last before after o e f end
    unfolding arranged
    arranged-first k h w =
        record {
          len = w.len;
          lies =
              λ start x y z l p.
              rw (ne_eqb last 2 n, eq-eqb last 1 k, ne_eqb first 2 h)
              (subst (λ (b : List ℕ). Laid start after o b end) (append_assoc y z x)
              (w.lies start [] x (y ++ z) o (subst (λ (b : List ℕ). Laid start before o b end) (append_assoc x y z) l)
              (λ fits.
              let again = ap length (append_assoc x y z) in
              (omega arith, omega (arith, (p (omega arith)).1 k)))));
        }

pub arranged-kept : (first last : ℕ) {now : List ℕ} {o e f end : ℕ} → (last ≡ 2 → ⊥) → (last ≡ 1 → ⊥) → Arranged first last now now o e f end
unfolding arranged
arranged-kept first last n k = record { len = refl; lies = λ start x y z l p. rw (ne_eqb last 2 n, ne_eqb last 1 k) l }

-- A member

abbrev names : List Text
names = (105 ∷ 110 ∷ []) ∷ (97 ∷ 115 ∷ []) ∷ (116 ∷ 104 ∷ 97 ∷ 116 ∷ []) ∷ []

-- the reader that a name's place asks for
unfoldable member_for : Reader (List ℕ) Json → Reader (List ℕ) Condition → ℕ → Reader (List ℕ) Part
member_for p c n =
    cond (eqb n 1) (p >>= λ v. pure (over (value_of v)))
    (cond (eqb n 2) (p >>= asked bound_of)
    (cond (eqb n 3) (c >>= λ x. pure (body x)) refuse))

member-for : (p : Reader (List ℕ) Json) (c : Reader (List ℕ) Condition) (key : Text) → quantifier_member p c key ≡ member_for p c (place_in 1 key names)
unfolding quantifier_member member_for place_in ascii
member-for p c key = go (same_bytes key (105 ∷ 110 ∷ [])) (same_bytes key (97 ∷ 115 ∷ [])) (same_bytes key (116 ∷ 104 ∷ 97 ∷ 116 ∷ []))
  where
    go : (x y z : Bool)
        → cond x (p >>= λ v. pure (over (value_of v))) (cond y (p >>= asked bound_of) (cond z (c >>= λ x. pure (body x)) refuse))
        ≡ member_for p c (cond x 1 (cond y 2 (cond z 3 0)))
    go true y z = refl
    go false true z = refl
    go false false true = refl
    go false false false = refl

pub part-unnamed : (d : ℕ) (s : List ℕ) (at : ℕ) → Refuses key_of s at → Refuses (part_of (quantified_member d)) s at
unfolding part_of
part-unnamed d s at r = bind-refused key_of (quantified_member d) s at r

module _ (op d : ℕ) {s : List ℕ} {at n next : ℕ} (name : Chosen (λ t. place_in 1 t names) s at n next) where
  reader : quantified_member d name.name ≡ member_for (value d) (streamed d) n
  reader = member-for (value d) (streamed d) name.name ∙ ap (member_for (value d) (streamed d)) (sym name.which)

  module _ (q : Reader (List ℕ) Part) (same : member_for (value d) (streamed d) n ≡ q) where
    part-refused : Refuses q s next → Refuses (part_of (quantified_member d)) s at
    unfolding part_of
    part-refused r = bind-refuses key_of (quantified_member d) name.read (subst (λ (x : Reader (List ℕ) Part). Refuses x s next) (sym (reader ∙ same)) r)

    part-read : {a : Part} {behind : ℕ} → ReadsTo q s next a behind → ReadsTo (part_of (quantified_member d)) s at a behind
    unfolding part_of
    part-read {a} {behind} r = bind-reads key_of (quantified_member d) name.read (subst (λ (x : Reader (List ℕ) Part). ReadsTo x s next a behind) (sym (reader ∙ same)) r)

  over-reader : n ≡ 1 → member_for (value d) (streamed d) n ≡ (value d >>= λ v. pure (over (value_of v)))
  unfolding member_for
  over-reader e = ap (member_for (value d) (streamed d)) e

  bound-reader : n ≡ 2 → member_for (value d) (streamed d) n ≡ (value d >>= asked bound_of)
  unfolding member_for
  bound-reader e = ap (member_for (value d) (streamed d)) e

  body-reader : n ≡ 3 → member_for (value d) (streamed d) n ≡ (streamed d >>= λ x. pure (body x))
  unfolding member_for
  body-reader e = ap (member_for (value d) (streamed d)) e

  pub part-other : (n ≡ 1 → ⊥) → (n ≡ 2 → ⊥) → (n ≡ 3 → ⊥) → Refuses (part_of (quantified_member d)) s at
  unfolding member_for refuse
  part-other a b c = part-refused refuse (rw (ne_eqb n 1 a, ne_eqb n 2 b, ne_eqb n 3 c)) refl

  pub over-unread : n ≡ 1 → Refuses (value d) s next → Refuses (part_of (quantified_member d)) s at
  over-unread e r = part-refused (value d >>= λ v. pure (over (value_of v))) (over-reader e) (bind-refused (value d) (λ v. pure (over (value_of v))) s next r)

  pub body-unread : n ≡ 3 → Refuses (streamed d) s next → Refuses (part_of (quantified_member d)) s at
  body-unread e r = part-refused (streamed d >>= λ x. pure (body x)) (body-reader e) (bind-refused (streamed d) (λ x. pure (body x)) s next r)

  pub bind-unread : n ≡ 2 → ((d : ℕ) → Refuses (value d >>= asked bound_of) s next) → Refuses (part_of (quantified_member d)) s at
  bind-unread e r = part-refused (value d >>= asked bound_of) (bound-reader e) (r d)

  module _ {before after : List ℕ} {o behind end : ℕ} where
    pub part-over : n ≡ 1 → Given (value d) s next before after o behind end → GivenPart op d s at before after o 1 behind end
    part-over e g =
        record {
          part = over (value_of g.tree);
          bytes = write_value (value_of g.tree);
          seen = is-over (value_of g.tree);
          read = part-read (value d >>= λ v. pure (over (value_of v))) (over-reader e) (bind-pure (value d) (λ (v : Json). over (value_of v)) g.read);
          lies = g.lies;
        }

    pub part-bound : n ≡ 2 → GivenBound op s next before after o behind end → GivenPart op d s at before after o 2 behind end
    part-bound e g =
        record {
          part = bound g.name;
          bytes = write_operator op (length g.name) g.name;
          seen = is-bound g.name;
          read = part-read (value d >>= asked bound_of) (bound-reader e) (g.read d);
          lies = g.lies;
        }

    pub part_body : n ≡ 3 → GivenCondition (streamed d) s next before after o behind end → GivenPart op d s at before after o 4 behind end
    part_body e g =
        record {
          part = body g.tree;
          bytes = write_condition g.tree;
          seen = is_body g.tree;
          read = part-read (streamed d >>= λ x. pure (body x)) (body-reader e) (bind-pure (streamed d) body g.read);
          lies = g.lies;
        }

-- A member and what stands behind it

module _ {op d : ℕ} {s : List ℕ} {at : ℕ} {before after : List ℕ} {o kind stop end : ℕ} (g : GivenPart op d s at before after o kind stop end) where
  pub followed : (behind : List ℕ → ℕ → ℕ → Type 0) {next : ℕ} → behind s stop next → Followed behind op d s at before after o kind next end
  followed behind b = record { stop = stop; given = g; goes = b }

  pub not-followed : (other : List ℕ → ℕ → ℕ → Type 0) → comma_or 0x7D (unspaced (drop stop s)) ≡ none → Unfollowed other d s at
  not-followed other e = alone g.part stop g.read e

  pub otherwise : (other : List ℕ → ℕ → ℕ → Type 0) {next : ℕ} → other s stop next → Unfollowed other d s at
  otherwise other {next} b = instead g.part stop next g.read b

-- All three in the sheet's order

-- what three parts make, and their entries
pub record Made (op : ℕ) (parts : List Part) (bytes : List ℕ) (a b c : ℕ) : Type 0 where
  pub tree : Condition
  pub made : quantifier_from op parts ≡ some tree
  pub written : bytes ≡ write_condition tree
  pub straight : c ≡ 1 → turns_pair a b ≡ false

abbrev Decided : ℕ → List Part → List ℕ → (a b c : ℕ) → Bool → Type 0
Decided op parts bytes a b c true = Made op parts bytes a b c
Decided op parts bytes a b c false = quantifier_from op parts ≡ none

-- the first two as they lie once they are turned, and the third where it belongs
unfoldable pub sheet_order : (a b c : ℕ) → (x y z : List ℕ) → List ℕ
sheet_order a b c x y z = arranged a c (cond (turns_pair a b) y x) (cond (turns_pair a b) x y) z

module _ (op : ℕ) (name : Text) (v : Value) (t : Condition) where
  abbrev whole : Condition
  whole = quantifier 0 op name v t

  abbrev head_of : List ℕ
  head_of = write_operator op (length name) name

  in-order : (head_of ++ write_value v) ++ write_condition t ≡ write_condition whole
  unfolding write_condition write_condition_head
  in-order = append_assoc head_of (write_value v) (write_condition t)

  in-front : head_of ++ (write_value v ++ write_condition t) ≡ write_condition whole
  unfolding write_condition write_condition_head
  in-front = refl

decided : (op : ℕ) {p q r : Part} {a b c : ℕ} {x y z : List ℕ} → Seen op p a x → Seen op q b y → Seen op r c z
    → Decided op (p ∷ q ∷ r ∷ []) (sheet_order a b c x y z) a b c (eqb (a + b + c) 7)
unfolding sheet_order turns_pair arranged quantifier_from first_of as_over as_bound as_body or_else bind
decided op (is-over v) (is-bound n) (is_body t) = record { tree = whole op n v t; made = refl; written = in-order op n v t; straight = λ e. absurd (omega arith) }
decided op (is-over v) (is_body t) (is-bound n) = record { tree = whole op n v t; made = refl; written = in-front op n v t; straight = λ e. absurd (omega arith) }
decided op (is-bound n) (is-over v) (is_body t) = record { tree = whole op n v t; made = refl; written = in-order op n v t; straight = λ e. absurd (omega arith) }
decided op (is-bound n) (is_body t) (is-over v) = record { tree = whole op n v t; made = refl; written = in-front op n v t; straight = λ e. refl }
decided op (is_body t) (is-over v) (is-bound n) = record { tree = whole op n v t; made = refl; written = in-front op n v t; straight = λ e. absurd (omega arith) }
decided op (is_body t) (is-bound n) (is-over v) = record { tree = whole op n v t; made = refl; written = in-front op n v t; straight = λ e. refl }
decided op (is-over v) (is-over w) (is-over u) = refl
decided op (is-over v) (is-over w) (is-bound n) = refl
decided op (is-over v) (is-over w) (is_body t) = refl
decided op (is-over v) (is-bound n) (is-over w) = refl
decided op (is-over v) (is-bound n) (is-bound m) = refl
decided op (is-over v) (is_body t) (is-over w) = refl
decided op (is-over v) (is_body t) (is_body u) = refl
decided op (is-bound n) (is-over v) (is-over w) = refl
decided op (is-bound n) (is-over v) (is-bound m) = refl
decided op (is-bound n) (is-bound m) (is-over v) = refl
decided op (is-bound n) (is-bound m) (is-bound k) = refl
decided op (is-bound n) (is-bound m) (is_body t) = refl
decided op (is-bound n) (is_body t) (is-bound m) = refl
decided op (is-bound n) (is_body t) (is_body u) = refl
decided op (is_body t) (is-over v) (is-over w) = refl
decided op (is_body t) (is-over v) (is_body u) = refl
decided op (is_body t) (is-bound n) (is-bound m) = refl
decided op (is_body t) (is-bound n) (is_body u) = refl
decided op (is_body t) (is_body u) (is-over v) = refl
decided op (is_body t) (is_body u) (is-bound n) = refl
decided op (is_body t) (is_body u) (is_body w) = refl

seen_few : {op : ℕ} {p : Part} {kind : ℕ} {bytes : List ℕ} → Seen op p kind bytes → kind ≤ 4
seen_few (is-over v) = omega arith
seen_few (is-bound name) = omega arith
seen_few (is_body c) = omega arith

three-only : (op : ℕ) (a b c e : Part) (t : List Part) → quantifier_from op (a ∷ b ∷ c ∷ e ∷ t) ≡ none
unfolding quantifier_from
three-only op a b c e t = rw (ne_eqb (length (a ∷ b ∷ c ∷ e ∷ t)) 3 (λ x. absurd (omega arith)))

-- two parts, turned if the second belongs in front
pair-turned : (t : Bool) {before laid turned : List ℕ} {o e f middle : ℕ} (x y : List ℕ) → length before ≤ most_place → e ≡ min (o + length x) most_place → Laid before laid o (x ++ y) f → middle ≡ cond t e o → Swapped laid turned o middle f
    → Laid before turned o (cond t y x ++ cond t x y) f
pair-turned true {before} x y room m l k w =
    let both = length-append x y in
    w.lies before [] x y _ l (λ fits. (omega arith, k ∙ (omega arith)))
pair-turned false {before} {turned = turned} {o = o} {f = f} x y room m l k w =
    subst (λ (b : List ℕ). Laid before turned o b f) (append-nil (x ++ y)) (w.lies before [] [] (x ++ y) o l (λ fits. (omega arith, k ∙ (omega arith))))

module _ (op d : ℕ) {s : List ℕ} {at i : ℕ} (k : SpacesTo s at i) where
  abbrev Going : List Part → ℕ → Type 0
  Going done j = Begun (part_of (quantified_member d)) (parts_in (quantified_member d)) 0x7D s i done j

  abbrev NoWhole : Type 0
  NoWhole = (turns : ℕ) → length s ≤ i + turns → and_then (parts_in (quantified_member d) turns (drop i s)) (asked (quantifier_from op)) ≡ none

  begins : Going [] i
  begins = begun-start (part_of (quantified_member d)) (parts_in (quantified_member d)) 0x7D s i k.within (spaces-full (drop at s) k.skips)

  module _ {done : List Part} {j : ℕ} (w : Going done j) where
    goes-more : {before after : List ℕ} {o kind next end : ℕ} (m : Followed (MoreAt 0x7D) op d s j before after o kind next end) → Going (done ++ (m.given.part ∷ [])) next
    goes-more m = begun_more (part_of (quantified_member d)) (parts_in (quantified_member d)) 0x7D (parts-turns (quantified_member d)) w m.given.part m.given.read m.goes

    not-next : ((a : Part) → quantifier_from op (done ++ (a ∷ [])) ≡ none) → Unfollowed (EndAt 0x7D) d s j → NoWhole
    not-next f (unread r) turns h = then-none (asked (quantifier_from op)) (begun-unread (part_of (quantified_member d)) (parts_in (quantified_member d)) 0x7D (parts-turns (quantified_member d)) w r turns h)
    not-next f (alone a stop r c) turns h =
        then-none (asked (quantifier_from op)) (begun-alone (part_of (quantified_member d)) (parts_in (quantified_member d)) 0x7D (parts-turns (quantified_member d)) w a r c turns h)
    not-next f (instead a stop next r c) turns h =
        then-asked (quantifier_from op) (done ++ (a ∷ [])) (drop next s) (f a)
        (begun-end (part_of (quantified_member d)) (parts_in (quantified_member d)) 0x7D (parts-turns (quantified_member d)) w a r c turns h)

    not_last : ((a b : Part) (t : List Part) → quantifier_from op ((done ++ (a ∷ [])) ++ (b ∷ t)) ≡ none) → Unfollowed (MoreAt 0x7D) d s j → NoWhole
    not_last f (unread r) turns h = then-none (asked (quantifier_from op)) (begun-unread (part_of (quantified_member d)) (parts_in (quantified_member d)) 0x7D (parts-turns (quantified_member d)) w r turns h)
    not_last f (alone a stop r c) turns h =
        then-none (asked (quantifier_from op)) (begun-alone (part_of (quantified_member d)) (parts_in (quantified_member d)) 0x7D (parts-turns (quantified_member d)) w a r c turns h)
    not_last f (instead a stop next r c) turns h =
        begun-never (part_of (quantified_member d)) (parts_in (quantified_member d)) 0x7D (parts-turns (quantified_member d))
        (begun_more (part_of (quantified_member d)) (parts_in (quantified_member d)) 0x7D (parts-turns (quantified_member d)) w a r c) (quantifier_from op) (λ b y x t. f a b t) turns h

  none-whole : NoWhole → Refuses (quantified op d) s at
  unfolding quantifier_from
  none-whole h = parts_none (quantifier_from op) k (quantified_member d) refl h

  pub three-unread : Unfollowed (EndAt 0x7D) d s i → Refuses (quantified op d) s at
  unfolding quantifier_from
  three-unread u = none-whole (not-next begins (λ a. refl) u)

  module _ {before one : List ℕ} {o a j e : ℕ} (p : Followed (MoreAt 0x7D) op d s i before one o a j e) where
    pub three-second : Unfollowed (EndAt 0x7D) d s j → Refuses (quantified op d) s at
    unfolding quantifier_from
    three-second u = none-whole (not-next (goes-more begins p) (λ a. refl) u)

    module _ {two : List ℕ} {b l f : ℕ} (q : Followed (MoreAt 0x7D) op d s j one two e b l f) where
      two-read : Going (p.given.part ∷ q.given.part ∷ []) l
      two-read = goes-more (goes-more begins p) q

      pub three_third : Unfollowed (MoreAt 0x7D) d s l → Refuses (quantified op d) s at
      three_third u = none-whole (not_last two-read (λ a b t. three-only op p.given.part q.given.part a b t) u)

      module _ {three four : List ℕ} {c next end : ℕ} (r : Followed (EndAt 0x7D) op d s l three four f c next end) where
        abbrev parts_read : List Part
        parts_read = p.given.part ∷ q.given.part ∷ r.given.part ∷ []

        all_read : (turns : ℕ) → length s ≤ i + turns → parts_in (quantified_member d) turns (drop i s) ≡ some (parts_read, drop next s)
        all_read turns h = begun-end (part_of (quantified_member d)) (parts_in (quantified_member d)) 0x7D (parts-turns (quantified_member d)) two-read r.given.part r.given.read r.goes turns h

        pub three-few : (a ≤ 4) × (b ≤ 4) × (c ≤ 4)
        three-few = (seen_few p.given.seen, seen_few q.given.seen, seen_few r.given.seen)

        decision : Decided op parts_read (sheet_order a b c p.given.bytes q.given.bytes r.given.bytes) a b c (eqb (a + b + c) 7)
        decision = decided op p.given.seen q.given.seen r.given.seen

        pub three-other : (a + b + c ≡ 7 → ⊥) → Refuses (quantified op d) s at
        three-other h = none-whole (λ turns t. then-asked (quantifier_from op) parts_read (drop next s) (rw (ne_eqb (a + b + c) 7 h) at decision) (all_read turns t))

        abbrev first_bytes : List ℕ
        first_bytes = cond (turns_pair a b) q.given.bytes p.given.bytes

        abbrev second_bytes : List ℕ
        second_bytes = cond (turns_pair a b) p.given.bytes q.given.bytes

        pub three-given : {after : List ℕ} {middle : ℕ} → length before ≤ most_place → a + b + c ≡ 7 → middle ≡ cond (turns_pair a b) e o → Swapped two three o middle f → Arranged a c four after o e f end
            → GivenCondition (quantified op d) s at before after o next end
        unfolding sheet_order
        three-given {after} {middle} room h m w g =
            let done : Made op parts_read (sheet_order a b c p.given.bytes q.given.bytes r.given.bytes) a b c = rw (eq-eqb (a + b + c) 7 h) at decision in
            let pair : Laid before three o (first_bytes ++ second_bytes) f = pair-turned (turns_pair a b) p.given.bytes q.given.bytes room p.given.lies.ends (laid_then room p.given.lies q.given.lies) m w in
            let all : Laid before four o ((first_bytes ++ second_bytes) ++ r.given.bytes) end = laid_then room pair r.given.lies in
            let size = length-append (first_bytes ++ second_bytes) r.given.bytes in
            let half = length-append first_bytes second_bytes in
            record {
              tree = done.tree;
              read =
                  parts-some (quantifier_from op) k parts_read done.tree done.made (quantified_member d)
                  (part-opens (quantified_member d) p.given.read)
                  (omega (arith, p.given.read.past, p.goes.past, q.given.read.past, q.goes.past, r.given.read.past, r.goes.past)) r.goes.within all_read;
              lies =
                  subst (λ (b : List ℕ). Laid before after o b end) done.written
                  (g.lies before first_bytes second_bytes r.given.bytes all
                  (λ fits. (omega (arith, pair.ends), λ z. let same = ap (λ (t : Bool). length (cond t q.given.bytes p.given.bytes)) (done.straight z) in omega (arith, p.given.lies.ends))));
            }

-- The operand

pub quantifier-flat : (op d : ℕ) → d ≡ 0 → (x : List ℕ) → operand_in Operators.quantifier op d x ≡ none
unfolding operand_in flat refuse
quantifier-flat op zero e x = refl
quantifier-flat op (suc d) e x = absurd (omega arith)

pub quantifier-deep : (op d : ℕ) → (d ≡ 0 → ⊥) → operand_in Operators.quantifier op d ≡ (byte 0x7B >> quantified op (d - 1))
unfolding operand_in deep
quantifier-deep op zero e = absurd (e refl)
quantifier-deep op (suc d) e = let same : suc d - 1 ≡ d = omega arith in rw same
