-- Laws of the operand of `compare`: its members, and their order.
use Prim.Native.Nat.{ℕ, zero, suc, ◌+◌, ◌-◌, ◌<◌, ◌≤◌, min}
use mathlib.Core.Bool.{Bool, true, false, cond}
use mathlib.Core.List.{List, [], ◌∷◌, ◌++◌, append_assoc, append-nil}
use mathlib.Core.Logic.{inr}
use mathlib.Core.Option.{Option, none, some, bind, none-ne-some}
use mathlib.Core.Path.{◌≡◌, refl, sym, ap, subst, ◌∙◌}
use native.Mathlib.Omega.{arith}
use lib.ListN.{length, take, drop, length-append}
use lib.Dec.{eqb}
use borrow.Author.Tests.{eq-eqb, ne_eqb, eqb-true}
use Rattle.text.specs.Ascii.{ascii}
use Rattle.text.specs.ByteReaders.{byte}
use Rattle.text.specs.CaseLaws.{by-test}
use Rattle.text.specs.Numeral.{decimal_of}
use Rattle.text.specs.NumeralLaws.{decimal_of-last, decimal_of-one}
use Rattle.text.specs.Order.{same_bytes}
use Rattle.text.specs.Reader.{Reader, ◌>>=◌, ◌>>◌, and_then, refuse, or_else}
use Rattle.text.specs.ReadAt.{ReadsTo, Refuses}
use Rattle.text.specs.ReadAtLaws.{bind-refused, bind-refuses, bind-reads, then-refused, then-refuses, then-reads}
use Rattle.sheet.specs.Operators as Operators
use Rattle.sheet.specs.Write.{write_end, write_item, write_last, write_operator, write_condition_head}
use Rattle.definition.specs.Tree.{Value, Condition, comparison}
use Rattle.definition.specs.Write.{write_value, write_condition}
use Rattle.buffer.specs.Laid.{Laid, most_place, Recounted}
use Rattle.buffer.specs.LaidLaws.{laid-nothing, laid_then, sets-read}
use Rattle.json_text.specs.Json.{Text, Json, null, number, string}
use Rattle.json_text.specs.Strings as Strings
use Rattle.json_text.specs.StringAt.{StringAt}
use Rattle.json_text.specs.Unescaped.{LaysText}
use Rattle.json_text.specs.Grammar.{unspaced, comma_or, value}
use Rattle.json_text.specs.TokenAt.{SpacesTo}
use Rattle.json_text.specs.BetweenAt.{key_of, MoreAt, EndAt}
use Rattle.json_text.proofs.ShapedMembers.{parts_in}
use Rattle.json_text.proofs.Separating.{spaces-full}
use Rattle.json_rule.specs.Shape.{value_of, place_in, comparison_names, comparison_of, Part, left, which, right, as_left, as_which, as_right, first_of, comparison_from, which_of, comparison_part}
use Rattle.json_rule.specs.Streamed.{asked, flat, deep}
use Rattle.json_sheet.specs.Blocks.{Swapped}
use Rattle.json_sheet.specs.Places.{Given, Chosen, part_of, operand_in, GivenCondition}
use Rattle.json_sheet.specs.Compared.{compared_member, compared, Seen, is-left, is-op, is_right, GivenPart, Followed, Unfollowed, unread, alone, instead, Compared}
use Rattle.json_sheet.proofs.Naming.{Picks, pick, same-lengths}
use Rattle.json_sheet.proofs.Asking.{OnOthers, string-asked, other-asked}
use Rattle.json_sheet.proofs.Turns.{Begun, begun-start, begun-unread, begun-never, begun-alone, begun_more, begun-end, parts-turns, parts_none, parts-some}

-- What was read, in a shape

asked-none : {A B : Type 0} (p : Reader (List ℕ) A) (f : A → Option B) {s : List ℕ} {at next : ℕ} (a : A) → ReadsTo p s at a next → f a ≡ none → Refuses (p >>= asked f) s at
unfolding ◌>>=◌ and_then asked
asked-none p f a r e = rw (r.reads, e)

asked-some : {A B : Type 0} (p : Reader (List ℕ) A) (f : A → Option B) {s : List ℕ} {at next : ℕ} (a : A) (b : B) → ReadsTo p s at a next → f a ≡ some b
    → ReadsTo (p >>= asked f) s at b next
unfolding ◌>>=◌ and_then asked
asked-some p f a b r e = record { reads = rw (r.reads, e); past = r.past; within = r.within }

-- The name of a comparison

pub comparisons : (t : Text)
    → Picks (comparison_of t) ((same_bytes t (ascii "eq"), 1) ∷ (same_bytes t (ascii "ne"), 2) ∷ (same_bytes t (ascii "lt"), 3) ∷ (same_bytes t (ascii "lte"), 4) ∷ (same_bytes t (ascii "gt"), 5) ∷ (same_bytes t (ascii "gte"), 6) ∷ [])
unfolding comparison_of comparison_names place_in pick
comparisons t = record { is = refl }

comparisons-long : (t : Text) → 3 < length t → comparison_of t ≡ 0
unfolding comparison_of comparison_names place_in ascii
comparisons-long t h =
    rw (same-lengths t (ascii "eq") (λ e. absurd (omega arith)), same-lengths t (ascii "ne") (λ e. absurd (omega arith)), same-lengths t (ascii "lt") (λ e. absurd (omega arith)), same-lengths t (ascii "lte") (λ e. absurd (omega arith)), same-lengths t (ascii "gt") (λ e. absurd (omega arith)), same-lengths t (ascii "gte") (λ e. absurd (omega arith)))

which-others : OnOthers which_of
unfolding which_of
which-others = record { on-truth = λ b. refl; on-number = λ t. refl; on-array = λ vs. refl; on-object = λ ms. refl }

which-null : which_of null ≡ none
unfolding which_of
which-null = refl

which-named : (t : Text) (n : ℕ) → n ≡ comparison_of t → (n ≡ 0 → ⊥) → which_of (string t) ≡ some (which n)
unfolding which_of
which-named t n e h = rw (ne_eqb (comparison_of t) 0 (λ z. h (e ∙ z)), e)

which-unnamed : (t : Text) → comparison_of t ≡ 0 → which_of (string t) ≡ none
unfolding which_of
which-unnamed t e = rw (eq-eqb (comparison_of t) 0 e)

pub name-other : (s : List ℕ) (at : ℕ) → Refuses (byte 0x22) s at → (d : ℕ) → Refuses (value d >>= asked which_of) s at
name-other s at e d = other-asked which_of s at d which-others e (inr which-null)

module _ {s : List ℕ} {at : ℕ} {u : Unit {0}} (q : ReadsTo (byte 0x22) s at u (at + 1)) where
  pub name-unread : Refuses Strings.string s (at + 1) → (d : ℕ) → Refuses (value d >>= asked which_of) s at
  name-unread e d = string-asked which_of s at d q ∙ bind-refused Strings.string (asked (λ x. which_of (string x))) s (at + 1) e

  module _ {len next : ℕ} (t : StringAt s (at + 1) len next) where
    unnamed : comparison_of t.text ≡ 0 → (d : ℕ) → Refuses (value d >>= asked which_of) s at
    unnamed e d = string-asked which_of s at d q ∙ asked-none Strings.string (λ x. which_of (string x)) t.text t.read (which-unnamed t.text e)

    pub name-long : 3 < len → (d : ℕ) → Refuses (value d >>= asked which_of) s at
    name-long h d = unnamed (comparisons-long t.text (omega (arith, t.size))) d

    module _ {before after : List ℕ} {r : ℕ} (l : LaysText s (at + 1) before after 0 r) (h : len ≤ length before) where
      word_holds : t.text ≡ take (len - 0) (drop 0 after)
      word_holds =
          let size : length t.text ≡ len = t.size in
          let fits : 0 + length t.text ≤ length before = omega arith in
          let same : length t.text ≡ len - 0 = omega arith in
          sym (ap (λ (n : ℕ). take n after) (sym same) ∙ ap (take (length t.text)) ((l.lies t.text next t.read).stands fits) ∙ sets-read t.text before 0 fits)

      pub name-unknown : {n : ℕ} → n ≡ comparison_of (take (len - 0) (drop 0 after)) → n ≡ 0 → (d : ℕ) → Refuses (value d >>= asked which_of) s at
      name-unknown e z d = unnamed (ap comparison_of word_holds ∙ sym e ∙ z) d

      pub name-known : {n : ℕ} → n ≡ comparison_of (take (len - 0) (drop 0 after)) → (n ≡ 0 → ⊥) → (d : ℕ) → ReadsTo (value d >>= asked which_of) s at (which n) next
      name-known {n} e z d =
          let r = asked-some Strings.string (λ x. which_of (string x)) t.text (which n) t.read (which-named t.text n (e ∙ ap comparison_of (sym word_holds)) z) in
          record { reads = string-asked which_of s at d q ∙ r.reads; past = omega (arith, r.past); within = r.within }

-- One member

abbrev member_names : List Text
member_names = ascii "left" ∷ ascii "op" ∷ ascii "right" ∷ []

-- what the place of a name among the three says of its value
module _ (t : Text) (v : Json) (n : ℕ) (e : n ≡ place_in 1 t member_names) where
  abbrev placed : Bool → Bool → Bool → ℕ
  placed x y z = cond x 1 (cond y 2 (cond z 3 0))

  abbrev as_placed : Bool → Bool → Bool → Option Part
  as_placed x y z = cond x (some (left (value_of v))) (cond y (which_of v) (cond z (some (right (value_of v))) none))

  part_left : n ≡ 1 → comparison_part t v ≡ some (left (value_of v))
  unfolding comparison_part place_in
  part_left h = go (same_bytes t (ascii "left")) (same_bytes t (ascii "op")) (same_bytes t (ascii "right")) e
    where
      go : (x y z : Bool) → n ≡ placed x y z → as_placed x y z ≡ some (left (value_of v))
      go true y z k = refl
      go false true z k = absurd (omega arith)
      go false false true k = absurd (omega arith)
      go false false false k = absurd (omega arith)

  part_op : n ≡ 2 → comparison_part t v ≡ which_of v
  unfolding comparison_part place_in
  part_op h = go (same_bytes t (ascii "left")) (same_bytes t (ascii "op")) (same_bytes t (ascii "right")) e
    where
      go : (x y z : Bool) → n ≡ placed x y z → as_placed x y z ≡ which_of v
      go true y z k = absurd (omega arith)
      go false true z k = refl
      go false false true k = absurd (omega arith)
      go false false false k = absurd (omega arith)

  part_right : (n ≡ 0 → ⊥) → (n ≡ 1 → ⊥) → (n ≡ 2 → ⊥) → comparison_part t v ≡ some (right (value_of v))
  unfolding comparison_part place_in
  part_right a b c = go (same_bytes t (ascii "left")) (same_bytes t (ascii "op")) (same_bytes t (ascii "right")) e
    where
      go : (x y z : Bool) → n ≡ placed x y z → as_placed x y z ≡ some (right (value_of v))
      go true y z k = absurd (b k)
      go false true z k = absurd (c k)
      go false false true k = refl
      go false false false k = absurd (a k)

  part_none : n ≡ 0 → comparison_part t v ≡ none
  unfolding comparison_part place_in
  part_none h = go (same_bytes t (ascii "left")) (same_bytes t (ascii "op")) (same_bytes t (ascii "right")) e
    where
      go : (x y z : Bool) → n ≡ placed x y z → as_placed x y z ≡ none
      go true y z k = absurd (omega arith)
      go false true z k = absurd (omega arith)
      go false false true k = absurd (omega arith)
      go false false false k = refl

module _ (d : ℕ) where
  pub part-unread : (s : List ℕ) (at : ℕ) → Refuses key_of s at → Refuses (part_of (compared_member d)) s at
  unfolding part_of
  part-unread s at e = bind-refused key_of (compared_member d) s at e

  module _ {s : List ℕ} {at n next : ℕ} (k : Chosen (λ t. place_in 1 t member_names) s at n next) where
    -- no value is in the shape that is asked
    shape-none : ((v : Json) → comparison_part k.name v ≡ none) → (o : Option (Json × List ℕ)) → and_then o (asked (comparison_part k.name)) ≡ none
    unfolding and_then asked
    shape-none e none = refl
    shape-none e (some r) = rw (e r.0)

    -- the same shape under another name
    shape_same : (f : Json → Option Part) → ((v : Json) → comparison_part k.name v ≡ f v) → (o : Option (Json × List ℕ)) → and_then o (asked (comparison_part k.name)) ≡ and_then o (asked f)
    unfolding and_then asked
    shape_same f e none = refl
    shape_same f e (some r) = rw (e r.0)

    pub part-unnamed : n ≡ 0 → Refuses (part_of (compared_member d)) s at
    unfolding part_of ◌>>=◌
    part-unnamed h = bind-refuses key_of (compared_member d) k.read (shape-none (λ v. part_none k.name v n k.which h) (value d (drop next s)))

    pub part-bad : Refuses (value d) s next → Refuses (part_of (compared_member d)) s at
    unfolding part_of
    part-bad e = bind-refuses key_of (compared_member d) k.read (bind-refused (value d) (asked (comparison_part k.name)) s next e)

    pub op-bad : n ≡ 2 → ((d : ℕ) → Refuses (value d >>= asked which_of) s next) → Refuses (part_of (compared_member d)) s at
    unfolding part_of ◌>>=◌
    op-bad h e = bind-refuses key_of (compared_member d) k.read (shape_same which_of (λ v. part_op k.name v n k.which h) (value d (drop next s)) ∙ e d)

    pub op-given : (l : List ℕ) (o : ℕ) {m last : ℕ} → o ≤ most_place → n ≡ 2 → ((d : ℕ) → ReadsTo (value d >>= asked which_of) s next (which m) last) → m ≤ 6
        → GivenPart d s at l l o 2 m last o
    unfolding part_of ◌>>=◌
    op-given l o {m} {last} room h e few =
        record {
          part = which m;
          bytes = [];
          seen = is-op m;
          few = few;
          read =
              bind-reads key_of (compared_member d) k.read
              (record { reads = shape_same which_of (λ v. part_op k.name v n k.which h) (value d (drop next s)) ∙ (e d).reads; past = (e d).past; within = (e d).within });
          lies = laid-nothing l o room;
        }

    module _ {before after : List ℕ} {o last end : ℕ} (g : Given (value d) s next before after o last end) where
      value_read : (p : Part) → comparison_part k.name g.tree ≡ some p → ReadsTo (part_of (compared_member d)) s at p last
      unfolding part_of
      value_read p e = bind-reads key_of (compared_member d) k.read (asked-some (value d) (comparison_part k.name) g.tree p g.read e)

      pub left-given : n ≡ 1 → GivenPart d s at before after o 1 0 last end
      left-given h =
          record {
            part = left (value_of g.tree);
            bytes = write_value (value_of g.tree);
            seen = is-left (value_of g.tree);
            few = omega arith;
            read = value_read (left (value_of g.tree)) (part_left k.name g.tree n k.which h);
            lies = g.lies;
          }

      pub right-given : (n ≡ 0 → ⊥) → (n ≡ 2 → ⊥) → (n ≡ 1 → ⊥) → GivenPart d s at before after o 4 0 last end
      right-given a b c =
          record {
            part = right (value_of g.tree);
            bytes = write_value (value_of g.tree);
            seen = is_right (value_of g.tree);
            few = omega arith;
            read = value_read (right (value_of g.tree)) (part_right k.name g.tree n k.which a c b);
            lies = g.lies;
          }

-- Which parts they are

pub seen_few : {p : Part} {kind n : ℕ} {bytes : List ℕ} → Seen p kind n bytes → kind ≤ 4
seen_few (is-left v) = omega arith
seen_few (is-op n) = omega arith
seen_few (is_right v) = omega arith

abbrev middle_of : ℕ → ℕ → ℕ → ℕ → ℕ → ℕ
middle_of first last o e f = cond (eqb first 4) e (cond (eqb last 1) f o)

-- the comparison that three parts make, and where its values lie
pub record Ordered (ps : List Part) (all : List ℕ) (room o middle n : ℕ) : Type 0 where
  pub lower : Value
  pub upper : Value
  pub made : comparison_from ps ≡ some (comparison 0 n lower upper)
  pub xs : List ℕ
  pub ys : List ℕ
  pub both : all ≡ xs ++ ys
  pub between : o + length (xs ++ ys) ≤ room → middle ≡ o + length xs
  pub turned : ys ++ xs ≡ write_value lower ++ write_value upper

abbrev Decided : List Part → List ℕ → (room o middle n : ℕ) → Bool → Type 0
Decided ps all room o middle n true = Ordered ps all room o middle n
Decided ps all room o middle n false = comparison_from ps ≡ none

numbered : (v w : Value) (n m : ℕ) → n ≡ m → ◌≡◌ {A = Option Condition} (some (comparison 0 n v w)) (some (comparison 0 m v w))
numbered v w n m e = ap (λ (x : ℕ). some (comparison 0 x v w)) e

module _ (room o e f : ℕ) (most : room ≤ most_place) where
  -- left before right
  straight : (ps : List Part) (n : ℕ) (l r : Value) (all : List ℕ) → comparison_from ps ≡ some (comparison 0 n l r) → all ≡ write_value l ++ write_value r → Ordered ps all room o o n
  straight ps n l r all m a =
      record {
        lower = l;
        upper = r;
        made = m;
        xs = [];
        ys = write_value l ++ write_value r;
        both = a;
        between = λ h. omega arith;
        turned = append-nil (write_value l ++ write_value r);
      }

  crossed : (ps : List Part) (n : ℕ) (l r : Value) (all : List ℕ) (middle : ℕ) → comparison_from ps ≡ some (comparison 0 n l r) → all ≡ write_value r ++ write_value l
      → middle ≡ min (o + length (write_value r)) most_place → Ordered ps all room o middle n
  crossed ps n l r all middle m a w =
      record {
        lower = l;
        upper = r;
        made = m;
        xs = write_value r;
        ys = write_value l;
        both = a;
        between = λ h. omega (arith, length-append (write_value r) (write_value l));
        turned = refl;
      }

  pub decided : {p q r : Part} {a b c k m n : ℕ} {x y z : List ℕ} → Seen p a k x → Seen q b m y → Seen r c n z
      → e ≡ min (o + length x) most_place → f ≡ min (e + length y) most_place
      → Decided (p ∷ q ∷ r ∷ []) ((x ++ y) ++ z) room o (middle_of a c o e f) (k + m + n) (eqb (a + b + c) 7)
  unfolding comparison_from first_of as_left as_which as_right or_else bind
  decided (is-left v) (is-op n) (is_right w) u t = straight _ (0 + n + 0) v w _ (numbered v w n (0 + n + 0) (omega arith)) (ap (λ (l : List ℕ). l ++ write_value w) (append-nil (write_value v)))
  decided (is-left v) (is_right w) (is-op n) u t = straight _ (0 + 0 + n) v w _ (numbered v w n (0 + 0 + n) (omega arith)) (append-nil (write_value v ++ write_value w))
  decided (is-op n) (is-left v) (is_right w) u t = straight _ (n + 0 + 0) v w _ (numbered v w n (n + 0 + 0) (omega arith)) refl
  decided (is_right w) (is-left v) (is-op n) u t = crossed _ (0 + 0 + n) v w _ e (numbered v w n (0 + 0 + n) (omega arith)) (append-nil (write_value w ++ write_value v)) u
  decided (is_right w) (is-op n) (is-left v) u t = crossed _ (0 + n + 0) v w _ e (numbered v w n (0 + n + 0) (omega arith)) (ap (λ (l : List ℕ). l ++ write_value v) (append-nil (write_value w))) u
  decided (is-op n) (is_right w) (is-left v) u t = crossed _ (n + 0 + 0) v w _ f (numbered v w n (n + 0 + 0) (omega arith)) refl (omega arith)
  decided (is-left v) (is-left w) (is-left x) u t = refl
  decided (is-left v) (is-left w) (is-op n) u t = refl
  decided (is-left v) (is-left w) (is_right x) u t = refl
  decided (is-left v) (is-op n) (is-left w) u t = refl
  decided (is-left v) (is-op n) (is-op m) u t = refl
  decided (is-left v) (is_right w) (is-left x) u t = refl
  decided (is-left v) (is_right w) (is_right x) u t = refl
  decided (is-op n) (is-left v) (is-left w) u t = refl
  decided (is-op n) (is-left v) (is-op m) u t = refl
  decided (is-op n) (is-op m) (is-left v) u t = refl
  decided (is-op n) (is-op m) (is-op k) u t = refl
  decided (is-op n) (is-op m) (is_right v) u t = refl
  decided (is-op n) (is_right v) (is-op m) u t = refl
  decided (is-op n) (is_right v) (is_right w) u t = refl
  decided (is_right v) (is-left w) (is-left x) u t = refl
  decided (is_right v) (is-left w) (is_right x) u t = refl
  decided (is_right v) (is-op n) (is-op m) u t = refl
  decided (is_right v) (is-op n) (is_right w) u t = refl
  decided (is_right v) (is_right w) (is-left x) u t = refl
  decided (is_right v) (is_right w) (is-op n) u t = refl
  decided (is_right v) (is_right w) (is_right x) u t = refl

-- A member and what stands behind it

module _ {d : ℕ} {s : List ℕ} {at : ℕ} {before after : List ℕ} {o kind n stop end : ℕ} (g : GivenPart d s at before after o kind n stop end) where
  pub followed : (behind : List ℕ → ℕ → ℕ → Type 0) {next : ℕ} → behind s stop next → Followed behind d s at before after o kind n next end
  followed behind b = record { stop = stop; given = g; goes = b }

  pub not-followed : (other : List ℕ → ℕ → ℕ → Type 0) → comma_or 0x7D (unspaced (drop stop s)) ≡ none → Unfollowed other d s at
  not-followed other e = alone g.part stop g.read e

  pub otherwise : (other : List ℕ → ℕ → ℕ → Type 0) {next : ℕ} → other s stop next → Unfollowed other d s at
  otherwise other {next} b = instead g.part stop next g.read b

-- All three

three-only : (a b c e : Part) (t : List Part) → comparison_from (a ∷ b ∷ c ∷ e ∷ t) ≡ none
unfolding comparison_from
three-only a b c e t = rw (ne_eqb (length (a ∷ b ∷ c ∷ e ∷ t)) 3 (λ x. absurd (omega arith)))

pub asks_none : {A B : Type 0} (f : A → Option B) {o : Option (A × List ℕ)} → o ≡ none → and_then o (asked f) ≡ none
unfolding and_then
asks_none f e = rw e

pub asks-other : {A B : Type 0} (f : A → Option B) {o : Option (A × List ℕ)} (a : A) (y : List ℕ) → o ≡ some (a, y) → f a ≡ none → and_then o (asked f) ≡ none
unfolding and_then asked
asks-other f a y e h = rw (e, h)

pub part-opens : {C : Type 0} (q : Text → Reader (List ℕ) C) (x y : List ℕ) (a : C) → part_of q x ≡ some (a, y) → byte 0x7D x ≡ none
unfolding part_of key_of byte ◌>>=◌ ◌>>◌ and_then
part-opens q [] y a e = refl
part-opens q (b ∷ x) y a e =
    by-test (eqb b 0x7D)
    (λ h. absurd (none-ne-some (a, y) (rw (ne_eqb b 0x22 (λ q. absurd (let same = eqb-true b 0x7D h in omega arith))) at e)))
    (λ h. rw h)

module _ (d : ℕ) {s : List ℕ} {at i : ℕ} (k : SpacesTo s at i) where
  abbrev Going : List Part → ℕ → Type 0
  Going done j = Begun (part_of (compared_member d)) (parts_in (compared_member d)) 0x7D s i done j

  abbrev NoWhole : Type 0
  NoWhole = (whole : ℕ) → length s ≤ i + whole → and_then (parts_in (compared_member d) whole (drop i s)) (asked comparison_from) ≡ none

  begins : Going [] i
  begins = begun-start (part_of (compared_member d)) (parts_in (compared_member d)) 0x7D s i k.within (spaces-full (drop at s) k.skips)

  module _ {done : List Part} {j : ℕ} (w : Going done j) where
    goes-more : {before after : List ℕ} {o kind n next end : ℕ} (m : Followed (MoreAt 0x7D) d s j before after o kind n next end) → Going (done ++ (m.given.part ∷ [])) next
    goes-more m = begun_more (part_of (compared_member d)) (parts_in (compared_member d)) 0x7D (parts-turns (compared_member d)) w m.given.part m.given.read m.goes

    not-next : ((a : Part) → comparison_from (done ++ (a ∷ [])) ≡ none) → Unfollowed (EndAt 0x7D) d s j → NoWhole
    not-next f (unread r) whole h = asks_none comparison_from (begun-unread (part_of (compared_member d)) (parts_in (compared_member d)) 0x7D (parts-turns (compared_member d)) w r whole h)
    not-next f (alone a stop r c) whole h =
        asks_none comparison_from (begun-alone (part_of (compared_member d)) (parts_in (compared_member d)) 0x7D (parts-turns (compared_member d)) w a r c whole h)
    not-next f (instead a stop next r c) whole h =
        asks-other comparison_from (done ++ (a ∷ [])) (drop next s) (begun-end (part_of (compared_member d)) (parts_in (compared_member d)) 0x7D (parts-turns (compared_member d)) w a r c whole h) (f a)

    not_last : ((a b : Part) (t : List Part) → comparison_from ((done ++ (a ∷ [])) ++ (b ∷ t)) ≡ none) → Unfollowed (MoreAt 0x7D) d s j → NoWhole
    not_last f (unread r) whole h = asks_none comparison_from (begun-unread (part_of (compared_member d)) (parts_in (compared_member d)) 0x7D (parts-turns (compared_member d)) w r whole h)
    not_last f (alone a stop r c) whole h =
        asks_none comparison_from (begun-alone (part_of (compared_member d)) (parts_in (compared_member d)) 0x7D (parts-turns (compared_member d)) w a r c whole h)
    not_last f (instead a stop next r c) whole h =
        begun-never (part_of (compared_member d)) (parts_in (compared_member d)) 0x7D (parts-turns (compared_member d))
        (begun_more (part_of (compared_member d)) (parts_in (compared_member d)) 0x7D (parts-turns (compared_member d)) w a r c) comparison_from (λ b y x t. f a b t) whole h

  none-whole : NoWhole → Refuses (compared d) s at
  unfolding comparison_from
  none-whole h = parts_none comparison_from k (compared_member d) refl h

  pub three-unread : Unfollowed (EndAt 0x7D) d s i → Refuses (compared d) s at
  unfolding comparison_from
  three-unread u = none-whole (not-next begins (λ a. refl) u)

  module _ {before one : List ℕ} {o a x j e : ℕ} (p : Followed (MoreAt 0x7D) d s i before one o a x j e) where
    pub three-second : Unfollowed (EndAt 0x7D) d s j → Refuses (compared d) s at
    unfolding comparison_from
    three-second u = none-whole (not-next (goes-more begins p) (λ a. refl) u)

    module _ {two : List ℕ} {b y l f : ℕ} (q : Followed (MoreAt 0x7D) d s j one two e b y l f) where
      two-read : Going (p.given.part ∷ q.given.part ∷ []) l
      two-read = goes-more (goes-more begins p) q

      pub three_third : Unfollowed (MoreAt 0x7D) d s l → Refuses (compared d) s at
      three_third u = none-whole (not_last two-read (λ a b t. three-only p.given.part q.given.part a b t) u)

      module _ {after : List ℕ} {c z next end : ℕ} (r : Followed (EndAt 0x7D) d s l two after f c z next end) where
        abbrev parts_read : List Part
        parts_read = p.given.part ∷ q.given.part ∷ r.given.part ∷ []

        all_read : (whole : ℕ) → length s ≤ i + whole → parts_in (compared_member d) whole (drop i s) ≡ some (parts_read, drop next s)
        all_read whole h = begun-end (part_of (compared_member d)) (parts_in (compared_member d)) 0x7D (parts-turns (compared_member d)) two-read r.given.part r.given.read r.goes whole h

        pub three-few : (a ≤ 4) × (b ≤ 4) × (c ≤ 4) × (x ≤ 6) × (y ≤ 6) × (z ≤ 6)
        three-few = (seen_few p.given.seen, seen_few q.given.seen, seen_few r.given.seen, p.given.few, q.given.few, r.given.few)

        module _ (room : length before ≤ most_place) where
          decision : Decided parts_read ((p.given.bytes ++ q.given.bytes) ++ r.given.bytes) (length before) o (middle_of a c o e f) (x + y + z) (eqb (a + b + c) 7)
          decision = decided (length before) o e f room p.given.seen q.given.seen r.given.seen p.given.lies.ends q.given.lies.ends

          pub three-other : (a + b + c ≡ 7 → ⊥) → Refuses (compared d) s at
          three-other h = none-whole (λ whole k. asks-other comparison_from parts_read (drop next s) (all_read whole k) (rw (ne_eqb (a + b + c) 7 h) at decision))

          pub three-given : {middle : ℕ} → a + b + c ≡ 7 → middle ≡ middle_of a c o e f → Compared d s at before after o next end middle (x + y + z)
          three-given {middle} h m = from-order (rw (eq-eqb (a + b + c) 7 h) at decision)
            where
              from-order : Ordered parts_read ((p.given.bytes ++ q.given.bytes) ++ r.given.bytes) (length before) o (middle_of a c o e f) (x + y + z) → Compared d s at before after o next end middle (x + y + z)
              from-order ord =
                  record {
                    lower = ord.lower;
                    upper = ord.upper;
                    read =
                        parts-some comparison_from k parts_read (comparison 0 (x + y + z) ord.lower ord.upper) ord.made (compared_member d)
                        (part-opens (compared_member d) (drop i s) (drop p.stop s) p.given.part p.given.read.reads)
                        (omega (arith, p.given.read.past, p.goes.past, q.given.read.past, q.goes.past, r.given.read.past, r.goes.past)) r.goes.within all_read;
                    xs = ord.xs;
                    ys = ord.ys;
                    lies =
                        subst (λ (w : List ℕ). Laid before after o w end) ord.both
                        (laid_then room (laid_then room p.given.lies q.given.lies) r.given.lies);
                    between = λ fits. m ∙ ord.between fits;
                    turned = ord.turned;
                  }

-- The operand

-- the head, with the digit 0 in the place of its number
abbrev operator_bytes : List ℕ
operator_bytes = 67 ∷ 44 ∷ 49 ∷ 56 ∷ 44 ∷ []

abbrev number_bytes : List ℕ
number_bytes = 48 ∷ 44 ∷ 10 ∷ []

comparison-bytes : (n : ℕ) (l r : Value) → write_condition (comparison 0 n l r) ≡ operator_bytes ++ (decimal_of n ++ (44 ∷ 10 ∷ (write_value l ++ write_value r)))
unfolding write_condition write_condition_head write_operator write_item write_last write_end ascii
comparison-bytes n l r = rw (eighteen, append_assoc (decimal_of n) (44 ∷ 10 ∷ []) (write_value l ++ write_value r))
  where
    eighteen : decimal_of 18 ≡ 49 ∷ 56 ∷ []
    eighteen = decimal_of-last 18 (omega arith) ∙ ap (λ (x : List ℕ). x ++ (56 ∷ [])) (decimal_of-one 1 (omega arith))

pub comparison-other : (s : List ℕ) (at depth : ℕ) → Refuses (byte 0x7B) s at → Refuses (operand_in Operators.comparison 18 depth) s at
unfolding operand_in flat deep refuse
comparison-other s at zero e = refl
comparison-other s at (suc d) e = then-refused (byte 0x7B) (compared d) s at e

pub comparison-flat : (s : List ℕ) (at depth : ℕ) → depth ≡ 0 → Refuses (operand_in Operators.comparison 18 depth) s at
unfolding operand_in flat refuse
comparison-flat s at zero e = refl
comparison-flat s at (suc d) e = absurd (omega arith)

module _ {s : List ℕ} {at : ℕ} {u : Unit {0}} (b : ReadsTo (byte 0x7B) s at u (at + 1)) where
  pub comparison-bad : (depth : ℕ) → (depth ≡ 0 → ⊥) → Refuses (compared (depth - 1)) s (at + 1) → Refuses (operand_in Operators.comparison 18 depth) s at
  unfolding operand_in deep
  comparison-bad zero h e = absurd (h refl)
  comparison-bad (suc d) h e = let same : suc d - 1 ≡ d = omega arith in then-refuses (byte 0x7B) (compared d) b (rw same at e)

  comparison-read : (depth : ℕ) {next : ℕ} (c : Condition) → (depth ≡ 0 → ⊥) → ReadsTo (compared (depth - 1)) s (at + 1) c next → ReadsTo (operand_in Operators.comparison 18 depth) s at c next
  unfolding operand_in deep
  comparison-read zero c h r = absurd (h refl)
  comparison-read (suc d) c h r = let same : suc d - 1 ≡ d = omega arith in then-reads (byte 0x7B) (compared d) b (rw same at r)

  pub comparison-given : (depth : ℕ) {before one two three four after : List ℕ} {o count start next end middle n last : ℕ} → (depth ≡ 0 → ⊥) → length before ≤ most_place
      → Laid before one o operator_bytes count
      → Laid one two count number_bytes start
      → Compared (depth - 1) s (at + 1) two three start next end middle n
      → Swapped three four start middle end
      → Recounted four after count end n last
      → GivenCondition (operand_in Operators.comparison 18 depth) s at before after o next last
  comparison-given depth {before} {one} {two} {three} {four} {after} {o} {count} {start} {next} {end} {middle} {n} {last} h room l m g w r =
      let same = l.len in
      let kept = m.len in
      let whole = length-append number_bytes (g.xs ++ g.ys) in
      let laid : Laid one three count (number_bytes ++ (g.xs ++ g.ys)) end = laid_then (omega arith) m g.lies in
      let places : count + length (number_bytes ++ (g.xs ++ g.ys)) ≤ length one → (start ≡ count + length number_bytes) × (middle ≡ count + length number_bytes + length g.xs) =
      λ fits. (omega (arith, m.ends), omega (arith, m.ends, g.between (omega (arith, m.ends)))) in
      let turned = w.lies one number_bytes g.xs g.ys count laid places in
      record {
        tree = comparison 0 n g.lower g.upper;
        read = comparison-read depth (comparison 0 n g.lower g.upper) h g.read;
        lies =
            subst (λ (x : List ℕ). Laid before after o x last)
            (ap (λ (x : List ℕ). operator_bytes ++ (decimal_of n ++ (44 ∷ 10 ∷ x))) g.turned ∙ sym (comparison-bytes n g.lower g.upper))
            (laid_then room l (r.lies one (44 ∷ 10 ∷ (g.ys ++ g.xs)) turned));
      }
