-- Laws of arrays and objects: what their readers read, and their entries.
use Rattle.std.specs.Prelude.{Option as Optional, Some, None}
use Prim.Native.Nat.{ℕ, zero, suc, ◌+◌, ◌-◌, ◌<◌, ◌≤◌}
use mathlib.Core.Bool.{true, false}
use mathlib.Core.List.{List, [], ◌∷◌, ◌++◌, append_assoc}
use mathlib.Core.Option.{Option, none, some}
use mathlib.Core.Path.{◌≡◌, refl, sym, ap, subst, ◌∙◌}
use native.Mathlib.Omega.{arith}
use native.Mathlib.Numerals.{add-one}
use lib.ListN.{length, drop, get_or, drop_of_length-le, length-drop}
use lib.Seq.{drop-cons}
use lib.Dec.{eqb}
use borrow.Author.Tests.{ne_eqb}
use Rattle.text.specs.Utf8.{between}
use Rattle.text.specs.Decimal.{is_digit}
use Rattle.text.specs.Ascii.{ascii}
use Rattle.text.specs.ByteReaders.{byte}
use Rattle.text.specs.Numeral.{decimal_of}
use Rattle.text.specs.NumeralLaws.{decimal_of-one}
use Rattle.text.specs.Reader.{Reader, ◌>>=◌, ◌>>◌, and_then, pure, refuse, either, or_else}
use Rattle.text.specs.ReadAt.{ReadsTo, Refuses}
use Rattle.sheet.specs.Write.{write_end, write_item, write_last, write_type, write_value_head, write_key_head}
use Rattle.definition.specs.Write.{write_value, write_values, write_pairs, count_of_values, count_of_pairs}
use Rattle.buffer.specs.Laid.{Laid, most_place, Recounted}
use Rattle.buffer.specs.LaidLaws.{laid_then}
use Rattle.json_text.specs.Json.{Text, Json, array, object, Elements, no_elements, element, Members, no_members, member}
use Rattle.json_text.specs.Strings as Strings
use Rattle.json_text.specs.Grammar.{unspaced, spaces, is_of_number, number_run, number_text, scalar, comma_or, elements_after, members_after, elements_in, members_in, elements, members, container, value}
use Rattle.json_text.proofs.GrammarLaws.{bracket-value, no_number}
use Rattle.json_text.specs.TokenAt.{SpacesTo}
use Rattle.json_text.specs.BetweenAt.{key_of, KeyAt}
use Rattle.json_text.proofs.ShapedMembers.{after-key, members-turn}
use Rattle.json_text.proofs.Separating.{spaces-full}
use Rattle.json_rule.specs.Shape.{value_of, values_of, pairs_of}
use Rattle.json_sheet.specs.Places.{elements_rest, members_rest, member_of, headed, LaysHeaded, Given, ValueIs, MemberIs, Holding, entries_of_elements, count_of_elements, entries_of_members, count_of_members}
use Rattle.json_sheet.proofs.Siblings.{Kind}
use Rattle.json_sheet.proofs.Scalars.{handed-on, key-bytes}

-- Elements, one by one

module _ (p : Reader (List ℕ) Json) where
  elements-spaced : (n : ℕ) (x : List ℕ) → unspaced (unspaced x) ≡ unspaced x → elements_in p n x ≡ elements_in p n (unspaced x)
  unfolding elements_in spaces refuse ◌>>=◌ ◌>>◌ and_then
  elements-spaced zero x e = refl
  elements-spaced (suc n) x e = rw e

  elements-more : (n : ℕ) (x y z : List ℕ) (a : Json) → unspaced x ≡ x → p x ≡ some (a, y) → comma_or 0x5D (unspaced y) ≡ some (true, z)
      → elements_in p (suc n) x ≡ and_then (elements_in p n z) (λ t. pure (element a t))
  unfolding elements_in elements_after spaces ◌>>=◌ ◌>>◌ and_then
  elements-more n x y z a e f g = rw (e, f, g)

  elements-last : (n : ℕ) (x y z : List ℕ) (a : Json) → unspaced x ≡ x → p x ≡ some (a, y) → comma_or 0x5D (unspaced y) ≡ some (false, z)
      → elements_in p (suc n) x ≡ some (element a no_elements, z)
  unfolding elements_in elements_after spaces ◌>>=◌ ◌>>◌ and_then pure
  elements-last n x y z a e f g = rw (e, f, g)

  elements-unread : (n : ℕ) (x : List ℕ) → unspaced x ≡ x → p x ≡ none → elements_in p n x ≡ none
  unfolding elements_in spaces refuse ◌>>=◌ ◌>>◌ and_then
  elements-unread zero x e f = refl
  elements-unread (suc n) x e f = rw (e, f)

  elements-alone : (n : ℕ) (x y : List ℕ) (a : Json) → unspaced x ≡ x → p x ≡ some (a, y) → comma_or 0x5D (unspaced y) ≡ none → elements_in p n x ≡ none
  unfolding elements_in spaces refuse ◌>>=◌ ◌>>◌ and_then
  elements-alone zero x y a e f g = refl
  elements-alone (suc n) x y a e f g = rw (e, f, g)

  element-writes : (a : Json) (t : Elements) → entries_of_elements (element a t) ≡ write_value (value_of a) ++ entries_of_elements t
  unfolding entries_of_elements values_of write_values
  element-writes a t = refl

  no-elements : entries_of_elements no_elements ≡ []
  unfolding entries_of_elements values_of write_values
  no-elements = refl

  element-counts : (a : Json) (t : Elements) → count_of_elements (element a t) ≡ count_of_elements t + 1
  unfolding count_of_elements values_of count_of_values
  element-counts a t = refl

  zero-elements : count_of_elements no_elements ≡ 0
  unfolding count_of_elements values_of count_of_values
  zero-elements = refl

  pub elements-kind : Kind p (elements_in p) element no_elements 0x5D (λ (v : Json). write_value (value_of v)) entries_of_elements count_of_elements
  elements-kind =
      record {
        spaced = λ n x. elements-spaced n x (spaces-full x refl);
        more = elements-more;
        last = elements-last;
        unread = elements-unread;
        alone = elements-alone;
        writes = element-writes;
        nothing = no-elements;
        counts = element-counts;
        zeroth = zero-elements;
      }

  -- Members, one by one

  -- what is left once its value is read
  unfoldable behind : ℕ → Text × Json → Reader (List ℕ) Members
  behind n a = spaces >> (comma_or 0x7D >>= λ more. members_after (λ s. members_in p n s) more >>= λ others. pure (member a.0 a.1 others))

  member-chain : (n : ℕ) (x : List ℕ) → (key_of >>= λ key. after-key p key n) x ≡ and_then (member_of p x) (λ a. behind n a)
  unfolding member_of behind ◌>>=◌ and_then pure
  member-chain n x = go (key_of x)
    where
      held : (key : Text) (o : Option (Json × List ℕ))
          → and_then o (λ v. spaces >> (comma_or 0x7D >>= λ more. members_after (λ s. members_in p n s) more >>= λ others. pure (member key v others)))
          ≡ and_then (and_then o (λ v s. some ((key, v), s))) (λ a. behind n a)
      held key none = refl
      held key (some r) = refl

      go : (o : Option (Text × List ℕ)) → and_then o (λ key. after-key p key n) ≡ and_then (and_then o (λ key s. and_then (p s) (λ v s. some ((key, v), s)))) (λ a. behind n a)
      go none = refl
      go (some r) = held r.0 (p r.1)

  member-turn : (n : ℕ) (x : List ℕ) → unspaced x ≡ x → members_in p (suc n) x ≡ and_then (member_of p x) (λ a. behind n a)
  member-turn n x e = members-turn p n x ∙ ap (λ (y : List ℕ). (key_of >>= λ key. after-key p key n) y) e ∙ member-chain n x

  pub members-zero : (x : List ℕ) → members_in p zero x ≡ none
  unfolding members_in refuse
  members-zero x = refl

  members-spaced : (n : ℕ) (x : List ℕ) → unspaced (unspaced x) ≡ unspaced x → members_in p n x ≡ members_in p n (unspaced x)
  unfolding members_in spaces refuse ◌>>=◌ ◌>>◌ and_then
  members-spaced zero x e = refl
  members-spaced (suc n) x e = rw e

  members-more : (n : ℕ) (x y z : List ℕ) (a : Text × Json) → unspaced x ≡ x → member_of p x ≡ some (a, y) → comma_or 0x7D (unspaced y) ≡ some (true, z)
      → members_in p (suc n) x ≡ and_then (members_in p n z) (λ t. pure (member a.0 a.1 t))
  unfolding behind members_after spaces ◌>>=◌ ◌>>◌ and_then
  members-more n x y z a e f g = member-turn n x e ∙ rw (f, g)

  members-last : (n : ℕ) (x y z : List ℕ) (a : Text × Json) → unspaced x ≡ x → member_of p x ≡ some (a, y) → comma_or 0x7D (unspaced y) ≡ some (false, z)
      → members_in p (suc n) x ≡ some (member a.0 a.1 no_members, z)
  unfolding behind members_after spaces ◌>>=◌ ◌>>◌ and_then pure
  members-last n x y z a e f g = member-turn n x e ∙ rw (f, g)

  members-unread : (n : ℕ) (x : List ℕ) → unspaced x ≡ x → member_of p x ≡ none → members_in p n x ≡ none
  unfolding and_then
  members-unread zero x e f = members-zero x
  members-unread (suc n) x e f = member-turn n x e ∙ rw f

  members-alone : (n : ℕ) (x y : List ℕ) (a : Text × Json) → unspaced x ≡ x → member_of p x ≡ some (a, y) → comma_or 0x7D (unspaced y) ≡ none → members_in p n x ≡ none
  unfolding behind spaces ◌>>=◌ ◌>>◌ and_then
  members-alone zero x y a e f g = members-zero x
  members-alone (suc n) x y a e f g = member-turn n x e ∙ rw (f, g)

  member-writes : (a : Text × Json) (t : Members)
      → entries_of_members (member a.0 a.1 t) ≡ (write_key_head a.0 ++ write_value (value_of a.1)) ++ entries_of_members t
  unfolding entries_of_members pairs_of write_pairs
  member-writes a t = sym (append_assoc (write_key_head a.0) (write_value (value_of a.1)) (write_pairs (pairs_of t)))

  no-members : entries_of_members no_members ≡ []
  unfolding entries_of_members pairs_of write_pairs
  no-members = refl

  member-counts : (a : Text × Json) (t : Members) → count_of_members (member a.0 a.1 t) ≡ count_of_members t + 1
  unfolding count_of_members pairs_of count_of_pairs
  member-counts a t = refl

  zero-members : count_of_members no_members ≡ 0
  unfolding count_of_members pairs_of count_of_pairs
  zero-members = refl

  pub members-kind :
      Kind (member_of p) (members_in p) (λ (a : Text × Json) (t : Members). member a.0 a.1 t) no_members 0x7D
      (λ (a : Text × Json). write_key_head a.0 ++ write_value (value_of a.1)) entries_of_members count_of_members
  members-kind =
      record {
        spaced = λ n x. members-spaced n x (spaces-full x refl);
        more = members-more;
        last = members-last;
        unread = members-unread;
        alone = members-alone;
        writes = member-writes;
        nothing = no-members;
        counts = member-counts;
        zeroth = zero-members;
      }

  -- A member

  pub member-unread : (s : List ℕ) (at : ℕ) → Refuses key_of s at → Refuses (member_of p) s at
  unfolding member_of ◌>>=◌ and_then
  member-unread s at e = rw e

  pub member_is : (s : List ℕ) (at len next : ℕ) (before middle after : List ℕ) (o e : ℕ) → length before ≤ most_place
      → KeyAt s at len next
      → LaysHeaded (75 ∷ 44 ∷ []) s (at + 1) len before middle o e
      → (r : Optional (ℕ × ℕ)) → ValueIs p s next middle after e r → MemberIs p s at before after o r
  unfolding member_of ◌>>=◌ and_then pure
  member_is s at len next before middle after o e room k l (Some (last, end)) v =
      let first : Laid before middle o (write_key_head k.text) e = subst (λ (x : List ℕ). Laid before middle o x e) (ap (λ (n : ℕ). (75 ∷ 44 ∷ []) ++ headed n k.text) (sym k.size) ∙ key-bytes k.text) (l.lies k.text k.behind k.quoted k.size) in
      record {
        member = (k.text, v.tree);
        read = record { reads = rw (k.read.reads, v.read.reads); past = omega (arith, k.read.past, v.read.past); within = v.read.within };
        lies = laid_then room first v.lies;
      }
  member_is s at len next before middle after o e room k l None v = rw (k.read.reads, v)

  -- Behind an opening bracket

  elements-empty : (x : List ℕ) {y z : List ℕ} {u : Unit {0}} → unspaced x ≡ y → byte 0x5D y ≡ some (u, z) → elements_rest p x ≡ some (array no_elements, z)
  unfolding elements_rest elements either or_else spaces ◌>>=◌ ◌>>◌ and_then pure
  elements-empty x e f = rw (e, f)

  elements-held : (x : List ℕ) {y z : List ℕ} {vs : Elements} → unspaced x ≡ y → byte 0x5D y ≡ none → elements_in p (length x) x ≡ some (vs, z) → elements_rest p x ≡ some (array vs, z)
  unfolding elements_rest elements either or_else spaces ◌>>=◌ ◌>>◌ and_then pure
  elements-held x e f g = rw (e, f, g)

  elements-bad : (x : List ℕ) {y : List ℕ} → unspaced x ≡ y → byte 0x5D y ≡ none → elements_in p (length x) x ≡ none → elements_rest p x ≡ none
  unfolding elements_rest elements either or_else spaces ◌>>=◌ ◌>>◌ and_then pure
  elements-bad x e f g = rw (e, f, g)

  members-empty : (x : List ℕ) {y z : List ℕ} {u : Unit {0}} → unspaced x ≡ y → byte 0x7D y ≡ some (u, z) → members_rest p x ≡ some (object no_members, z)
  unfolding members_rest members either or_else spaces ◌>>=◌ ◌>>◌ and_then pure
  members-empty x e f = rw (e, f)

  members-held : (x : List ℕ) {y z : List ℕ} {ms : Members} → unspaced x ≡ y → byte 0x7D y ≡ none → members_in p (length x) x ≡ some (ms, z) → members_rest p x ≡ some (object ms, z)
  unfolding members_rest members either or_else spaces ◌>>=◌ ◌>>◌ and_then pure
  members-held x e f g = rw (e, f, g)

  members-bad : (x : List ℕ) {y : List ℕ} → unspaced x ≡ y → byte 0x7D y ≡ none → members_in p (length x) x ≡ none → members_rest p x ≡ none
  unfolding members_rest members either or_else spaces ◌>>=◌ ◌>>◌ and_then pure
  members-bad x e f g = rw (e, f, g)

-- Heads with a count

pub counted-bytes : (type n : ℕ) (others : List ℕ) → type < 10 → write_type type n [] ++ others ≡ 86 ∷ 44 ∷ (48 + type) ∷ 44 ∷ (decimal_of n ++ (44 ∷ 10 ∷ others))
unfolding write_type write_item write_last write_end ascii
counted-bytes type n others h = rw (decimal_of-one type h, append_assoc (decimal_of n) (44 ∷ 10 ∷ []) others)

array-bytes : (vs : Elements) → write_value (value_of (array vs)) ≡ write_type 6 (count_of_elements vs) [] ++ entries_of_elements vs
unfolding value_of write_value write_value_head count_of_elements entries_of_elements
array-bytes vs = refl

object-bytes : (ms : Members) → write_value (value_of (object ms)) ≡ write_type 7 (count_of_members ms) [] ++ entries_of_members ms
unfolding value_of write_value write_value_head count_of_members entries_of_members
object-bytes ms = refl

module _ (type : ℕ) (h : type < 10) {before one : List ℕ} {o count : ℕ} (room : length before ≤ most_place) (head : Laid before one o (86 ∷ 44 ∷ (48 + type) ∷ 44 ∷ []) count) where
  none-counted : {after : List ℕ} {end : ℕ} → Laid one after count (48 ∷ 44 ∷ 10 ∷ []) end → Laid before after o (write_type type 0 [] ++ []) end
  none-counted {after} {end} l =
      subst (λ (x : List ℕ). Laid before after o x end)
      (sym (counted-bytes type 0 [] h ∙ ap (λ (x : List ℕ). 86 ∷ 44 ∷ (48 + type) ∷ 44 ∷ (x ++ (44 ∷ 10 ∷ []))) (decimal_of-one 0 (omega arith))))
      (laid_then room head l)

  all-counted : {two three after : List ℕ} {start end next n : ℕ} (others : List ℕ) → length one ≡ length before → Laid one two count (48 ∷ 44 ∷ 10 ∷ []) start → Laid two three start others end → Recounted three after count end n next
      → Laid before after o (write_type type n [] ++ others) next
  all-counted {after = after} {next = next} {n = n} others same l m r =
      subst (λ (x : List ℕ). Laid before after o x next) (sym (counted-bytes type n others h))
      (laid_then room head (r.lies one (44 ∷ 10 ∷ others) (laid_then (omega arith) l m)))

-- An array

module _ (p : Reader (List ℕ) Json) (s : List ℕ) (at i : ℕ) (k : SpacesTo s at i) where
  -- as many turns as are enough
  turns-enough : length s ≤ i + length (drop at s)
  turns-enough = omega (arith, length-drop at s, k.forward)

  pub array-empty : {before one after : List ℕ} {o count start : ℕ} {u : Unit {0}} → length before ≤ most_place
      → Laid before one o (86 ∷ 44 ∷ 54 ∷ 44 ∷ []) count
      → Laid one after count (48 ∷ 44 ∷ 10 ∷ []) start
      → ReadsTo (byte 0x5D) s i u (i + 1)
      → Given (elements_rest p) s at before after o (i + 1) start
  unfolding count_of_elements entries_of_elements values_of write_values count_of_values
  array-empty {before} {after = after} {o = o} {start = start} room l m c =
      record {
        tree = array no_elements;
        read = record { reads = elements-empty p (drop at s) k.skips c.reads; past = omega (arith, k.forward); within = c.within };
        lies = subst (λ (x : List ℕ). Laid before after o x start) (sym (array-bytes no_elements)) (none-counted 6 (omega arith) room l m);
      }

  pub array-bad : Refuses (byte 0x5D) s i → ((turns : ℕ) → length s ≤ i + turns → elements_in p turns (drop i s) ≡ none) → Refuses (elements_rest p) s at
  array-bad c e =
      elements-bad p (drop at s) k.skips c
      ((elements-kind p).spaced (length (drop at s)) (drop at s) ∙ ap (elements_in p (length (drop at s))) k.skips ∙ e (length (drop at s)) turns-enough)

  pub array-given : {before one two three after : List ℕ} {o count start next end n last : ℕ} → length before ≤ most_place
      → Laid before one o (86 ∷ 44 ∷ 54 ∷ 44 ∷ []) count
      → Laid one two count (48 ∷ 44 ∷ 10 ∷ []) start
      → Refuses (byte 0x5D) s i
      → ((turns : ℕ) → length s ≤ i + turns → Holding (elements_in p) entries_of_elements count_of_elements turns s i two three start next end n)
      → Recounted three after count end n last
      → Given (elements_rest p) s at before after o next last
  array-given {before} {after = after} {o = o} {last = last} room l m c f r =
      let h = f (length (drop at s)) turns-enough in
      let read = (elements-kind p).spaced (length (drop at s)) (drop at s) ∙ ap (elements_in p (length (drop at s))) k.skips ∙ h.reads in
      record {
        tree = array h.all;
        read = record { reads = elements-held p (drop at s) k.skips c read; past = omega (arith, k.forward, h.past); within = h.within };
        lies =
            subst (λ (x : List ℕ). Laid before after o x last)
            (ap (λ (j : ℕ). write_type 6 j [] ++ entries_of_elements h.all) (sym h.size) ∙ sym (array-bytes h.all))
            (all-counted 6 (omega arith) room l (entries_of_elements h.all) l.len m h.lies r);
      }

  -- An object

  pub object-empty : {before one after : List ℕ} {o count start : ℕ} {u : Unit {0}} → length before ≤ most_place
      → Laid before one o (86 ∷ 44 ∷ 55 ∷ 44 ∷ []) count
      → Laid one after count (48 ∷ 44 ∷ 10 ∷ []) start
      → ReadsTo (byte 0x7D) s i u (i + 1)
      → Given (members_rest p) s at before after o (i + 1) start
  unfolding count_of_members entries_of_members pairs_of write_pairs count_of_pairs
  object-empty {before} {after = after} {o = o} {start = start} room l m c =
      record {
        tree = object no_members;
        read = record { reads = members-empty p (drop at s) k.skips c.reads; past = omega (arith, k.forward); within = c.within };
        lies = subst (λ (x : List ℕ). Laid before after o x start) (sym (object-bytes no_members)) (none-counted 7 (omega arith) room l m);
      }

  pub object-bad : Refuses (byte 0x7D) s i → ((turns : ℕ) → length s ≤ i + turns → members_in p turns (drop i s) ≡ none) → Refuses (members_rest p) s at
  object-bad c e =
      members-bad p (drop at s) k.skips c
      ((members-kind p).spaced (length (drop at s)) (drop at s) ∙ ap (members_in p (length (drop at s))) k.skips ∙ e (length (drop at s)) turns-enough)

  pub object-given : {before one two three after : List ℕ} {o count start next end n last : ℕ} → length before ≤ most_place
      → Laid before one o (86 ∷ 44 ∷ 55 ∷ 44 ∷ []) count
      → Laid one two count (48 ∷ 44 ∷ 10 ∷ []) start
      → Refuses (byte 0x7D) s i
      → ((turns : ℕ) → length s ≤ i + turns → Holding (members_in p) entries_of_members count_of_members turns s i two three start next end n)
      → Recounted three after count end n last
      → Given (members_rest p) s at before after o next last
  object-given {before} {after = after} {o = o} {last = last} room l m c f r =
      let h = f (length (drop at s)) turns-enough in
      let read = (members-kind p).spaced (length (drop at s)) (drop at s) ∙ ap (members_in p (length (drop at s))) k.skips ∙ h.reads in
      record {
        tree = object h.all;
        read = record { reads = members-held p (drop at s) k.skips c read; past = omega (arith, k.forward, h.past); within = h.within };
        lies =
            subst (λ (x : List ℕ). Laid before after o x last)
            (ap (λ (j : ℕ). write_type 7 j [] ++ entries_of_members h.all) (sym h.size) ∙ sym (object-bytes h.all))
            (all-counted 7 (omega arith) room l (entries_of_members h.all) l.len m h.lies r);
      }

-- A value, by its first byte

pub scalar-bracket : (b : ℕ) (t : List ℕ) → is_of_number b ≡ false → eqb b 0x22 ≡ false → eqb b 0x6E ≡ false → eqb b 0x74 ≡ false → eqb b 0x66 ≡ false → scalar (b ∷ t) ≡ none
unfolding scalar number_text number_run ◌>>=◌ and_then
scalar-bracket b t n q h r f = rw (q, h, r, f, n, no_number)

pub or-none : {A : Type 0} (o : Option A) → or_else o none ≡ o
unfolding or_else
or-none none = refl
or-none (some a) = refl

container-array : (p : Reader (List ℕ) Json) (t : List ℕ) → container p (0x5B ∷ t) ≡ elements_rest p t
unfolding container elements_rest either byte ◌>>=◌ ◌>>◌ and_then
container-array p t = or-none (and_then (elements p t) (λ vs. pure (array vs)))

container-object : (p : Reader (List ℕ) Json) (t : List ℕ) → container p (0x7B ∷ t) ≡ members_rest p t
unfolding container members_rest either or_else byte ◌>>=◌ ◌>>◌ and_then
container-object p t = refl

container-other : (p : Reader (List ℕ) Json) (b : ℕ) (t : List ℕ) → eqb b 0x5B ≡ false → eqb b 0x7B ≡ false → container p (b ∷ t) ≡ none
unfolding container either or_else byte ◌>>=◌ ◌>>◌ and_then
container-other p b t e f = rw (e, f)

pub value-other : (d b : ℕ) (t : List ℕ) → eqb b 0x5B ≡ false → eqb b 0x7B ≡ false → value d (b ∷ t) ≡ scalar (b ∷ t)
unfolding value either
value-other zero b t e f = refl
value-other (suc d) b t e f = rw (container-other (value d) b t e f) (or-none (scalar (b ∷ t)))

pub value-nothing : (d : ℕ) → value d [] ≡ none
unfolding value scalar either or_else container byte ◌>>=◌ ◌>>◌ and_then
value-nothing zero = refl
value-nothing (suc d) = refl

pub value-opens : (d b : ℕ) (t : List ℕ) → (d ≡ 0 → ⊥) → b ≡ 0x5B → value d (b ∷ t) ≡ elements_rest (value (d - 1)) t
unfolding is_of_number is_digit between
value-opens zero b t h e = absurd (h refl)
value-opens (suc d) b t h e =
    let same : suc d - 1 ≡ d = omega arith in
    ap (λ (x : ℕ). value (suc d) (x ∷ t)) e ∙ bracket-value d 0x5B t refl refl refl refl refl ∙ container-array (value d) t ∙ ap (λ (x : ℕ). elements_rest (value x) t) (sym same)

pub value-braces : (d b : ℕ) (t : List ℕ) → (d ≡ 0 → ⊥) → b ≡ 0x7B → value d (b ∷ t) ≡ members_rest (value (d - 1)) t
unfolding is_of_number is_digit between
value-braces zero b t h e = absurd (h refl)
value-braces (suc d) b t h e =
    let same : suc d - 1 ≡ d = omega arith in
    ap (λ (x : ℕ). value (suc d) (x ∷ t)) e ∙ bracket-value d 0x7B t refl refl refl refl refl ∙ container-object (value d) t ∙ ap (λ (x : ℕ). members_rest (value x) t) (sym same)

pub flat-array : (d b : ℕ) (t : List ℕ) → d ≡ 0 → b ≡ 0x5B → value d (b ∷ t) ≡ none
unfolding value is_of_number is_digit between
flat-array d b t h e = ap (λ (x : ℕ). value x (b ∷ t)) h ∙ ap (λ (x : ℕ). scalar (x ∷ t)) e ∙ scalar-bracket 0x5B t refl refl refl refl refl

pub flat-object : (d b : ℕ) (t : List ℕ) → d ≡ 0 → b ≡ 0x7B → value d (b ∷ t) ≡ none
unfolding value is_of_number is_digit between
flat-object d b t h e = ap (λ (x : ℕ). value x (b ∷ t)) h ∙ ap (λ (x : ℕ). scalar (x ∷ t)) e ∙ scalar-bracket 0x7B t refl refl refl refl refl

pub value_out : (s : List ℕ) (at d : ℕ) → length s ≤ at → Refuses (value d) s at
value_out s at d h = ap (value d) (drop_of_length-le s h) ∙ value-nothing d

module _ (s : List ℕ) (at d : ℕ) (h : at < length s) where
  pub here : drop at s ≡ get_or s at 0 ∷ drop (at + 1) s
  here = rw (add-one, drop-cons s at 0 h)

  pub array-flat : get_or s at 0 ≡ 0x5B → d ≡ 0 → Refuses (value d) s at
  array-flat e z = ap (value d) here ∙ flat-array d (get_or s at 0) (drop (at + 1) s) z e

  pub object-flat : get_or s at 0 ≡ 0x7B → d ≡ 0 → Refuses (value d) s at
  object-flat e z = ap (value d) here ∙ flat-object d (get_or s at 0) (drop (at + 1) s) z e

  module _ (r : Optional (ℕ × ℕ)) (before after : List ℕ) (o : ℕ) where
    pub is-array : get_or s at 0 ≡ 0x5B → (d ≡ 0 → ⊥) → ValueIs (elements_rest (value (d - 1))) s (at + 1) before after o r → ValueIs (value d) s at before after o r
    is-array e z v =
        handed-on s at h (value d) (elements_rest (value (d - 1))) (at + 1) (omega arith) (ap (value d) here ∙ value-opens d (get_or s at 0) (drop (at + 1) s) z e) r before after o v

    pub is-object : get_or s at 0 ≡ 0x7B → (d ≡ 0 → ⊥) → ValueIs (members_rest (value (d - 1))) s (at + 1) before after o r → ValueIs (value d) s at before after o r
    is-object e z v =
        handed-on s at h (value d) (members_rest (value (d - 1))) (at + 1) (omega arith) (ap (value d) here ∙ value-braces d (get_or s at 0) (drop (at + 1) s) z e) r before after o v

    pub is-scalar : (get_or s at 0 ≡ 0x5B → ⊥) → (get_or s at 0 ≡ 0x7B → ⊥) → ValueIs scalar s at before after o r → ValueIs (value d) s at before after o r
    is-scalar e f v =
        handed-on s at h (value d) scalar at (omega arith)
        (ap (value d) here ∙ value-other d (get_or s at 0) (drop (at + 1) s) (ne_eqb (get_or s at 0) 0x5B e) (ne_eqb (get_or s at 0) 0x7B f) ∙ ap scalar (sym here)) r before after o v
