-- The search for a place: each way through `find_place`, as a law.
use Rattle.std.specs.Prelude.{Option, Some, None}
use Prim.Native.Nat.{ℕ, ◌+◌, ◌≤◌, ◌<◌}
use native.Mathlib.Omega.{arith}
use mathlib.Core.Bool.{false}
use mathlib.Core.List.{List, [], ◌++◌, append_assoc, append-nil}
use mathlib.Core.Option.{some}
use mathlib.Core.Path.{◌≡◌, refl, sym, ap, subst, ◌∙◌}
use lib.ListN.{drop}
use Rattle.sheet.specs.Entries.{max_count, FieldHead, field_head}
use Rattle.text.specs.Order.{precedes, same_bytes}
use Rattle.text.specs.OrderLaws.{same_bytes-equal}
use Rattle.text.specs.Compares.{Compares}
use Rattle.sheet.specs.Write.{write_field_head}
use Rattle.sheet.specs.Within.{TextWithin}
use Rattle.sheet.proofs.ItemLaws.{anything}
use Rattle.sheet.proofs.HeadLaws.{field_head-exact}
use Rattle.text.specs.Parts.{part_of}
use Rattle.sheet.specs.Places.{field_of, KnownTo, Unread, KnownFieldIs}
use Rattle.sheet.specs.declared.schema_heads.FieldHead.{FieldHead as CodeHead}
use Rattle.definition.specs.Tree.{Text, Field, field, Members, no_members, member}
use Rattle.definition.specs.Write.{has_items, count_of_members, write_field, write_items, write_members}
use Rattle.definition.specs.Within.{field_entries, members_entries, FieldFits, MembersFit}
use Rattle.definition.proofs.FieldLaws.{members-take}
use Rattle.field_changes.specs.FieldText.{decode_field}
use Rattle.field_changes.proofs.FieldTextLaws.{field-within, field-limits}
use Rattle.field_changes.specs.Place.{joined}
use Rattle.schema_edits.specs.Forest.{passed, SkippedTo}
use Rattle.schema_edits.specs.ForestLaws.{field_row}
use Rattle.schema_edits.specs.Place.{Holds, AllBefore, PartedAt, MissingAt, FoundAt, NameOf}
use Rattle.std.specs.declared.cmp.Ordering.TheVariants.{Equal, Greater, Less}
use Rattle.std.specs.declared.cmp.Ordering.{Ordering}

-- the first entry of a field has its name
record Heads (name : Text) (bytes : List ℕ) : Type 0 where
  h : FieldHead
  others : List ℕ
  reads : field_head bytes ≡ some (h, others)
  named : h.name ≡ name

field-heads : (name : Text) (f : Field) (more : List ℕ) → TextWithin name → FieldFits f → field_entries f ≤ max_count → Heads name (write_field name f ++ more)
unfolding write_field field_entries anything
field-heads name (field e kind is_open tag items members) more within fits few =
    let k = members-take members in
    let head : FieldHead = record { kind = kind; is_open = is_open; has_items = has_items items; count = count_of_members members; name = name; tag = tag } in
    record {
      h = head;
      others = (write_items items ++ write_members members) ++ more;
      reads =
          ap field_head (append_assoc (write_field_head head) (write_items items ++ write_members members) more)
          ∙ field_head-exact.complete head _ (record { kind = fits.0; count = omega arith; name = within; tag = fits.1 }) refl;
      named = refl;
    }

-- the members that are left, after `i` of them
pub record Left (s : List ℕ) (at i count : ℕ) (name : Text) (m : Members) (rest : List ℕ) (a b : Members) : Type 0 where
  pub parted : PartedAt s at name m rest a b
  pub counted : count_of_members b + i ≡ count
  pub fits : MembersFit b
  pub few : members_entries b ≤ max_count

pub record Finding (s : List ℕ) (start count : ℕ) (name : Text) (at i : ℕ) : Type 0 where
  pub reached : i ≤ count
  pub leads : (m : Members) (rest : List ℕ) → Holds s start count m rest → (a : Members) × (b : Members) × Left s at i count name m rest a b

pub finding-start : {s : List ℕ} {start count : ℕ} {name : Text} {at i : ℕ} → at ≡ start → i ≡ 0 → Finding s start count name at i
unfolding joined
finding-start e f =
    rw (e, f)
    (record {
      reached = omega arith;
      leads = λ m rest h. (
        no_members,
        m,
        record {
          parted = record { parts = refl; before = tt; within = h.within; bytes = h.bytes };
          counted = omega (arith, h.counted);
          fits = h.fits;
          few = h.few;
        },
      );
    })

-- the next field, if one is left
record Next (s : List ℕ) (at i count : ℕ) (name : Text) (m : Members) (rest : List ℕ) : Type 0 where
  a : Members
  n : Text
  f : Field
  others : Members
  left : Left s at i count name m rest a (member n f others)

next-left : {s : List ℕ} {at i count : ℕ} {name : Text} {m : Members} {rest : List ℕ} (a b : Members) → i < count → Left s at i count name m rest a b → Next s at i count name m rest
unfolding count_of_members
next-left a no_members l k = absurd (omega (arith, k.counted))
next-left a (member n f others) l k = record { a = a; n = n; f = f; others = others; left = k }

-- What the entry at `at` says of it.

module _ (s : List ℕ) (at : ℕ) (n : Text) (f : Field) (others : Members) (rest : List ℕ)
    (bytes : drop at s ≡ write_members (member n f others) ++ rest)
    (fits : MembersFit (member n f others))
    (few : members_entries (member n f others) ≤ max_count) where
  first-bytes : drop at s ≡ write_field n f ++ (write_members others ++ rest)
  unfolding write_members
  first-bytes = bytes ∙ append_assoc (write_field n f) (write_members others) rest

  first-few : field_entries f ≤ max_count
  unfolding members_entries
  first-few = omega arith

  first-heads : Heads n (write_field n f ++ (write_members others ++ rest))
  first-heads = field-heads n f (write_members others ++ rest) fits.0 fits.1 first-few

  not-unread : Unread s at → ⊥
  not-unread u = let h = first-heads in u h.h h.others (ap field_head first-bytes ∙ h.reads)

  known-name : (h : CodeHead) (end : ℕ) → KnownTo s at h end → part_of s h.name ≡ n
  unfolding field_of
  known-name h end k =
      let x = first-heads in
      let same = k.reads x.h x.others (ap field_head first-bytes ∙ x.reads) in
      ap (λ (g : FieldHead). g.name) same.0 ∙ x.named

  skipped-first : (next : ℕ) → SkippedTo s at next → drop next s ≡ write_members others ++ rest
  skipped-first next k =
      k.skips (0 + field_entries f) (write_members others ++ rest)
      (rw first-bytes (field_row 0 0 n f (write_members others ++ rest) (write_members others ++ rest) fits.0 fits.1 first-few passed))

joined-more : (a : Members) (n : Text) (f : Field) (b : Members) → joined a (member n f b) ≡ joined (joined a (member n f no_members)) b
unfolding joined
joined-more no_members n f b = refl
joined-more (member k g a) n f b = rw (joined-more a n f b)

before_more : (name : Text) (a : Members) (n : Text) (f : Field) → AllBefore name a → precedes name n ≡ false → same_bytes n name ≡ false
    → AllBefore name (joined a (member n f no_members))
unfolding joined
before_more name no_members n f h e d = ((e, d), tt)
before_more name (member k g a) n f h e d = (h.0, before_more name a n f h.1 e d)

left-more : {s : List ℕ} {at i count : ℕ} {name : Text} {m : Members} {rest : List ℕ} (next : ℕ) (x : Next s at i count name m rest)
    → SkippedTo s at next
    → precedes name x.n ≡ false
    → same_bytes x.n name ≡ false
    → (a : Members) × (b : Members) × Left s next (i + 1) count name m rest a b
unfolding count_of_members members_entries
left-more {s} {at} {name = name} {rest = rest} next x k e d =
    let l = x.left in
    let counted = l.counted in
    let few = l.few in (
      joined x.a (member x.n x.f no_members),
      x.others,
      record {
        parted =
            record {
              parts = l.parted.parts ∙ joined-more x.a x.n x.f x.others;
              before = before_more name x.a x.n x.f l.parted.before e d;
              within = k.within;
              bytes = skipped-first s at x.n x.f x.others rest l.parted.bytes l.fits l.few next k;
            };
        counted = omega arith;
        fits = l.fits.2;
        few = omega arith;
      },
    )

found_left : {s : List ℕ} {at i count : ℕ} {name : Text} {m : Members} {rest : List ℕ} (end : ℕ) (x : Next s at i count name m rest)
    → SkippedTo s at end
    → x.n ≡ name
    → FoundAt s at end name m rest
found_left {s} {at} {name = name} {m = m} {rest = rest} end x k e =
    let l = x.left in
    record {
      a = x.a;
      f = x.f;
      b = x.others;
      parted = subst (λ (n : Text). PartedAt s at name m rest x.a (member n x.f x.others)) e l.parted;
      ends_within = k.within;
      behind = skipped-first s at x.n x.f x.others rest l.parted.bytes l.fits l.few end k;
    }

module _ {s : List ℕ} {start count : ℕ} {name : Text} {at i : ℕ} (k : Finding s start count name at i) where
  next_of : (m : Members) (rest : List ℕ) → Holds s start count m rest → i < count → Next s at i count name m rest
  next_of m rest h l = let x = k.leads m rest h in next-left x.0 x.1 l x.2

  -- all names come before
  end-left : {m : Members} {rest : List ℕ} (a b : Members) → count ≤ i → Left s at i count name m rest a b → MissingAt s at name m rest
  unfolding count_of_members
  end-left a no_members l x = record { a = a; b = no_members; parted = x.parted; starts = tt }
  end-left a (member n f others) l x = absurd (omega (arith, x.counted))

  pub finding-end : count ≤ i → (m : Members) (rest : List ℕ) → Holds s start count m rest → MissingAt s at name m rest
  finding-end l m rest h = let x = k.leads m rest h in end-left x.0 x.1 l x.2

  module _ {r : Option (CodeHead × ℕ)} (read : KnownFieldIs s at r) (less : i < count) where
    pub finding-unread : r ≡ None → (m : Members) (rest : List ℕ) → Holds s start count m rest → MissingAt s at name m rest
    finding-unread e m rest h =
        let x = next_of m rest h less in
        let l = x.left in
        absurd (not-unread s at x.n x.f x.others rest l.parted.bytes l.fits l.few (rw e at read))

    module _ {h : CodeHead} {behind : ℕ} (e : r ≡ Some (h, behind)) where
      name_of : (m : Members) (rest : List ℕ) (held : Holds s start count m rest) → part_of s h.name ≡ (next_of m rest held less).n
      name_of m rest held =
          let x = next_of m rest held less in
          let l = x.left in
          known-name s at x.n x.f x.others rest l.parted.bytes l.fits l.few h behind (rw e at read)

      pub finding-more : (o : Ordering) {next more : ℕ} → Compares (part_of s h.name) name o → o ≡ Less → SkippedTo s at next → more ≡ i + 1 → Finding s start count name next more
      finding-more o {next} c is skip one =
          let stand = rw is at c in
          rw one
          (record {
            reached = omega arith;
            leads = λ m rest held.
                left-more next (next_of m rest held less) skip
                (ap (λ (n : Text). precedes name n) (sym (name_of m rest held)) ∙ stand.behind-is)
                (ap (λ (n : Text). same_bytes n name) (sym (name_of m rest held)) ∙ stand.same-is);
          })

      pub finding-found : (o : Ordering) {end : ℕ} → Compares (part_of s h.name) name o → o ≡ Equal → SkippedTo s at end → (m : Members) (rest : List ℕ) → Holds s start count m rest → FoundAt s at end name m rest
      finding-found o {end} c is skip m rest held =
          let stand = rw is at c in
          found_left end (next_of m rest held less) skip (sym (name_of m rest held) ∙ same_bytes-equal (part_of s h.name) name stand.same-is)

      pub finding-before : (o : Ordering) → Compares (part_of s h.name) name o → o ≡ Greater → (m : Members) (rest : List ℕ) → Holds s start count m rest → MissingAt s at name m rest
      finding-before o c is m rest held =
          let stand = rw is at c in
          let x = next_of m rest held less in
          record {
            a = x.a;
            b = member x.n x.f x.others;
            parted = x.left.parted;
            starts = ap (λ (n : Text). precedes name n) (sym (name_of m rest held)) ∙ stand.behind-is;
          }

-- The name of a field that is lent

lent-heads : (text : List ℕ) (name : Text) (f : Field) → decode_field text ≡ some (name, f) → Heads name text
lent-heads text name f e =
    let w = field-within text name f e in
    rw (w.0 ∙ sym (append-nil (write_field name f)))
    (field-heads name f [] w.1.named w.1.fits (omega (arith, (field-limits text name f e).0)))

module _ (text : List ℕ) (r : Option (CodeHead × ℕ)) (read : KnownFieldIs text 0 r) where
  pub name-unread : {n : List ℕ} → r ≡ None → NameOf text n
  name-unread is name f e = let x = lent-heads text name f e in absurd ((rw is at read) x.h x.others x.reads)

  pub name-known : {h : CodeHead} {end : ℕ} {n : List ℕ} → r ≡ Some (h, end) → n ≡ part_of text h.name → NameOf text n
  unfolding field_of
  name-known {h} {end} is same name f e =
      let x = lent-heads text name f e in
      let known : KnownTo text 0 h end = rw is at read in
      same ∙ ap (λ (g : FieldHead). g.name) (known.reads x.h x.others x.reads).0 ∙ x.named
