-- Laws of the members of a rule: each once, and what is kept of them by their numbers.
use Prim.Native.Nat.{ℕ, zero, suc, ◌+◌, ◌-◌, ◌<◌, ◌≤◌}
use mathlib.Core.Bool.{Bool, true, false, cond, not, ◌&&◌, ◌||◌}
use mathlib.Core.List.{List, [], ◌∷◌, ◌++◌, map-append}
use mathlib.Core.Option.{Option, none, some, none-ne-some}
use mathlib.Core.Path.{◌≡◌, refl, sym, ap, subst, ◌∙◌}
use native.Mathlib.Omega.{arith}
use lib.ListN.{length, drop, get_or, set, replicate, length-set, length-replicate, get_or-replicate}
use lib.Seq.{get_or-set_same, get_or-set_other}
use lib.Dec.{leb}
use borrow.Author.Tests.{le-leb}
use Rattle.text.specs.Ascii.{ascii}
use Rattle.text.specs.ByteReaders.{byte}
use Rattle.text.specs.Order.{same_bytes, is_among, none_twice}
use Rattle.text.specs.OrderLaws.{same_bytes-refl, same_bytes-symmetric}
use Rattle.text.specs.Reader.{Reader, and_then, or_else}
use Rattle.text.specs.ReadAt.{Refuses}
use Rattle.definition.specs.Tree.{Condition, rule}
use Rattle.definition.specs.Write.{write_condition}
use Rattle.buffer.specs.Laid.{Laid}
use Rattle.json_text.specs.Json.{Text}
use Rattle.json_text.specs.Grammar.{unspaced, comma_or}
use Rattle.json_text.specs.TokenAt.{SpacesTo}
use Rattle.json_text.specs.BetweenAt.{MoreAt, EndAt}
use Rattle.json_text.proofs.ShapedMembers.{parts_in}
use Rattle.json_text.proofs.Separating.{spaces-full}
use Rattle.json_rule.specs.Shape.{RulePart, asserts, names, says, as_assert, as_name, as_message, first_of, rule_from}
use Rattle.json_rule.specs.Streamed.{asked}
use Rattle.json_rule.specs.RuleStreamed.{NamedPart, rule_member, names_of, parts_named, rule_made, held_depth, rule_rest}
use Rattle.json_sheet.specs.Places.{part_of}
use Rattle.json_sheet.specs.RuleAt.{front_room, TextAt, RuleSeen, is_name, is-assert, is-message, GivenRuleMember, GivenParts}
use Rattle.json_sheet.proofs.Comparing.{asks_none, asks-other, part-opens}
use Rattle.json_sheet.proofs.Turns.{turn, Begun, begun-start, begun-unread, begun-never, begun-alone, begun_more, begun-end, parts-turns, parts_none, parts-some}

-- One more in a list

names-snoc : (done : List NamedPart) (p : NamedPart) → names_of (done ++ (p ∷ [])) ≡ names_of done ++ (p.0 ∷ [])
unfolding names_of
names-snoc done p = map-append (λ (q : NamedPart). q.0) done (p ∷ [])

parts-snoc : (done : List NamedPart) (p : NamedPart) → parts_named (done ++ (p ∷ [])) ≡ parts_named done ++ (p.1 ∷ [])
unfolding parts_named
parts-snoc done p = map-append (λ (q : NamedPart). q.1) done (p ∷ [])

among-snoc : (t k : Text) (ks : List Text) → is_among t (ks ++ (k ∷ [])) ≡ (is_among t ks || same_bytes t k)
unfolding is_among
among-snoc t k [] = or-false (same_bytes t k)
  where
    or-false : (b : Bool) → (b || false) ≡ b
    or-false true = refl
    or-false false = refl
among-snoc t k (first ∷ ks) = ap (λ (b : Bool). same_bytes t first || b) (among-snoc t k ks) ∙ grouped (same_bytes t first)
  where
    grouped : (b : Bool) → (b || (is_among t ks || same_bytes t k)) ≡ ((b || is_among t ks) || same_bytes t k)
    grouped true = refl
    grouped false = refl

or_parts : {C : Type 0} (x y : Bool) → (x || y) ≡ false → (x ≡ false → y ≡ false → C) → C
or_parts true y e f = absurd (let z : ◌≡◌ {A = ℕ} 1 0 = ap (λ (b : Bool). cond b 1 0) e in omega arith)
or_parts false y e f = f refl e

and_parts : {C : Type 0} (x y : Bool) → (x && y) ≡ true → (x ≡ true → y ≡ true → C) → C
and_parts true y e f = f refl e
and_parts false y e f = absurd (let z : ◌≡◌ {A = ℕ} 0 1 = ap (λ (b : Bool). cond b 1 0) e in omega arith)

once-snoc : (k : Text) (ks : List Text) → none_twice ks ≡ true → is_among k ks ≡ false → none_twice (ks ++ (k ∷ [])) ≡ true
unfolding none_twice is_among
once-snoc k [] e h = refl
once-snoc k (first ∷ ks) e h =
    and_parts (not (is_among first ks)) (none_twice ks) e
    (λ p q.
    or_parts (same_bytes k first) (is_among k ks) h
    (λ r t. rw (among-snoc first k ks, same_bytes-symmetric first k ∙ r, once-snoc k ks q t) (kept (is_among first ks) p)))
  where
    kept : (b : Bool) → not b ≡ true → (not (b || false) && true) ≡ true
    kept true p = p
    kept false p = refl

-- a name that is there already
twice_found : (k : Text) (ks others : List Text) → is_among k ks ≡ true → none_twice (ks ++ (k ∷ others)) ≡ false
unfolding none_twice is_among
twice_found k [] others h = absurd (let z : ◌≡◌ {A = ℕ} 0 1 = ap (λ (b : Bool). cond b 1 0) h in omega arith)
twice_found k (first ∷ ks) others h = go (λ x. twice_found k ks others x) (same_bytes k first) refl
  where
    among_later : (ks : List Text) → is_among first (ks ++ (k ∷ others)) ≡ true → (not (is_among first (ks ++ (k ∷ others))) && none_twice (ks ++ (k ∷ others))) ≡ false
    among_later ks e = rw e

    there : (ks : List Text) → same_bytes first k ≡ true → is_among first (ks ++ (k ∷ others)) ≡ true
    there [] e = rw e
    there (x ∷ ks) e = rw (there ks e) (or-true (same_bytes first x))
      where
        or-true : (b : Bool) → (b || true) ≡ true
        or-true true = refl
        or-true false = refl

    and-false : (b : Bool) → (b && false) ≡ false
    and-false true = refl
    and-false false = refl

    go : (is_among k ks ≡ true → none_twice (ks ++ (k ∷ others)) ≡ false) → (b : Bool) → same_bytes k first ≡ b → (not (is_among first (ks ++ (k ∷ others))) && none_twice (ks ++ (k ∷ others))) ≡ false
    go on true e = among_later ks (there ks (same_bytes-symmetric first k ∙ e))
    go on false e = rw (on (ap (λ (b : Bool). b || is_among k ks) (sym e) ∙ h)) (and-false (not (is_among first (ks ++ (k ∷ others)))))

module _ {A B : Type 0} (f : A → Option B) where
  first-snoc : (ps : List A) (p : A) → first_of f (ps ++ (p ∷ [])) ≡ or_else (first_of f ps) (f p)
  unfolding first_of or_else
  first-snoc [] p = or-none (f p)
    where
      or-none : (o : Option B) → or_else o none ≡ o
      or-none none = refl
      or-none (some b) = refl
  first-snoc (x ∷ ps) p = ap (or_else (f x)) (first-snoc ps p) ∙ grouped (f x)
    where
      grouped : (o : Option B) → or_else o (or_else (first_of f ps) (f p)) ≡ or_else (or_else o (first_of f ps)) (f p)
      grouped none = refl
      grouped (some b) = refl

  first-new : (ps : List A) (p : A) (x : Option B) → first_of f ps ≡ none → f p ≡ x → first_of f (ps ++ (p ∷ [])) ≡ x
  unfolding or_else
  first-new ps p x e g = first-snoc ps p ∙ rw (e, g)

  first-old : (ps : List A) (p : A) (x : Option B) → first_of f ps ≡ x → f p ≡ none → first_of f (ps ++ (p ∷ [])) ≡ x
  unfolding or_else
  first-old ps p x e g = first-snoc ps p ∙ rw (e, g) (or-none x)
    where
      or-none : (o : Option B) → or_else o none ≡ o
      or-none none = refl
      or-none (some b) = refl

-- What is kept by number

abbrev AssertAt : (start now : List ℕ) (seen end : ℕ) → Option Condition → Type 0
AssertAt start now seen end none = (seen ≡ 0) × (now ≡ start)
AssertAt start now seen end (some c) = (seen ≡ 0 → ⊥) × Laid start now front_room (write_condition c) end

pub record Kept (s start now : List ℕ) (done : List NamedPart) (seen first second : List ℕ) : Type 0 where
  pub sizes : (length seen ≡ 4) × (length first ≡ 4) × (length second ≡ 4)
  pub once : none_twice (names_of done) ≡ true
  pub name-seen : is_among (ascii "name") (names_of done) ≡ leb 1 (get_or seen 1 0)
  pub assert-seen : is_among (ascii "assert") (names_of done) ≡ leb 1 (get_or seen 2 0)
  pub message-seen : is_among (ascii "message") (names_of done) ≡ leb 1 (get_or seen 3 0)
  pub name : Option Text
  pub name-first : first_of as_name (parts_named done) ≡ name
  pub name-none : get_or seen 1 0 ≡ 0 → name ≡ none
  pub name-at : TextAt s (get_or first 1 0) (get_or second 1 0) name
  pub message : Option Text
  pub message-first : first_of as_message (parts_named done) ≡ message
  pub message-none : get_or seen 3 0 ≡ 0 → message ≡ none
  pub message-at : TextAt s (get_or first 3 0) (get_or second 3 0) message
  pub assert : Option Condition
  pub assert-first : first_of as_assert (parts_named done) ≡ assert
  pub assert-at : AssertAt start now (get_or seen 2 0) (get_or first 2 0) assert

-- nothing is kept
abbrev nothings : List ℕ
nothings = replicate 4 0

zeroth : (i : ℕ) → i < 4 → get_or nothings i 0 ≡ 0
zeroth i h = get_or-replicate {A = ℕ} 4 i 0 0 h

nothings-size : length nothings ≡ 4
nothings-size = length-replicate {A = ℕ} 4 0

pub kept-start : (s l : List ℕ) → Kept s l l [] (replicate 4 0) (replicate 4 0) (replicate 4 0)
unfolding names_of parts_named none_twice is_among first_of
kept-start s l =
    record {
      sizes = (nothings-size, nothings-size, nothings-size);
      once = refl;
      name-seen = sym (ap (leb 1) (zeroth 1 (omega arith)));
      assert-seen = sym (ap (leb 1) (zeroth 2 (omega arith)));
      message-seen = sym (ap (leb 1) (zeroth 3 (omega arith)));
      name = none;
      name-first = refl;
      name-none = λ e. refl;
      name-at = (zeroth 1 (omega arith), zeroth 1 (omega arith));
      message = none;
      message-first = refl;
      message-none = λ e. refl;
      message-at = (zeroth 3 (omega arith), zeroth 3 (omega arith));
      assert = none;
      assert-first = refl;
      assert-at = (zeroth 2 (omega arith), refl);
    }

module _ (seen : List ℕ) (k : ℕ) (size : length seen ≡ 4) where
  mark-same : (t : Text) (ks : List Text) → k < 4 → is_among t (ks ++ (t ∷ [])) ≡ leb 1 (get_or (set seen k 1) k 0)
  mark-same t ks h = among-snoc t t ks ∙ rw (same_bytes-refl t, get_or-set_same seen k 1 0 (omega arith)) (or-true (is_among t ks))
    where
      or-true : (b : Bool) → (b || true) ≡ leb 1 1
      or-true true = refl
      or-true false = refl

  mark-other : (t u : Text) (ks : List Text) (j : ℕ) → (j ≡ k → ⊥) → same_bytes t u ≡ false → is_among t ks ≡ leb 1 (get_or seen j 0) → is_among t (ks ++ (u ∷ [])) ≡ leb 1 (get_or (set seen k 1) j 0)
  mark-other t u ks j h e m = among-snoc t u ks ∙ rw (e, get_or-set_other seen k j 1 0 h) (or-false (is_among t ks) ∙ m)
    where
      or-false : (b : Bool) → (b || false) ≡ b
      or-false true = refl
      or-false false = refl

module _ (s first second : List ℕ) (k a b : ℕ) where
  text-kept : (j : ℕ) (t : Option Text) → (j ≡ k → ⊥) → TextAt s (get_or first j 0) (get_or second j 0) t → TextAt s (get_or (set first k a) j 0) (get_or (set second k b) j 0) t
  text-kept j t h w =
      subst (λ (x : ℕ). TextAt s x (get_or (set second k b) j 0) t) (sym (get_or-set_other first k j a 0 h))
      (subst (λ (y : ℕ). TextAt s (get_or first j 0) y t) (sym (get_or-set_other second k j b 0 h)) w)

  text-put : (t : Option Text) → k < length first → k < length second → TextAt s a b t → TextAt s (get_or (set first k a) k 0) (get_or (set second k b) k 0) t
  text-put t h l w =
      subst (λ (x : ℕ). TextAt s x (get_or (set second k b) k 0) t) (sym (get_or-set_same first k a 0 h))
      (subst (λ (y : ℕ). TextAt s a y t) (sym (get_or-set_same second k b 0 l)) w)

-- the three names differ
name-assert : same_bytes (ascii "name") (ascii "assert") ≡ false
unfolding same_bytes ascii
name-assert = refl

name-message : same_bytes (ascii "name") (ascii "message") ≡ false
unfolding same_bytes ascii
name-message = refl

assert-message : same_bytes (ascii "assert") (ascii "message") ≡ false
unfolding same_bytes ascii
assert-message = refl

module _ {s start now : List ℕ} {done : List NamedPart} {seen first second : List ℕ} (w : Kept s start now done seen first second) where
  -- a member that was not there
  once_more : (k : Text) (p : RulePart) (j : ℕ) → is_among k (names_of done) ≡ leb 1 (get_or seen j 0) → get_or seen j 0 ≡ 0 → none_twice (names_of (done ++ ((k, p) ∷ []))) ≡ true
  once_more k p j m e = ap none_twice (names-snoc done (k, p)) ∙ once-snoc k (names_of done) w.once (m ∙ ap (leb 1) e)

  abbrev more : Text → RulePart → List NamedPart
  more k p = done ++ ((k, p) ∷ [])

  marked : (k : Text) (p : RulePart) (j : ℕ) → j < 4 → is_among k (names_of (more k p)) ≡ leb 1 (get_or (set seen j 1) j 0)
  marked k p j h = ap (is_among k) (names-snoc done (k, p)) ∙ mark-same seen j w.sizes.0 k (names_of done) h

  still_marked : (t k : Text) (p : RulePart) (i j : ℕ) → (i ≡ j → ⊥) → same_bytes t k ≡ false → is_among t (names_of done) ≡ leb 1 (get_or seen i 0) → is_among t (names_of (more k p)) ≡ leb 1 (get_or (set seen j 1) i 0)
  still_marked t k p i j h e m = ap (is_among t) (names-snoc done (k, p)) ∙ mark-other seen j w.sizes.0 t k (names_of done) i h e m

  first-kept : {B : Type 0} (f : RulePart → Option B) (k : Text) (p : RulePart) (x : Option B) → first_of f (parts_named done) ≡ x → f p ≡ none → first_of f (parts_named (more k p)) ≡ x
  first-kept f k p x e h = ap (first_of f) (parts-snoc done (k, p)) ∙ first-old f (parts_named done) p x e h

  first-put : {B : Type 0} (f : RulePart → Option B) (k : Text) (p : RulePart) (x : Option B) → first_of f (parts_named done) ≡ none → f p ≡ x → first_of f (parts_named (more k p)) ≡ x
  first-put f k p x e h = ap (first_of f) (parts-snoc done (k, p)) ∙ first-new f (parts_named done) p x e h

  sizes-set : (j a b : ℕ) → (length (set seen j 1) ≡ 4) × (length (set first j a) ≡ 4) × (length (set second j b) ≡ 4)
  sizes-set j a b = (length-set seen j 1 ∙ w.sizes.0, length-set first j a ∙ w.sizes.1, length-set second j b ∙ w.sizes.2)

  assert-kept : (j a : ℕ) → (2 ≡ j → ⊥) → AssertAt start now (get_or (set seen j 1) 2 0) (get_or (set first j a) 2 0) w.assert
  assert-kept j a h =
      subst (λ (x : ℕ). AssertAt start now x (get_or (set first j a) 2 0) w.assert) (sym (get_or-set_other seen j 2 1 0 h))
      (subst (λ (y : ℕ). AssertAt start now (get_or seen 2 0) y w.assert) (sym (get_or-set_other first j 2 a 0 h)) w.assert-at)

  seen_other : (i j : ℕ) → (i ≡ j → ⊥) → get_or (set seen j 1) i 0 ≡ get_or seen i 0
  seen_other i j h = get_or-set_other seen j i 1 0 h

  seen-now : (j : ℕ) → j < 4 → get_or (set seen j 1) j 0 ≡ 0 → ⊥
  seen-now j h e = let same = get_or-set_same seen j 1 0 (omega (arith, w.sizes.0)) in omega arith

  kept-name : (t : Option Text) (a b : ℕ) → TextAt s a b t → get_or seen 1 0 ≡ 0 → Kept s start now (more (ascii "name") (names t)) (set seen 1 1) (set first 1 a) (set second 1 b)
  unfolding as_name as_message as_assert
  kept-name t a b h e =
      record {
        sizes = sizes-set 1 a b;
        once = once_more (ascii "name") (names t) 1 w.name-seen e;
        name-seen = marked (ascii "name") (names t) 1 (omega arith);
        assert-seen = still_marked (ascii "assert") (ascii "name") (names t) 2 1 (λ x. absurd (omega arith)) (same_bytes-symmetric (ascii "assert") (ascii "name") ∙ name-assert) w.assert-seen;
        message-seen = still_marked (ascii "message") (ascii "name") (names t) 3 1 (λ x. absurd (omega arith)) (same_bytes-symmetric (ascii "message") (ascii "name") ∙ name-message) w.message-seen;
        name = t;
        name-first = first-put as_name (ascii "name") (names t) t (w.name-first ∙ w.name-none e) refl;
        name-none = λ z. absurd (seen-now 1 (omega arith) z);
        name-at = text-put s first second 1 a b t (omega (arith, w.sizes.1)) (omega (arith, w.sizes.2)) h;
        message = w.message;
        message-first = first-kept as_message (ascii "name") (names t) w.message w.message-first refl;
        message-none = λ z. w.message-none (sym (seen_other 3 1 (λ x. absurd (omega arith))) ∙ z);
        message-at = text-kept s first second 1 a b 3 w.message (λ x. absurd (omega arith)) w.message-at;
        assert = w.assert;
        assert-first = first-kept as_assert (ascii "name") (names t) w.assert w.assert-first refl;
        assert-at = assert-kept 1 a (λ x. absurd (omega arith));
      }

  kept-message : (t : Option Text) (a b : ℕ) → TextAt s a b t → get_or seen 3 0 ≡ 0 → Kept s start now (more (ascii "message") (says t)) (set seen 3 1) (set first 3 a) (set second 3 b)
  unfolding as_name as_message as_assert
  kept-message t a b h e =
      record {
        sizes = sizes-set 3 a b;
        once = once_more (ascii "message") (says t) 3 w.message-seen e;
        name-seen = still_marked (ascii "name") (ascii "message") (says t) 1 3 (λ x. absurd (omega arith)) name-message w.name-seen;
        assert-seen = still_marked (ascii "assert") (ascii "message") (says t) 2 3 (λ x. absurd (omega arith)) assert-message w.assert-seen;
        message-seen = marked (ascii "message") (says t) 3 (omega arith);
        name = w.name;
        name-first = first-kept as_name (ascii "message") (says t) w.name w.name-first refl;
        name-none = λ z. w.name-none (sym (seen_other 1 3 (λ x. absurd (omega arith))) ∙ z);
        name-at = text-kept s first second 3 a b 1 w.name (λ x. absurd (omega arith)) w.name-at;
        message = t;
        message-first = first-put as_message (ascii "message") (says t) t (w.message-first ∙ w.message-none e) refl;
        message-none = λ z. absurd (seen-now 3 (omega arith) z);
        message-at = text-put s first second 3 a b t (omega (arith, w.sizes.1)) (omega (arith, w.sizes.2)) h;
        assert = w.assert;
        assert-first = first-kept as_assert (ascii "message") (says t) w.assert w.assert-first refl;
        assert-at = assert-kept 3 a (λ x. absurd (omega arith));
      }

  -- no condition was laid
  unasserted : get_or seen 2 0 ≡ 0 → (w.assert ≡ none) × (now ≡ start)
  unasserted e = go w.assert w.assert-at
    where
      go : (x : Option Condition) → AssertAt start now (get_or seen 2 0) (get_or first 2 0) x → (x ≡ none) × (now ≡ start)
      go none h = (refl, h.1)
      go (some c) h = absurd (h.0 e)

  kept-assert : (c : Condition) (a : ℕ) {after : List ℕ} → Laid now after front_room (write_condition c) a → get_or seen 2 0 ≡ 0
      → Kept s start after (more (ascii "assert") (asserts c)) (set seen 2 1) (set first 2 a) (set second 2 0)
  unfolding as_name as_message as_assert
  kept-assert c a {after} l e =
      let u = unasserted e in
      record {
        sizes = sizes-set 2 a 0;
        once = once_more (ascii "assert") (asserts c) 2 w.assert-seen e;
        name-seen = still_marked (ascii "name") (ascii "assert") (asserts c) 1 2 (λ x. absurd (omega arith)) name-assert w.name-seen;
        assert-seen = marked (ascii "assert") (asserts c) 2 (omega arith);
        message-seen = still_marked (ascii "message") (ascii "assert") (asserts c) 3 2 (λ x. absurd (omega arith)) (same_bytes-symmetric (ascii "message") (ascii "assert") ∙ assert-message) w.message-seen;
        name = w.name;
        name-first = first-kept as_name (ascii "assert") (asserts c) w.name w.name-first refl;
        name-none = λ z. w.name-none (sym (seen_other 1 2 (λ x. absurd (omega arith))) ∙ z);
        name-at = text-kept s first second 2 a 0 1 w.name (λ x. absurd (omega arith)) w.name-at;
        message = w.message;
        message-first = first-kept as_message (ascii "assert") (asserts c) w.message w.message-first refl;
        message-none = λ z. w.message-none (sym (seen_other 3 2 (λ x. absurd (omega arith))) ∙ z);
        message-at = text-kept s first second 2 a 0 3 w.message (λ x. absurd (omega arith)) w.message-at;
        assert = some c;
        assert-first = first-put as_assert (ascii "assert") (asserts c) (some c) (w.assert-first ∙ u.0) refl;
        assert-at = (
          seen-now 2 (omega arith),
          subst (λ (x : ℕ). Laid start after front_room (write_condition c) x) (sym (get_or-set_same first 2 a 0 (omega (arith, w.sizes.1))))
              (subst (λ (x : List ℕ). Laid x after front_room (write_condition c) a) u.1 l),
        );
      }

  pub kept_more : {after : List ℕ} {part : NamedPart} {kind a b : ℕ} → RuleSeen s now after part kind a b → get_or seen kind 0 ≡ 0
      → Kept s start after (done ++ (part ∷ [])) (set seen kind 1) (set first kind a) (set second kind b)
  kept_more (is_name t a b h e) z = subst (λ (x : List ℕ). Kept s start x (more (ascii "name") (names t)) (set seen 1 1) (set first 1 a) (set second 1 b)) (sym e) (kept-name t a b h z)
  kept_more (is-assert c a l) z = kept-assert c a l z
  kept_more (is-message t a b h e) z = subst (λ (x : List ℕ). Kept s start x (more (ascii "message") (says t)) (set seen 3 1) (set first 3 a) (set second 3 b)) (sym e) (kept-message t a b h z)

  twice-none : (k : Text) (p : RulePart) (j : ℕ) (t : List NamedPart) → is_among k (names_of done) ≡ leb 1 (get_or seen j 0) → (get_or seen j 0 ≡ 0 → ⊥) → rule_made (done ++ ((k, p) ∷ t)) ≡ none
  unfolding rule_made names_of
  twice-none k p j t m h =
      rw (map-append (λ (q : NamedPart). q.0) done ((k, p) ∷ t), twice_found k (names_of done) (names_of t) (m ∙ le-leb 1 (get_or seen j 0) (omega arith)))

  -- a member twice
  pub kept-twice : {after : List ℕ} {part : NamedPart} {kind a b : ℕ} (t : List NamedPart) → RuleSeen s now after part kind a b → (get_or seen kind 0 ≡ 0 → ⊥) → rule_made (done ++ (part ∷ t)) ≡ none
  kept-twice t (is_name x a b h e) z = twice-none (ascii "name") (names x) 1 t w.name-seen z
  kept-twice t (is-assert c a l) z = twice-none (ascii "assert") (asserts c) 2 t w.assert-seen z
  kept-twice t (is-message x a b h e) z = twice-none (ascii "message") (says x) 3 t w.message-seen z

  pub made_none : get_or seen 2 0 ≡ 0 → rule_made done ≡ none
  unfolding rule_made rule_from
  made_none e = rw (w.once, w.assert-first, (unasserted e).0)

  pub made_some : {C : Type 0} → (get_or seen 2 0 ≡ 0 → ⊥) → ((c : Condition) → rule_made done ≡ some (rule w.name w.message c) → Laid start now front_room (write_condition c) (get_or first 2 0) → C) → C
  unfolding rule_made rule_from
  made_some {C} e f = go w.assert refl w.assert-at
    where
      go : (x : Option Condition) → w.assert ≡ x → AssertAt start now (get_or seen 2 0) (get_or first 2 0) x → C
      go none p h = absurd (e h.0)
      go (some c) p h = f c (rw (w.once, w.name-first, w.message-first, w.assert-first, p)) h.1

pub kind-below : {s before after : List ℕ} {part : NamedPart} {kind a b : ℕ} → RuleSeen s before after part kind a b → kind < 4
kind-below (is_name t a b h e) = omega arith
kind-below (is-assert c a l) = omega arith
kind-below (is-message t a b h e) = omega arith

-- The loop

abbrev member_reader : Reader (List ℕ) NamedPart
member_reader = part_of (rule_member held_depth)

abbrev members_reader : ℕ → Reader (List ℕ) (List NamedPart)
members_reader = parts_in (rule_member held_depth)

pub record Gathering (s : List ℕ) (from i : ℕ) (start now seen first second : List ℕ) : Type 0 where
  pub done : List NamedPart
  pub begun : Begun member_reader members_reader 0x7D s from done i
  pub kept : Kept s start now done seen first second

made_nothing : rule_made [] ≡ none
unfolding rule_made names_of parts_named none_twice rule_from first_of
made_nothing = refl

-- a member begins with no bracket
members-open : (n : ℕ) (x y : List ℕ) (ps : List NamedPart) → unspaced x ≡ x → members_reader n x ≡ some (ps, y) → byte 0x7D x ≡ none
unfolding and_then
members-open zero x y ps f e = absurd (none-ne-some (ps, y) (sym ((parts-turns (rule_member held_depth)).stops x) ∙ e))
members-open (suc n) x y ps f e = go (member_reader x) refl
  where
    turned : members_reader (suc n) x ≡ and_then (member_reader x) (λ c. turn member_reader members_reader 0x7D n c)
    turned = (parts-turns (rule_member held_depth)).turns n x ∙ ap (λ (z : List ℕ). and_then (member_reader z) (λ c. turn member_reader members_reader 0x7D n c)) f

    go : (o : Option (NamedPart × List ℕ)) → member_reader x ≡ o → byte 0x7D x ≡ none
    go none h = absurd (none-ne-some (ps, y) (sym (turned ∙ ap (λ (o : Option (NamedPart × List ℕ)). and_then o (λ c. turn member_reader members_reader 0x7D n c)) h) ∙ e))
    go (some r) h = part-opens (rule_member held_depth) x r.1 r.0 h

-- what two answers have read
same-part : {A : Type 0} (a b : A) (x y : List ℕ) → ◌≡◌ {A = Option (A × List ℕ)} (some (a, x)) (some (b, y)) → a ≡ b
same-part {A} a b x y e = ap (λ (o : Option (A × List ℕ)). given o) e
  where
    given : Option (A × List ℕ) → A
    given none = a
    given (some r) = r.0

pub gathering-start : (s : List ℕ) (at i : ℕ) (l : List ℕ) → SpacesTo s at i → Gathering s i i l l (replicate 4 0) (replicate 4 0) (replicate 4 0)
gathering-start s at i l k =
    record { done = []; begun = begun-start member_reader members_reader 0x7D s i k.within (spaces-full (drop at s) k.skips); kept = kept-start s l }

module _ {s : List ℕ} {at from : ℕ} (k : SpacesTo s at from) {i : ℕ} {start now seen first second : List ℕ} (g : Gathering s from i start now seen first second) where
  no-rule : ((whole : ℕ) → length s ≤ from + whole → and_then (members_reader whole (drop from s)) (asked rule_made) ≡ none) → Refuses rule_rest s at
  unfolding rule_rest
  no-rule h = parts_none rule_made k (rule_member held_depth) made_nothing h

  pub gathering-unread : Refuses member_reader s i → Refuses rule_rest s at
  gathering-unread r = no-rule (λ whole h. asks_none rule_made (begun-unread member_reader members_reader 0x7D (parts-turns (rule_member held_depth)) g.begun r whole h))

  module _ {after : List ℕ} {kind a b stop : ℕ} (m : GivenRuleMember s i now after kind a b stop) where
    pub gathering-twice : (get_or seen kind 0 ≡ 0 → ⊥) → Refuses rule_rest s at
    gathering-twice z =
        no-rule
        (λ whole h.
        begun-never member_reader members_reader 0x7D (parts-turns (rule_member held_depth)) g.begun rule_made
        (λ c y e t.
        subst (λ (p : NamedPart). rule_made (g.done ++ (p ∷ t)) ≡ none) (same-part m.part c (drop stop s) y (sym m.read.reads ∙ e)) (kept-twice g.kept t m.seen z))
        whole h)

    pub gathering-alone : comma_or 0x7D (unspaced (drop stop s)) ≡ none → Refuses rule_rest s at
    gathering-alone c =
        no-rule (λ whole h. asks_none rule_made (begun-alone member_reader members_reader 0x7D (parts-turns (rule_member held_depth)) g.begun m.part m.read c whole h))

    module _ (z : get_or seen kind 0 ≡ 0) {place : ℕ} where
      pub gathering-more : MoreAt 0x7D s stop place → Gathering s from place start after (set seen kind 1) (set first kind a) (set second kind b)
      gathering-more c =
          record {
            done = g.done ++ (m.part ∷ []);
            begun = begun_more member_reader members_reader 0x7D (parts-turns (rule_member held_depth)) g.begun m.part m.read c;
            kept = kept_more g.kept m.seen z;
          }

      module _ (c : EndAt 0x7D s stop place) where
        all_there : (whole : ℕ) → length s ≤ from + whole → members_reader whole (drop from s) ≡ some (g.done ++ (m.part ∷ []), drop place s)
        all_there whole h = begun-end member_reader members_reader 0x7D (parts-turns (rule_member held_depth)) g.begun m.part m.read c whole h

        pub gathering-none : get_or (set seen kind 1) 2 0 ≡ 0 → Refuses rule_rest s at
        gathering-none e =
            no-rule (λ whole h. asks-other rule_made (g.done ++ (m.part ∷ [])) (drop place s) (all_there whole h) (made_none (kept_more g.kept m.seen z) e))

        pub gathering-given : (get_or (set seen kind 1) 2 0 ≡ 0 → ⊥)
            → GivenParts s at start after place (get_or (set first kind a) 2 0) (get_or (set first kind a) 1 0) (get_or (set second kind b) 1 0) (get_or (set first kind a) 3 0) (get_or (set second kind b) 3 0)
        unfolding rule_rest
        gathering-given e =
            let w = kept_more g.kept m.seen z in
            made_some w e
            (λ x made laid.
            record {
              named = w.name;
              told = w.message;
              condition = x;
              read =
                  parts-some rule_made k (g.done ++ (m.part ∷ [])) (rule w.name w.message x) made (rule_member held_depth)
                  (members-open (length s) (drop from s) (drop place s) (g.done ++ (m.part ∷ [])) (spaces-full (drop at s) k.skips) (all_there (length s) (omega arith)))
                  (omega (arith, g.begun.forward, m.read.past, c.past)) c.within all_there;
              name-at = w.name-at;
              message-at = w.message-at;
              lies = laid;
            })
