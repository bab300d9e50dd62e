-- Laws of siblings that are read in a shape, one by one: those that were read, and what is left, make the whole.
use Prim.Native.Nat.{ℕ, zero, suc, ◌+◌, ◌<◌, ◌≤◌}
use mathlib.Core.Bool.{Bool, true, false}
use mathlib.Core.List.{List, [], ◌∷◌, ◌++◌, append_assoc}
use mathlib.Core.Option.{Option, none, some}
use mathlib.Core.Path.{◌≡◌, refl, sym, ap, ◌∙◌}
use native.Mathlib.Omega.{arith}
use lib.ListN.{length, drop, length-drop}
use Rattle.text.specs.ByteReaders.{byte}
use Rattle.text.specs.Reader.{Reader, ◌>>=◌, ◌>>◌, and_then, pure, refuse, either, or_else}
use Rattle.text.specs.ReadAt.{ReadsTo, Refuses}
use Rattle.text.specs.ReadAtLaws.{and_then-assoc}
use Rattle.json_text.specs.Json.{Text}
use Rattle.json_text.specs.Grammar.{unspaced, spaces, comma_or}
use Rattle.json_text.specs.TokenAt.{SpacesTo}
use Rattle.json_text.specs.BetweenAt.{key_of, MoreAt, EndAt}
use Rattle.json_text.specs.Shaped.{many_after, many_in}
use Rattle.json_text.proofs.ShapedMembers.{parts_in, elements_as, members_as}
use Rattle.json_text.proofs.Separating.{spaces-full}
use Rattle.json_rule.specs.Streamed.{asked}
use Rattle.json_sheet.specs.Places.{part_of}

module _ {C : Type 0} (item : Reader (List ℕ) C) (many : ℕ → Reader (List ℕ) (List C)) (close : ℕ) where
  -- what follows an item
  unfoldable pub turn : ℕ → C → Reader (List ℕ) (List C)
  turn n c = spaces >> (comma_or close >>= λ more. many_after (λ s. many n s) more >>= λ others. pure (c ∷ others))

  -- items with commas between them, up to the closing bracket
  pub record Turns : Type 0 where
    pub stops : (x : List ℕ) → many zero x ≡ none
    pub turns : (n : ℕ) (x : List ℕ) → many (suc n) x ≡ and_then (item (unspaced x)) (λ c. turn n c)

  then-itself : (o : Option (List C × List ℕ)) → o ≡ and_then o (λ t. pure t)
  unfolding and_then pure
  then-itself none = refl
  then-itself (some r) = refl

  then-both : (f g : List C → List C) (o : Option (List C × List ℕ)) → and_then (and_then o (λ t. pure (g t))) (λ t. pure (f t)) ≡ and_then o (λ t. pure (f (g t)))
  unfolding and_then pure
  then-both f g none = refl
  then-both f g (some r) = refl

  regroup : (done : List C) (a : C) (o : Option (List C × List ℕ)) → and_then o (λ t. pure (done ++ (a ∷ t))) ≡ and_then o (λ t. pure ((done ++ (a ∷ [])) ++ t))
  unfolding and_then pure
  regroup done a none = refl
  regroup done a (some x) = rw (append_assoc done (a ∷ []) x.0)

  -- what is left, and what was read before it
  pub record Rest (whole : ℕ) (s : List ℕ) (at : ℕ) (done : List C) (i : ℕ) : Type 0 where
    pub left : ℕ
    pub enough : length s ≤ i + left
    pub reads : many whole (drop at s) ≡ and_then (many left (drop i s)) (λ t. pure (done ++ t))

  -- some were read, and another one is to come
  pub record Begun (s : List ℕ) (at : ℕ) (done : List C) (i : ℕ) : Type 0 where
    pub forward : at ≤ i
    pub within : i ≤ length s
    pub full : unspaced (drop i s) ≡ drop i s
    pub rest : (whole : ℕ) → length s ≤ at + whole → Rest whole s at done i

  pub begun-start : (s : List ℕ) (at : ℕ) → at ≤ length s → unspaced (drop at s) ≡ drop at s → Begun s at [] at
  begun-start s at h full =
      record {
        forward = omega arith;
        within = h;
        full = full;
        rest = λ whole k. record { left = whole; enough = k; reads = then-itself (many whole (drop at s)) };
      }

  module _ (kind : Turns) where
    pub spaced : (n : ℕ) (x : List ℕ) → many n x ≡ many n (unspaced x)
    spaced zero x = kind.stops x ∙ sym (kind.stops (unspaced x))
    spaced (suc n) x =
        kind.turns n x ∙ ap (λ (y : List ℕ). and_then (item y) (λ c. turn n c)) (sym (spaces-full x refl)) ∙ sym (kind.turns n (unspaced x))

    -- it is not read
    pub unread : (n : ℕ) (x : List ℕ) → unspaced x ≡ x → item x ≡ none → many n x ≡ none
    unfolding and_then
    unread zero x e f = kind.stops x
    unread (suc n) x e f = kind.turns n x ∙ rw (e, f)

    -- neither a comma nor the bracket follows it
    pub alone : (n : ℕ) (x y : List ℕ) (a : C) → unspaced x ≡ x → item x ≡ some (a, y) → comma_or close (unspaced y) ≡ none → many n x ≡ none
    unfolding turn spaces ◌>>=◌ ◌>>◌ and_then
    alone zero x y a e f g = kind.stops x
    alone (suc n) x y a e f g = kind.turns n x ∙ rw (e, f, g)

    pub more : (n : ℕ) (x y z : List ℕ) (a : C) → unspaced x ≡ x → item x ≡ some (a, y) → comma_or close (unspaced y) ≡ some (true, z)
        → many (suc n) x ≡ and_then (many n z) (λ t. pure (a ∷ t))
    unfolding turn spaces many_after ◌>>=◌ ◌>>◌ and_then
    more n x y z a e f g = kind.turns n x ∙ rw (e, f, g)

    pub last : (n : ℕ) (x y z : List ℕ) (a : C) → unspaced x ≡ x → item x ≡ some (a, y) → comma_or close (unspaced y) ≡ some (false, z)
        → many (suc n) x ≡ some (a ∷ [], z)
    unfolding turn spaces many_after ◌>>=◌ ◌>>◌ and_then pure
    last n x y z a e f g = kind.turns n x ∙ rw (e, f, g)

    module _ {s : List ℕ} {at : ℕ} {done : List C} {i : ℕ} (w : Begun s at done i) where
      -- what is left gives nothing
      rest-none : (whole : ℕ) → length s ≤ at + whole → ((n : ℕ) → many n (drop i s) ≡ none) → many whole (drop at s) ≡ none
      unfolding and_then
      rest-none whole k e = let l = w.rest whole k in l.reads ∙ rw (e l.left)

      pub begun-unread : Refuses item s i → (whole : ℕ) → length s ≤ at + whole → many whole (drop at s) ≡ none
      begun-unread r whole k = rest-none whole k (λ n. unread n (drop i s) w.full r)

      -- whatever is read, and whatever follows it, the shape gives nothing
      module _ {D : Type 0} (f : List C → Option D) (never : (c : C) (y : List ℕ) → item (drop i s) ≡ some (c, y) → (t : List C) → f (done ++ (c ∷ t)) ≡ none) where
        after-all : (c : C) (y : List ℕ) → item (drop i s) ≡ some (c, y) → (o : Option (List C × List ℕ))
            → and_then (and_then (and_then o (λ others. pure (c ∷ others))) (λ t. pure (done ++ t))) (asked f) ≡ none
        unfolding and_then pure asked
        after-all c y e none = refl
        after-all c y e (some r) = rw (never c y e r.0)

        after-comma : (n : ℕ) (c : C) (y : List ℕ) → item (drop i s) ≡ some (c, y) → (o : Option (Bool × List ℕ))
            → and_then (and_then (and_then o (λ m. many_after (λ s. many n s) m >>= λ others. pure (c ∷ others))) (λ t. pure (done ++ t))) (asked f) ≡ none
        unfolding and_then ◌>>=◌
        after-comma n c y e none = refl
        after-comma n c y e (some r) = after-all c y e (many_after (λ s. many n s) r.0 r.1)

        after-item : (n : ℕ) (o : Option (C × List ℕ)) → item (drop i s) ≡ o
            → and_then (and_then (and_then o (λ c. turn n c)) (λ t. pure (done ++ t))) (asked f) ≡ none
        unfolding turn spaces and_then ◌>>=◌ ◌>>◌
        after-item n none e = refl
        after-item n (some r) e = after-comma n r.0 r.1 e (comma_or close (unspaced r.1))

        rest-never : (n : ℕ) → and_then (and_then (many n (drop i s)) (λ t. pure (done ++ t))) (asked f) ≡ none
        unfolding and_then
        rest-never zero = rw (kind.stops (drop i s))
        rest-never (suc n) = rw (kind.turns n (drop i s), w.full) (after-item n (item (drop i s)) refl)

        pub begun-never : (whole : ℕ) → length s ≤ at + whole → and_then (many whole (drop at s)) (asked f) ≡ none
        begun-never whole k =
            let l = w.rest whole k in
            ap (λ (o : Option (List C × List ℕ)). and_then o (asked f)) l.reads ∙ rest-never l.left

      module _ (a : C) {next : ℕ} (r : ReadsTo item s i a next) where
        pub begun-alone : comma_or close (unspaced (drop next s)) ≡ none → (whole : ℕ) → length s ≤ at + whole → many whole (drop at s) ≡ none
        begun-alone c whole k = rest-none whole k (λ n. alone n (drop i s) (drop next s) a w.full r.reads c)

        -- there is a turn left
        one_left : {A : Type 0} (n : ℕ) → length s ≤ i + n → ((m : ℕ) → n ≡ suc m → A) → A
        one_left zero k f = absurd (omega (arith, r.past, r.within))
        one_left (suc m) k f = f m refl

        pub begun_more : {place : ℕ} → MoreAt close s next place → Begun s at (done ++ (a ∷ [])) place
        begun_more {place} c =
            record {
              forward = omega (arith, w.forward, r.past, c.past);
              within = c.within;
              full = spaces-full c.behind c.skips;
              rest =
                  λ whole k.
                  let l = w.rest whole k in
                  one_left l.left l.enough
                  (λ m e.
                  record {
                    left = m;
                    enough = omega (arith, l.enough, r.past, c.past);
                    reads =
                        l.reads
                        ∙ ap (λ (n : ℕ). and_then (many n (drop i s)) (λ t. pure (done ++ t))) e
                        ∙ ap (λ (o : Option (List C × List ℕ)). and_then o (λ t. pure (done ++ t)))
                        (more m (drop i s) (drop next s) c.behind a w.full r.reads c.comma
                        ∙ ap (λ (o : Option (List C × List ℕ)). and_then o (λ t. pure (a ∷ t))) (spaced m c.behind ∙ ap (many m) c.skips))
                        ∙ then-both (λ t. done ++ t) (λ t. a ∷ t) (many m (drop place s))
                        ∙ regroup done a (many m (drop place s));
                  });
            }

        pub begun-end : {place : ℕ} → EndAt close s next place → (whole : ℕ) → length s ≤ at + whole → many whole (drop at s) ≡ some (done ++ (a ∷ []), drop place s)
        unfolding and_then pure
        begun-end {place} c whole k =
            let l = w.rest whole k in
            one_left l.left l.enough
            (λ m e.
            l.reads
            ∙ ap (λ (n : ℕ). and_then (many n (drop i s)) (λ t. pure (done ++ t))) e
            ∙ ap (λ (o : Option (List C × List ℕ)). and_then o (λ t. pure (done ++ t))) (last m (drop i s) (drop next s) (drop place s) a w.full r.reads c.closes))

-- Elements and members

module _ {C : Type 0} where
  pub elements-turns : (p : Reader (List ℕ) C) → Turns p (many_in p) 0x5D
  unfolding many_in turn spaces refuse ◌>>=◌ ◌>>◌ and_then
  elements-turns p = record { stops = λ x. refl; turns = λ n x. refl }

  pub parts-turns : (q : Text → Reader (List ℕ) C) → Turns (part_of q) (parts_in q) 0x7D
  unfolding parts_in part_of turn spaces refuse ◌>>=◌ ◌>>◌ and_then
  parts-turns q = record { stops = λ x. refl; turns = λ n x. sym (and_then-assoc (key_of (unspaced x)) q (λ c. turn (part_of q) (parts_in q) 0x7D n c)) }

  -- Behind an opening bracket, in a shape that no empty one has

  module _ {D : Type 0} (f : List C → Option D) {s : List ℕ} {at i : ℕ} (k : SpacesTo s at i) where
    turns-enough : length s ≤ i + length (drop at s)
    turns-enough = omega (arith, length-drop at s, k.forward)

    bracket-none : f [] ≡ none → (o : Option (Unit {0} × List ℕ)) (x : Option (List C × List ℕ)) → and_then x (asked f) ≡ none
        → and_then (or_else (and_then o (λ u. pure [])) x) (asked f) ≡ none
    unfolding and_then or_else pure asked
    bracket-none e none x h = h
    bracket-none e (some r) x h = rw e

    pub elements-none : (p : Reader (List ℕ) C) → f [] ≡ none → ((whole : ℕ) → length s ≤ i + whole → and_then (many_in p whole (drop i s)) (asked f) ≡ none)
        → Refuses (elements_as p >>= asked f) s at
    unfolding elements_as either spaces ◌>>=◌ ◌>>◌ and_then
    elements-none p e h =
        bracket-none e (byte 0x5D (unspaced (drop at s))) (many_in p (length (drop at s)) (drop at s))
        (ap (λ (o : Option (List C × List ℕ)). and_then o (asked f)) (spaced p (many_in p) 0x5D (elements-turns p) (length (drop at s)) (drop at s) ∙ ap (many_in p (length (drop at s))) k.skips)
        ∙ h (length (drop at s)) turns-enough)

    pub parts_none : (q : Text → Reader (List ℕ) C) → f [] ≡ none → ((whole : ℕ) → length s ≤ i + whole → and_then (parts_in q whole (drop i s)) (asked f) ≡ none)
        → Refuses (members_as q >>= asked f) s at
    unfolding members_as either spaces ◌>>=◌ ◌>>◌ and_then
    parts_none q e h =
        bracket-none e (byte 0x7D (unspaced (drop at s))) (parts_in q (length (drop at s)) (drop at s))
        (ap (λ (o : Option (List C × List ℕ)). and_then o (asked f)) (spaced (part_of q) (parts_in q) 0x7D (parts-turns q) (length (drop at s)) (drop at s) ∙ ap (parts_in q (length (drop at s))) k.skips)
        ∙ h (length (drop at s)) turns-enough)

    module _ (xs : List C) (d : D) {next : ℕ} (e : f xs ≡ some d) where
      pub elements-some : (p : Reader (List ℕ) C) → Refuses (byte 0x5D) s i → i < next → next ≤ length s → ((whole : ℕ) → length s ≤ i + whole → many_in p whole (drop i s) ≡ some (xs, drop next s))
          → ReadsTo (elements_as p >>= asked f) s at d next
      unfolding elements_as either or_else spaces asked ◌>>=◌ ◌>>◌ and_then
      elements-some p c past within h =
          record {
            reads =
                rw (
                  k.skips,
                  c,
                  spaced p (many_in p) 0x5D (elements-turns p) (length (drop at s)) (drop at s) ∙ ap (many_in p (length (drop at s))) k.skips ∙ h (length (drop at s)) turns-enough,
                  e,
                );
            past = omega (arith, k.forward);
            within = within;
          }

      pub parts-some : (q : Text → Reader (List ℕ) C) → Refuses (byte 0x7D) s i → i < next → next ≤ length s → ((whole : ℕ) → length s ≤ i + whole → parts_in q whole (drop i s) ≡ some (xs, drop next s))
          → ReadsTo (members_as q >>= asked f) s at d next
      unfolding members_as either or_else spaces asked ◌>>=◌ ◌>>◌ and_then
      parts-some q c past within h =
          record {
            reads =
                rw (
                  k.skips,
                  c,
                  spaced (part_of q) (parts_in q) 0x7D (parts-turns q) (length (drop at s)) (drop at s) ∙ ap (parts_in q (length (drop at s))) k.skips ∙ h (length (drop at s)) turns-enough,
                  e,
                );
            past = omega (arith, k.forward);
            within = within;
          }
