-- Laws of texts where they stand: char by char, compared and stirred.
use Prim.Native.Nat.{ℕ, zero, suc, ◌+◌, ◌*◌, ◌/◌, ◌%◌, ◌≤◌, ◌<◌}
use Rattle.std.specs.Prelude.{Bool, cond, leb, eqb, length, get_or, drop}
use Rattle.std.proofs.Math.Bool.{true, false}
use mathlib.Core.List.{List, [], ◌∷◌, ◌++◌}
use Rattle.std.proofs.Math.Option.{Option, none, some, none-ne-some, some-injective}
use Rattle.std.proofs.Math.Path.{◌≡◌, refl, ap}
use Rattle.std.proofs.Common.{sym, ◌∙◌, arith, leb-true, le-leb, eq-eqb}
use Rattle.std.proofs.lemmas.Bool.{lt-leb}
use Rattle.text.specs.Order.{same_bytes}
use Rattle.text.specs.OrderLaws.{same_bytes-equal}
use Rattle.text.specs.CaseLaws.{by-test}
use Rattle.text.specs.Reader.{◌>>=◌, pure}
use Rattle.text.specs.ReaderLaws.{bind_inv, pure-inv}
use Rattle.text.specs.ByteReaders.{byte}
use Rattle.text.specs.ReadAt.{ReadsTo, Refuses, StartsWith}
use Rattle.json_text.specs.Json.{Text}
use Rattle.json_text.specs.Encode.{utf8_of}
use Rattle.json_text.specs.Strings.{char, char_then, chars_in}
use Rattle.json_text.specs.Strings as Strings
use Rattle.json_text.specs.Places.{PointRead}
use Rattle.json_keys.specs.Texts.{TextAt, SameText, stir, stirred, slot_of, SlotIs}

-- A text's first char

module _ {C : Type 0} where
  chars-view : (n : ℕ) (l : List ℕ) {t behind : List ℕ} → chars_in n l ≡ some (t, behind)
      → ((rest : List ℕ) → byte 0x22 l ≡ some (tt, rest) → t ≡ [] → C)
      → (byte 0x22 l ≡ none → (c n : ℕ) (m u : List ℕ) → char l ≡ some (c, m) → chars_in n m ≡ some (u, behind) → t ≡ utf8_of c ++ u → C)
      → C
  unfolding chars_in char_then byte
  chars-view zero l e f g = absurd (none-ne-some _ e)
  chars-view (suc n) [] e f g = absurd (none-ne-some _ e)
  chars-view (suc n) (b ∷ l) {t} {behind} e f g =
      by-test (eqb b 0x22)
      (λ q.
      let is : ◌≡◌ {A = Option (List ℕ × List ℕ)} (some ([], l)) (some (t, behind)) = rw q at e in
      f l (rw q) (sym (ap (λ (r : List ℕ × List ℕ). r.0) (some-injective ([], l) (t, behind) is))))
      (λ q.
      let is : (char >>= λ c. (λ u. chars_in n u) >>= λ t. pure (utf8_of c ++ t)) (b ∷ l) ≡ some (t, behind) = rw q at e in
      bind_inv _ _ _ is λ c m e₁ e.
      bind_inv _ _ _ e λ u rest e₂ e.
      let done = pure-inv _ _ e in
      g (rw q) c n m u e₁ (e₂ ∙ ap (λ (x : List ℕ). some (u, x)) done.1) (sym done.0))

module _ {s : List ℕ} {at : ℕ} where
  pub text-empty : {next : ℕ} {u : Unit {0}} {t : Text} → ReadsTo (byte 0x22) s at u next → TextAt s at t → t ≡ []
  text-empty q x =
      chars-view x.turns (drop at s) x.reads
      (λ rest e f. f)
      (λ e c n m u first others whole. absurd (none-ne-some _ (sym e ∙ q.reads)))

  module _ (q : Refuses (byte 0x22) s at) where
    pub text-unread : {t : Text} → Refuses char s at → TextAt s at t → ⊥
    text-unread r x =
        chars-view x.turns (drop at s) x.reads
        (λ rest e f. none-ne-some _ (sym q ∙ e))
        (λ e c n m u first others whole. none-ne-some _ (sym r ∙ first))

    pub text-more : {C : Type 0} {t : Text} → TextAt s at t → ((c : ℕ) (u : Text) → t ≡ utf8_of c ++ u → C) → C
    text-more x k =
        chars-view x.turns (drop at s) x.reads
        (λ rest e f. absurd (none-ne-some _ (sym q ∙ e)))
        (λ e c n m u first others whole. k c u whole)

    pub text-next : {C : Type 0} {t : Text} {most c next : ℕ} → PointRead char most s at c next → TextAt s at t → ((u : Text) → TextAt s next u → t ≡ utf8_of c ++ u → C) → C
    text-next {most = most} {c = c} {next = next} p x k =
        chars-view x.turns (drop at s) x.reads
        (λ rest e f. absurd (none-ne-some _ (sym q ∙ e)))
        (λ e d n m u first others whole.
        let both = some-injective (d, m) (c, drop next s) (sym first ∙ p.read.reads) in
        k u
        (record { turns = n; behind = x.behind; reads = ap (chars_in n) (sym (ap (λ (r : ℕ × List ℕ). r.1) both)) ∙ others })
        (whole ∙ ap (λ (c : ℕ). utf8_of c ++ u) (ap (λ (r : ℕ × List ℕ). r.0) both)))

pub text_of : {s : List ℕ} {at next : ℕ} {t : Text} → ReadsTo Strings.string s at t next → TextAt s at t
unfolding Strings.string
text_of {s} {at} {next} r = record { turns = length (drop at s); behind = drop next s; reads = r.reads }

-- The UTF-8 of a code point tells it

empty-first : (c : ℕ) (u : Text) → same_bytes [] (utf8_of c ++ u) ≡ false
unfolding utf8_of same_bytes
empty-first c u =
    by-test (leb c 0x7F) (λ q. rw q)
    (λ q. by-test (leb c 0x7FF) (λ r. rw (q, r)) (λ r. by-test (leb c 0xFFFF) (λ z. rw (q, r, z)) (λ z. rw (q, r, z))))

empty-second : (c : ℕ) (u : Text) → same_bytes (utf8_of c ++ u) [] ≡ false
unfolding utf8_of same_bytes
empty-second c u =
    by-test (leb c 0x7F) (λ q. rw q)
    (λ q. by-test (leb c 0x7FF) (λ r. rw (q, r)) (λ r. by-test (leb c 0xFFFF) (λ z. rw (q, r, z)) (λ z. rw (q, r, z))))

unfoldable first_point : List ℕ → ℕ
first_point l =
    let a = get_or l 0 0 in
    let b = get_or l 1 0 in
    let c = get_or l 2 0 in
    let d = get_or l 3 0 in
    cond (leb a 0x7F) a
    (cond (leb a 0xDF) (a % 32 * 64 + b % 64)
    (cond (leb a 0xEF) (a % 16 * 4096 + b % 64 * 64 + c % 64)
    (a % 8 * 262144 + b % 64 * 4096 + c % 64 * 64 + d % 64)))

two_back : (c : ℕ) → c ≤ 0x7FF → (0xC0 + c / 64) % 32 * 64 + (0x80 + c % 64) % 64 ≡ c
two_back c h = omega arith

three_back : (c : ℕ) → c ≤ 0xFFFF → (0xE0 + c / 4096) % 16 * 4096 + (0x80 + c / 64 % 64) % 64 * 64 + (0x80 + c % 64) % 64 ≡ c
three_back c h = omega arith

tail-back : (n : ℕ) → (0x80 + n % 64) % 64 ≡ n % 64
tail-back n = omega arith

lead-back : (c : ℕ) → c ≤ 0x1FFFFF → (0xF0 + c / 262144) % 8 ≡ c / 262144
lead-back c h = omega arith

by-64 : (n : ℕ) → n ≡ n / 64 * 64 + n % 64
by-64 n = omega arith

twice-64 : (c : ℕ) → c / 4096 ≡ c / 64 / 64
twice-64 c = omega arith

thrice-64 : (c : ℕ) → c / 262144 ≡ c / 4096 / 64
thrice-64 c = omega arith

joined : (c x y z u v w : ℕ) → c ≡ x * 64 + u → x ≡ y * 64 + v → y ≡ z * 64 + w → z * 262144 + w * 4096 + v * 64 + u ≡ c
joined c x y z u v w e f g = omega arith

four-back : (c : ℕ) → c ≤ 0x1FFFFF → (0xF0 + c / 262144) % 8 * 262144 + (0x80 + c / 4096 % 64) % 64 * 4096 + (0x80 + c / 64 % 64) % 64 * 64 + (0x80 + c % 64) % 64 ≡ c
four-back c h =
    rw (lead-back c h, tail-back (c / 4096), tail-back (c / 64), tail-back c)
    (joined c (c / 64) (c / 4096) (c / 262144) (c % 64) (c / 64 % 64) (c / 4096 % 64) (by-64 c)
    (by-64 (c / 64) ∙ ap (λ (n : ℕ). n * 64 + c / 64 % 64) (sym (twice-64 c)))
    (by-64 (c / 4096) ∙ ap (λ (n : ℕ). n * 64 + c / 4096 % 64) (sym (thrice-64 c))))

point-back : (c : ℕ) (t : List ℕ) → c ≤ 0x1FFFFF → first_point (utf8_of c ++ t) ≡ c
unfolding utf8_of first_point
point-back c t h =
    by-test (leb c 0x7F)
    (λ q. rw (q, q))
    (λ q.
    by-test (leb c 0x7FF)
    (λ r. rw (q, r, lt-leb (0xC0 + c / 64) 0x7F (omega arith), le-leb (0xC0 + c / 64) 0xDF (omega (arith, below c 0x7FF r))) (two_back c (below c 0x7FF r)))
    (λ r.
    by-test (leb c 0xFFFF)
    (λ z. rw (q, r, z, lt-leb (0xE0 + c / 4096) 0x7F (omega arith), lt-leb (0xE0 + c / 4096) 0xDF (omega arith), le-leb (0xE0 + c / 4096) 0xEF (omega (arith, below c 0xFFFF z))) (three_back c (below c 0xFFFF z)))
    (λ z. rw (q, r, z, lt-leb (0xF0 + c / 262144) 0x7F (omega arith), lt-leb (0xF0 + c / 262144) 0xDF (omega arith), lt-leb (0xF0 + c / 262144) 0xEF (omega arith)) (four-back c h))))
  where
    below : (c k : ℕ) → leb c k ≡ true → c ≤ k
    below c k e = leb-true c k e

-- Two texts

same_after : (x t u : List ℕ) → same_bytes (x ++ t) (x ++ u) ≡ same_bytes t u
unfolding same_bytes
same_after [] t u = refl
same_after (b ∷ x) t u = rw (eq-eqb b b refl) (same_after x t u)

module _ (s : List ℕ) (i j : ℕ) where
  -- the first has ended
  pub same_end : {next : ℕ} {u : Unit {0}} → ReadsTo (byte 0x22) s i u next → (r : Bool) → StartsWith 0x22 s j r → SameText s i j r
  unfolding same_bytes
  same_end q true p = record { told = λ t u x y. rw (text-empty q x, text-empty p y) refl }
  same_end q false p =
      record {
        told = λ t u x y. text-more p y (λ c v e. rw (text-empty q x, e) (sym (empty-first c v)));
      }

  module _ (p : Refuses (byte 0x22) s i) where
    -- the second has
    pub same-short : {next : ℕ} {u : Unit {0}} → ReadsTo (byte 0x22) s j u next → SameText s i j false
    same-short q = record { told = λ t u x y. text-more p x (λ c v e. rw (e, text-empty q y) (sym (empty-second c v))) }

    pub same-bad : Refuses char s i → SameText s i j false
    same-bad r = record { told = λ t u x y. absurd (text-unread p r x) }

    module _ (q : Refuses (byte 0x22) s j) where
      pub same_none : Refuses char s j → SameText s i j false
      same_none r = record { told = λ t u x y. absurd (text-unread q r y) }

      module _ {c d next behind : ℕ} (first : PointRead char 0x1FFFFF s i c next) (second : PointRead char 0x1FFFFF s j d behind) where
        pub same-other : (c ≡ d → ⊥) → SameText s i j false
        same-other differ =
            record {
              told =
                  λ t u x y.
                  text-next p first x (λ v x₁ e.
                  text-next q second y (λ w y₁ f.
                  by-test (same_bytes t u)
                  (λ same.
                  let points : first_point (utf8_of c ++ v) ≡ first_point (utf8_of d ++ w) = ap first_point (sym e ∙ same_bytes-equal t u same ∙ f) in
                  absurd (differ (sym (point-back c v first.within) ∙ points ∙ point-back d w second.within)))
                  (λ other. sym other)));
            }

        pub same_turn : c ≡ d → {r : Bool} → SameText s next behind r → SameText s i j r
        same_turn e {r} further =
            record {
              told =
                  λ t u x y.
                  text-next p first x (λ v x₁ f.
                  text-next q second y (λ w y₁ g.
                  further.told v w x₁ y₁ ∙ sym (rw (f, g, e) (same_after (utf8_of d) v w))));
            }

-- Slots

stirred-append : (h : ℕ) (t u : Text) → stirred h (t ++ u) ≡ stirred (stirred h t) u
unfolding stirred
stirred-append h [] u = refl
stirred-append h (b ∷ t) u = stirred-append (stir h b) t u

pub stirred-1 : (h c : ℕ) {r : ℕ} → c ≤ 0x7F → r ≡ stir h c → r ≡ stirred h (utf8_of c)
unfolding utf8_of stirred
stirred-1 h c l e = rw (le-leb c 0x7F l) e

pub stirred-2 : (h c : ℕ) {x r : ℕ} → 0x7F < c → c ≤ 0x7FF → x ≡ stir h (0xC0 + c / 64) → r ≡ stir x (0x80 + c % 64) → r ≡ stirred h (utf8_of c)
unfolding utf8_of stirred
stirred-2 h c l m e f = rw (lt-leb c 0x7F l, le-leb c 0x7FF m, ← e) f

pub stirred-3 : (h c : ℕ) {x y r : ℕ} → 0x7FF < c → c ≤ 0xFFFF
    → x ≡ stir h (0xE0 + c / 4096)
    → y ≡ stir x (0x80 + c / 64 % 64)
    → r ≡ stir y (0x80 + c % 64)
    → r ≡ stirred h (utf8_of c)
unfolding utf8_of stirred
stirred-3 h c l m e f g = rw (lt-leb c 0x7F (omega arith), lt-leb c 0x7FF l, le-leb c 0xFFFF m, ← e, ← f) g

pub stirred-4 : (h c : ℕ) {x y z r : ℕ} → 0xFFFF < c
    → x ≡ stir h (0xF0 + c / 262144)
    → y ≡ stir x (0x80 + c / 4096 % 64)
    → z ≡ stir y (0x80 + c / 64 % 64)
    → r ≡ stir z (0x80 + c % 64)
    → r ≡ stirred h (utf8_of c)
unfolding utf8_of stirred
stirred-4 h c l e f g k = rw (lt-leb c 0x7F (omega arith), lt-leb c 0x7FF (omega arith), lt-leb c 0xFFFF l, ← e, ← f, ← g) k

stirred-small : (h : ℕ) (t : Text) → h < 4294967296 → stirred h t < 4294967296
unfolding stirred stir
stirred-small h [] l = l
stirred-small h (b ∷ t) l = stirred-small (stir h b) t (omega arith)

pub stirred-below : (h : ℕ) (t : Text) {x : ℕ} → h < 4294967296 → x ≡ stirred h t → x < 4294967296
stirred-below h t l e = rw e (stirred-small h t l)

-- what is stirred into the number so far
pub record Stirs (s : List ℕ) (at h r : ℕ) : Type 0 where
  pub told : (t : Text) → TextAt s at t → r ≡ stirred h t

module _ (s : List ℕ) (i h : ℕ) where
  pub stirs-end : {next : ℕ} {u : Unit {0}} → ReadsTo (byte 0x22) s i u next → Stirs s i h h
  unfolding stirred
  stirs-end q = record { told = λ t x. rw (text-empty q x) }

  module _ (q : Refuses (byte 0x22) s i) where
    pub stirs-bad : (r : ℕ) → Refuses char s i → Stirs s i h r
    stirs-bad r bad = record { told = λ t x. absurd (text-unread q bad x) }

    pub stirs-turn : {c next x : ℕ} → PointRead char 0x1FFFFF s i c next → x ≡ stirred h (utf8_of c) → (r : ℕ) → Stirs s next x r → Stirs s i h r
    stirs-turn {c} {next} {x} p e r further =
        record {
          told =
              λ t y.
              text-next q p y (λ u z f.
              further.told u z ∙ ap (λ (h : ℕ). stirred h u) e ∙ sym (ap (stirred h) f ∙ stirred-append h (utf8_of c) u));
        }

pub slot_is : (s : List ℕ) (at h : ℕ) → h < 4294967296 → Stirs s at 0 h → SlotIs s at (h / 262144)
unfolding slot_of
slot_is s at h small stirs = record { told = λ t x. ap (λ (h : ℕ). h / 262144) (stirs.told t x); small = omega arith }
