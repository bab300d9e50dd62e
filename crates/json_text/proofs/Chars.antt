-- Laws of one char at a place of the bytes: each way through the code's readers. What a call ensures, and which case it gave, are premises.
use Prim.Native.Nat.{ℕ, ◌+◌, ◌-◌, ◌*◌, ◌<◌, ◌≤◌}
use mathlib.Core.Bool.{Bool, true, false, not}
use mathlib.Core.List.{List, [], ◌∷◌, ◌++◌}
use mathlib.Core.Option.{none, some, map, none-ne-some}
use mathlib.Core.Path.{◌≡◌, refl, sym, ap, subst, ◌∙◌}
use native.Mathlib.Omega.{arith}
use native.Mathlib.Numerals.{add-one}
use lib.ListN.{length, drop, get_or, drop_of_length-le, length-append, length-drop}
use lib.Seq.{drop-cons}
use lib.Dec.{leb, eqb}
use borrow.Author.Tests.{le-leb, lt-leb, eq-eqb, ne_eqb}
use Rattle.text.specs.Utf8.{between, utf8-1, utf8-2, utf8-3, utf8-4, or_else, decode_one}
use Rattle.text.specs.Decodes.{Decodes}
use Rattle.text.proofs.Bools.{cond-none, cond-some}
use Rattle.text.specs.ByteReaders.{byte}
use Rattle.text.specs.Reader.{Reader, ◌>>=◌, ◌>>◌, and_then, pure, ensure, refuse}
use Rattle.text.specs.ReadAt.{ReadsTo, Refuses}
use Rattle.json_text.specs.Encode.{utf8_of}
use Rattle.json_text.proofs.EncodeLaws.{decoded-is, decoded-below, size-1, size-4, size-of-3}
use Rattle.json_text.specs.Strings.{hex4, paired, unicode, short_escape, escape, is_unescaped, unescaped, char}
use Rattle.json_text.specs.Places.{ShortIs, PointRead}

-- Short escapes

short : {b r : ℕ} → short_escape b ≡ some r → 0 < r → r ≤ 0x7F → ShortIs b r
short e h l = record { read = λ n. e; other = λ z. absurd (omega arith); low = l }

pub short-22 : (b : ℕ) → b ≡ 0x22 → ShortIs b 0x22
unfolding short_escape
short-22 b e = short (ap short_escape e) (omega arith) (omega arith)

pub short-5_c : (b : ℕ) → b ≡ 0x5C → ShortIs b 0x5C
unfolding short_escape
short-5_c b e = short (ap short_escape e) (omega arith) (omega arith)

pub short-2_f : (b : ℕ) → b ≡ 0x2F → ShortIs b 0x2F
unfolding short_escape
short-2_f b e = short (ap short_escape e) (omega arith) (omega arith)

pub short-8 : (b : ℕ) → b ≡ 0x62 → ShortIs b 0x8
unfolding short_escape
short-8 b e = short (ap short_escape e) (omega arith) (omega arith)

pub short-C : (b : ℕ) → b ≡ 0x66 → ShortIs b 0xC
unfolding short_escape
short-C b e = short (ap short_escape e) (omega arith) (omega arith)

pub short-A : (b : ℕ) → b ≡ 0x6E → ShortIs b 0xA
unfolding short_escape
short-A b e = short (ap short_escape e) (omega arith) (omega arith)

pub short-D : (b : ℕ) → b ≡ 0x72 → ShortIs b 0xD
unfolding short_escape
short-D b e = short (ap short_escape e) (omega arith) (omega arith)

pub short-9 : (b : ℕ) → b ≡ 0x74 → ShortIs b 0x9
unfolding short_escape
short-9 b e = short (ap short_escape e) (omega arith) (omega arith)

pub short_none : (b : ℕ) → (b ≡ 0x22 → ⊥) → (b ≡ 0x5C → ⊥) → (b ≡ 0x2F → ⊥) → (b ≡ 0x62 → ⊥) → (b ≡ 0x66 → ⊥) → (b ≡ 0x6E → ⊥) → (b ≡ 0x72 → ⊥) → (b ≡ 0x74 → ⊥)
    → ShortIs b 0
unfolding short_escape
short_none b p q r s t u v w =
    record {
      read = λ n. absurd (n refl);
      other = λ z. rw (ne_eqb b 0x22 p, ne_eqb b 0x5C q, ne_eqb b 0x2F r, ne_eqb b 0x62 s, ne_eqb b 0x66 t, ne_eqb b 0x6E u, ne_eqb b 0x72 v, ne_eqb b 0x74 w);
      low = omega arith;
    }

-- A pair of surrogates

module _ (s : List ℕ) (at n : ℕ) (l : 0xD800 ≤ n) (m : n ≤ 0xDBFF) where
  pub low-alone : Refuses (byte 0x5C) s at → Refuses (paired n) s at
  unfolding paired between ◌>>◌ ◌>>=◌ and_then
  low-alone r = rw (le-leb 0xD800 n l, le-leb n 0xDBFF m, r)

  module _ (slash : ReadsTo (byte 0x5C) s at tt (at + 1)) where
    pub low-other : Refuses (byte 0x75) s (at + 1) → Refuses (paired n) s at
    unfolding paired between ◌>>◌ ◌>>=◌ and_then
    low-other r = rw (le-leb 0xD800 n l, le-leb n 0xDBFF m, slash.reads, r)

    module _ (u : ReadsTo (byte 0x75) s (at + 1) tt (at + 1 + 1)) where
      letter : byte 0x75 (drop (at + 1) s) ≡ some (tt, drop (at + 2) s)
      letter = let i : at + 1 + 1 ≡ at + 2 = omega arith in rw i at u.reads

      pub low-bad : Refuses hex4 s (at + 2) → Refuses (paired n) s at
      unfolding paired between ◌>>◌ ◌>>=◌ and_then
      low-bad r = rw (le-leb 0xD800 n l, le-leb n 0xDBFF m, slash.reads, letter, r)

      module _ {low next : ℕ} (r : PointRead hex4 65535 s (at + 2) low next) where
        pub low_below : low < 0xDC00 → Refuses (paired n) s at
        unfolding paired between ◌>>◌ ◌>>=◌ and_then ensure
        low_below j = rw (le-leb 0xD800 n l, le-leb n 0xDBFF m, slash.reads, letter, r.read.reads, lt-leb 0xDC00 low j)

        pub low-above : 0xDFFF < low → Refuses (paired n) s at
        unfolding paired between ◌>>◌ ◌>>=◌ and_then ensure
        low-above j = rw (le-leb 0xD800 n l, le-leb n 0xDBFF m, slash.reads, letter, r.read.reads, le-leb 0xDC00 low (omega arith), lt-leb low 0xDFFF j)

        pub low-is : {c : ℕ} → 0xDC00 ≤ low → low ≤ 0xDFFF → c ≡ 0x10000 + (n - 0xD800) * 1024 + (low - 0xDC00) → PointRead (paired n) 0x10FFFF s at c next
        unfolding paired between ◌>>◌ ◌>>=◌ and_then ensure pure
        low-is {c} j o is =
            let size = size-4 c in
            let three = size-of-3 low (omega arith) (omega arith) in
            let past = r.size in
            record {
              read =
                  record {
                    reads = rw (le-leb 0xD800 n l, le-leb n 0xDBFF m, slash.reads, letter, r.read.reads, le-leb 0xDC00 low j, le-leb low 0xDFFF o, is);
                    past = omega arith;
                    within = r.read.within;
                  };
              within = omega arith;
              size = omega arith;
            }

-- \u and its digits

module _ (s : List ℕ) (at : ℕ) where
  pub unicode-bad : Refuses hex4 s at → Refuses unicode s at
  unfolding unicode ◌>>=◌ and_then
  unicode-bad r = rw r

  module _ {n next : ℕ} (r : PointRead hex4 65535 s at n next) where
    pub unicode-low : n < 0xD800 → PointRead unicode 0x10FFFF s at n next
    unfolding unicode paired between ◌>>=◌ and_then pure
    unicode-low k =
        record {
          read = record { reads = rw (r.read.reads, lt-leb 0xD800 n k, lt-leb 0xDC00 n (omega arith)); past = r.read.past; within = r.read.within };
          within = omega (arith, r.within);
          size = r.size;
        }

    pub unicode-high : 0xDFFF < n → PointRead unicode 0x10FFFF s at n next
    unfolding unicode paired between ◌>>=◌ and_then pure
    unicode-high k =
        record {
          read = record { reads = rw (r.read.reads, le-leb 0xD800 n (omega arith), lt-leb n 0xDBFF (omega arith), le-leb 0xDC00 n (omega arith), lt-leb n 0xDFFF k); past = r.read.past; within = r.read.within };
          within = omega (arith, r.within);
          size = r.size;
        }

    pub unicode-alone : 0xDBFF < n → n ≤ 0xDFFF → Refuses unicode s at
    unfolding unicode paired between ◌>>=◌ and_then refuse
    unicode-alone k j = rw (r.read.reads, le-leb 0xD800 n (omega arith), lt-leb n 0xDBFF k, le-leb 0xDC00 n (omega arith), le-leb n 0xDFFF j)

    pub unicode-pair : {c end : ℕ} → PointRead (paired n) 0x10FFFF s next c end → PointRead unicode 0x10FFFF s at c end
    unfolding unicode ◌>>=◌ and_then
    unicode-pair q =
        let first = r.read.past in
        record {
          read = record { reads = rw r.read.reads q.read.reads; past = omega (arith, q.read.past); within = q.read.within };
          within = q.within;
          size = omega (arith, q.size);
        }

    pub unicode-unpaired : Refuses (paired n) s next → Refuses unicode s at
    unfolding unicode ◌>>=◌ and_then
    unicode-unpaired q = rw r.read.reads q

-- After a backslash

module _ (s : List ℕ) (at : ℕ) where
  pub escape_end : length s ≤ at → Refuses escape s at
  unfolding escape
  escape_end h = rw (drop_of_length-le s h)

  module _ (h : at < length s) where
    pub escape_unicode : get_or s at 0 ≡ 0x75 → {c next : ℕ} → PointRead unicode 0x10FFFF s (at + 1) c next → PointRead escape 0x10FFFF s at c next
    unfolding escape
    escape_unicode e r =
        record {
          read = record { reads = rw (drop-cons s at 0 h, eq-eqb (get_or s at 0) 0x75 e, ← add-one at) r.read.reads; past = omega (arith, r.read.past); within = r.read.within };
          within = r.within;
          size = omega (arith, r.size);
        }

    pub escape-refused : get_or s at 0 ≡ 0x75 → Refuses unicode s (at + 1) → Refuses escape s at
    unfolding escape
    escape-refused e r = rw (drop-cons s at 0 h, eq-eqb (get_or s at 0) 0x75 e, ← add-one at) r

    module _ (other : get_or s at 0 ≡ 0x75 → ⊥) {c : ℕ} (k : ShortIs (get_or s at 0) c) where
      pub escape-none : c ≡ 0 → Refuses escape s at
      unfolding escape
      escape-none z = rw (drop-cons s at 0 h, ne_eqb (get_or s at 0) 0x75 other, k.other z)

      pub escape-short : (c ≡ 0 → ⊥) → PointRead escape 0x10FFFF s at c (at + 1)
      unfolding escape
      escape-short z =
          let low = k.low in
          let size = size-1 c low in
          record {
            read = record { reads = rw (add-one, drop-cons s at 0 h, ne_eqb (get_or s at 0) 0x75 other, k.read z); past = omega arith; within = omega arith };
            within = omega arith;
            size = omega arith;
          }

-- A char

pub plain-20 : (c : ℕ) → c < 0x20 → false ≡ is_unescaped c
unfolding is_unescaped
plain-20 c h = rw (lt-leb 0x20 c h)

pub plain-22 : (c : ℕ) → 0x20 ≤ c → c ≡ 0x22 → false ≡ is_unescaped c
unfolding is_unescaped
plain-22 c h e = rw (le-leb 0x20 c h, eq-eqb c 0x22 e)

pub plain-5_c : (c : ℕ) {r : Bool} → 0x20 ≤ c → (c ≡ 0x22 → ⊥) → r ≡ not (eqb c 0x5C) → r ≡ is_unescaped c
unfolding is_unescaped
plain-5_c c h e k = rw (le-leb 0x20 c h, ne_eqb c 0x22 e) k

char-slash : (l m : List ℕ) → byte 0x5C l ≡ some (tt, m) → char l ≡ escape m
unfolding byte char
char-slash [] m e = absurd (none-ne-some _ e)
char-slash (b ∷ l) m e =
    let p = cond-some (eqb b 0x5C) e in
    rw p.0 (ap (λ (r : Unit {0} × List ℕ). escape r.1) p.1)

char-other : (l : List ℕ) → byte 0x5C l ≡ none → char l ≡ unescaped l
unfolding byte char unescaped decode_one utf8-1 utf8-2 utf8-3 utf8-4 or_else ◌>>=◌ and_then
char-other [] e = refl
char-other (b ∷ l) e = rw (cond-none (eqb b 0x5C) (tt, l) e)

module _ (s : List ℕ) (at : ℕ) where
  module _ (slash : ReadsTo (byte 0x5C) s at tt (at + 1)) where
    pub char-refused : Refuses escape s (at + 1) → Refuses char s at
    char-refused r = char-slash (drop at s) (drop (at + 1) s) slash.reads ∙ r

    pub char-escaped : {c next : ℕ} → PointRead escape 0x10FFFF s (at + 1) c next → PointRead char 0x1FFFFF s at c next
    char-escaped r =
        record {
          read = record { reads = char-slash (drop at s) (drop (at + 1) s) slash.reads ∙ r.read.reads; past = omega (arith, r.read.past); within = r.read.within };
          within = omega (arith, r.within);
          size = omega (arith, r.size);
        }

  module _ (other : Refuses (byte 0x5C) s at) where
    pub char-none : decode_one (drop at s) ≡ none → Refuses char s at
    unfolding unescaped ◌>>=◌ and_then
    char-none e = char-other (drop at s) other ∙ rw e

    module _ {c next : ℕ} (d : (decode_one (drop at s) ≡ some (c, drop next s)) × (at < next) × (next ≤ length s)) where
      pub char-control : is_unescaped c ≡ false → Refuses char s at
      unfolding unescaped ◌>>=◌ ◌>>◌ and_then ensure
      char-control u = char-other (drop at s) other ∙ rw (d.0, u)

      pub char_is : is_unescaped c ≡ true → PointRead char 0x1FFFFF s at c next
      unfolding unescaped ◌>>=◌ ◌>>◌ and_then ensure pure
      char_is u =
          let m = decoded-below (drop at s) d.0 in
          let here = length-drop at s in
          let there = length-drop next s in
          let both = length-append (utf8_of c) (drop next s) in
          let same = ap length (decoded-is (drop at s) d.0) in
          record {
            read = record { reads = char-other (drop at s) other ∙ rw (d.0, u); past = d.1; within = d.2 };
            within = omega arith;
            size = omega (arith, d.1, d.2);
          }
