-- Laws of names, commas and closing brackets.
use Prim.Native.Nat.{ℕ, ◌+◌, ◌<◌, ◌≤◌}
use mathlib.Core.Bool.{Bool, true, false, cond}
use mathlib.Core.List.{List, [], ◌∷◌}
use mathlib.Core.Option.{Option, none, some}
use mathlib.Core.Path.{◌≡◌, refl, sym, ap, ◌∙◌}
use native.Mathlib.Omega.{arith}
use lib.ListN.{length, drop}
use lib.Dec.{eqb}
use Rattle.text.specs.ByteReaders.{byte}
use Rattle.text.specs.Reader.{◌>>=◌, ◌>>◌, and_then, pure}
use Rattle.text.specs.CaseLaws.{by-test}
use Rattle.text.specs.ReadAt.{ReadsTo, Refuses}
use Rattle.json_text.specs.Strings.{string}
use Rattle.json_text.specs.StringAt.{StringAt}
use Rattle.json_text.specs.Grammar.{is_space, unspaced, spaces, comma_or}
use Rattle.json_text.specs.TokenAt.{SpacesTo}
use Rattle.json_text.specs.BetweenAt.{key_of, KeyAt, MoreAt, EndAt}
use Rattle.json_text.proofs.Tokens.{unspaced-stop}

-- White space is passed once

unspaced-twice : (x : List ℕ) → unspaced (unspaced x) ≡ unspaced x
unfolding unspaced
unspaced-twice [] = refl
unspaced-twice (b ∷ s) = go (is_space b) refl (unspaced-twice s)
  where
    go : (t : Bool) → is_space b ≡ t → unspaced (unspaced s) ≡ unspaced s → unspaced (cond t (unspaced s) (b ∷ s)) ≡ cond t (unspaced s) (b ∷ s)
    go true e more = more
    go false e more = unspaced-stop b s e

pub spaces-full : (x : List ℕ) {y : List ℕ} → unspaced x ≡ y → unspaced y ≡ y
spaces-full x {y} e = ap unspaced (sym e) ∙ unspaced-twice x ∙ e

-- A name

pub key-other : (s : List ℕ) (at : ℕ) → Refuses (byte 0x22) s at → Refuses key_of s at
unfolding key_of ◌>>=◌ ◌>>◌ and_then
key-other s at e = rw e

module _ {s : List ℕ} {at : ℕ} {u : Unit {0}} (q : ReadsTo (byte 0x22) s at u (at + 1)) where
  pub key-unread : Refuses string s (at + 1) → Refuses key_of s at
  unfolding key_of ◌>>=◌ ◌>>◌ and_then
  key-unread e = rw (q.reads, e)

  module _ {len behind i : ℕ} (t : StringAt s (at + 1) len behind) (k : SpacesTo s behind i) where
    pub key-alone : Refuses (byte 0x3A) s i → Refuses key_of s at
    unfolding key_of spaces ◌>>=◌ ◌>>◌ and_then
    key-alone e = rw (q.reads, t.read.reads, k.skips, e)

    pub key_reads : {v : Unit {0}} {next : ℕ} → ReadsTo (byte 0x3A) s i v (i + 1) → SpacesTo s (i + 1) next → KeyAt s at len next
    unfolding key_of spaces ◌>>=◌ ◌>>◌ and_then pure
    key_reads c l =
        record {
          text = t.text;
          behind = behind;
          quoted = t.read;
          read =
              record {
                reads = rw (q.reads, t.read.reads, k.skips, c.reads, l.skips);
                past = omega (arith, t.read.past, k.forward, l.forward);
                within = l.within;
              };
          size = t.size;
        }

-- A comma or a closing bracket

unfoldable picks : Option (Unit {0} × List ℕ) → Option (Unit {0} × List ℕ) → Option (Bool × List ℕ)
picks (some r) q = some (true, r.1)
picks none (some r) = some (false, r.1)
picks none none = none

comma-picks : (close : ℕ) (x : List ℕ) → comma_or close x ≡ picks (byte 0x2C x) (byte close x)
unfolding comma_or byte picks
comma-picks close [] = refl
comma-picks close (b ∷ s) = go (eqb b 0x2C) (eqb b close)
  where
    go : (t u : Bool) → cond t (some (true, s)) (cond u (some (false, s)) none) ≡ picks (cond t (some (tt, s)) none) (cond u (some (tt, s)) none)
    go true u = refl
    go false true = refl
    go false false = refl

module _ (close : ℕ) {s : List ℕ} {at i : ℕ} (k : SpacesTo s at i) where
  pub separator-more : {u : Unit {0}} {next : ℕ} → ReadsTo (byte 0x2C) s i u (i + 1) → SpacesTo s (i + 1) next → MoreAt close s at next
  unfolding picks
  separator-more c l =
      record {
        behind = drop (i + 1) s;
        comma = ap (comma_or close) k.skips ∙ comma-picks close (drop i s) ∙ rw c.reads;
        skips = l.skips;
        past = omega (arith, k.forward, l.forward);
        within = l.within;
      }

  pub separator-end : {u : Unit {0}} → Refuses (byte 0x2C) s i → ReadsTo (byte close) s i u (i + 1) → EndAt close s at (i + 1)
  unfolding picks
  separator-end n c =
      record {
        closes = ap (comma_or close) k.skips ∙ comma-picks close (drop i s) ∙ rw (n, c.reads);
        past = omega (arith, k.forward);
        within = c.within;
      }

  pub separator-none : Refuses (byte 0x2C) s i → Refuses (byte close) s i → comma_or close (unspaced (drop at s)) ≡ none
  unfolding picks
  separator-none n m = ap (comma_or close) k.skips ∙ comma-picks close (drop i s) ∙ rw (n, m)
