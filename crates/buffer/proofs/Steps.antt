-- Each step of the code, as a law.
use Prim.Native.Nat.{ℕ, ◌+◌, ◌/◌, ◌%◌, ◌≤◌, ◌<◌}
use native.Mathlib.Numerals.{add-one}
use native.Mathlib.Omega.{arith}
use mathlib.Core.List.{List, [], ◌∷◌}
use mathlib.Core.Path.{refl, sym}
use lib.ListN.{length, take, get_or, set}
use lib.Seq.{set_out, take-suc, take_all}
use Rattle.text.specs.Numeral.{decimal_of}
use Rattle.text.specs.NumeralLaws.{decimal_of-one, decimal_of-last}
use Rattle.buffer.specs.Wrote.{Wrote}
use Rattle.buffer.specs.Bytes.{little_endian, bytes_of}
use Rattle.buffer.specs.BytesLaws.{bytes-append, bytes-of-one}
use Rattle.buffer.specs.WroteLaws.{wrote_then}

pub wrote-byte : (l : List ℕ) (at b : ℕ) → at < length l → Wrote l (set l at b) at (b ∷ []) (at + 1)
wrote-byte l at b less = record { stands = refl; ends = omega arith }

pub wrote-full : (l : List ℕ) (at b : ℕ) → length l ≤ at → Wrote l l at (b ∷ []) at
wrote-full l at b full = record { stands = sym (set_out l at b full); ends = omega arith }

pub wrote-more : (bytes : List ℕ) (i : ℕ) {before middle after : List ℕ} {at m next : ℕ}
    → Wrote before middle at (take i bytes) m
    → i < length bytes
    → Wrote middle after m (get_or bytes i 0 ∷ []) next
    → Wrote before after at (take (i + 1) bytes) next
wrote-more bytes i u less w = rw (add-one, take-suc bytes i 0) (wrote_then u w)

pub wrote-all : (bytes : List ℕ) (i : ℕ) {before after : List ℕ} {at next : ℕ}
    → Wrote before after at (take i bytes) next
    → length bytes ≤ i
    → Wrote before after at bytes next
wrote-all bytes i u end = rw (take_all i bytes end) at u

pub wrote-digit : (n : ℕ) {before after : List ℕ} {at next : ℕ}
    → n < 10
    → Wrote before after at ((48 + n) ∷ []) next
    → Wrote before after at (decimal_of n) next
wrote-digit n less w = rw (decimal_of-one n less) w

pub wrote-digits : (n : ℕ) {before middle after : List ℕ} {at m next : ℕ}
    → 10 ≤ n
    → Wrote before middle at (decimal_of (n / 10)) m
    → Wrote middle after m ((48 + n % 10) ∷ []) next
    → Wrote before after at (decimal_of n) next
wrote-digits n more u w = rw (decimal_of-last n more) (wrote_then u w)

pub wrote-number : (n : ℕ) {before one two three after : List ℕ} {at second third fourth next : ℕ}
    → Wrote before one at (n % 256 ∷ []) second
    → Wrote one two second (n / 256 % 256 ∷ []) third
    → Wrote two three third (n / 65536 % 256 ∷ []) fourth
    → Wrote three after fourth (n / 16777216 % 256 ∷ []) next
    → Wrote before after at (little_endian n) next
unfolding little_endian
wrote-number n a b c d = wrote_then (wrote_then (wrote_then a b) c) d

pub wrote-numbers : (ns : List ℕ) (i : ℕ) {before middle after : List ℕ} {at m next : ℕ}
    → Wrote before middle at (bytes_of (take i ns)) m
    → i < length ns
    → Wrote middle after m (little_endian (get_or ns i 0)) next
    → Wrote before after at (bytes_of (take (i + 1) ns)) next
wrote-numbers ns i u less w =
    rw (add-one, take-suc ns i 0, bytes-append (take i ns) (get_or ns i 0 ∷ []), bytes-of-one (get_or ns i 0)) (wrote_then u w)

pub all-numbers : (ns : List ℕ) (i : ℕ) {before after : List ℕ} {at next : ℕ}
    → Wrote before after at (bytes_of (take i ns)) next
    → length ns ≤ i
    → Wrote before after at (bytes_of ns) next
all-numbers ns i u end = rw (take_all i ns end) at u
