-- Calls that check one path of `$fields`, from raw sheets to the numbers, by computation.
use Prim.Native.Nat.{ℕ, ◌-◌}
use Prim.Native.String.{String}
use mathlib.Core.List.{List, [], ◌∷◌}
use mathlib.Core.Path.{◌≡◌, refl}
use Rattle.text.specs.Ascii.{ascii}
use Rattle.validation.specs.Result.{scratch_words, Numbers, numbers_of}
use Rattle.validation.specs.KeyPath.{KeyCall, key_result_of}
use Rattle.validation.specs.Computing.{computing}
use Rattle.validation.proofs.Edges.{times}

-- a closed record: `bars`, an array of integers, and `name`, a text
unfoldable pub mill : List ℕ
mill = ascii "H,0,2,-,0\nF,6,0,1,0,4,-,bars\nF,2,0,0,0,0,-,\nF,1,0,0,0,4,-,name\n"

-- an open record without fields
unfoldable pub open-record : List ℕ
open-record = ascii "H,1,0,-,0\n"

unfoldable pub keyed : (semantics reader : ℕ) (path schema : List ℕ) (scratch_length : ℕ) → KeyCall
keyed semantics reader path schema scratch_length =
    record {
      semantics = semantics;
      reader = reader;
      path = path;
      schema = schema;
      scratch_length = scratch_length;
    }

-- the numbers of an answer: number, detail and passed count, the others being 0
unfoldable pub said : (number detail passed : ℕ) → Numbers
said number detail passed =
    record { number = number; family = 0; detail = detail; place = 0; over_place = 0; passed = passed; path_length = 0 }

-- what is heard of a call; under `unfolding heard` it computes
unfoldable pub heard : KeyCall → Numbers
unfolding computing keyed said mill open-record times
heard c = numbers_of (key_result_of c)

-- a path of the mill's record, with scratch enough
unfoldable pub reads : (semantics reader : ℕ) → String → Numbers
unfolding heard
reads semantics reader path = heard (keyed semantics reader (ascii path) mill scratch_words)

-- a path of so many bytes, which an open record lets in
unfoldable pub long : ℕ → List ℕ
long n = times n (ascii "k") []

pub record KeyEdges : Type 0 where
  -- a text's count: the kernel reads it, a projection does not; under kernel/1 no text has one, for neither
  pub text-count : reads 2 1 "name.count" ≡ said 0 0 1
  pub text-count-key : reads 2 2 "name.count" ≡ said 18 13 0
  pub text-count-kernel : reads 1 1 "name.count" ≡ said 18 10 0
  pub text-count-kernel-key : reads 1 2 "name.count" ≡ said 18 10 0
  -- what follows it
  pub after-count : reads 4 1 "name.count.x" ≡ said 18 6 0
  pub after-count-key : reads 4 2 "name.count.x" ≡ said 18 13 0
  -- an array's count has both
  pub array_count : reads 3 1 "bars.count" ≡ said 0 0 1
  pub array-count-key : reads 3 2 "bars.count" ≡ said 0 0 1
  -- segments
  pub empty-path : reads 2 2 "" ≡ said 18 1 0
  pub empty-segment : reads 2 1 "bars." ≡ said 18 1 0
  pub unknown-root : reads 2 2 "nam" ≡ said 18 2 0
  pub whole-field : reads 1 2 "name" ≡ said 0 0 1
  pub with-dollar : reads 2 1 "$fields.name" ≡ said 18 2 0
  pub let-in : heard (keyed 1 2 (ascii "no.such.path") open-record scratch_words) ≡ said 0 0 1
  -- bounds: semantics 1 to 4, readers 1 and 2, 512 bytes
  pub semantics-0 : reads 0 1 "name" ≡ said 1 0 0
  pub semantics-5 : reads 5 1 "name" ≡ said 1 0 0
  pub reader-0 : reads 2 0 "name" ≡ said 1 0 0
  pub reader-3 : reads 2 3 "name" ≡ said 1 0 0
  pub bytes-512 : heard (keyed 2 2 (long 512) open-record scratch_words) ≡ said 0 0 1
  pub bytes-513 : heard (keyed 2 2 (long 513) open-record scratch_words) ≡ said 2 0 0
  pub not-utf8 : heard (keyed 2 2 (255 ∷ []) open-record scratch_words) ≡ said 2 0 0
  pub scratch-short : heard (keyed 2 2 (long 512) open-record (scratch_words - 1)) ≡ said 3 0 0
  pub no-schema : heard (keyed 2 2 (long 512) [] scratch_words) ≡ said 4 0 0
  -- the first refusal that is due
  pub setting-before-path : heard (keyed 2 3 (long 513) [] 0) ≡ said 1 0 0
  pub path-before-width : heard (keyed 2 2 (long 513) [] 0) ≡ said 2 0 0
  pub width-before-schema : heard (keyed 2 2 (long 512) [] 0) ≡ said 3 0 0

pub key-edges : KeyEdges
unfolding heard reads long
key-edges =
    record {
      text-count = refl;
      text-count-key = refl;
      text-count-kernel = refl;
      text-count-kernel-key = refl;
      after-count = refl;
      after-count-key = refl;
      array_count = refl;
      array-count-key = refl;
      empty-path = refl;
      empty-segment = refl;
      unknown-root = refl;
      whole-field = refl;
      with-dollar = refl;
      let-in = refl;
      semantics-0 = refl;
      semantics-5 = refl;
      reader-0 = refl;
      reader-3 = refl;
      bytes-512 = refl;
      bytes-513 = refl;
      not-utf8 = refl;
      scratch-short = refl;
      no-schema = refl;
      setting-before-path = refl;
      path-before-width = refl;
      width-before-schema = refl;
    }
