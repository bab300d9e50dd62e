-- The edges of the format (docs/FORMAT.md, "Edges"), from raw sheets to the seven numbers and the path, by computation.
use Prim.Native.Nat.{ℕ, zero, suc}
use mathlib.Core.List.{List, ◌++◌}
use mathlib.Core.Path.{◌≡◌, refl}
use Rattle.text.specs.Ascii.{ascii}
use Rattle.validation.proofs.Calls.{ask, heard, accepts, finds}

-- a closed record without fields
unfoldable pub empty : List ℕ
empty = ascii "H,0,0,-,0\n"

-- `bars`, an array of integers
unfoldable pub bars : List ℕ
bars = ascii "H,0,1,-,0\nF,6,0,1,0,4,-,bars\nF,2,0,0,0,0,-,\n"

-- the same among the arguments
unfoldable pub bars_given : List ℕ
bars_given = ascii "H,0,0,0,1\nF,6,0,1,0,4,-,bars\nF,2,0,0,0,0,-,\n"

-- `u`, a union with the tag `value`
unfoldable pub tagged : List ℕ
tagged = ascii "H,0,1,-,0\nF,11,0,0,0,1,5,uvalue\n"

-- the same with the tag `kind`
unfoldable pub tagged_kind : List ℕ
tagged_kind = ascii "H,0,1,-,0\nF,11,0,0,0,1,4,ukind\n"

-- so many times, then the rest
unfoldable pub times : ℕ → List ℕ → List ℕ → List ℕ
times zero part rest = rest
times (suc n) part rest = part ++ times n part rest

-- a rule of so many `not`s with a condition under them
unfoldable pub negated : ℕ → List ℕ → List ℕ
negated n under = ascii "R,-,-,\n" ++ times n (ascii "C,4,0,\n") under

pub record Edges : Type 0 where
  -- depth 32 is accepted, 33 is too deep
  pub depth-32 : heard (ask 1 2 empty (negated 31 (ascii "C,1,1,\n"))) ≡ accepts 35
  pub depth-33 : heard (ask 1 2 empty (negated 32 (ascii "C,1,1,\n"))) ≡ finds 13 4 0 2 0 2 8 (ascii "r.assert")
  -- an empty `all` has depth 1
  pub empty-all : heard (ask 1 2 empty (negated 0 (ascii "C,2,0,\n"))) ≡ finds 16 1 0 2 0 4 8 (ascii "r.assert")
  pub empty-all-32 : heard (ask 1 2 empty (negated 31 (ascii "C,2,0,\n")))
      ≡ finds 16 1 0 33 0 35 132 (ascii "r.assert" ++ times 31 (ascii ".not") (ascii ""))
  pub empty-all-33 : heard (ask 1 2 empty (negated 32 (ascii "C,2,0,\n"))) ≡ finds 13 4 0 2 0 2 8 (ascii "r.assert")
  -- a binder `fields` can be read where the kind may not read `$fields`
  pub fields-bound : heard (ask 6 2 bars_given (ascii "R,-,-,\nC,20,6,fields\nV,5,10,$args.bars\nC,19,0,\nV,5,7,$fields\n")) ≡ accepts 9
  pub fields-not-bound : heard (ask 6 2 bars_given (ascii "R,-,-,\nC,20,1,b\nV,5,10,$args.bars\nC,19,0,\nV,5,7,$fields\n"))
      ≡ finds 18 8 12 5 3 8 28 (ascii "r.assert.for_all.that.truthy")
  -- over `xb` inside the binder b; outside it, `xb` names no collection
  pub over-xb : heard (ask 1 2 bars (ascii "R,-,-,\nC,20,1,b\nV,5,12,$fields.bars\nC,21,1,c\nV,5,2,xb\nC,19,0,\nV,5,15,$c.no.such.path\n")) ≡ accepts 12
  pub over-xb-outside : heard (ask 1 2 bars (ascii "R,-,-,\nC,21,1,c\nV,5,2,xb\nC,19,0,\nV,5,15,$c.no.such.path\n"))
      ≡ finds 22 7 5 2 0 5 16 (ascii "r.assert.for_any")
  -- over `$b` the element is unknown, though that of b itself is known
  pub over-binder : heard (ask 1 2 bars (ascii "R,-,-,\nC,20,1,b\nV,5,12,$fields.bars\nC,21,1,c\nV,5,2,$b\nC,19,0,\nV,5,15,$c.no.such.path\n")) ≡ accepts 13
  pub binder-known : heard (ask 1 2 bars (ascii "R,-,-,\nC,20,1,b\nV,5,12,$fields.bars\nC,19,0,\nV,5,15,$b.no.such.path\n"))
      ≡ finds 18 8 10 5 3 8 28 (ascii "r.assert.for_all.that.truthy")
  -- a count is no collection
  pub over-count : heard (ask 1 2 bars (ascii "R,-,-,\nC,20,1,b\nV,5,18,$fields.bars.count\nC,1,1,\n"))
      ≡ finds 22 7 3 2 0 6 16 (ascii "r.assert.for_all")
  -- 29 February
  pub leap-day : heard (ask 1 2 empty (ascii "R,-,-,\nC,6,0,\nV,5,10,2024-02-29\nV,5,10,2024-03-01\n")) ≡ accepts 6
  pub leap-day-after : heard (ask 1 2 empty (ascii "R,-,-,\nC,7,0,\nV,5,10,2024-03-01\nV,5,10,2024-02-29\n")) ≡ accepts 6
  pub no-leap-day : heard (ask 1 2 empty (ascii "R,-,-,\nC,6,0,\nV,5,10,2024-02-29\nV,5,10,2023-02-29\n"))
      ≡ finds 20 1 2 4 0 5 18 (ascii "r.assert.before[1]")
  pub no-leap-day-after : heard (ask 1 2 empty (ascii "R,-,-,\nC,7,0,\nV,5,10,2023-02-29\nV,5,10,2024-02-29\n"))
      ≡ finds 20 1 2 3 0 4 17 (ascii "r.assert.after[0]")
  -- `$$` text is no instant
  pub escaped-instant : heard (ask 1 2 empty (ascii "R,-,-,\nC,6,0,\nV,5,12,$$2024-01-01\nV,5,10,2024-01-01\n"))
      ≡ finds 20 1 1 3 0 4 18 (ascii "r.assert.before[0]")
  -- 01 is no ordinal, 0 and 10 are
  pub leading-zero : heard (ask 1 2 bars (ascii "R,-,-,\nC,5,0,\nV,5,15,$fields.bars.01\n")) ≡ finds 18 1 4 3 0 4 15 (ascii "r.assert.exists")
  pub ordinal-0 : heard (ask 1 2 bars (ascii "R,-,-,\nC,5,0,\nV,5,14,$fields.bars.0\n")) ≡ accepts 5
  pub ordinal-10 : heard (ask 1 2 bars (ascii "R,-,-,\nC,5,0,\nV,5,15,$fields.bars.10\n")) ≡ accepts 5
  -- where the tag is `value`, the content is `content`
  pub tag-value : heard (ask 1 2 tagged (ascii "R,-,-,\nC,5,0,\nV,5,15,$fields.u.value\n")) ≡ accepts 5
  pub tag-value-x : heard (ask 1 2 tagged (ascii "R,-,-,\nC,5,0,\nV,5,17,$fields.u.value.x\n")) ≡ finds 18 1 7 3 0 4 15 (ascii "r.assert.exists")
  pub tag-content-x : heard (ask 1 2 tagged (ascii "R,-,-,\nC,5,0,\nV,5,19,$fields.u.content.x\n")) ≡ accepts 5
  -- where it is another, the content is `value`
  pub other-tag-value-x : heard (ask 1 2 tagged_kind (ascii "R,-,-,\nC,5,0,\nV,5,17,$fields.u.value.x\n")) ≡ accepts 5
  pub other-tag-content : heard (ask 1 2 tagged_kind (ascii "R,-,-,\nC,5,0,\nV,5,17,$fields.u.content\n"))
      ≡ finds 18 1 8 3 0 4 15 (ascii "r.assert.exists")
  -- a number that is not finite is named as such in a quantifier's body too
  pub literal-in-body : heard (ask 1 2 bars (ascii "R,-,-,\nC,20,1,b\nV,5,12,$fields.bars\nC,8,0,\nV,5,2,$b\nV,4,5,1e309\n"))
      ≡ finds 14 1 0 6 0 3 27 (ascii "r.assert.for_all.that.eq[1]")
  -- the worked example
  pub worked : heard (ask 2 2 bars (ascii "R,-,-,\nC,20,1,b\nV,5,12,$fields.bars\nC,12,0,\nV,5,8,$b.count\nV,4,1,9\n"))
      ≡ finds 18 8 9 5 3 9 27 (ascii "r.assert.for_all.that.lt[0]")

pub edges : Edges
unfolding heard empty bars bars_given tagged tagged_kind times negated
edges =
    record {
      depth-32 = refl;
      depth-33 = refl;
      empty-all = refl;
      empty-all-32 = refl;
      empty-all-33 = refl;
      fields-bound = refl;
      fields-not-bound = refl;
      over-xb = refl;
      over-xb-outside = refl;
      over-binder = refl;
      binder-known = refl;
      over-count = refl;
      leap-day = refl;
      leap-day-after = refl;
      no-leap-day = refl;
      no-leap-day-after = refl;
      escaped-instant = refl;
      leading-zero = refl;
      ordinal-0 = refl;
      ordinal-10 = refl;
      tag-value = refl;
      tag-value-x = refl;
      tag-content-x = refl;
      other-tag-value-x = refl;
      other-tag-content = refl;
      literal-in-body = refl;
      worked = refl;
    }
