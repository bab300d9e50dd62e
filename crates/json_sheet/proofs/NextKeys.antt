-- Laws of an object's members, one after the other, by their keys.
use Prim.Native.Nat.{ℕ, zero, suc}
use mathlib.Core.Bool.{Bool, true}
use mathlib.Core.List.{List, []}
use mathlib.Core.Option.{Option, none, some, none-ne-some, some-injective}
use mathlib.Core.Path.{◌≡◌, refl, sym, ap, ◌∙◌}
use native.Mathlib.Omega.{arith}
use lib.ListN.{length, drop}
use Rattle.text.specs.Order.{none_twice}
use Rattle.text.specs.ByteReaders.{byte}
use Rattle.text.specs.Reader.{Reader, ◌>>=◌, ◌>>◌, and_then, pure, either, or_else}
use Rattle.text.specs.ReadAt.{ReadsTo, Refuses}
use Rattle.json_text.specs.Json.{Text, Json, Members, no_members, member}
use Rattle.json_text.specs.Grammar.{unspaced, spaces, comma_or, members_in, members, value, max_depth}
use Rattle.json_text.specs.TokenAt.{SpacesTo}
use Rattle.json_text.specs.BetweenAt.{key_of, KeyAt, MoreAt, EndAt}
use Rattle.json_text.specs.Distinct.{keys_of}
use Rattle.json_text.proofs.Separating.{spaces-full}
use Rattle.json_keys.specs.Repeats.{KeysAt, Followed, NextIs, NoneTwice, ObjectIs}
use Rattle.json_keys.specs.TextLaws.{text_of}
use Rattle.json_sheet.specs.Places.{member_of}
use Rattle.json_sheet.proofs.Held.{members-zero, members-kind, member-unread}

-- the grammar's value, as deep as a text may nest
abbrev any : Reader (List ℕ) Json
any = value max_depth

module _ {C : Type 0} where
  rest-inv : (a : Text × Json) (o : Option (Members × List ℕ)) {held : Members} {behind : List ℕ} → and_then o (λ t. pure (member a.0 a.1 t)) ≡ some (held, behind)
      → ((t : Members) → o ≡ some (t, behind) → held ≡ member a.0 a.1 t → C) → C
  unfolding and_then pure
  rest-inv a none e k = absurd (none-ne-some _ e)
  rest-inv a (some r) {held} {behind} e k =
      let both = some-injective (member a.0 a.1 r.0, r.1) (held, behind) e in
      k r.0 (ap (λ (m : List ℕ). some (r.0, m)) (ap (λ (r : Members × List ℕ). r.1) both)) (ap (λ (r : Members × List ℕ). r.0) (sym both))

-- nothing is said where the members cannot be read
none-there : (s : List ℕ) (at : ℕ) → ((turns : ℕ) → unspaced (drop at s) ≡ drop at s → members_in any turns (drop at s) ≡ none) → NextIs s at 0
none-there s at f =
    record {
      told = λ keys k. absurd (none-ne-some _ (sym (f k.turns k.full) ∙ k.reads));
      forward = λ z. absurd (z refl);
      within = omega arith;
    }

module _ (s : List ℕ) (at : ℕ) where
  pub next-unnamed : Refuses key_of s at → NextIs s at 0
  next-unnamed r = none-there s at (λ turns full. (members-kind any).unread turns (drop at s) full (member-unread any s at r))

  module _ {len start : ℕ} (k : KeyAt s at len start) where
    pub next-unvalued : Refuses (value max_depth) s start → NextIs s at 0
    unfolding member_of ◌>>=◌ and_then
    next-unvalued r = none-there s at (λ turns full. (members-kind any).unread turns (drop at s) full (rw (k.read.reads, r)))

    module _ (v : Json) {behind : ℕ} (r : ReadsTo (value max_depth) s start v behind) where
      this : member_of any (drop at s) ≡ some ((k.text, v), drop behind s)
      unfolding member_of ◌>>=◌ and_then pure
      this = rw (k.read.reads, r.reads)

      pub next-bad : comma_or 0x7D (unspaced (drop behind s)) ≡ none → NextIs s at 0
      next-bad c = none-there s at (λ turns full. (members-kind any).alone turns (drop at s) (drop behind s) (k.text, v) full this c)

      pub next-end : {place : ℕ} → EndAt 0x7D s behind place → NextIs s at 0
      unfolding keys_of
      next-end {place} c =
          record {
            told = λ keys here. last here.turns keys here refl;
            forward = λ z. absurd (z refl);
            within = omega arith;
          }
        where
          last : (turns : ℕ) (keys : List Text) (here : KeysAt s at keys) → here.turns ≡ turns → Followed s at 0 keys
          last zero keys here e =
              absurd (none-ne-some _ (sym (ap (λ (n : ℕ). members_in any n (drop at s)) e ∙ members-zero any (drop at s)) ∙ here.reads))
          last (suc n) keys here e =
              let read = (members-kind any).last n (drop at s) (drop behind s) (drop place s) (k.text, v) here.full this c.closes in
              let both = some-injective (member k.text v no_members, drop place s) (here.held, here.behind) (sym (ap (λ (n : ℕ). members_in any n (drop at s)) e ∙ read) ∙ here.reads) in
              record {
                key = k.text;
                others = [];
                text = text_of k.quoted;
                are = here.are ∙ ap keys_of (ap (λ (r : Members × List ℕ). r.0) (sym both));
                ended = λ z. refl;
                more = λ z. absurd (z refl);
              }

      pub next_more : {place : ℕ} → MoreAt 0x7D s behind place → NextIs s at place
      unfolding keys_of
      next_more {place} c =
          record {
            told = λ keys here. step here.turns keys here refl;
            forward = λ z. omega (arith, k.read.past, r.past, c.past);
            within = c.within;
          }
        where
          step : (turns : ℕ) (keys : List Text) (here : KeysAt s at keys) → here.turns ≡ turns → Followed s at place keys
          step zero keys here e =
              absurd (none-ne-some _ (sym (ap (λ (n : ℕ). members_in any n (drop at s)) e ∙ members-zero any (drop at s)) ∙ here.reads))
          step (suc n) keys here e =
              let read = (members-kind any).more n (drop at s) (drop behind s) c.behind (k.text, v) here.full this c.comma in
              rest-inv (k.text, v) (members_in any n c.behind) (sym (ap (λ (n : ℕ). members_in any n (drop at s)) e ∙ read) ∙ here.reads)
              (λ t f g.
              record {
                key = k.text;
                others = keys_of t;
                text = text_of k.quoted;
                are = here.are ∙ ap keys_of g;
                ended = λ z. absurd (omega (arith, c.past));
                more =
                    λ z.
                    record {
                      turns = n;
                      held = t;
                      behind = here.behind;
                      full = spaces-full c.behind c.skips;
                      reads = sym ((members-kind any).spaced n c.behind ∙ ap (members_in any n) c.skips) ∙ f;
                      are = refl;
                    };
              })

-- From behind the opening bracket on

members-empty : (p : Reader (List ℕ) Json) (x : List ℕ) {y z : List ℕ} {u : Unit {0}} → unspaced x ≡ y → byte 0x7D y ≡ some (u, z) → members p x ≡ some (no_members, z)
unfolding members either or_else spaces ◌>>=◌ ◌>>◌ and_then pure
members-empty p x e f = rw (e, f)

members-held : (p : Reader (List ℕ) Json) (x : List ℕ) {y : List ℕ} → unspaced x ≡ y → byte 0x7D y ≡ none → members p x ≡ members_in p (length x) x
unfolding members either or_else spaces ◌>>=◌ ◌>>◌ and_then pure
members-held p x e f = rw (e, f)

module _ (s : List ℕ) (at : ℕ) {i : ℕ} (w : SpacesTo s at i) where
  pub object-empty : {u : Unit {0}} {next : ℕ} → ReadsTo (byte 0x7D) s i u next → ObjectIs s at true
  unfolding keys_of none_twice
  object-empty {next = next} r =
      record {
        told =
            λ held behind e.
            let both = some-injective (no_members, drop next s) (held, behind) (sym (members-empty any (drop at s) w.skips r.reads) ∙ e) in
            ap (λ (ms : Members). none_twice (keys_of ms)) (ap (λ (r : Members × List ℕ). r.0) both);
      }

  pub object-held : Refuses (byte 0x7D) s i → (r : Bool) → NoneTwice s i r → ObjectIs s at r
  object-held no_end r k =
      record {
        told =
            λ held behind e.
            k.told (keys_of held)
            (record {
              turns = length (drop at s);
              held = held;
              behind = behind;
              full = spaces-full (drop at s) w.skips;
              reads =
                  sym ((members-kind any).spaced (length (drop at s)) (drop at s) ∙ ap (members_in any (length (drop at s))) w.skips)
                  ∙ sym (members-held any (drop at s) w.skips no_end) ∙ e;
              are = refl;
            });
      }
