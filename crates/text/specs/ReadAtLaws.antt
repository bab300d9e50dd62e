-- One reader after another, at a place of the bytes: the first refuses; it reads, and the next refuses; both read.
use Rattle.std.specs.Prelude.{ℕ, ◌<◌, ◌≤◌, Bool, true, false, List, [], ◌∷◌, ◌≡◌, refl, eqb, length, drop, get_or}
use Rattle.std.proofs.Math.Option.{Option, none, some, none-ne-some}
use Rattle.std.proofs.Common.{sym, ◌∙◌, arith, add-one, drop_of_length-le, drop-cons, eqb-true, ne_eqb}
use Rattle.text.specs.Reader.{Reader, ◌>>=◌, ◌>>◌, and_then, pure}
use Rattle.text.specs.ByteReaders.{byte}
use Rattle.text.specs.ReadAt.{ReadsTo, Refuses, StartsWith}
use Rattle.text.specs.CaseLaws.{by-test}

-- The second reader is told what the first one read.

module _ {A B : Type 0} (p : Reader (List ℕ) A) (k : A → Reader (List ℕ) B) where
  pub bind-refused : (s : List ℕ) (at : ℕ) → Refuses p s at → Refuses (p >>= k) s at
  unfolding ◌>>=◌ and_then
  bind-refused s at e = rw e

  pub bind-refuses : {s : List ℕ} {at mid : ℕ} {a : A} → ReadsTo p s at a mid → Refuses (k a) s mid → Refuses (p >>= k) s at
  unfolding ◌>>=◌ and_then
  bind-refuses e f = rw e.reads f

  -- the next one, in front of what is left, refuses
  pub bind_stops : {C : Type 0} (q : Reader (List ℕ) C) (l : C → Reader (List ℕ) B) {s : List ℕ} {at mid : ℕ} {a : A} → ReadsTo p s at a mid → k a ≡ (q >>= l) → Refuses q s mid → Refuses (p >>= k) s at
  unfolding ◌>>=◌ and_then
  bind_stops q l e same f = rw (e.reads, same, f)

  pub bind-reads : {s : List ℕ} {at mid next : ℕ} {a : A} {b : B} → ReadsTo p s at a mid → ReadsTo (k a) s mid b next → ReadsTo (p >>= k) s at b next
  unfolding ◌>>=◌ and_then
  bind-reads e f = record { reads = rw e.reads f.reads; past = omega (arith, e.past, f.past); within = f.within }

-- The second reader is the same whatever the first one read.

module _ {A B : Type 0} (p : Reader (List ℕ) A) (q : Reader (List ℕ) B) where
  pub then-refused : (s : List ℕ) (at : ℕ) → Refuses p s at → Refuses (p >> q) s at
  unfolding ◌>>◌
  then-refused s at e = bind-refused p (λ a. q) s at e

  pub then-refuses : {s : List ℕ} {at mid : ℕ} {a : A} → ReadsTo p s at a mid → Refuses q s mid → Refuses (p >> q) s at
  unfolding ◌>>◌
  then-refuses e f = bind-refuses p (λ a. q) e f

  pub then-reads : {s : List ℕ} {at mid next : ℕ} {a : A} {b : B} → ReadsTo p s at a mid → ReadsTo q s mid b next → ReadsTo (p >> q) s at b next
  unfolding ◌>>◌
  then-reads e f = bind-reads p (λ a. q) e f

-- The second reads nothing.

pub bind-pure : {A B : Type 0} (p : Reader (List ℕ) A) (f : A → B) {s : List ℕ} {at next : ℕ} {a : A} → ReadsTo p s at a next → ReadsTo (p >>= λ x. pure (f x)) s at (f a) next
unfolding ◌>>=◌ and_then pure
bind-pure p f e = record { reads = rw e.reads; past = e.past; within = e.within }

pub then-pure : {A B : Type 0} (p : Reader (List ℕ) A) (b : B) {s : List ℕ} {at next : ℕ} {a : A} → ReadsTo p s at a next → ReadsTo (p >> pure b) s at b next
unfolding ◌>>◌
then-pure p b e = bind-pure p (λ a. b) e

-- Readers may be grouped either way.

pub and_then-assoc : {A B C : Type 0} (o : Option (A × List ℕ)) (f : A → Reader (List ℕ) B) (g : B → Reader (List ℕ) C)
    → and_then (and_then o f) g ≡ and_then o (λ a t. and_then (f a t) g)
unfolding and_then
and_then-assoc none f g = refl
and_then-assoc (some r) f g = refl

pub then-bind : {A B C : Type 0} (p : Reader (List ℕ) A) (q : Reader (List ℕ) B) (k : B → Reader (List ℕ) C) (l : List ℕ) → (p >> (q >>= k)) l ≡ ((p >> q) >>= k) l
unfolding ◌>>◌ ◌>>=◌
then-bind p q k l = sym (and_then-assoc (p l) (λ a. q) k)

pub then-then : {A B C : Type 0} (p : Reader (List ℕ) A) (q : Reader (List ℕ) B) (k : Reader (List ℕ) C) (l : List ℕ) → (p >> (q >> k)) l ≡ ((p >> q) >> k) l
unfolding ◌>>◌
then-then p q k l = then-bind p q (λ b. k) l

-- Single bytes.

pub byte_reads : (b : ℕ) (s : List ℕ) (at : ℕ) → at < length s → StartsWith b s at (eqb (get_or s at 0) b)
unfolding byte
byte_reads b s at h = go (eqb (get_or s at 0) b) refl
  where
    go : (t : Bool) → eqb (get_or s at 0) b ≡ t → StartsWith b s at t
    go true e =
        record {
          reads = rw (add-one, drop-cons s at 0 h, e);
          past = omega arith;
          within = omega arith;
        }
    go false e = rw (drop-cons s at 0 h, e)

pub byte-end : (b : ℕ) (s : List ℕ) (at : ℕ) → length s ≤ at → Refuses (byte b) s at
unfolding byte
byte-end b s at h = rw (drop_of_length-le s h)

byte-differs : (b d : ℕ) (l : List ℕ) (t : Unit {0} × List ℕ) → (b ≡ d → ⊥) → byte b l ≡ some t → byte d l ≡ none
unfolding byte
byte-differs b d [] t ne f = refl
byte-differs b d (x ∷ l) t ne f =
    by-test (eqb x b)
    (λ q. rw (ne_eqb x d (λ y. ne (sym (eqb-true x b q) ∙ y))))
    (λ q. absurd (none-ne-some t (rw q at f)))

-- another byte is read
pub byte-other : (b d : ℕ) {s : List ℕ} {at next : ℕ} {u : Unit {0}} → (b ≡ d → ⊥) → ReadsTo (byte b) s at u next → Refuses (byte d) s at
byte-other b d {s} {at} {next} {u} ne e = byte-differs b d (drop at s) (u, drop next s) ne e.reads
