-- Every object of a text is met by a scan for opening brackets outside strings, and nothing else is.
use Prim.Native.Nat.{ℕ, zero, suc, ◌+◌, ◌≤◌, ◌<◌}
use Rattle.std.specs.Prelude.{Bool, ◌&&◌, List, [], ◌∷◌, ◌⊎◌, ◌≡◌, eqb, length, get_or, drop}
use Rattle.std.proofs.Math.Bool.{true, false}
use Rattle.std.proofs.lemmas.Bool.{false≢true}
use Rattle.std.proofs.Common.{inl, inr, sym, ap, subst, ◌∙◌, arith, add-one, drop_of_length-le, drop-cons, eqb-true}
use Rattle.std.proofs.Math.Option.{Option, none, some, none-ne-some, some-injective, map}
use Rattle.std.proofs.Math.Path.{refl}
use Rattle.text.specs.Ascii.{ascii}
use Rattle.text.specs.Order.{none_twice}
use Rattle.text.specs.CaseLaws.{by-test}
use Rattle.text.specs.Decimal.{is_digit}
use Rattle.text.specs.Reader.{Reader, ◌>>=◌, ◌>>◌, pure}
use Rattle.text.specs.ReaderLaws.{Reads, bind_inv, then-inv, pure-inv, refuse-inv, ensure-inv, either-inv}
use Rattle.text.specs.ByteReaders.{byte}
use Rattle.text.specs.ByteReaderLaws.{byte-sound}
use Rattle.text.specs.ReadAt.{Refuses}
use Rattle.number.specs.Grammar.{is_number}
use Rattle.json_text.specs.Json.{Text, Json, null, truth, number, string, array, object, Elements, no_elements, Members, no_members}
use Rattle.json_text.specs.Strings as Strings
use Rattle.json_text.specs.Grammar.{is_space, unspaced, spaces, is_of_number, number_run, number_text, spelled, scalar, comma_or, elements_after, members_after, elements_in, members_in, elements, members, container, value, max_depth, at_end, document}
use Rattle.json_text.specs.Distinct.{keys_of, distinct, distinct_elements, distinct_members}
use Rattle.json_text.specs.StringAt.{StringAt}
use Rattle.json_keys.specs.Repeats.{ObjectIs, KeysDiffer}
use Rattle.json_keys.specs.DepthLaws.{value-within, members-within}

-- from l to m, a string or a byte at a time; x is whether no object that is opened on the way has a key twice
pub data Visits : List ℕ → List ℕ → Bool → Type 0 where
  stay : {l m : List ℕ} {x : Bool} → l ≡ m → x ≡ true → Visits l m x
  pass : {l m : List ℕ} {x : Bool} (b : ℕ) (rest : List ℕ) → l ≡ b ∷ rest → eqb b 0x22 ≡ false → eqb b 0x7B ≡ false → Visits rest m x → Visits l m x
  quote : {l m : List ℕ} {x : Bool} (rest : List ℕ) (t : Text) (behind : List ℕ) → l ≡ 0x22 ∷ rest → Strings.string rest ≡ some (t, behind) → Visits behind m x → Visits l m x
  opens : {l m : List ℕ} {x : Bool} (rest : List ℕ) (held : Members) (behind : List ℕ) (y : Bool) → l ≡ 0x7B ∷ rest
      → members (value max_depth) rest ≡ some (held, behind)
      → x ≡ (none_twice (keys_of held) && y)
      → Visits rest m y
      → Visits l m x

and_assoc : (a b c : Bool) → ((a && b) && c) ≡ (a && (b && c))
and_assoc true b c = refl
and_assoc false b c = refl

and-true : (a : Bool) → (a && true) ≡ a
and-true true = refl
and-true false = refl

visits-then : {l m n : List ℕ} {x y : Bool} → Visits l m x → Visits m n y → Visits l n (x && y)
visits-then (stay e f) w = rw (e, f) w
visits-then (pass b rest e q r v) w = pass b rest e q r (visits-then v w)
visits-then (quote rest t behind e r v) w = quote rest t behind e r (visits-then v w)
visits-then {y = z} (opens rest held behind y e r f v) w =
    opens rest held behind (y && z) e r (ap (λ (b : Bool). b && z) f ∙ and_assoc (none_twice (keys_of held)) y z) (visits-then v w)

-- what a reader reads is visited
abbrev Visiting : {A : Type 0} → Reader (List ℕ) A → (A → Bool) → Type 0
Visiting {A} p f = (l : List ℕ) (a : A) (m : List ℕ) → p l ≡ some (a, m) → Visits l m (f a)

visits-as : {A : Type 0} (f : A → Bool) {a b : A} {l m n : List ℕ} → a ≡ b → m ≡ n → Visits l m (f a) → Visits l n (f b)
visits-as f {a} {b} {l} {m} {n} e g v = subst (λ (n : List ℕ). Visits l n (f b)) g (subst (λ (x : _). Visits l m (f x)) e v)

-- Tokens

-- a byte that passes a test is none that does not
other : (f : ℕ → Bool) (b k : ℕ) → f b ≡ true → f k ≡ false → eqb b k ≡ false
other f b k e g = by-test (eqb b k) (λ q. absurd (false≢true (sym g ∙ ap f (sym (eqb-true b k q)) ∙ e))) (λ q. q)

one : (b : ℕ) (rest : List ℕ) → eqb b 0x22 ≡ false → eqb b 0x7B ≡ false → Visits (b ∷ rest) rest true
one b rest q r = pass b rest refl q r (stay refl refl)

visits-spaces : (l : List ℕ) → Visits l (unspaced l) true
unfolding unspaced is_space
visits-spaces [] = stay refl refl
visits-spaces (b ∷ l) =
    by-test (is_space b)
    (λ q. rw q (pass b l refl (other is_space b 0x22 q refl) (other is_space b 0x7B q refl) (visits-spaces l)))
    (λ q. rw q (stay refl refl))

spaces-visited : Visiting spaces (λ u. true)
unfolding spaces
spaces-visited l u m e =
    visits-as (λ (u : Unit {0}). true) {a = u} refl (ap (λ (r : Unit {0} × List ℕ). r.1) (some-injective (tt, unspaced l) (u, m) e)) (visits-spaces l)

byte-visited : (k : ℕ) → eqb k 0x22 ≡ false → eqb k 0x7B ≡ false → Visiting (byte k) (λ u. true)
byte-visited k q r l u m e = rw (byte-sound k l u m e) (one k m q r)

comma-visited : (close : ℕ) → eqb close 0x22 ≡ false → eqb close 0x7B ≡ false → Visiting (comma_or close) (λ more. true)
unfolding comma_or
comma-visited close q r [] more m e = absurd (none-ne-some _ e)
comma-visited close q r (b ∷ l) more m e =
    by-test (eqb b 0x2C)
    (λ c.
    let is : ◌≡◌ {A = Option (Bool × List ℕ)} (some (true, l)) (some (more, m)) = rw c at e in
    visits-as (λ (u : Bool). true) {a = more} refl (ap (λ (r : Bool × List ℕ). r.1) (some-injective (true, l) (more, m) is))
    (rw (eqb-true b 0x2C c) (one 0x2C l refl refl)))
    (λ c.
    by-test (eqb b close)
    (λ d.
    let is : ◌≡◌ {A = Option (Bool × List ℕ)} (some (false, l)) (some (more, m)) = rw (c, d) at e in
    visits-as (λ (u : Bool). true) {a = more} refl (ap (λ (r : Bool × List ℕ). r.1) (some-injective (false, l) (more, m) is))
    (rw (eqb-true b close d) (one close l q r)))
    (λ d. absurd (none-ne-some _ (rw (c, d) at e))))

visits-run : (l : List ℕ) → Visits l (number_run l).1 true
unfolding number_run is_of_number is_digit
visits-run [] = stay refl refl
visits-run (b ∷ l) =
    by-test (is_of_number b)
    (λ q. rw q (pass b l refl (other is_of_number b 0x22 q refl) (other is_of_number b 0x7B q refl) (visits-run l)))
    (λ q. rw q (stay refl refl))

number-visited : Visiting number_text (λ t. true)
unfolding number_text
number-visited l t m e =
    by-test (is_number (number_run l).0)
    (λ q. visits-as (λ (t : Text). true) {a = t} refl (ap (λ (r : Text × List ℕ). r.1) (some-injective (number_run l) (t, m) (rw q at e))) (visits-run l))
    (λ q. absurd (none-ne-some _ (rw q at e)))

data Plain : List ℕ → Type 0 where
  nothing : Plain []
  letter : {b : ℕ} {w : List ℕ} → eqb b 0x22 ≡ false → eqb b 0x7B ≡ false → Plain w → Plain (b ∷ w)

word-visited : (w : List ℕ) → Plain w → Visiting (spelled w) (λ u. true)
unfolding spelled
word-visited [] nothing l u m e = visits-as (λ (u : Unit {0}). true) {a = u} refl (pure-inv _ _ e).1 (stay refl refl)
word-visited (b ∷ w) (letter q r p) l u m e =
    then-inv _ _ _ e λ v t e₁ e₂. visits-then (byte-visited b q r l v t e₁) (word-visited w p t u m e₂)

string-visited : (l : List ℕ) (t : Text) (m : List ℕ) → Strings.string l ≡ some (t, m) → Visits (0x22 ∷ l) m true
string-visited l t m e = quote l t m refl e (stay refl refl)

quoted-visited : (k l : List ℕ) (u : Unit {0}) (t : Text) (m : List ℕ) → byte 0x22 k ≡ some (u, l) → Strings.string l ≡ some (t, m) → Visits k m true
quoted-visited k l u t m f e = quote l t m (byte-sound 0x22 k u l f) e (stay refl refl)

-- Values

-- a word behind its first letter
module _ (b : ℕ) (q : eqb b 0x22 ≡ false) (r : eqb b 0x7B ≡ false) where
  worded : (w : List ℕ) → Plain w → (v : Json) → distinct v ≡ true → (l : List ℕ) (a : Json) (m : List ℕ) → (spelled w >> pure v) l ≡ some (a, m) → Visits (b ∷ l) m (distinct a)
  worded w p v d l a m e =
      then-inv _ _ _ e λ u t e₁ e₂.
      let done = pure-inv _ _ e₂ in
      visits-as distinct done.0 done.1 (rw d (visits-then (one b l q r) (word-visited w p l u t e₁)))

scalar-visited : Visiting scalar distinct
unfolding scalar distinct ascii
scalar-visited [] a m e = absurd (none-ne-some _ e)
scalar-visited (b ∷ l) a m e =
    by-test (eqb b 0x22)
    (λ q₁.
    let is : (Strings.string >>= λ t. pure (string t)) l ≡ some (a, m) = rw q₁ at e in
    bind_inv _ _ _ is λ t n e₁ e₂.
    let done = pure-inv _ _ e₂ in
    visits-as distinct done.0 done.1 (rw (eqb-true b 0x22 q₁) (string-visited l t n e₁)))
    (λ q₁.
    by-test (eqb b 0x6E)
    (λ q₂. rw (eqb-true b 0x6E q₂) (worded 0x6E refl refl (0x75 ∷ 0x6C ∷ 0x6C ∷ []) (letter refl refl (letter refl refl (letter refl refl nothing))) null refl l a m (rw (q₁, q₂) at e)))
    (λ q₂.
    by-test (eqb b 0x74)
    (λ q₃. rw (eqb-true b 0x74 q₃) (worded 0x74 refl refl (0x72 ∷ 0x75 ∷ 0x65 ∷ []) (letter refl refl (letter refl refl (letter refl refl nothing))) (truth true) refl l a m (rw (q₁, q₂, q₃) at e)))
    (λ q₃.
    by-test (eqb b 0x66)
    (λ q₄. rw (eqb-true b 0x66 q₄) (worded 0x66 refl refl (0x61 ∷ 0x6C ∷ 0x73 ∷ 0x65 ∷ []) (letter refl refl (letter refl refl (letter refl refl (letter refl refl nothing)))) (truth false) refl l a m (rw (q₁, q₂, q₃, q₄) at e)))
    (λ q₄.
    let is : (number_text >>= λ digits. pure (number digits)) (b ∷ l) ≡ some (a, m) = rw (q₁, q₂, q₃, q₄) at e in
    bind_inv _ _ _ is λ t n e₁ e₂.
    let done = pure-inv _ _ e₂ in
    visits-as distinct done.0 done.1 (number-visited (b ∷ l) t n e₁)))))

module _ (p : Reader (List ℕ) Json) (w : Visiting p distinct) where
  elements-after : (r : Reader (List ℕ) Elements) → Visiting r distinct_elements → (more : Bool) → Visiting (elements_after r more) distinct_elements
  unfolding elements_after distinct_elements
  elements-after r v true l a m e = v l a m e
  elements-after r v false l a m e = let done = pure-inv _ _ e in visits-as distinct_elements done.0 done.1 (stay refl refl)

  members-after : (r : Reader (List ℕ) Members) → Visiting r distinct_members → (more : Bool) → Visiting (members_after r more) distinct_members
  unfolding members_after distinct_members
  members-after r v true l a m e = v l a m e
  members-after r v false l a m e = let done = pure-inv _ _ e in visits-as distinct_members done.0 done.1 (stay refl refl)

  elements-in : (n : ℕ) → Visiting (elements_in p n) distinct_elements
  unfolding elements_in distinct_elements
  elements-in zero l a m e = absurd (refuse-inv l e)
  elements-in (suc n) l a m e =
      then-inv _ _ _ e λ u₁ t₁ e₁ e.
      bind_inv _ _ _ e λ v t₂ e₂ e.
      then-inv _ _ _ e λ u₃ t₃ e₃ e.
      bind_inv _ _ _ e λ more t₄ e₄ e.
      bind_inv _ _ _ e λ others t₅ e₅ e.
      let done = pure-inv _ _ e in
      visits-as distinct_elements done.0 done.1
      (visits-then (spaces-visited l u₁ t₁ e₁)
      (visits-then (w t₁ v t₂ e₂)
      (visits-then (spaces-visited t₂ u₃ t₃ e₃)
      (visits-then (comma-visited 0x5D refl refl t₃ more t₄ e₄) (elements-after (λ s. elements_in p n s) (elements-in n) more t₄ others t₅ e₅)))))

  members-in : (n : ℕ) → Visiting (members_in p n) distinct_members
  unfolding members_in distinct_members
  members-in zero l a m e = absurd (refuse-inv l e)
  members-in (suc n) l a m e =
      then-inv _ _ _ e λ u₁ t₁ e₁ e.
      then-inv _ _ _ e λ u₂ t₂ e₂ e.
      bind_inv _ _ _ e λ key t₃ e₃ e.
      then-inv _ _ _ e λ u₄ t₄ e₄ e.
      then-inv _ _ _ e λ u₅ t₅ e₅ e.
      then-inv _ _ _ e λ u₆ t₆ e₆ e.
      bind_inv _ _ _ e λ v t₇ e₇ e.
      then-inv _ _ _ e λ u₈ t₈ e₈ e.
      bind_inv _ _ _ e λ more t₉ e₉ e.
      bind_inv _ _ _ e λ others t₁₀ e₁₀ e.
      let done = pure-inv _ _ e in
      visits-as distinct_members done.0 done.1
      (visits-then (spaces-visited l u₁ t₁ e₁)
      (visits-then (quoted-visited t₁ t₂ u₂ key t₃ e₂ e₃)
      (visits-then (spaces-visited t₃ u₄ t₄ e₄)
      (visits-then (byte-visited 0x3A refl refl t₄ u₅ t₅ e₅)
      (visits-then (spaces-visited t₅ u₆ t₆ e₆)
      (visits-then (w t₆ v t₇ e₇)
      (visits-then (spaces-visited t₇ u₈ t₈ e₈)
      (visits-then (comma-visited 0x7D refl refl t₈ more t₉ e₉) (members-after (λ s. members_in p n s) (members-in n) more t₉ others t₁₀ e₁₀)))))))))

  elements-visited : Visiting (elements p) distinct_elements
  unfolding elements distinct_elements
  elements-visited l a m e = go (either-inv _ _ l e)
    where
      go : Reads (spaces >> (byte 0x5D >> pure no_elements)) l a m ⊎ Reads (λ s. elements_in p (length s) s) l a m → Visits l m (distinct_elements a)
      go (inl e) =
          then-inv _ _ _ e λ u₁ t₁ e₁ e.
          then-inv _ _ _ e λ u₂ t₂ e₂ e.
          let done = pure-inv _ _ e in
          visits-as distinct_elements done.0 done.1 (visits-then (spaces-visited l u₁ t₁ e₁) (byte-visited 0x5D refl refl t₁ u₂ t₂ e₂))
      go (inr e) = elements-in (length l) l a m e

  members-visited : Visiting (members p) distinct_members
  unfolding members distinct_members
  members-visited l a m e = go (either-inv _ _ l e)
    where
      go : Reads (spaces >> (byte 0x7D >> pure no_members)) l a m ⊎ Reads (λ s. members_in p (length s) s) l a m → Visits l m (distinct_members a)
      go (inl e) =
          then-inv _ _ _ e λ u₁ t₁ e₁ e.
          then-inv _ _ _ e λ u₂ t₂ e₂ e.
          let done = pure-inv _ _ e in
          visits-as distinct_members done.0 done.1 (visits-then (spaces-visited l u₁ t₁ e₁) (byte-visited 0x7D refl refl t₁ u₂ t₂ e₂))
      go (inr e) = members-in (length l) l a m e

  container-visited : ((l : List ℕ) (ms : Members) (m : List ℕ) → members p l ≡ some (ms, m) → members (value max_depth) l ≡ some (ms, m)) → Visiting (container p) distinct
  unfolding container distinct
  container-visited deeper l a m e = go (either-inv _ _ l e)
    where
      go : Reads (byte 0x5B >> (elements p >>= λ vs. pure (array vs))) l a m ⊎ Reads (byte 0x7B >> (members p >>= λ ms. pure (object ms))) l a m → Visits l m (distinct a)
      go (inl e) =
          then-inv _ _ _ e λ u₁ t₁ e₁ e.
          bind_inv _ _ _ e λ vs t₂ e₂ e.
          let done = pure-inv _ _ e in
          visits-as distinct done.0 done.1 (visits-then (byte-visited 0x5B refl refl l u₁ t₁ e₁) (elements-visited t₁ vs t₂ e₂))
      go (inr e) =
          then-inv _ _ _ e λ u₁ t₁ e₁ e.
          bind_inv _ _ _ e λ ms t₂ e₂ e.
          let done = pure-inv _ _ e in
          visits-as distinct done.0 done.1
          (opens t₁ ms t₂ (distinct_members ms) (byte-sound 0x7B l u₁ t₁ e₁) (deeper t₁ ms t₂ e₂) refl (members-visited t₁ ms t₂ e₂))

nested : (d : ℕ) → d ≤ max_depth → Visiting (value d) distinct → (l : List ℕ) (a : Json) (m : List ℕ) → Reads scalar l a m ⊎ Reads (container (value d)) l a m → Visits l m (distinct a)
nested d h w l a m (inl e) = scalar-visited l a m e
nested d h w l a m (inr e) = container-visited (value d) w (members-within (value d) (value max_depth) (value-within d max_depth h)) l a m e

value-visited : (d : ℕ) → d ≤ max_depth → Visiting (value d) distinct
unfolding value
value-visited zero h l a m e = scalar-visited l a m e
value-visited (suc d) h l a m e = nested d (omega arith) (value-visited d (omega arith)) l a m (either-inv _ _ l e)

-- A whole text

ends-empty : (l : List ℕ) (u : Unit {0}) (m : List ℕ) → at_end l ≡ some (u, m) → (l ≡ []) × (l ≡ m)
unfolding at_end
ends-empty [] u m e = (refl, (ensure-inv _ _ e).1)
ends-empty (b ∷ l) u m e = let z = eqb-true (length (b ∷ l)) 0 (ensure-inv _ _ e).0 in absurd (omega arith)

pub document-visited : (text : List ℕ) (j : Json) → document text ≡ some j → Visits text [] (distinct j)
unfolding document
document-visited text j e = go ((spaces >> (value max_depth >>= λ v. spaces >> (at_end >> pure v))) text) refl e
  where
    go : (o : Option (Json × List ℕ)) → (spaces >> (value max_depth >>= λ v. spaces >> (at_end >> pure v))) text ≡ o → map (λ (r : Json × List ℕ). r.0) o ≡ some j
        → Visits text [] (distinct j)
    go none f e = absurd (none-ne-some _ e)
    go (some r) f e =
        then-inv _ _ _ f λ u₁ t₁ e₁ f.
        bind_inv _ _ _ f λ v t₂ e₂ f.
        then-inv _ _ _ f λ u₃ t₃ e₃ f.
        then-inv _ _ _ f λ u₄ t₄ e₄ f.
        let done = pure-inv _ _ f in
        let is : v ≡ j = done.0 ∙ some-injective r.0 j e in
        visits-as distinct is (ends-empty t₃ u₄ t₄ e₄).0
        (subst (λ (x : Bool). Visits text t₃ x) (and-true (distinct v))
        (visits-then (spaces-visited text u₁ t₁ e₁) (visits-then (value-visited max_depth (omega arith) t₁ v t₂ e₂) (spaces-visited t₂ u₃ t₃ e₃))))

-- The scan

pub record ScanIs (s : List ℕ) (i : ℕ) (r : Bool) : Type 0 where
  pub told : (x : Bool) → Visits (drop i s) [] x → r ≡ x

pub scan-all : (s : List ℕ) (r : Bool) → ScanIs s 0 r → KeysDiffer s r
scan-all s r k = record { told = λ j e. k.told (distinct j) (document-visited s j e) }

first_of : {a b : ℕ} {l m : List ℕ} → a ∷ l ≡ b ∷ m → a ≡ b
first_of e = ap (λ (l : List ℕ). get_or l 0 0) e

rest_of : {a b : ℕ} {l m : List ℕ} → a ∷ l ≡ b ∷ m → l ≡ m
rest_of e = ap (λ (l : List ℕ). drop 1 l) e

empty-cons : {C : Type 0} {b : ℕ} {l : List ℕ} → [] ≡ b ∷ l → C
empty-cons {b = b} {l = l} e = let z : 0 ≡ length (b ∷ l) = ap length e in absurd (omega arith)

pub scan-end : (s : List ℕ) (i : ℕ) → length s ≤ i → ScanIs s i true
scan-end s i h = record { told = λ x v. go x v (drop_of_length-le s h) }
  where
    go : {l : List ℕ} (x : Bool) → Visits l [] x → l ≡ [] → true ≡ x
    go x (stay e f) z = sym f
    go x (pass b rest e q r v) z = empty-cons (sym z ∙ e)
    go x (quote rest t behind e r v) z = empty-cons (sym z ∙ e)
    go x (opens rest held behind y e r f v) z = empty-cons (sym z ∙ e)

module _ (s : List ℕ) (i : ℕ) (h : i < length s) where
  here : drop i s ≡ get_or s i 0 ∷ drop (i + 1) s
  here = rw (add-one, drop-cons s i 0 h)

  visited : {C : Type 0} {l : List ℕ} {x : Bool} → Visits l [] x → l ≡ get_or s i 0 ∷ drop (i + 1) s
      → (eqb (get_or s i 0) 0x22 ≡ false → eqb (get_or s i 0) 0x7B ≡ false → Visits (drop (i + 1) s) [] x → C)
      → (get_or s i 0 ≡ 0x22 → (t : Text) (behind : List ℕ) → Strings.string (drop (i + 1) s) ≡ some (t, behind) → Visits behind [] x → C)
      → (get_or s i 0 ≡ 0x7B → (held : Members) (behind : List ℕ) (y : Bool) → members (value max_depth) (drop (i + 1) s) ≡ some (held, behind)
      → x ≡ (none_twice (keys_of held) && y) → Visits (drop (i + 1) s) [] y → C)
      → C
  visited (stay e f) z passed quoted opened = empty-cons (sym e ∙ z)
  visited {x = x} (pass b rest e q r v) z passed quoted opened =
      let same = first_of (sym z ∙ e) in
      passed (rw same q) (rw same r) (subst (λ (l : List ℕ). Visits l [] x) (sym (rest_of (sym z ∙ e))) v)
  visited (quote rest t behind e r v) z passed quoted opened =
      quoted (first_of (sym z ∙ e)) t behind (ap Strings.string (rest_of (sym z ∙ e)) ∙ r) v
  visited (opens rest held behind y e r f v) z passed quoted opened =
      let same = rest_of (sym z ∙ e) in
      opened (first_of (sym z ∙ e)) held behind y (ap (members (value max_depth)) same ∙ r) f (subst (λ (l : List ℕ). Visits l [] y) (sym same) v)

  pub scan-pass : (get_or s i 0 ≡ 0x22 → ⊥) → (get_or s i 0 ≡ 0x7B → ⊥) → {r : Bool} → ScanIs s (i + 1) r → ScanIs s i r
  scan-pass n o k =
      record { told = λ x v. visited v here (λ q r w. k.told x w) (λ q t behind e w. absurd (n q)) (λ q held behind y e f w. absurd (o q)) }

  module _ (q : get_or s i 0 ≡ 0x22) where
    pub scan-quote : {len next : ℕ} {r : Bool} → StringAt s (i + 1) len next → ScanIs s next r → ScanIs s i r
    scan-quote {len} {next} {r} a k =
        record {
          told =
              λ x v.
              visited v here
              (λ p o w. absurd (false≢true (sym p ∙ eqb-at)))
              (λ p t behind e w.
              let both = some-injective (t, behind) (a.text, drop next s) (sym e ∙ a.read.reads) in
              k.told x (subst (λ (l : List ℕ). Visits l [] x) (ap (λ (r : Text × List ℕ). r.1) both) w))
              (λ p held behind y e f w. absurd (let z : 0x22 ≡ 0x7B = sym q ∙ p in omega arith));
        }
      where
        eqb-at : eqb (get_or s i 0) 0x22 ≡ true
        eqb-at = rw q

    pub scan-bad : Refuses Strings.string s (i + 1) → ScanIs s i false
    scan-bad bad =
        record {
          told =
              λ x v.
              visited v here
              (λ p o w. absurd (false≢true (sym p ∙ eqb-at)))
              (λ p t behind e w. absurd (none-ne-some _ (sym bad ∙ e)))
              (λ p held behind y e f w. absurd (let z : 0x22 ≡ 0x7B = sym q ∙ p in omega arith));
        }
      where
        eqb-at : eqb (get_or s i 0) 0x22 ≡ true
        eqb-at = rw q

  module _ (q : get_or s i 0 ≡ 0x7B) where
    opened-at : {r : Bool} (x : Bool) → Visits (drop i s) [] x
        → ((held : Members) (behind : List ℕ) (y : Bool) → members (value max_depth) (drop (i + 1) s) ≡ some (held, behind)
        → x ≡ (none_twice (keys_of held) && y) → Visits (drop (i + 1) s) [] y → r ≡ x)
        → r ≡ x
    opened-at x v k =
        visited v here
        (λ p o w. absurd (false≢true (sym o ∙ eqb-at)))
        (λ p t behind e w. absurd (let z : 0x22 ≡ 0x7B = sym p ∙ q in omega arith))
        (λ p held behind y e f w. k held behind y e f w)
      where
        eqb-at : eqb (get_or s i 0) 0x7B ≡ true
        eqb-at = rw q

    pub scan-open : {r : Bool} → ObjectIs s (i + 1) true → ScanIs s (i + 1) r → ScanIs s i r
    scan-open o k =
        record { told = λ x v. opened-at x v (λ held behind y e f w. k.told y w ∙ sym (f ∙ ap (λ (b : Bool). b && y) (sym (o.told held behind e)))) }

    pub scan-repeated : ObjectIs s (i + 1) false → ScanIs s i false
    scan-repeated o =
        record { told = λ x v. opened-at x v (λ held behind y e f w. sym (f ∙ ap (λ (b : Bool). b && y) (sym (o.told held behind e)))) }
