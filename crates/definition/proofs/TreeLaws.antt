-- What every reader of a tree does with the input that remains, and how such readers are put together.
use Rattle.std.specs.Prelude.{ℕ, ◌+◌, ◌-◌, ◌≤◌, List, [], ◌++◌, ◌≡◌, leb}
use Rattle.std.proofs.Common.{append_assoc, subst, ◌∙◌, arith, leb-true, le-leb}
use Rattle.std.proofs.Math.Option.{Option, none, some, none-ne-some, some-injective}
use Rattle.std.proofs.Math.Path.{refl, ap}
use Rattle.text.specs.Reader.{Reader, ◌>>=◌, ◌>>◌}
use Rattle.text.specs.CaseLaws.{by-test}
use Rattle.text.specs.ReaderLaws.{Reads, bind_inv, then-inv, bind-reads, then-reads}
use Rattle.sheet.specs.Entries.{max_count}
use Rattle.sheet.proofs.ItemLaws.{Exact, anything}
use Rattle.definition.specs.Decode.{Ahead, entered, entry, announce}

-- From `a` to `b`: so many bytes and entries were read, of which so many had been announced before.
pub record Moves (bytes : List ℕ) (entries announced : ℕ) (a b : Ahead) : Type 0 where
  pub rest : a.rest ≡ bytes ++ b.rest
  pub next : b.next ≡ a.next + entries
  pub left : b.left + entries ≡ a.left + announced

-- A reader of the trees that `w` writes: what it reads is written so and good, and whatever is good is read back where the budget is enough.
pub record TreeLaw {A : Type 0} (p : Reader Ahead A) (w : A → List ℕ) (entries announced : A → ℕ) (Good : ℕ → A → Type 0) : Type 0 where
  pub sound : (a : Ahead) (x : A) (b : Ahead) → Reads p a x b → Moves (w x) (entries x) (announced x) a b × Good a.next x
  pub complete : (a : Ahead) (x : A) (b : Ahead) → a.left ≤ max_count → Moves (w x) (entries x) (announced x) a b → Good a.next x → Reads p a x b
  pub announced-first : (x : A) → announced x ≤ entries x

-- nothing was read
pub moves-none : (a b : Ahead) → Moves [] 0 0 a b → a ≡ b
moves-none a b m =
    let next : a.next ≡ b.next = omega arith in
    let left : a.left ≡ b.left = omega arith in
    λ i. record { next = next i; left = left i; rest = m.rest i }

-- where the first of two stops
module _ {C : Type 0} where
  pub moves-split : (w₁ w₂ : List ℕ) (n₁ n₂ k₁ k₂ : ℕ) (a c : Ahead) → Moves (w₁ ++ w₂) (n₁ + n₂) (k₂ + k₁) a c → k₂ ≤ n₂
      → ((b : Ahead) → Moves w₁ n₁ k₁ a b → Moves w₂ n₂ k₂ b c → C) → C
  moves-split w₁ w₂ n₁ n₂ k₁ k₂ a c m h f =
      f (record { next = a.next + n₁; left = c.left + n₂ - k₂; rest = w₂ ++ c.rest })
      (record { rest = m.rest ∙ append_assoc w₁ w₂ c.rest; next = refl; left = omega arith })
      (record { rest = refl; next = omega arith; left = omega arith })

-- One entry

pub record Enters {A : Type 0} (w : A → List ℕ) (Fits : A → Type 0) (a : Ahead) (h : A) (b : Ahead) : Type 0 where
  pub rest : a.rest ≡ w h ++ b.rest
  pub next : b.next ≡ a.next + 1
  pub left : b.left ≡ a.left
  pub fits : Fits h

module _ {A : Type 0} {p : Reader (List ℕ) A} {w : A → List ℕ} {Fits : A → Type 0} where
  entered-inv : Exact p w Fits anything → (a : Ahead) (o : Option (A × List ℕ)) (x : ℕ × A) (b : Ahead) → p a.rest ≡ o → entered a.next a.left o ≡ some (x, b)
      → (x.0 ≡ a.next) × Enters w Fits a x.1 b
  unfolding entered
  entered-inv law a none x b e f = absurd (none-ne-some _ f)
  entered-inv law a (some r) x b e f =
      let q = some-injective ((a.next, r.0), record { next = a.next + 1; left = a.left; rest = r.1 }) (x, b) f in
      let g = law.sound a.rest r.0 r.1 e in
      let q₀ : (a.next, r.0) ≡ x = ap (λ (y : (ℕ × A) × Ahead). y.0) q in
      let q₁ : record { next = a.next + 1; left = a.left; rest = r.1 } ≡ b = ap (λ (y : (ℕ × A) × Ahead). y.1) q in
      rw (← q₀, ← q₁) (refl, record { rest = g.0; next = refl; left = refl; fits = g.1 })

  pub entry-reads : Exact p w Fits anything → (a : Ahead) (h : A) (b : Ahead) → Enters w Fits a h b → Reads (entry p) a (a.next, h) b
  unfolding entry entered anything
  entry-reads law a h b m = rw (m.rest, law.complete h b.rest m.fits refl, ← m.next, ← m.left)

  module _ {B C : Type 0} where
    pub entering : Exact p w Fits anything → (k : ℕ × A → Reader Ahead B) (a : Ahead) {x : B} {c : Ahead} → Reads (entry p >>= k) a x c
        → ((h : A) (b : Ahead) → Enters w Fits a h b → Reads (k (a.next, h)) b x c → C) → C
    unfolding entry
    entering law k a {x} {c} e f =
        bind_inv (entry p) k a e λ y b e₁ e₂.
        let m = entered-inv law a (p a.rest) y b refl e₁ in
        f y.1 b m.1 (subst (λ (n : ℕ). Reads (k (n, y.1)) b x c) m.0 e₂)

-- What is announced

pub record Announces (n : ℕ) (a b : Ahead) : Type 0 where
  pub rest : a.rest ≡ b.rest
  pub next : b.next ≡ a.next
  pub left : b.left + n ≡ a.left

announce-inv : (n : ℕ) (a : Ahead) (x : Unit {0}) (b : Ahead) → Reads (announce n) a x b → Announces n a b
unfolding announce
announce-inv n a x b e =
    by-test (leb n a.left)
    (λ q.
    let l = leb-true n a.left q in
    let r = some-injective (tt, record { next = a.next; left = a.left - n; rest = a.rest }) (x, b) (rw q at e) in
    let q₁ = ap (λ (y : Unit {0} × Ahead). y.1) r in
    rw (← q₁) (record { rest = refl; next = refl; left = omega arith }))
    (λ q. absurd (none-ne-some (x, b) (rw q at e)))

pub announce-reads : (n : ℕ) (a b : Ahead) → Announces n a b → Reads (announce n) a tt b
unfolding announce
announce-reads n a b m =
    let l : a.left - n ≡ b.left = omega arith in
    rw (le-leb n a.left (omega arith), l, ← m.next, m.rest)

module _ {B C : Type 0} where
  pub announcing : (n : ℕ) (k : Reader Ahead B) (a : Ahead) {x : B} {c : Ahead} → Reads (announce n >> k) a x c
      → ((b : Ahead) → Announces n a b → Reads k b x c → C) → C
  announcing n k a e f = then-inv (announce n) k a e λ y b e₁ e₂. f b (announce-inv n a y b e₁) e₂

-- Trees that are announced just before they are read: one, or one after the other.

module _ {A B : Type 0} {p : Reader Ahead A} {w : A → List ℕ} {entries announced : A → ℕ} {Good : ℕ → A → Type 0} (law : TreeLaw p w entries announced Good) where
  module _ {C : Type 0} where
    pub announced-inv : (n : ℕ) → ((next : ℕ) (x : A) → Good next x → announced x ≡ n)
        → (k : A → Reader Ahead B) (a : Ahead) {z : B} {c : Ahead} → Reads (announce n >> (p >>= k)) a z c
        → ((x : A) (b : Ahead) → Moves (w x) (entries x) 0 a b → Good a.next x → Reads (k x) b z c → C) → C
    announced-inv n agree k a e f =
        announcing n (p >>= k) a e λ a₁ m₁ e.
        bind_inv p k a₁ e λ x b e₂ e.
        let m₂ = law.sound a₁ x b e₂ in
        let h = agree a₁.next x m₂.1 in
        f x b (record { rest = m₁.rest ∙ m₂.0.rest; next = omega arith; left = omega arith }) (rw m₁.next at m₂.1) e

  pub announced-reads : (k : A → Reader Ahead B) (x : A) (a b : Ahead) {z : B} {c : Ahead} → a.left ≤ max_count
      → Moves (w x) (entries x) 0 a b → Good a.next x → Reads (k x) b z c → Reads (announce (announced x) >> (p >>= k)) a z c
  announced-reads k x a b l m g e =
      let h = law.announced-first x in
      let a₁ : Ahead = record { next = a.next; left = a.left - announced x; rest = a.rest } in
      then-reads _ _ (announce-reads (announced x) a a₁ (record { rest = refl; next = refl; left = omega arith }))
      (bind-reads p k (law.complete a₁ x b (omega arith) (record { rest = m.rest; next = m.next; left = omega arith }) g) e)

module _ {A A' B : Type 0} {p : Reader Ahead A} {w : A → List ℕ} {entries announced : A → ℕ} {Good : ℕ → A → Type 0} (law : TreeLaw p w entries announced Good)
    {p' : Reader Ahead A'} {w' : A' → List ℕ} {entries' announced' : A' → ℕ} {Good' : ℕ → A' → Type 0} (law' : TreeLaw p' w' entries' announced' Good') where
  module _ {C : Type 0} where
    pub announced-both-inv : (n n' : ℕ) → ((next : ℕ) (x : A) → Good next x → announced x ≡ n) → ((next : ℕ) (y : A') → Good' next y → announced' y ≡ n')
        → (k : A → A' → Reader Ahead B) (a : Ahead) {z : B} {c : Ahead} → Reads (announce (n + n') >> (p >>= λ x. p' >>= λ y. k x y)) a z c
        → ((x : A) (y : A') (b : Ahead) → Moves (w x ++ w' y) (entries x + entries' y) 0 a b → Good a.next x → Good' (a.next + entries x) y → Reads (k x y) b z c → C) → C
    announced-both-inv n n' agree agree' k a e f =
        announcing (n + n') (p >>= λ x. p' >>= λ y. k x y) a e λ a₁ m₁ e.
        bind_inv _ _ _ e λ x a₂ e₂ e.
        bind_inv _ _ _ e λ y b e₃ e.
        let m₂ = law.sound a₁ x a₂ e₂ in
        let m₃ = law'.sound a₂ y b e₃ in
        let h = agree a₁.next x m₂.1 in
        let h' = agree' a₂.next y m₃.1 in
        f x y b
        (record { rest = m₁.rest ∙ rw (m₂.0.rest, m₃.0.rest) (simp append_assoc); next = omega arith; left = omega arith })
        (rw m₁.next at m₂.1) (rw (m₂.0.next, m₁.next) at m₃.1) e

  pub announced-both-reads : (k : A → A' → Reader Ahead B) (x : A) (y : A') (a b : Ahead) {z : B} {c : Ahead} → a.left ≤ max_count
      → Moves (w x ++ w' y) (entries x + entries' y) 0 a b → Good a.next x → Good' (a.next + entries x) y → Reads (k x y) b z c
      → Reads (announce (announced x + announced' y) >> (p >>= λ x. p' >>= λ y. k x y)) a z c
  announced-both-reads k x y a b l m g g' e =
      let h = law.announced-first x in
      let h' = law'.announced-first y in
      let a₁ : Ahead = record { next = a.next; left = a.left - (announced x + announced' y); rest = a.rest } in
      moves-split (w x) (w' y) _ _ _ _ a₁ b (record { rest = m.rest; next = m.next; left = omega arith }) h' λ a₂ m₁ m₂.
      then-reads _ _ (announce-reads (announced x + announced' y) a a₁ (record { rest = refl; next = refl; left = omega arith }))
      (bind-reads _ _ (law.complete a₁ x a₂ (omega arith) m₁ g) (bind-reads _ _ (law'.complete a₂ y b (omega arith) m₂ (rw m₁.next g')) e))

-- An entry by itself, or before others.

module _ {A : Type 0} {w : A → List ℕ} {Fits : A → Type 0} where
  pub enters-alone : (h : A) → Fits h → (a b : Ahead) → Moves (w h) 1 1 a b → Enters w Fits a h b
  enters-alone h f a b m = record { rest = m.rest; next = m.next; left = omega arith; fits = f }

  pub enters-moves : {h : A} {bytes : List ℕ} {entries announced : ℕ} {a b c : Ahead} → Enters w Fits a h b → Moves bytes entries announced b c
      → Moves (w h ++ bytes) (1 + entries) (1 + announced) a c
  enters-moves m n = record { rest = rw (m.rest, n.rest) (simp append_assoc); next = omega arith; left = omega arith }

  module _ {C : Type 0} where
    pub enters-first : (h : A) → Fits h → (bytes : List ℕ) (entries announced : ℕ) (a c : Ahead)
        → Moves (w h ++ bytes) (1 + entries) (1 + announced) a c → ((b : Ahead) → Enters w Fits a h b → Moves bytes entries announced b c → C) → C
    enters-first h f bytes n k a c m g =
        g (record { next = a.next + 1; left = a.left; rest = bytes ++ c.rest })
        (record { rest = m.rest ∙ append_assoc (w h) bytes c.rest; next = refl; left = refl; fits = f })
        (record { rest = refl; next = omega arith; left = omega arith })
