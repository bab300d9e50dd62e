-- A book under a schema that grew, by computation: one sheet more is accepted, and the law is applied to the pair, with other buffers.
use Prim.Native.Nat.{ℕ}
use mathlib.Core.List.{List, [], ◌∷◌}
use mathlib.Core.Path.{◌≡◌, refl}
use Rattle.text.specs.Ascii.{ascii}
use Rattle.widening.specs.Widening.{marks, listed, kept, opened, wider, neither, end, keep, without}
use Rattle.validation.specs.Growth.{Widens}
use Rattle.validation.proofs.Bounds.{met}
use Rattle.rule_book.specs.Book.{write_book}
use Rattle.rule_book.specs.Tally.{BookCall, Tally}
use Rattle.rule_book.specs.BookGrowth.{BookFares}
use Rattle.rule_book.proofs.BookGrowthLaws.{book-demand-3}
use Rattle.rule_book.proofs.Edges.{hollow, under, heard}

-- an object `o`, closed and open
unfoldable shut : List ℕ
shut = ascii "H,0,1,-,0\nF,7,0,0,0,1,-,o\n"

unfoldable ajar : List ℕ
ajar = ascii "H,0,1,-,0\nF,7,1,0,0,1,-,o\n"

-- a rule that asks for a part of it, one that is always met, one whose `all` is empty, and what is no sheet
unfoldable book : List ℕ
book = write_book (ascii "R,-,-,\nC,5,0,\nV,5,11,$fields.o.x\n" ∷ met ∷ hollow ∷ [] ∷ [])

unfoldable before : BookCall
before = under [] shut book 4096

unfoldable after : BookCall
after = under [] ajar book 8192

before-grown : heard before ≡ 0 ∷ 4 ∷ 1 ∷ 0 ∷ 1 ∷ 0 ∷ 0 ∷ 0 ∷ 0 ∷ 0 ∷ 1 ∷ 0 ∷ 1 ∷ 0 ∷ 0 ∷ 0 ∷ 0 ∷ 12 ∷ []
unfolding heard met hollow shut book before
before-grown = refl

after-grown : heard after ≡ 0 ∷ 4 ∷ 2 ∷ 0 ∷ 1 ∷ 0 ∷ 0 ∷ 0 ∷ 0 ∷ 0 ∷ 1 ∷ 0 ∷ 0 ∷ 0 ∷ 0 ∷ 0 ∷ 0 ∷ 13 ∷ []
unfolding heard met hollow ajar book after
after-grown = refl

widens : Widens marks shut ajar
unfolding heard shut ajar
widens =
    record {
      first = _;
      second = _;
      decodes_first = refl;
      decodes_second = refl;
      is_wider = record { fields = record { mark = kept; members = keep (wider (opened (listed refl)) neither end) end }; arguments = without };
    }

grown : (t : Tally) × (t' : Tally) × BookFares marks before after t t'
unfolding heard met hollow shut ajar book before after
grown =
    (_, _, book-demand-3 before after _ _ (record { kind = refl; semantics = refl; label = refl; book = refl; table = refl }) widens refl refl)
