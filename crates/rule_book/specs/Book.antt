-- A rule book: rule sheets one after the other, each preceded by its byte length and a comma (docs/FORMAT.md, "Rule books").
use Rattle.std.specs.Prelude.{ℕ, zero, suc, List, [], ◌∷◌, ◌++◌, length}
use Rattle.std.proofs.Math.Option.{Option, none, some, map}
use Rattle.text.specs.Ascii.{ascii}
use Rattle.text.specs.Reader.{Reader, ◌>>=◌, ◌>>◌, pure, either}
use Rattle.text.specs.Numeral.{decimal, decimal_of}
use Rattle.text.specs.ByteReaders.{comma, bytes}

-- a sheet after its length; what its bytes are is left to the check
unfoldable pub sheet_in : Reader (List ℕ) (List ℕ)
sheet_in = do
  size ← decimal
  comma
  bytes size

-- the file ends here
unfoldable pub no_more : Reader (List ℕ) (List (List ℕ))
no_more [] = some ([], [])
no_more (b ∷ s) = none

-- the sheets up to the file's end, at most so many
unfoldable pub sheets_in : ℕ → Reader (List ℕ) (List (List ℕ))
sheets_in zero = no_more
sheets_in (suc most) =
    either no_more
    (do
      sheet ← sheet_in
      others ← sheets_in most
      pure (sheet ∷ others))

-- the sheets of a file, or none where it is not of that form; no file has more sheets than bytes
unfoldable pub sheets_of : List ℕ → Option (List (List ℕ))
sheets_of file = map (λ r. r.0) (sheets_in (length file) file)

-- the file of these sheets
unfoldable pub write_book : List (List ℕ) → List ℕ
write_book [] = []
write_book (sheet ∷ others) = decimal_of (length sheet) ++ (ascii "," ++ (sheet ++ write_book others))
