-- White_Space: the code points of docs/FORMAT.md, "Text", which are those with that property in Unicode.
use Rattle.std.specs.Prelude.{ℕ, Bool, ◌||◌, eqb}
use Rattle.text.specs.Utf8.{between}

unfoldable pub is_white_space : ℕ → Bool
is_white_space c =
    between 0x9 0xD c
    || eqb c 0x20
    || eqb c 0x85
    || eqb c 0xA0
    || eqb c 0x1680
    || between 0x2000 0x200A c
    || between 0x2028 0x2029 c
    || eqb c 0x202F
    || eqb c 0x205F
    || eqb c 0x3000
